-- The place of a fault is within the bytes that are read.
use Rattle.std.proofs.Common.{◌≡◌, ℕ, zero, suc, ◌+◌, ◌≤◌, Bool, true, false, cond, ltb, leb, eqb, List, [], ◌∷◌, length, take, drop, Option, Some, None, Result, Ok, Err, refl, subst, arith}
use Rattle.sporc_entry.proofs.Common.{◌&&◌, MatchResult, option_map, Width, w8, w16, w32, byte_len, leb-true, ltb-false, length-take, length-drop, Reading, ◌>>=◌, only_if, end_at, present, fault_as}
use Rattle.sporc_entry.proofs.Common.{MAX_MEMBERS, Add, Remove, SetRole, AddDevice, DropDevice, Upgrade, role_with_code, HIGHEST_MEMBER, MAX_ENTRY, MAX_SIGNATURE, Entry, Header, FIRST_VERSION}
use Rattle.sporc_entry.proofs.Common.{DEVICES_VERSION, ADD, REMOVE, SET_ROLE, ADD_DEVICE, UPGRADE, device_at, body_limit, body_read, accepted, tested, names_device, has_kind, header_len, body_place}
use Rattle.sporc_bytes.specs.Fields.{ascending_at, bytes_at, number_at, counted_at, next_of, number_within, values_at}
use Rattle.sporc_base.specs.FirstFault.{unless, first_of}
use Rattle.sporc_member.specs.declared.founder.Founder.{Founder}
use Rattle.sporc_entry.specs.declared.fault.GenesisFault.TheVariants.{Malformed, NoAdmin, BadKey}
use Rattle.sporc_entry.specs.declared.genesis.Genesis.{Genesis}
use Rattle.sporc_entry.specs.Fields.{role_at}
use Rattle.sporc_entry.specs.ChangeBody.{kind_at, change_of_device, change_of_member, change_of_kind, change_at, wrap_at, change_body_at, change_body_from}
use Rattle.sporc_entry.specs.Entry.{header_at, entry_of}
use Rattle.sporc_entry.proofs.EntryLaws.{limit_most}
use Rattle.sporc_entry.proofs.VersionLaws.{header_len-le}
use Rattle.sporc_entry.specs.Genesis.{founder_at, founders_at, genesis_at, genesis_in, has_admin_founder, bad_key, genesis_of}

-- ---- steps

-- a fault is at most at this place, and what is read without one is so
abbrev Bounded : {A : Type 0} → ℕ → (A → Type 0) → Result A ℕ → Type 0
Bounded end after read = MatchResult read after (λ at. at ≤ end)

then : {A B : Type 0} (end : ℕ) (after : A → Type 0) (last : B → Type 0) (read : Result A ℕ) (f : A → Result B ℕ) → Bounded end after read → ((x : A) → after x → Bounded end last (f x)) → Bounded end last (read >>= f)
then end after last (Ok x) f h k = k x h
then end after last (Err at) f h k = h

allowed : {A : Type 0} (b : Bool) (at end : ℕ) (x : A) → at ≤ end → Bounded end (λ y. (b ≡ true) × (y ≡ x)) (only_if b at x)
allowed true at end x le = (refl, refl)
allowed false at end x le = le

-- what is left begins so many bytes further, and ends at this place
pub record Left (end at : ℕ) (r : Reading) : Type 0 where
  pub place : r.at ≡ at
  pub ends : r.at + length r.rest ≡ end

abbrev Begins : {A : Type 0} → ℕ → ℕ → A × Reading → Type 0
Begins end at x = Left end at x.1

-- so many bytes were taken
abbrev Takes : ℕ → ℕ → ℕ → List ℕ × Reading → Type 0
Takes n end at x = (length x.0 ≡ n) × Begins end (at + n) x

-- a counted string of at most so many bytes was taken
abbrev TakesCounted : ℕ → ℕ → ℕ → List ℕ × Reading → Type 0
TakesCounted limit end at x = (length x.0 ≤ limit) × Begins end (at + 4 + length x.0) x

-- what is left ends at this place
abbrev Ends : {A : Type 0} → ℕ → A × Reading → Type 0
Ends end x = x.1.at + length x.1.rest ≡ end

from_here : (end : ℕ) (r : Reading) → r.at + length r.rest ≡ end → Left end r.at r
from_here end r e = record { place = refl; ends = e }

bytes_begin : (n end at : ℕ) (r : Reading) → Left end at r → Bounded end (Takes n end at) (bytes_at n r)
unfolding bytes_at
bytes_begin n end at r left = go (ltb (length r.rest) n) refl
  where
    go : (b : Bool) → ltb (length r.rest) n ≡ b → Bounded end (Takes n end at) (cond b (Err r.at) (Ok (take n r.rest, record { rest = drop n r.rest; at = r.at + n })))
    go true short = omega (arith, left.ends)
    go false long =
        let enough : n ≤ length r.rest = ltb-false _ _ long in
        (omega (arith, length-take n r.rest, enough), record { place = omega (arith, left.place); ends = omega (arith, left.ends, length-drop n r.rest, enough) })

number_begins : (w : Width) (end at : ℕ) (r : Reading) → Left end at r → Bounded end (Begins end (at + byte_len w)) (number_at w r)
unfolding number_at
number_begins w end at r left = then end _ _ (bytes_at (byte_len w) r) _ (bytes_begin (byte_len w) end at r left) (λ bytes h. h.1)

within_begins : (low high : ℕ) (w : Width) (end at : ℕ) (r : Reading) → Left end at r → Bounded end (Begins end (at + byte_len w)) (number_within low high w r)
unfolding number_within
within_begins low high w end at r left =
    let le : r.at ≤ end = omega (arith, left.ends) in
    then end _ _ (number_at w r) _ (number_begins w end at r left) (λ n h. then end _ _ (only_if (leb low n.0 && leb n.0 high) r.at n.0) _ (allowed _ r.at end n.0 le) (λ k _. h))

present_bounded : {A : Type 0} (at end : ℕ) (o : Option A) → at ≤ end → Bounded end (λ _. Unit {0}) (present at o)
present_bounded at end None le = le
present_bounded at end (Some x) le = tt

role_begins : (end at : ℕ) (r : Reading) → Left end at r → Bounded end (Begins end (at + 1)) (role_at r)
unfolding role_at
role_begins end at r left =
    let le : r.at ≤ end = omega (arith, left.ends) in
    then end _ _ (number_within 1 3 w8 r) _ (within_begins 1 3 w8 end at r left) (λ code h. then end _ _ (present r.at (role_with_code code.0)) _ (present_bounded r.at end (role_with_code code.0) le) (λ role _. h))

counted_begins : (limit end at : ℕ) (r : Reading) → Left end at r → Bounded end (TakesCounted limit end at) (counted_at limit r)
unfolding counted_at
counted_begins limit end at r left =
    let le : r.at ≤ end = omega (arith, left.ends) in
    then end _ _ (number_at w32 r) _ (number_begins w32 end at r left) (λ n h. then end _ _ (only_if (leb n.0 limit) r.at n.0) _ (allowed _ r.at end n.0 le) (λ len k.
    then_bytes len n.1 (omega (arith, leb-true n.0 limit k.0, k.1)) h))
  where
    then_bytes : (len : ℕ) (r : Reading) → len ≤ limit → Left end (at + 4) r → Bounded end (TakesCounted limit end at) (bytes_at len r)
    then_bytes len r small h = weaker (bytes_at len r) (bytes_begin len end (at + 4) r h)
      where
        weaker : (read : Result (List ℕ × Reading) ℕ) → Bounded end (Takes len end (at + 4)) read → Bounded end (TakesCounted limit end at) read
        weaker (Ok x) h = (omega (arith, h.0), record { place = omega (arith, h.0, h.1.place); ends = h.1.ends })
        weaker (Err at) h = h

end_bounded : (end : ℕ) (r : Reading) → r.at + length r.rest ≡ end → Bounded end (λ _. r.at ≡ end) (end_at r)
end_bounded end r e = go r.rest e
  where
    go : (bs : List ℕ) → r.at + length bs ≡ end → Bounded end (λ _. r.at ≡ end) (end_at (record { rest = bs; at = r.at }))
    go [] e = omega arith
    go (b ∷ bs) e = omega arith

-- values one after another
values_end : {A S : Type 0} (end : ℕ) (after : S → Type 0) (read : S → Result (A × S) ℕ) → ((s : S) → after s → Bounded end (λ x. after x.1) (read s)) → (n : ℕ) (s : S) → after s → Bounded end (λ x. after x.1) (values_at read n s)
unfolding values_at
values_end end after read each zero s h = h
values_end end after read each (suc n) s h =
    then end _ _ (read s) _ (each s h) (λ first k. then end _ _ (values_at read n first.1) _ (values_end end after read each n first.1 k) (λ others m. m))

-- ---- changes

kind_begins : (version end at : ℕ) (r : Reading) → Left end at r → Bounded end (Begins end (at + 1)) (kind_at version r)
unfolding kind_at
kind_begins version end at r left =
    let le : r.at ≤ end = omega (arith, left.ends) in
    then end _ _ (number_at w8 r) _ (number_begins w8 end at r left) (λ n h. then end _ _ (only_if (has_kind version n.0) r.at n.0) _ (allowed _ r.at end n.0 le) (λ k _. h))

module _ (end kind member : ℕ) where
  of_device_ends : (device : ℕ) (r : Reading) → r.at + length r.rest ≡ end → Bounded end (Ends end) (change_of_device kind member device r)
  unfolding change_of_device
  of_device_ends device r e = go (eqb kind ADD_DEVICE)
    where
      go : (b : Bool) → Bounded end (Ends end) (cond b (bytes_at 56 r >>= λ key. Ok (AddDevice member device key.0, key.1)) (Ok (DropDevice member device, r)))
      go true = then end _ _ (bytes_at 56 r) _ (bytes_begin 56 end r.at r (from_here end r e)) (λ key k. k.1.ends)
      go false = e

  of_member_ends : (r : Reading) → r.at + length r.rest ≡ end → Bounded end (Ends end) (change_of_member kind member r)
  unfolding change_of_member
  of_member_ends r e = go (eqb kind ADD) (eqb kind REMOVE) (eqb kind SET_ROLE)
    where
      go : (a b c : Bool) → Bounded end (Ends end) (cond a (role_at r >>= λ role. bytes_at 56 role.1 >>= λ key. Ok (Add member role.0 key.0, key.1))
          (cond b (Ok (Remove member, r)) (cond c (role_at r >>= λ role. Ok (SetRole member role.0, role.1)) (number_at w8 r >>= λ device. change_of_device kind member device.0 device.1))))
      go true b c = then end _ _ (role_at r) _ (role_begins end r.at r (from_here end r e)) (λ role h. then end _ _ (bytes_at 56 role.1) _ (bytes_begin 56 end _ role.1 h) (λ key k. k.1.ends))
      go false true c = e
      go false false true = then end _ _ (role_at r) _ (role_begins end r.at r (from_here end r e)) (λ role h. h.ends)
      go false false false = then end _ _ (number_at w8 r) _ (number_begins w8 end r.at r (from_here end r e)) (λ device h. of_device_ends device.0 device.1 h.ends)

of_kind_ends : (end kind : ℕ) (r : Reading) → r.at + length r.rest ≡ end → Bounded end (Ends end) (change_of_kind kind r)
unfolding change_of_kind
of_kind_ends end kind r e = go (eqb kind UPGRADE)
  where
    go : (b : Bool) → Bounded end (Ends end) (cond b (Ok (Upgrade, r)) (number_within 1 HIGHEST_MEMBER w16 r >>= λ member. change_of_member kind member.0 member.1))
    go true = e
    go false = then end _ _ (number_within 1 HIGHEST_MEMBER w16 r) _ (within_begins 1 HIGHEST_MEMBER w16 end r.at r (from_here end r e)) (λ member h. of_member_ends end kind member.0 member.1 h.ends)

change_ends : (version end : ℕ) (r : Reading) → r.at + length r.rest ≡ end → Bounded end (Ends end) (change_at version r)
unfolding change_at
change_ends version end r e = then end _ _ (kind_at version r) _ (kind_begins version end r.at r (from_here end r e)) (λ kind h. of_kind_ends end kind.0 kind.1 h.ends)

wrap_ends : (end : ℕ) (r : Reading) → r.at + length r.rest ≡ end → Bounded end (Ends end) (wrap_at r)
unfolding wrap_at
wrap_ends end r e = then end _ _ (number_at w16 r) _ (number_begins w16 end r.at r (from_here end r e)) (λ member h. then end _ _ (bytes_at 32 member.1) _ (bytes_begin 32 end _ member.1 h) (λ sealed k. k.1.ends))

change_body_ends : (version end : ℕ) (r : Reading) → r.at + length r.rest ≡ end → Bounded end (Ends end) (change_body_at version r)
unfolding change_body_at
change_body_ends version end r e =
    then end _ _ (change_at version r) _ (change_ends version end r e) (λ change h. then end _ _ (bytes_at 32 change.1) _ (bytes_begin 32 end _ change.1 (from_here end change.1 h))
    (λ commitment k. then end _ _ (bytes_at 32 commitment.1) _ (bytes_begin 32 end _ commitment.1 k.1) (λ previous l. then end _ _ (number_within 0 MAX_MEMBERS w16 previous.1) _ (within_begins 0 MAX_MEMBERS w16 end _ previous.1 l.1)
    (λ count m. then end _ _ (values_at wrap_at count.0 count.1) _ (values_end end (λ r. r.at + length r.rest ≡ end) wrap_at (wrap_ends end) count.0 count.1 m.ends) (λ wraps n. n)))))

change_bounded : (version at : ℕ) (bytes : List ℕ) → Bounded (at + length bytes) (λ _. Unit {0}) (change_body_from version at bytes)
unfolding change_body_from
change_bounded version at bytes =
    let end = at + length bytes in
    let r : Reading = record { rest = bytes; at = at } in
    then end _ _ (change_body_at version r) _ (change_body_ends version end r refl) (λ body h. then end _ _ (end_at body.1) _ (end_bounded end body.1 h) (λ _ _. tt))

-- ---- entries

-- the byte of a device, where there is one
abbrev device_len : ℕ → ℕ
device_len version = cond (names_device version) 1 0

device_begins : (version end at : ℕ) (r : Reading) → Left end at r → Bounded end (Begins end (at + device_len version)) (device_at version r)
device_begins version end at r left = go (names_device version)
  where
    go : (b : Bool) → Bounded end (Begins end (at + cond b 1 0)) (cond b (number_at w8 r) (Ok (0, r)))
    go true = number_begins w8 end at r left
    go false = record { place = omega (arith, left.place); ends = left.ends }

header_ends : (version : ℕ) → 68 + device_len version ≡ header_len version
header_ends version = go (names_device version)
  where
    go : (b : Bool) → 68 + cond b 1 0 ≡ cond b 69 68
    go true = refl
    go false = refl

header_begins : (end : ℕ) (r : Reading) → Left end 0 r → Bounded end (λ x. Left end (header_len x.0.version) x.1) (header_at r)
unfolding header_at
header_begins end r left =
    then end _ _ (number_within FIRST_VERSION DEVICES_VERSION w8 r) _ (within_begins FIRST_VERSION DEVICES_VERSION w8 end 0 r left)
    (λ version a. then end _ _ (bytes_at 16 version.1) _ (bytes_begin 16 end 1 version.1 a)
    (λ document b. then end _ _ (number_at w16 document.1) _ (number_begins w16 end 17 document.1 b.1)
    (λ author c. then end _ _ (device_at version.0 author.1) _ (device_begins version.0 end 19 author.1 c)
    (λ device d. then end _ _ (number_at w32 device.1) _ (number_begins w32 end (19 + device_len version.0) device.1 d)
    (λ number f. then end _ _ (number_at w32 number.1) _ (number_begins w32 end (19 + device_len version.0 + 4) number.1 f)
    (λ base g. then end _ _ (bytes_at 32 base.1) _ (bytes_begin 32 end (19 + device_len version.0 + 4 + 4) base.1 g)
    (λ base_hash h. then end _ _ (number_at w32 base_hash.1) _ (number_begins w32 end (19 + device_len version.0 + 4 + 4 + 32) base_hash.1 h.1)
    (λ epoch i. then end _ _ (number_at w32 epoch.1) _ (number_begins w32 end (19 + device_len version.0 + 4 + 4 + 32 + 4) epoch.1 i)
    (λ leaf j. then end _ _ (number_within 1 2 w8 leaf.1) _ (within_begins 1 2 w8 end (19 + device_len version.0 + 4 + 4 + 32 + 4 + 4) leaf.1 j)
    (λ kind k. record { place = omega (arith, k.place, header_ends version.0); ends = k.ends }))))))))))

abbrev no_fault : Unit {0} → Result (Unit {0}) ℕ
no_fault u = Ok u

body_bounded : (h : Header) (end : ℕ) (body : List ℕ) → body_place h.version + length body ≤ end → Bounded end (λ _. Unit {0}) (body_read h body)
body_bounded h end body le = go (eqb h.kind 1)
  where
    later : (read : Result (Unit {0}) ℕ) → Bounded (body_place h.version + length body) (λ _. Unit {0}) read → Bounded end (λ _. Unit {0}) read
    later (Ok u) k = tt
    later (Err at) k = omega (arith, k, le)

    go : (b : Bool) → Bounded end (λ _. Unit {0}) (cond b (no_fault tt) (change_body_from h.version (body_place h.version) body >>= λ change. no_fault tt))
    go true = tt
    go false = later _ (then (body_place h.version + length body) _ _ (change_body_from h.version (body_place h.version) body) _ (change_bounded h.version (body_place h.version) body) (λ _ _. tt))

entry_bounded : (bytes : List ℕ) → Bounded (length bytes) (λ _. length bytes ≤ MAX_ENTRY) (entry_of bytes)
unfolding entry_of
entry_bounded bytes =
    let end = length bytes in
    let r : Reading = record { rest = bytes; at = 0 } in
    let left : Left end 0 r = record { place = refl; ends = omega arith } in
    then end _ _ (header_at r) _ (header_begins end r left)
    (λ header h. then end _ _ (counted_at (body_limit header.0.kind) header.1) _ (counted_begins (body_limit header.0.kind) end (header_len header.0.version) header.1 h)
    (λ body k. then end _ _ (body_read header.0 body.0) _ (body_bounded header.0 end body.0 (omega (arith, k.1.place, k.1.ends))) (λ read _. then end _ _ (counted_at MAX_SIGNATURE body.1) _ (counted_begins MAX_SIGNATURE end _ body.1 k.1)
    (λ signature l. then end _ _ (end_at signature.1) _ (end_bounded end signature.1 l.1.ends)
    (λ _ is. omega (arith, is, l.0, l.1.place, k.0, limit_most header.0.kind, header_len-le header.0.version))))))

-- ---- geneses

founder_ends : (end least : ℕ) (r : Reading) → r.at + length r.rest ≡ end → Bounded end (Ends end) (founder_at least r)
unfolding founder_at
founder_ends end least r e =
    then end _ _ (number_within least HIGHEST_MEMBER w16 r) _ (within_begins least HIGHEST_MEMBER w16 end r.at r (from_here end r e)) (λ member h. then end _ _ (role_at member.1) _ (role_begins end _ member.1 h)
    (λ role k. then end _ _ (bytes_at 56 role.1) _ (bytes_begin 56 end _ role.1 k) (λ key l. l.1.ends)))

founders_end : (end n : ℕ) (r : Reading) → r.at + length r.rest ≡ end → Bounded end (Ends end) (founders_at n r)
unfolding founders_at ascending_at next_of
founders_end end n r e =
    then end _ _ (values_at (next_of founder_at (λ m. m.member)) n (1, r)) _
    (values_end end (λ s. s.1.at + length s.1.rest ≡ end) (next_of founder_at (λ m. m.member)) each n (1, r) e) (λ founders h. h)
  where
    each : (s : ℕ × Reading) → s.1.at + length s.1.rest ≡ end → Bounded end (λ x. x.1.1.at + length x.1.1.rest ≡ end) (next_of founder_at (λ m. m.member) s)
    each s h = then end _ _ (founder_at s.0 s.1) _ (founder_ends end s.0 s.1 h) (λ m k. k)

genesis_in_bounded : (bytes : List ℕ) → Bounded (length bytes) (λ _. Unit {0}) (genesis_in bytes)
unfolding genesis_in genesis_at
genesis_in_bounded bytes =
    let end = length bytes in
    let r : Reading = record { rest = bytes; at = 0 } in
    let left : Left end 0 r = record { place = refl; ends = omega arith } in
    then end (Ends end) _ (genesis_at r) _ (
    then end _ _ (number_within 1 1 w8 r) _ (within_begins 1 1 w8 end 0 r left) (λ version a. then end _ _ (bytes_at 16 version.1) _ (bytes_begin 16 end 1 version.1 a)
    (λ document b. then end _ _ (bytes_at 32 document.1) _ (bytes_begin 32 end 17 document.1 b.1) (λ commitment c. then end _ _ (number_within 1 MAX_MEMBERS w16 commitment.1) _ (within_begins 1 MAX_MEMBERS w16 end 49 commitment.1 c.1)
    (λ count d. then end _ _ (founders_at count.0 count.1) _ (founders_end end count.0 count.1 d.ends) (λ founders h. h)))))
    ) (λ genesis h. then end _ _ (end_at genesis.1) _ (end_bounded end genesis.1 h) (λ _ _. tt))

-- ---- the laws

at_fault : {A : Type 0} (after : A → Type 0) (end at : ℕ) (read : Result A ℕ) → Bounded end after read → read ≡ Err at → at ≤ end
at_fault {A} after end at read h e = let P : Result A ℕ → Type 0 = Bounded end after in subst P e h

pub change_place : (version first : ℕ) (bytes : List ℕ) (at : ℕ) → change_body_from version first bytes ≡ Err at → at ≤ first + length bytes
change_place version first bytes at e = at_fault _ (first + length bytes) at (change_body_from version first bytes) (change_bounded version first bytes) e

pub entry_place : (bytes : List ℕ) (at : ℕ) → entry_of bytes ≡ Err at → at ≤ length bytes
entry_place bytes at e = at_fault _ (length bytes) at (entry_of bytes) (entry_bounded bytes) e

-- bytes that read as an entry are few
pub entry_len : (bytes : List ℕ) (e : Entry) → entry_of bytes ≡ Ok e → length bytes ≤ MAX_ENTRY
entry_len bytes e read = let P : Result Entry ℕ → Type 0 = Bounded (length bytes) (λ _. length bytes ≤ MAX_ENTRY) in subst P read (entry_bounded bytes)

-- a genesis whose founders are refused is not malformed
not_malformed : (b : Bool) (o : Option Founder) (g : Genesis) (at : ℕ) → accepted g (first_of (unless b NoAdmin ∷ option_map (λ m. BadKey m.member) o ∷ [])) ≡ Err (Malformed at) → ⊥
not_malformed true None g at e = cc
not_malformed true (Some m) g at e = cc
not_malformed false o g at e = cc

-- the place of a genesis that can't be read
malformed_is : (read : Result Genesis ℕ) (at : ℕ) → tested (fault_as Malformed read) ≡ Err (Malformed at) → read ≡ Err at
malformed_is (Err b) at e = cc
malformed_is (Ok g) at e = absurd (not_malformed (has_admin_founder g.founders) (bad_key g.founders) g at e)

pub genesis_place : (bytes : List ℕ) (at : ℕ) → genesis_of bytes ≡ Err (Malformed at) → at ≤ length bytes
unfolding genesis_of
genesis_place bytes at e = at_fault _ (length bytes) at (genesis_in bytes) (genesis_in_bounded bytes) (malformed_is (genesis_in bytes) at e)
