-- A genesis that is read is spelled so, and one that is spelled so is read again.
use Rattle.std.proofs.Common.{◌≡◌, ℕ, ◌+◌, ◌^◌, ◌<◌, ◌≤◌, List, [], ◌∷◌, ◌++◌, length, Option, Some, None, Result, Ok, Err, refl, sym, ap, subst, ◌∙◌, append_assoc, arith, lit<}
use Rattle.sporc_entry.proofs.Common.{IfOk, flat_map, AllByRecursion, w16, to_be_bytes, append-nil, Reading, ◌>>=◌, fault_as, end_at, IsBytes, bind_ok, ok_is, Takes, Takes-then, wide16, bytes_takes}
use Rattle.sporc_entry.proofs.Common.{bytes_again, end_takes, within_takes, byte_takes, u16_within_again, byte_again, MAX_MEMBERS, HIGHEST_MEMBER, role_code_of, GivesUnless, accepted, tested}
use Rattle.sporc_entry.proofs.Common.{founder_bytes}
use Rattle.std.specs.List.Sorted.{IsStrictlyIncreasing}
use Rattle.sporc_bytes.proofs.Ascending.{Ascends, increasing_ascends}
use Rattle.sporc_bytes.proofs.ListLaws.{AreReadFrom, IsReadFrom, ReadsAgain, ascending_take, ascending_again}
use Rattle.sporc_member.specs.declared.founder.Founder.{Founder}
use Rattle.sporc_member.specs.Roster.{founder_numbers}
use Rattle.sporc_entry.specs.declared.fault.GenesisFault.{GenesisFault}
use Rattle.sporc_entry.specs.declared.fault.GenesisFault.TheVariants.{Malformed, Memory}
use Rattle.sporc_entry.specs.declared.genesis.Genesis.{Genesis}
use Rattle.sporc_entry.specs.Genesis.{founder_at, founders_at, genesis_at, genesis_in, founders_fault, genesis_of, genesis_bytes, IsFounder, IsGenesis}
use Rattle.sporc_entry.proofs.FieldLaws.{Leaves, is_one, role_takes, role_again}

-- ---- founders

-- a founder's number
abbrev number_of : Founder → ℕ
number_of m = m.member

-- a founder that is read, from a least number on
founder_takes : (least : ℕ) (r : Reading) (x : Founder × Reading) → 1 ≤ least → IsBytes r.rest → founder_at least r ≡ Ok x → IsReadFrom number_of founder_bytes IsFounder least r x
unfolding founder_at
founder_takes least r x pos h e =
    let a = bind_ok _ _ x e in
    let b = bind_ok _ _ x a.2 in
    let c = bind_ok _ _ x b.2 in
    let ta = within_takes least HIGHEST_MEMBER w16 (2 ^ 16) wide16 r a.0 h a.1 in
    let tb = role_takes a.0.1 b.0 ta.0.bytes b.1 in
    let tc = bytes_takes 56 b.0.1 c.0 tb.bytes c.1 in
    let made : Founder × Reading = (record { member = a.0.0; role = b.0.0; key = c.0.0 }, c.0.1) in
    let last = Takes-then a.0.1 (role_code_of b.0.0 ∷ []) b.0.1 c.0.0 c.0.1 tb tc.0 in
    let whole = Takes-then r (to_be_bytes w16 a.0.0) a.0.1 ((role_code_of b.0.0 ∷ []) ++ c.0.0) c.0.1 ta.0 last in
    let is : IsFounder made.0 = record { member = (omega (arith, pos, ta.1), omega (arith, ta.2)); key = tc.1 } in
    subst (IsReadFrom number_of founder_bytes IsFounder least r) (ok_is made x c.2) (record { text = whole; above = ta.1; is = is })

founder_again : ReadsAgain founder_at number_of founder_bytes IsFounder
unfolding founder_at
founder_again least m at rest is le =
    let regrouped : founder_bytes m ++ rest ≡ to_be_bytes w16 m.member ++ (role_code_of m.role ∷ (m.key ++ rest)) = append_assoc (to_be_bytes w16 m.member) (role_code_of m.role ∷ m.key) rest in (
      at + 2 + 1 + 56,
      ap (λ (bs : List ℕ). founder_at least (record { rest = bs; at = at })) regrouped ∙ rw (
        u16_within_again least HIGHEST_MEMBER m.member at (role_code_of m.role ∷ (m.key ++ rest)) le (omega (arith, is.member.1)) is.member.1,
        role_again m.role (at + 2) (m.key ++ rest),
        bytes_again 56 (at + 2 + 1) m.key rest is.key,
      ) refl,
    )

founders_take : (n : ℕ) (r : Reading) (x : List Founder × Reading) → IsBytes r.rest → founders_at n r ≡ Ok x → AreReadFrom number_of founder_bytes IsFounder n r x
unfolding founders_at
founders_take n r x h e = ascending_take founder_at number_of founder_bytes IsFounder 1 founder_takes n r x h e

-- founders in range ascend from 1 on
ascends_from_one : (ms : List Founder) → AllByRecursion IsFounder ms → IsStrictlyIncreasing (founder_numbers ms) → Ascends 1 (founder_numbers ms)
ascends_from_one [] is asc = tt
ascends_from_one (m ∷ ms) is asc = increasing_ascends 1 m.member (founder_numbers ms) (omega (arith, is.0.member.0)) asc

-- the founders of all bytes that are left
founders_again : (ms : List Founder) (at : ℕ) → AllByRecursion IsFounder ms → IsStrictlyIncreasing (founder_numbers ms)
    → (after : ℕ) × (founders_at (length ms) (record { rest = flat_map founder_bytes ms; at = at }) ≡ Ok (ms, record { rest = []; at = after }))
unfolding founders_at
founders_again ms at is asc = ascending_again founder_at number_of founder_bytes IsFounder founder_again ms 1 at is (ascends_from_one ms is asc)

-- ---- geneses

-- the bytes of a genesis, and those after them
abbrev genesis_text : Genesis → List ℕ → List ℕ
genesis_text g rest = 1 ∷ g.document ++ (g.commitment ++ (to_be_bytes w16 (length g.founders) ++ (flat_map founder_bytes g.founders ++ rest)))

genesis_parts : (g : Genesis) (r0 r1 r2 r3 r4 r5 : List ℕ) → r0 ≡ 1 ∷ r1 → r1 ≡ g.document ++ r2 → r2 ≡ g.commitment ++ r3 → r3 ≡ to_be_bytes w16 (length g.founders) ++ r4
    → r4 ≡ flat_map founder_bytes g.founders ++ r5 → r0 ≡ genesis_text g r5
genesis_parts g r0 r1 r2 r3 r4 r5 e0 e1 e2 e3 e4 = rw (e0, e1, e2, e3, e4) refl

-- a genesis in range, whoever its founders are
pub record IsInRange (g : Genesis) : Type 0 where
  pub document : length g.document ≡ 16
  pub commitment : length g.commitment ≡ 32
  pub count : (1 ≤ length g.founders) × (length g.founders ≤ MAX_MEMBERS)
  pub founders : AllByRecursion IsFounder g.founders
  pub ascending : IsStrictlyIncreasing (founder_numbers g.founders)

fields_take : (r : Reading) (x : Genesis × Reading) → IsBytes r.rest → genesis_at r ≡ Ok x → Leaves r (genesis_text x.0) x.1 × IsInRange x.0
unfolding genesis_at
fields_take r x h e =
    let v = bind_ok _ _ x e in
    let d = bind_ok _ _ x v.2 in
    let c = bind_ok _ _ x d.2 in
    let n = bind_ok _ _ x c.2 in
    let f = bind_ok _ _ x n.2 in
    let tv = byte_takes 1 1 r v.0 (lit< tt) h v.1 in
    let td = bytes_takes 16 v.0.1 d.0 tv.0.bytes d.1 in
    let tc = bytes_takes 32 d.0.1 c.0 td.0.bytes c.1 in
    let tn = within_takes 1 MAX_MEMBERS w16 (2 ^ 16) wide16 c.0.1 n.0 tc.0.bytes n.1 in
    let tf = founders_take n.0.0 n.0.1 f.0 tn.0.bytes f.1 in
    let genesis : Genesis = record { document = d.0.0; commitment = c.0.0; founders = f.0.0 } in
    let made : Genesis × Reading = (genesis, f.0.1) in
    let one : v.0.0 ≡ 1 = is_one v.0.0 tv.1 tv.2 in
    let first : r.rest ≡ 1 ∷ v.0.1.rest = tv.0.parts ∙ ap (λ (m : ℕ). m ∷ v.0.1.rest) one in
    let counted : c.0.1.rest ≡ to_be_bytes w16 (length f.0.0) ++ n.0.1.rest = tn.0.parts ∙ ap (λ (k : ℕ). to_be_bytes w16 k ++ n.0.1.rest) (sym tf.count) in
    subst (λ (y : Genesis × Reading). Leaves r (genesis_text y.0) y.1 × IsInRange y.0) {x = made} {y = x} (ok_is made x f.2) (
      record { parts = genesis_parts genesis r.rest v.0.1.rest d.0.1.rest c.0.1.rest n.0.1.rest f.0.1.rest first td.0.parts tc.0.parts counted tf.text.parts; bytes = tf.text.bytes },
      record { document = td.1; commitment = tc.1; count = (omega (arith, tf.count, tn.1), omega (arith, tf.count, tn.2)); founders = tf.each; ascending = tf.ascending },
    )

genesis_in_takes : (bytes : List ℕ) (g : Genesis) → IsBytes bytes → genesis_in bytes ≡ Ok g → IsInRange g × (bytes ≡ genesis_bytes g)
unfolding genesis_in genesis_bytes
genesis_in_takes bytes g h e =
    let r : Reading = record { rest = bytes; at = 0 } in
    let a = bind_ok (genesis_at r) (λ genesis. end_at genesis.1 >>= λ end. Ok genesis.0) g e in
    let n = bind_ok (end_at a.0.1) (λ end. Ok a.0.0) g a.2 in
    let t = fields_take r a.0 h a.1 in
    let nothing : a.0.1.rest ≡ [] = end_takes a.0.1 n.1 in
    let tail : flat_map founder_bytes a.0.0.founders ++ a.0.1.rest ≡ flat_map founder_bytes a.0.0.founders = ap (λ (rest : List ℕ). flat_map founder_bytes a.0.0.founders ++ rest) nothing ∙ append-nil (flat_map founder_bytes a.0.0.founders) in
    let whole : bytes ≡ genesis_bytes a.0.0 = t.0.parts ∙ ap (λ (bs : List ℕ). 1 ∷ a.0.0.document ++ (a.0.0.commitment ++ (to_be_bytes w16 (length a.0.0.founders) ++ bs))) tail in
    subst (λ (y : Genesis). IsInRange y × (bytes ≡ genesis_bytes y)) (ok_is a.0.0 g n.2) (t.1, whole)

genesis_in_again : (g : Genesis) → IsGenesis g → genesis_in (genesis_bytes g) ≡ Ok g
unfolding genesis_in genesis_at genesis_bytes
genesis_in_again g is =
    let tail : List ℕ = to_be_bytes w16 (length g.founders) ++ flat_map founder_bytes g.founders in
    let founders = founders_again g.founders (1 + 16 + 32 + 2) is.founders is.ascending in
    rw (
      byte_again 1 1 1 0 (g.document ++ (g.commitment ++ tail)) (omega arith) (omega arith) (omega arith),
      bytes_again 16 1 g.document (g.commitment ++ tail) is.document,
      bytes_again 32 17 g.commitment tail is.commitment,
      u16_within_again 1 MAX_MEMBERS (length g.founders) 49 (flat_map founder_bytes g.founders) is.count.0 is.count.1 (omega (arith, is.count.1)),
      founders.1,
    ) refl

-- ---- founders that a document can begin with

abbrev made : Genesis → Result Genesis GenesisFault
made g = Ok g

made_is : (g h : Genesis) → made g ≡ made h → g ≡ h
made_is g h e = cc

abbrev ok_read : Genesis → Result Genesis ℕ
ok_read g = Ok g

tested_ok : (read : Result Genesis ℕ) (g : Genesis) → tested (fault_as Malformed read) ≡ Ok g → (read ≡ Ok g) × (founders_fault g.founders ≡ None)
tested_ok (Err at) g e = absurd cc
tested_ok (Ok h) g e = go (founders_fault h.founders) refl e
  where
    go : (fault : Option GenesisFault) → founders_fault h.founders ≡ fault → accepted h fault ≡ Ok g → (ok_read h ≡ Ok g) × (founders_fault g.founders ≡ None)
    go None none e = let P : Genesis → Type 0 = λ y. (ok_read h ≡ Ok y) × (founders_fault y.founders ≡ None) in subst P (made_is h g e) (refl, none)
    go (Some fault) some e = absurd cc

pub genesis_takes : (bytes : List ℕ) (g : Genesis) → IsBytes bytes → genesis_of bytes ≡ Ok g → IsGenesis g × (bytes ≡ genesis_bytes g)
unfolding genesis_of
genesis_takes bytes g h e =
    let t = tested_ok (genesis_in bytes) g e in
    let r = genesis_in_takes bytes g h t.0 in
    (record { document = r.0.document; commitment = r.0.commitment; count = r.0.count; founders = r.0.founders; ascending = r.0.ascending; accepted = t.1 }, r.1)

pub genesis_again : (g : Genesis) → IsGenesis g → genesis_of (genesis_bytes g) ≡ Ok g
unfolding genesis_of
genesis_again g is = rw (genesis_in_again g is, is.accepted) refl

-- what a call that read so found
pub genesis_found : (bytes : List ℕ) (r : Result Genesis GenesisFault) → IsBytes bytes → GivesUnless Memory (λ g. g) r (genesis_of bytes) → IfOk r (λ g. IsGenesis g × (bytes ≡ genesis_bytes g))
genesis_found bytes (Ok g) h read = genesis_takes bytes g h read
genesis_found bytes (Err fault) h read = tt

pub genesis_only : (bytes : List ℕ) (r : Result Genesis GenesisFault) → GivesUnless Memory (λ g. g) r (genesis_of bytes)
    → (g : Genesis) → IsGenesis g → bytes ≡ genesis_bytes g → GivesUnless Memory (λ g. g) r (Ok g)
genesis_only bytes r read g is spelled = let P : Result Genesis GenesisFault → Type 0 = λ given. GivesUnless Memory (λ g. g) r given in subst P (ap genesis_of spelled ∙ genesis_again g is) read
