-- What a rogue's entry holds, and how long it is.
use Rattle.std.proofs.Common.{◌≡◌, ℕ, ◌+◌, ◌<◌, ◌≤◌, ◌^◌, Bool, true, false, cond, eqb, ltb, not, List, [], ◌∷◌, length, leb, take, drop, map, filter, fold, Option, Some, None, refl, ap, sym, subst}
use Rattle.std.proofs.Common.{◌∙◌, arith, eq-eqb, option_map, Result}
use Rattle.sporc_play.proofs.Common.{le-leb, Ok, Err, is_none, length-map, nat_cmp, eq_by_cmp, nat_cmp_total, unsigned_tied, empty, get, get-insert, length-sha256, LeafFault, LmsPrivate, height_of}
use Rattle.sporc_play.proofs.Common.{mask_of, MAX_MEMBERS, MemberChange, first_device, Roster, after_change, change_fault_of, numbers_of, ChangeBody, Entry, Genesis, Header, Wrap, entry_bytes}
use Rattle.sporc_play.proofs.Common.{signed_string, IsGenesis, fits_version, Keys, previous_stream, count_of, epoch_of, hash_of, roster_of, Good, Kit, PlainClient, Setup, Forgery, Suffix, pair_key}
use Rattle.sporc_play.proofs.Common.{random_of, IsSmallBody, base_by, derived_pairs, device_in, epoch_by, first_flipped, forged_body, forged_change, forged_header, forged_sealing, key_there, kind_of}
use Rattle.sporc_play.proofs.Common.{number_by, sealed_for, spoiled, unsigned_by, value_at, version_by, wrap_flipped, leaf_after, IsTrue, AreDrawn, nat_tests, length-mask_from, ChangeFault, NoPairKey}
use Rattle.sporc_play.proofs.Common.{length-filter, count_by-le-length, LeavesModel, all_filter, all_map, lt-ltb, is_some, sign_line, signed_line, change_body_bytes, ⊤}
use Rattle.sha2.specs.Sha256.{sha256}
use Rattle.lms_leaf.specs.declared.faults.LeafFault.TheVariants.{Exhausted}
use Rattle.lms_tree.specs.Signatures.{lms_signature_of}
use Rattle.sporc_entry.proofs.BodyLengths.{length-body}
use Rattle.sporc_epoch.specs.Sealing.{Sealing, body_sealed, change_sealed, least_of, least_unpaired}
use Rattle.sporc_epoch.proofs.SpelledBodies.{wraps_each, wraps_few}
use Rattle.sporc_client.proofs.SubmitRosters.{IsFew, all_paired, few_after, few_members, few_numbers, sealed_same}
use Rattle.sporc_play.specs.Forged.{BodyWith, forged_entry, leaf_by, signed_by, unless_refused, with_derived, IsSmallChange}
use Rattle.sporc_script.specs.declared.sign.Suffix.TheVariants as suffixes

-- ---- a flipped byte

length-first_flipped : (bytes : List ℕ) → length (first_flipped bytes) ≡ length bytes
length-first_flipped bytes = grind arith

-- ---- a spoiled body

abbrev HasSealed : (List ℕ → Type 0) → Wrap → Type 0
HasSealed Sealed w = Sealed w.sealed

sealed_flipped : (Sealed : List ℕ → Type 0) → ((bytes : List ℕ) → Sealed bytes → Sealed (first_flipped bytes)) → (member : ℕ) (w : Wrap) → Sealed w.sealed → Sealed (wrap_flipped member w).sealed
sealed_flipped Sealed flips member w is = go (eqb w.member member)
  where
    go : (b : Bool) → Sealed (cond b (record { member = w.member; sealed = first_flipped w.sealed }) w).sealed
    go true = flips w.sealed is
    go false = is

-- what holds of all that a body seals, and of bytes with a bit changed, holds of all that a spoiled one seals
pub spoiled_parts : (Sealed : List ℕ → Type 0) → ((bytes : List ℕ) → Sealed bytes → Sealed (first_flipped bytes)) → (suffix : Option Suffix) (body : ChangeBody)
    → BodyWith Sealed body → BodyWith Sealed (spoiled suffix body)
spoiled_parts Sealed flips (Some (suffixes.Wrap member)) body is =
    record { commitment = is.commitment; previous = is.previous; wraps = all_map (HasSealed Sealed) (HasSealed Sealed) (wrap_flipped member) (sealed_flipped Sealed flips member) body.wraps is.wraps }
spoiled_parts Sealed flips (Some (suffixes.Drop member)) body is =
    record { commitment = is.commitment; previous = is.previous; wraps = all_filter (HasSealed Sealed) (λ (w : Wrap). not (eqb w.member member)) body.wraps is.wraps }
spoiled_parts Sealed flips (Some suffixes.Commit) body is = record { commitment = flips body.commitment is.commitment; previous = is.previous; wraps = is.wraps }
spoiled_parts Sealed flips (Some suffixes.Previous) body is = record { commitment = is.commitment; previous = flips body.previous is.previous; wraps = is.wraps }
spoiled_parts Sealed flips suffix body is = is

-- it has the same change, and no more wraps
pub spoiled_same : (suffix : Option Suffix) (body : ChangeBody) → ((spoiled suffix body).change ≡ body.change) × (length (spoiled suffix body).wraps ≤ length body.wraps)
spoiled_same (Some (suffixes.Wrap member)) body = (refl, omega (arith, length-map body.wraps (wrap_flipped member)))
spoiled_same (Some (suffixes.Drop member)) body =
    (refl, omega (arith, length-filter (λ (w : Wrap). not (eqb w.member member)) body.wraps, count_by-le-length (λ (w : Wrap). not (eqb w.member member)) body.wraps))
spoiled_same (Some suffixes.Commit) body = (refl, omega arith)
spoiled_same (Some suffixes.Previous) body = (refl, omega arith)
spoiled_same suffix body = (refl, omega arith)

-- ---- a small body

abbrev Has32 : List ℕ → Type 0
Has32 bytes = length bytes ≡ 32

pub spoiled_small : (suffix : Option Suffix) (body : ChangeBody) → IsSmallBody body → IsSmallBody (spoiled suffix body)
spoiled_small suffix body is =
    let (same, fewer) = spoiled_same suffix body in
    record {
      change = subst IsSmallChange (sym same) is.change;
      parts = spoiled_parts Has32 (λ bytes whole. length-first_flipped bytes ∙ whole) suffix body is.parts;
      few = omega (arith, fewer, is.few);
    }

pub small_bytes : (b : ChangeBody) → IsSmallBody b → length (change_body_bytes b) < 2 ^ 32
small_bytes b is = omega (arith, length-body (λ member. ⊤) (λ device. ⊤) (HasSealed Has32) b is.change is.parts.commitment is.parts.previous (λ w whole. whole) is.parts.wraps is.few)

-- ---- a sealed body

-- what holds of the keys that are sealed, of digests and of what is masked holds of all that a body seals
pub sealed_parts : (Sealed : List ℕ → Type 0) → ((key : List ℕ) (stream : ℕ) (bytes : List ℕ) → Sealed bytes → Sealed (mask_of key stream bytes)) → ((bytes : List ℕ) → Sealed (sha256 bytes))
    → (s : Sealing) (pairs : Keys) → Sealed s.old → Sealed s.new → BodyWith Sealed (body_sealed s pairs)
unfolding body_sealed
sealed_parts Sealed masks hashes s pairs old new = record {
  commitment = hashes _;
  previous = masks s.new (previous_stream (s.epoch + 1)) s.old old;
  wraps = wraps_each (HasSealed Sealed) s.stream s.new pairs s.members (λ k d l pair. masks pair s.stream s.new new);
}

-- ---- a rogue has a key with each member

still : (rogue n m : ℕ) (keys : Keys) → is_none (get keys m) ≡ false → is_none (get (with_derived rogue keys n) m) ≡ false
still rogue n m keys h =
    ap is_none (get-insert nat_cmp_total keys n (pair_key rogue n) m) ∙ go (eq_by_cmp nat_cmp m n)
  where
    go : (b : Bool) → is_none (cond b (Some (pair_key rogue n)) (get keys m)) ≡ false
    go true = refl
    go false = h

kept : (rogue m : ℕ) (ms : List ℕ) (keys : Keys) → is_none (get keys m) ≡ false → is_none (get (fold (with_derived rogue) keys ms) m) ≡ false
kept rogue m [] keys h = h
kept rogue m (n ∷ ms) keys h = kept rogue m ms (with_derived rogue keys n) (still rogue n m keys h)

put : (rogue m : ℕ) (keys : Keys) → is_none (get (with_derived rogue keys m) m) ≡ false
put rogue m keys =
    let same : eq_by_cmp nat_cmp m m ≡ true = unsigned_tied m m ∙ eq-eqb m m refl in
    ap is_none (get-insert nat_cmp_total keys m (pair_key rogue m) m) ∙ ap (λ b. is_none (cond b (Some (pair_key rogue m)) (get keys m))) same

none_left : (rogue : ℕ) (ms : List ℕ) (keys : Keys) → filter (λ m. is_none (get (fold (with_derived rogue) keys ms) m)) ms ≡ []
none_left rogue [] keys = refl
none_left rogue (m ∷ ms) keys =
    let held : is_none (get (fold (with_derived rogue) (with_derived rogue keys m) ms) m) ≡ false = kept rogue m ms (with_derived rogue keys m) (put rogue m keys) in
    rw held (none_left rogue ms (with_derived rogue keys m))

pub none_unpaired : (rogue : ℕ) (ms : List ℕ) → least_unpaired (derived_pairs rogue ms) ms ≡ None
none_unpaired rogue ms = ap least_of (none_left rogue ms empty)

-- ---- the members for whom a change is sealed

pub accepted_members : (r s : Roster) (change : MemberChange) → r ≡ s → change_fault_of r change ≡ None → numbers_of (after_change r change).members ≡ sealed_for s change
accepted_members r s change same none =
    sym (ap (λ (fault : Option ChangeFault). numbers_of (unless_refused fault r (after_change r change)).members) none)
    ∙ ap (λ (roster : Roster). sealed_for roster change) same

pub refused_members : (r s : Roster) (change : MemberChange) (fault : ChangeFault) → r ≡ s → change_fault_of r change ≡ Some fault → numbers_of r.members ≡ sealed_for s change
refused_members r s change fault same some =
    sym (ap (λ (fault : Option ChangeFault). numbers_of (unless_refused fault r (after_change r change)).members) some)
    ∙ ap (λ (roster : Roster). sealed_for roster change) same

pub few_sealed : (g : Genesis) (kit : Kit) (entries : List (List ℕ)) (change : MemberChange) → IsGenesis g → Good g kit entries → length (sealed_for (roster_of g entries) change) ≤ MAX_MEMBERS
few_sealed g kit entries change is good = go (change_fault_of (roster_of g entries) change) refl
  where
    few : IsFew (roster_of g entries)
    few = few_members g kit entries is good

    go : (fault : Option ChangeFault) → change_fault_of (roster_of g entries) change ≡ fault
        → length (numbers_of (unless_refused fault (roster_of g entries) (after_change (roster_of g entries) change)).members) ≤ MAX_MEMBERS
    go None none = few_numbers (after_change (roster_of g entries) change) (few_after (roster_of g entries) change few none)
    go (Some fault) some = few_numbers (roster_of g entries) few

-- ---- what is sealed, as its parts are found

pub forged_same : (c : PlainClient) (h : Header) (change : MemberChange) (new : List ℕ) (s : Sealing) (pairs : Keys) (body : ChangeBody) → s ≡ forged_sealing c h change new → pairs ≡ derived_pairs h.author s.members
    → change_sealed s pairs ≡ Ok body → body ≡ forged_change c h change new
forged_same c h change new s pairs body same p is =
    sealed_same s (forged_sealing c h change new) pairs (derived_pairs h.author (sealed_for (roster_of c.opening.genesis c.entries) change)) body is same
    (p ∙ ap (λ (s : Sealing). derived_pairs h.author s.members) same)

pub forged_paired : (s : Sealing) (pairs : Keys) (author member : ℕ) → pairs ≡ derived_pairs author s.members → change_sealed s pairs ≡ Err (NoPairKey member) → ⊥
forged_paired s pairs author member p is = all_paired s pairs (derived_pairs author s.members) s.members member refl p (none_unpaired author s.members) is

pub forged_small : (c : PlainClient) (h : Header) (change : MemberChange) (new : List ℕ) → IsSmallChange change → length (key_there c) ≡ 32 → length new ≡ 32
    → length (sealed_for (roster_of c.opening.genesis c.entries) change) ≤ MAX_MEMBERS → IsSmallBody (forged_change c h change new)
unfolding body_sealed
forged_small c h change new typed old whole few =
    let s = forged_sealing c h change new in
    let pairs = derived_pairs h.author s.members in
    record {
      change = typed;
      parts = sealed_parts Has32 (λ key stream bytes is. length-mask_from key stream 0 bytes ∙ is) length-sha256 s pairs old whole;
      few = omega (arith, wraps_few s.stream new pairs s.members, few);
    }

-- ---- the header

pub value_there : (c : PlainClient) (base : ℕ) → base ≤ length c.entries → hash_of c.opening.genesis (take base c.entries) ≡ value_at c base
value_there c base there =
    let yes : leb base (length c.entries) ≡ true = le-leb base (length c.entries) there in
    rw yes refl

pub header_fits : (suffix : Option Suffix) (upgraded : Bool) → let version = version_by suffix upgraded in fits_version version (device_in suffix version) ≡ true
header_fits suffix upgraded = grind arith

pub header_same : (c : PlainClient) (f : Forgery) (own : ℕ) (version device : ℕ) (document base_hash : List ℕ) (number base epoch leaf kind : ℕ)
    → version ≡ version_by f.signed.suffix (roster_of c.opening.genesis c.entries).upgraded → device ≡ device_in f.signed.suffix version
    → document ≡ c.opening.genesis.document → number ≡ number_by f.signed.suffix (count_of (first_device f.member) c.entries + 1) → base_hash ≡ value_at c base → base ≡ base_by f.signed.suffix (length c.entries)
    → epoch ≡ epoch_by f.signed.suffix (epoch_of c.entries) → leaf ≡ leaf_by f.signed.suffix own → kind ≡ kind_of f.signed.what
    → let h : Header = record { version = version; document = document; author = f.member; device = device; number = number; base = base; base_hash = base_hash; epoch = epoch; leaf = leaf; kind = kind } in h ≡ forged_header c f own
header_same c f own version device document base_hash number base epoch leaf kind v w d n h b e l k = rw (w, v, d, n, h, b, e, l, k) refl

-- ---- the entry

pub unsigned_same : (s : Setup) (c : PlainClient) (f : Forgery) (random : List ℕ) (leaf : ℕ) (h : Header) (body signature : List ℕ)
    → h ≡ forged_header c f leaf → body ≡ forged_body s c f.signed.suffix h (drop 32 random) f.signed.what → signature ≡ []
    → let e : Entry = record { header = h; body = body; signature = signature } in e ≡ unsigned_by s c f random leaf
unsigned_same s c f random leaf h body signature head held none = rw (none, held, head) refl

pub signed_same : (s : Setup) (c : PlainClient) (f : Forgery) (random : List ℕ) (leaf : ℕ) (e : Entry) (key : LmsPrivate) (randomizer message signature : List ℕ)
    → e ≡ unsigned_by s c f random leaf → key ≡ s.private (first_device f.member) → randomizer ≡ take 32 random → message ≡ signed_string e → signature ≡ lms_signature_of key leaf randomizer message
    → entry_bytes (record e { signature = signature }) ≡ signed_by s c f random leaf
unfolding signed_by
signed_same s c f random leaf e key randomizer message signature is own first told by = rw (by, told, first, own, is) refl

pub forged_signed : (s : Setup) (c : PlainClient) (f : Forgery) (t leaf : ℕ) (bytes : List ℕ) (drawn : Result ℕ LeafFault)
    → drawn ≡ Ok leaf → bytes ≡ signed_by s c f (random_of (first_device f.member) t) leaf → Some bytes ≡ forged_entry s c f t drawn
unfolding forged_entry
forged_signed s c f t leaf bytes drawn is by = rw (is, by) refl

pub forged_none : (s : Setup) (c : PlainClient) (f : Forgery) (t : ℕ) (fault : LeafFault) (drawn : Result ℕ LeafFault) → drawn ≡ Err fault → None ≡ forged_entry s c f t drawn
unfolding forged_entry
forged_none s c f t fault drawn is = rw is refl

-- ---- its leaf

not_below : (n count : ℕ) → n ≡ count → ltb n count ≡ false
not_below n count same = grind (arith, nat_tests)

pub leaf_drawn : (key : LmsPrivate) (n leaf count : ℕ) → leaf ≡ n → leaf < count → count ≡ 2 ^ height_of key.lms → leaf_after key n ≡ Ok leaf
leaf_drawn key n leaf count is low all =
    let yes : ltb n (2 ^ height_of key.lms) ≡ true = lt-ltb n (2 ^ height_of key.lms) (omega (arith, is, low, all)) in
    ap (λ (b : Bool). cond b (Ok n) (Err (Exhausted n))) yes ∙ ap Ok (sym is)

pub leaf_none : (key : LmsPrivate) (n count : ℕ) → n ≡ count → count ≡ 2 ^ height_of key.lms → leaf_after key n ≡ Err (Exhausted n)
leaf_none key n count is all =
    let no : ltb n (2 ^ height_of key.lms) ≡ false = not_below n (2 ^ height_of key.lms) (is ∙ all) in
    ap (λ (b : Bool). cond b (Ok n) (Err (Exhausted n))) no

not_faulty : (faulty : Bool) → (IsTrue faulty → ⊥) → faulty ≡ false
not_faulty true works = absurd (works refl)
not_faulty false works = refl

pub drawn_more : {D : Type 0} (key : LmsPrivate) (old new : LeavesModel D) (count : ℕ) → AreDrawn key old.next old → new.next ≡ old.next + count → old.next + count ≤ old.leaf_count → new.leaf_count ≡ old.leaf_count
    → (IsTrue new.faulty → ⊥) → AreDrawn key (old.next + count) new
drawn_more key old new count was next within same works =
    record { next = next; within = omega (arith, within, was.count); count = same ∙ was.count; works = not_faulty new.faulty works }

-- ---- the line of a rogue that was to sign

signed_by_leaf : (s : Setup) (c : PlainClient) (f : Forgery) (t next : ℕ) (leaf : Result ℕ LeafFault) → signed_line (first_device f.member) next (is_some (forged_entry s c f t leaf)) ≡ sign_line (first_device f.member) next leaf
unfolding forged_entry
signed_by_leaf s c f t next leaf = grind arith

some_items : {V : Type 0} (items : V → List ℕ) (made : Option V) → is_some made ≡ is_some (option_map items made)
some_items items made = grind arith

pub signing_is : {V : Type 0} (items : V → List ℕ) (s : Setup) (c : PlainClient) (f : Forgery) (t next : ℕ) (leaf : Result ℕ LeafFault) (made : Option V) → option_map items made ≡ forged_entry s c f t leaf
    → signed_line (first_device f.member) next (is_some made) ≡ sign_line (first_device f.member) next leaf
signing_is items s c f t next leaf made is = ap (signed_line (first_device f.member) next) (some_items items made ∙ ap is_some is) ∙ signed_by_leaf s c f t next leaf
