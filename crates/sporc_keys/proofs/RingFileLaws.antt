-- A ring file that is read is spelled so, and one that is spelled so is read again.
use Rattle.std.proofs.Common.{◌≡◌, ℕ, ◌+◌, ◌^◌, ◌<◌, ◌≤◌, Bool, true, false, cond, eqb, List, [], ◌∷◌, ◌++◌, length, Option, Some, None, Result, Ok, Err, refl, sym, ap, subst, ◌∙◌, append_assoc, arith, lit<}
use Rattle.sporc_keys.proofs.Common.{IfOk, IfSome, codes, ◌==◌, flat_map, AllByRecursion, IsStrictlyIncreasing, w8, w16, to_be_bytes, eqb-true, nat_tests, append-nil, IsBytes, Reading, ◌>>=◌}
use Rattle.sporc_keys.proofs.Common.{fault_as, bytes_at, number_within, bind_ok, fault_as_ok, ok_is, Takes, Takes-then, wide16, bytes_takes, bytes_again, number_takes, u16_again, within_takes}
use Rattle.sporc_keys.proofs.Common.{byte_takes, u16_within_again, byte_again, increasing_from_zero, Leaves, PairKey, RingFile, whole, IsPairKey, IsRingFile, members_of, pair_bytes, GivesUnless}
use Rattle.sporc_keys.proofs.Common.{Malformed, Memory}
use Rattle.sporc_bytes.proofs.ListLaws.{AreReadFrom, IsReadFrom, ReadsAgain, ascending_again, ascending_take}
use Rattle.sporc_entry.specs.declared.limits.TheConstants.{HIGHEST_MEMBER}
use Rattle.sporc_keys.specs.declared.fault.RingFileFault.{RingFileFault}
use Rattle.sporc_keys.specs.RingFile.{epoch_key_at, epoch_key_bytes, pair_at, pairs_at, ring_file_at, ring_file_bytes, ring_file_in, ring_file_of_member}
use Rattle.sporc_keys.proofs.FileFields.{format_takes, format_again, whole_takes}

-- ---- shared keys

-- the number that a shared key is with
abbrev with_of : PairKey → ℕ
with_of p = p.member

-- a shared key that is read, from a least number on
pair_takes : (least : ℕ) (r : Reading) (x : PairKey × Reading) → 0 ≤ least → IsBytes r.rest → pair_at least r ≡ Ok x → IsReadFrom with_of pair_bytes IsPairKey least r x
unfolding pair_at
pair_takes least r x low h e =
    let a = bind_ok _ _ x e in
    let b = bind_ok _ _ x a.2 in
    let ta = within_takes least HIGHEST_MEMBER w16 (2 ^ 16) wide16 r a.0 h a.1 in
    let tb = bytes_takes 32 a.0.1 b.0 ta.0.bytes b.1 in
    let made : PairKey × Reading = (record { member = a.0.0; key = b.0.0 }, b.0.1) in
    let whole = Takes-then r (to_be_bytes w16 a.0.0) a.0.1 b.0.0 b.0.1 ta.0 tb.0 in
    let P : PairKey × Reading → Type 0 = λ y. IsReadFrom with_of pair_bytes IsPairKey least r y in
    subst P (ok_is made x b.2) (record { text = whole; above = ta.1; is = record { member = omega (arith, ta.2); key = tb.1 } })

pair_again : ReadsAgain pair_at with_of pair_bytes IsPairKey
unfolding pair_at
pair_again least p at rest is le =
    let regrouped : pair_bytes p ++ rest ≡ to_be_bytes w16 p.member ++ (p.key ++ rest) = append_assoc (to_be_bytes w16 p.member) p.key rest in (
      at + 2 + 32,
      ap (λ (bs : List ℕ). pair_at least (record { rest = bs; at = at })) regrouped ∙ rw (
        u16_within_again least HIGHEST_MEMBER p.member at (p.key ++ rest) le (omega (arith, is.member)) is.member,
        bytes_again 32 (at + 2) p.key rest is.key,
      ) refl,
    )

pairs_take : (n : ℕ) (r : Reading) (x : List PairKey × Reading) → IsBytes r.rest → pairs_at n r ≡ Ok x → AreReadFrom with_of pair_bytes IsPairKey n r x
unfolding pairs_at
pairs_take n r x h e = ascending_take pair_at with_of pair_bytes IsPairKey 0 pair_takes n r x h e

-- the shared keys of all bytes that are left
pairs_again : (ps : List PairKey) (at : ℕ) → AllByRecursion IsPairKey ps → IsStrictlyIncreasing (members_of ps)
    → (after : ℕ) × (pairs_at (length ps) (record { rest = flat_map pair_bytes ps; at = at }) ≡ Ok (ps, record { rest = []; at = after }))
unfolding pairs_at
pairs_again ps at is asc = ascending_again pair_at with_of pair_bytes IsPairKey pair_again ps 0 at is (increasing_from_zero (members_of ps) asc)

-- ---- the key of epoch 0

abbrev IsEpochKey : Option (List ℕ) → Type 0
IsEpochKey o = IfSome o (λ key. length key ≡ 32)

then_one : (n : ℕ) → n ≤ 1 → eqb n 0 ≡ false → n ≡ 1
then_one n le is = grind (arith, nat_tests)

epoch_key_takes : (r : Reading) (x : Option (List ℕ) × Reading) → IsBytes r.rest → epoch_key_at r ≡ Ok x → Takes r (epoch_key_bytes x.0) x.1 × IsEpochKey x.0
unfolding epoch_key_at
epoch_key_takes r x h e =
    let a = bind_ok (number_within 0 1 w8 r) (λ has. cond (has.0 == 0) (Ok (None, has.1)) (bytes_at 32 has.1 >>= λ key. Ok (Some key.0, key.1))) x e in
    let t = byte_takes 0 1 r a.0 (lit< tt) h a.1 in
    go a.0 t.0 t.2 (a.0.0 == 0) refl a.2
  where
    Found : Option (List ℕ) × Reading → Type 0
    Found y = Takes r (epoch_key_bytes y.0) y.1 × IsEpochKey y.0

    go : (has : ℕ × Reading) → Takes r (has.0 ∷ []) has.1 → has.0 ≤ 1 → (b : Bool) → (has.0 == 0) ≡ b
        → cond b (Ok (None, has.1)) (bytes_at 32 has.1 >>= λ key. Ok (Some key.0, key.1)) ≡ Ok x → Found x
    go has t le true is e =
        let none : has.0 ≡ 0 = eqb-true _ _ is in
        let P : ℕ → Type 0 = λ n. Takes r (n ∷ []) has.1 in
        subst Found (ok_is (None, has.1) x e) (subst P none t, tt)
    go has t le false is e =
        let k = bind_ok (bytes_at 32 has.1) (λ key. Ok (Some key.0, key.1)) x e in
        let tk = bytes_takes 32 has.1 k.0 t.bytes k.1 in
        let one : has.0 ≡ 1 = then_one has.0 le is in
        let P : ℕ → Type 0 = λ n. Takes r (n ∷ []) has.1 in
        subst Found (ok_is (Some k.0.0, k.0.1) x k.2) (Takes-then r (1 ∷ []) has.1 k.0.0 k.0.1 (subst P one t) tk.0, tk.1)

epoch_key_again : (o : Option (List ℕ)) (at : ℕ) (rest : List ℕ) → IsEpochKey o
    → (after : ℕ) × (epoch_key_at (record { rest = epoch_key_bytes o ++ rest; at = at }) ≡ Ok (o, record { rest = rest; at = after }))
unfolding epoch_key_at
epoch_key_again None at rest is = (at + 1, rw (byte_again 0 1 0 at rest (omega arith) (omega arith) (omega arith)) refl)
epoch_key_again (Some key) at rest is =
    (at + 1 + 32, rw (byte_again 0 1 1 at (key ++ rest) (omega arith) (omega arith) (omega arith), bytes_again 32 (at + 1) key rest is) refl)

-- ---- files

-- the bytes of a ring file, and those after them
abbrev ring_file_text : RingFile → List ℕ → List ℕ
ring_file_text f rest = codes "SPR1" ++ (to_be_bytes w16 f.member ++ (epoch_key_bytes f.epoch_key ++ (to_be_bytes w16 (length f.pairs) ++ (flat_map pair_bytes f.pairs ++ rest))))

ring_file_parts : (f : RingFile) (r0 r1 r2 r3 r4 r5 : List ℕ) → r0 ≡ codes "SPR1" ++ r1 → r1 ≡ to_be_bytes w16 f.member ++ r2 → r2 ≡ epoch_key_bytes f.epoch_key ++ r3
    → r3 ≡ to_be_bytes w16 (length f.pairs) ++ r4 → r4 ≡ flat_map pair_bytes f.pairs ++ r5 → r0 ≡ ring_file_text f r5
ring_file_parts f r0 r1 r2 r3 r4 r5 e0 e1 e2 e3 e4 =
    e0 ∙ ap (λ (t : List ℕ). codes "SPR1" ++ t) (e1 ∙ ap (λ (t : List ℕ). to_be_bytes w16 f.member ++ t) (e2 ∙ ap (λ (t : List ℕ). epoch_key_bytes f.epoch_key ++ t)
    (e3 ∙ ap (λ (t : List ℕ). to_be_bytes w16 (length f.pairs) ++ t) e4)))

-- a ring file that is read, of a member from low to high
pub record IsFileTaken (low high : ℕ) (r : Reading) (x : RingFile × Reading) : Type 0 where
  pub text : Leaves r (ring_file_text x.0) x.1
  pub file : IsRingFile x.0
  pub above : low ≤ x.0.member
  pub below : x.0.member ≤ high

fields_take : (low high : ℕ) (r : Reading) (x : RingFile × Reading) → high < 2 ^ 16 → IsBytes r.rest → ring_file_at low high r ≡ Ok x → IsFileTaken low high r x
unfolding ring_file_at
fields_take low high r x small h e =
    let f = bind_ok _ _ x e in
    let m = bind_ok _ _ x f.2 in
    let k = bind_ok _ _ x m.2 in
    let n = bind_ok _ _ x k.2 in
    let p = bind_ok _ _ x n.2 in
    let tf = format_takes (codes "SPR1") r f.0 h f.1 in
    let tm = within_takes low high w16 (2 ^ 16) wide16 f.0 m.0 tf.bytes m.1 in
    let tk = epoch_key_takes m.0.1 k.0 tm.0.bytes k.1 in
    let tn = number_takes w16 (2 ^ 16) wide16 k.0.1 n.0 tk.0.bytes n.1 in
    let tp = pairs_take n.0.0 n.0.1 p.0 tn.0.bytes p.1 in
    let file : RingFile = record { member = m.0.0; epoch_key = k.0.0; pairs = p.0.0 } in
    let made : RingFile × Reading = (file, p.0.1) in
    let counted : k.0.1.rest ≡ to_be_bytes w16 (length p.0.0) ++ n.0.1.rest = tn.0.parts ∙ ap (λ (c : ℕ). to_be_bytes w16 c ++ n.0.1.rest) (sym tp.count) in
    let P : RingFile × Reading → Type 0 = λ y. IsFileTaken low high r y in
    subst P {x = made} {y = x} (ok_is made x p.2) (record {
      text = record { parts = ring_file_parts file r.rest f.0.rest m.0.1.rest k.0.1.rest n.0.1.rest p.0.1.rest tf.parts tm.0.parts tk.0.parts counted tp.text.parts; bytes = tp.text.bytes };
      file = record { member = omega (arith, small, tm.2); epoch_key = tk.1; count = omega (arith, tp.count, tn.1); pairs = tp.each; ascending = tp.ascending };
      above = tm.1;
      below = tm.2;
    })

-- the bytes of a ring file with nothing after them
text_is : (f : RingFile) (rest : List ℕ) → rest ≡ [] → ring_file_text f rest ≡ ring_file_bytes f
unfolding ring_file_bytes
text_is f rest nothing =
    ap (λ (t : List ℕ). codes "SPR1" ++ (to_be_bytes w16 f.member ++ (epoch_key_bytes f.epoch_key ++ (to_be_bytes w16 (length f.pairs) ++ t))))
    (ap (λ (t : List ℕ). flat_map pair_bytes f.pairs ++ t) nothing ∙ append-nil (flat_map pair_bytes f.pairs))

-- what is read from all of some bytes, of a member from low to high
pub file_takes : (low high : ℕ) (bytes : List ℕ) (f : RingFile) → high < 2 ^ 16 → IsBytes bytes → whole (ring_file_at low high) bytes ≡ Ok f
    → IsRingFile f × (low ≤ f.member) × (f.member ≤ high) × (bytes ≡ ring_file_bytes f)
file_takes low high bytes f small h e =
    let w = whole_takes (ring_file_at low high) bytes f e in
    let t = fields_take low high (record { rest = bytes; at = 0 }) (f, w.0) small h w.1 in
    (t.file, t.above, t.below, t.text.parts ∙ text_is f w.0.rest w.2)

pub file_again : (low high : ℕ) (f : RingFile) → IsRingFile f → low ≤ f.member → f.member ≤ high → whole (ring_file_at low high) (ring_file_bytes f) ≡ Ok f
unfolding ring_file_at ring_file_bytes
file_again low high f is le ge =
    let pairs : List ℕ = flat_map pair_bytes f.pairs in
    let counted : List ℕ = to_be_bytes w16 (length f.pairs) ++ pairs in
    let key = epoch_key_again f.epoch_key 6 counted is.epoch_key in
    let read = pairs_again f.pairs (key.0 + 2) is.pairs is.ascending in
    rw (
      format_again (codes "SPR1") 0 (to_be_bytes w16 f.member ++ (epoch_key_bytes f.epoch_key ++ counted)) refl,
      u16_within_again low high f.member 4 (epoch_key_bytes f.epoch_key ++ counted) le ge is.member,
      key.1,
      u16_again (length f.pairs) key.0 pairs is.count,
      read.1,
    ) refl

pub ring_file_takes : (bytes : List ℕ) (f : RingFile) → IsBytes bytes → ring_file_in bytes ≡ Ok f → IsRingFile f × (bytes ≡ ring_file_bytes f)
ring_file_takes bytes f h e = let t = file_takes 0 HIGHEST_MEMBER bytes f (omega arith) h e in (t.0, t.3)

pub ring_file_again : (f : RingFile) → IsRingFile f → ring_file_in (ring_file_bytes f) ≡ Ok f
ring_file_again f is = file_again 0 HIGHEST_MEMBER f is (omega arith) (omega (arith, is.member))

-- the file of one member
of_member_takes : (member : ℕ) (bytes : List ℕ) (f : RingFile) → member < 2 ^ 16 → IsBytes bytes → ring_file_of_member member bytes ≡ Ok f
    → IsRingFile f × (f.member ≡ member) × (bytes ≡ ring_file_bytes f)
of_member_takes member bytes f small h e = let t = file_takes member member bytes f small h e in (t.0, omega (arith, t.1, t.2), t.3)

-- what a call that read so found
pub ring_file_found : (bytes : List ℕ) (r : Result RingFile RingFileFault) → IsBytes bytes → GivesUnless Memory (λ f. f) r (fault_as Malformed (ring_file_in bytes)) → IfOk r (λ f. IsRingFile f × (bytes ≡ ring_file_bytes f))
ring_file_found bytes (Ok f) h read = ring_file_takes bytes f h (fault_as_ok Malformed (ring_file_in bytes) f read)
ring_file_found bytes (Err fault) h read = tt

pub of_member_found : (member : ℕ) (bytes : List ℕ) (r : Result RingFile RingFileFault) → member < 2 ^ 16 → IsBytes bytes → GivesUnless Memory (λ f. f) r (fault_as Malformed (ring_file_of_member member bytes))
    → IfOk r (λ f. IsRingFile f × (f.member ≡ member) × (bytes ≡ ring_file_bytes f))
of_member_found member bytes (Ok f) small h read = of_member_takes member bytes f small h (fault_as_ok Malformed (ring_file_of_member member bytes) f read)
of_member_found member bytes (Err fault) small h read = tt
