-- Values that are read one after another are spelled by their bytes one after another, and are read again.
use Rattle.std.proofs.Common.{◌≡◌, ℕ, zero, suc, ◌+◌, ◌≤◌, List, [], ◌∷◌, ◌++◌, length, map, Result, Ok, refl, sym, ap, subst, ◌∙◌, append_assoc, arith}
use Rattle.std.specs.List.{flat_map, AllByRecursion}
use Rattle.std.specs.List.Sorted.{IsStrictlyIncreasing}
use Rattle.std.proofs.lemmas.List.{append-nil}
use Rattle.std.proofs.lemmas.List.Concat.{flat_map-cons}
use Rattle.sporc_base.specs.Bytes.{IsBytes}
use Rattle.sporc_bytes.specs.Fields.{Reading, ◌>>=◌, ascending_at, next_of, values_at}
use Rattle.sporc_bytes.proofs.Ascending.{Ascends, ascends_increasing}
use Rattle.sporc_bytes.proofs.Fields.{bind_ok, ok_is, Takes, Takes-then, Takes-nothing}

-- the bytes of a first value, and those of the others and what follows
regrouped : {A : Type 0} (spell : A → List ℕ) (a : A) (others : List A) (rest : List ℕ) → flat_map spell (a ∷ others) ++ rest ≡ spell a ++ (flat_map spell others ++ rest)
regrouped spell a others rest = ap (λ (bs : List ℕ). bs ++ rest) (flat_map-cons spell a others) ∙ append_assoc (spell a) (flat_map spell others) rest

-- ---- values

-- values that were read
pub record AreRead {A : Type 0} (spell : A → List ℕ) (Is : A → Type 0) (n : ℕ) (r : Reading) (x : List A × Reading) : Type 0 where
  pub text : Takes r (flat_map spell x.0) x.1
  pub count : length x.0 ≡ n
  pub each : AllByRecursion Is x.0

pub values_take : {A : Type 0} (read : Reading → Result (A × Reading) ℕ) (spell : A → List ℕ) (Is : A → Type 0)
    → ((r : Reading) (x : A × Reading) → IsBytes r.rest → read r ≡ Ok x → Takes r (spell x.0) x.1 × Is x.0)
    → (n : ℕ) (r : Reading) (x : List A × Reading) → IsBytes r.rest → values_at read n r ≡ Ok x → AreRead spell Is n r x
unfolding values_at
values_take {A} read spell Is one zero r x h e =
    subst (AreRead spell Is 0 r) (ok_is ([], r) x e) (record { text = Takes-nothing r h; count = refl; each = tt })
values_take {A} read spell Is one (suc n) r x h e =
    let a = bind_ok (read r) (λ first. values_at read n first.1 >>= λ others. Ok (first.0 ∷ others.0, others.1)) x e in
    let b = bind_ok (values_at read n a.0.1) (λ others. Ok (a.0.0 ∷ others.0, others.1)) x a.2 in
    let first = one r a.0 h a.1 in
    let second = values_take read spell Is one n a.0.1 b.0 first.0.bytes b.1 in
    let both : Takes r (spell a.0.0 ++ flat_map spell b.0.0) b.0.1 = Takes-then r (spell a.0.0) a.0.1 (flat_map spell b.0.0) b.0.1 first.0 second.text in
    let made : List A × Reading = (a.0.0 ∷ b.0.0, b.0.1) in
    subst (AreRead spell Is (suc n) r) (ok_is made x b.2) (record { text = rw flat_map-cons both; count = ap suc second.count; each = (first.1, second.each) })

pub values_again : {A : Type 0} (read : Reading → Result (A × Reading) ℕ) (spell : A → List ℕ) (Is : A → Type 0)
    → ((a : A) (at : ℕ) (rest : List ℕ) → Is a → (after : ℕ) × (read (record { rest = spell a ++ rest; at = at }) ≡ Ok (a, record { rest = rest; at = after })))
    → (xs : List A) (at : ℕ) (rest : List ℕ) → AllByRecursion Is xs
    → (after : ℕ) × (values_at read (length xs) (record { rest = flat_map spell xs ++ rest; at = at }) ≡ Ok (xs, record { rest = rest; at = after }))
unfolding values_at
values_again read spell Is one [] at rest is = (at, refl)
values_again read spell Is one (a ∷ xs) at rest is =
    let first = one a at (flat_map spell xs ++ rest) is.0 in
    let others = values_again read spell Is one xs first.0 rest is.1 in
    (others.0, ap (λ (bs : List ℕ). values_at read (suc (length xs)) (record { rest = bs; at = at })) (regrouped spell a xs rest) ∙ rw (first.1, others.1) refl)

-- ---- values in ascending order of their numbers, each read from a least number on

-- a value that was read from a least number on
pub record IsReadFrom {A : Type 0} (number : A → ℕ) (spell : A → List ℕ) (Is : A → Type 0) (least : ℕ) (r : Reading) (x : A × Reading) : Type 0 where
  pub text : Takes r (spell x.0) x.1
  pub above : least ≤ number x.0
  pub is : Is x.0

-- values that were read in ascending order, by recursion
record Ascend {A : Type 0} (number : A → ℕ) (spell : A → List ℕ) (Is : A → Type 0) (n least : ℕ) (r : Reading) (x : List A × (ℕ × Reading)) : Type 0 where
  text : Takes r (flat_map spell x.0) x.1.1
  count : length x.0 ≡ n
  each : AllByRecursion Is x.0
  ascending : Ascends least (map number x.0)

-- values that were read in ascending order
pub record AreReadFrom {A : Type 0} (number : A → ℕ) (spell : A → List ℕ) (Is : A → Type 0) (n : ℕ) (r : Reading) (x : List A × Reading) : Type 0 where
  pub text : Takes r (flat_map spell x.0) x.1
  pub count : length x.0 ≡ n
  pub each : AllByRecursion Is x.0
  pub ascending : IsStrictlyIncreasing (map number x.0)

-- from a least number on, which is at least the lowest, such a value is read
abbrev pub ReadsFrom : {A : Type 0} → (ℕ → Reading → Result (A × Reading) ℕ) → (A → ℕ) → (A → List ℕ) → (A → Type 0) → ℕ → Type 0
ReadsFrom {A} read number spell Is lowest = (least : ℕ) (r : Reading) (x : A × Reading) → lowest ≤ least → IsBytes r.rest → read least r ≡ Ok x → IsReadFrom number spell Is least r x

each_takes : {A : Type 0} (read : ℕ → Reading → Result (A × Reading) ℕ) (number : A → ℕ) (spell : A → List ℕ) (Is : A → Type 0) (lowest : ℕ) → ReadsFrom read number spell Is lowest
    → (n least : ℕ) (r : Reading) (x : List A × (ℕ × Reading)) → lowest ≤ least → IsBytes r.rest → values_at (next_of read number) n (least, r) ≡ Ok x → Ascend number spell Is n least r x
unfolding values_at next_of
each_takes {A} read number spell Is lowest one zero least r x low h e =
    subst (Ascend number spell Is 0 least r) (ok_is ([], (least, r)) x e) (record { text = Takes-nothing r h; count = refl; each = tt; ascending = tt })
each_takes {A} read number spell Is lowest one (suc n) least r x low h e =
    let next = next_of read number in
    let a = bind_ok (next (least, r)) (λ first. values_at next n first.1 >>= λ others. Ok (first.0 ∷ others.0, others.1)) x e in
    let v = bind_ok (read least r) (λ value. Ok (value.0, (number value.0 + 1, value.1))) a.0 a.1 in
    let same : (v.0.0, (number v.0.0 + 1, v.0.1)) ≡ a.0 = ok_is (v.0.0, (number v.0.0 + 1, v.0.1)) a.0 v.2 in
    let first = one least r v.0 low h v.1 in
    let P : A × (ℕ × Reading) → Type 0 = λ y. (values_at next n y.1 >>= λ others. Ok (y.0 ∷ others.0, others.1)) ≡ Ok x in
    let later : (values_at next n (number v.0.0 + 1, v.0.1) >>= λ others. Ok (v.0.0 ∷ others.0, others.1)) ≡ Ok x = subst P (sym same) a.2 in
    let b = bind_ok (values_at next n (number v.0.0 + 1, v.0.1)) (λ others. Ok (v.0.0 ∷ others.0, others.1)) x later in
    let second = each_takes read number spell Is lowest one n (number v.0.0 + 1) v.0.1 b.0 (omega (arith, low, first.above)) first.text.bytes b.1 in
    let both : Takes r (spell v.0.0 ++ flat_map spell b.0.0) b.0.1.1 = Takes-then r (spell v.0.0) v.0.1 (flat_map spell b.0.0) b.0.1.1 first.text second.text in
    let Q : List A × (ℕ × Reading) → Type 0 = λ y. Ascend number spell Is (suc n) least r y in
    let made : List A × (ℕ × Reading) = (v.0.0 ∷ b.0.0, b.0.1) in
    subst Q (ok_is made x b.2) (record { text = rw flat_map-cons both; count = ap suc second.count; each = (first.is, second.each); ascending = (first.above, second.ascending) })

pub ascending_take : {A : Type 0} (read : ℕ → Reading → Result (A × Reading) ℕ) (number : A → ℕ) (spell : A → List ℕ) (Is : A → Type 0) (first : ℕ) → ReadsFrom read number spell Is first
    → (n : ℕ) (r : Reading) (x : List A × Reading) → IsBytes r.rest → ascending_at read number first n r ≡ Ok x → AreReadFrom number spell Is n r x
unfolding ascending_at
ascending_take {A} read number spell Is first one n r x h e =
    let l = bind_ok (values_at (next_of read number) n (first, r)) (λ values. Ok (values.0, values.1.1)) x e in
    let t = each_takes read number spell Is first one n first r l.0 (omega arith) h l.1 in
    let P : List A × Reading → Type 0 = λ y. AreReadFrom number spell Is n r y in
    subst P (ok_is (l.0.0, l.0.1.1) x l.2) (record { text = t.text; count = t.count; each = t.each; ascending = ascends_increasing first (map number l.0.0) t.ascending })

-- from a least number on, the bytes of a value are read again
abbrev pub ReadsAgain : {A : Type 0} → (ℕ → Reading → Result (A × Reading) ℕ) → (A → ℕ) → (A → List ℕ) → (A → Type 0) → Type 0
ReadsAgain {A} read number spell Is = (least : ℕ) (a : A) (at : ℕ) (rest : List ℕ) → Is a → least ≤ number a
    → (after : ℕ) × (read least (record { rest = spell a ++ rest; at = at }) ≡ Ok (a, record { rest = rest; at = after }))

each_again : {A : Type 0} (read : ℕ → Reading → Result (A × Reading) ℕ) (number : A → ℕ) (spell : A → List ℕ) (Is : A → Type 0) → ReadsAgain read number spell Is
    → (xs : List A) (least at : ℕ) (rest : List ℕ) → AllByRecursion Is xs → Ascends least (map number xs)
    → (next after : ℕ) × (values_at (next_of read number) (length xs) (least, record { rest = flat_map spell xs ++ rest; at = at }) ≡ Ok (xs, (next, record { rest = rest; at = after })))
unfolding values_at next_of
each_again read number spell Is one [] least at rest is asc = (least, at, refl)
each_again read number spell Is one (a ∷ xs) least at rest is asc =
    let first = one least a at (flat_map spell xs ++ rest) is.0 asc.0 in
    let others = each_again read number spell Is one xs (number a + 1) first.0 rest is.1 asc.1 in (
      others.0,
      others.1,
      ap (λ (bs : List ℕ). values_at (next_of read number) (suc (length xs)) (least, record { rest = bs; at = at })) (regrouped spell a xs rest) ∙ rw (first.1, others.2) refl,
    )

-- the bytes of values, and no more
pub ascending_again : {A : Type 0} (read : ℕ → Reading → Result (A × Reading) ℕ) (number : A → ℕ) (spell : A → List ℕ) (Is : A → Type 0) → ReadsAgain read number spell Is
    → (xs : List A) (first at : ℕ) → AllByRecursion Is xs → Ascends first (map number xs)
    → (after : ℕ) × (ascending_at read number first (length xs) (record { rest = flat_map spell xs; at = at }) ≡ Ok (xs, record { rest = []; at = after }))
unfolding ascending_at
ascending_again read number spell Is one xs first at is asc =
    let t = each_again read number spell Is one xs first at [] is asc in
    let e : values_at (next_of read number) (length xs) (first, record { rest = flat_map spell xs; at = at }) ≡ Ok (xs, (t.0, record { rest = []; at = t.1 })) =
    ap (λ (bs : List ℕ). values_at (next_of read number) (length xs) (first, record { rest = bs; at = at })) (sym (append-nil (flat_map spell xs))) ∙ t.2 in
    (t.1, rw e refl)
