-- A field of a file that is read is spelled by the bytes that it took, and a spelled field is read again.
use Rattle.std.proofs.Common.{◌≡◌, ℕ, ◌+◌, ◌^◌, Bool, true, false, cond, List, [], ◌∷◌, ◌++◌, length, inl, inr, Some, Result, Ok, refl, sym, subst, arith}
use Rattle.sporc_keys.proofs.Common.{bytes_eq, find, ◌==◌, w32, to_be_bytes, eqb-true, ots_code_of, height_of, lms_code_of, IsBytes, Reading, ◌>>=◌, bytes_at, number_at, only_if, present, end_at}
use Rattle.sporc_keys.proofs.Common.{bind_ok, ok_is, only_if_ok, Takes, wide32, bytes_takes, bytes_again, number_takes, u32_again, end_takes, present_ok, whole, bytes_eq-Decides, W4, W8, H5, H10, H15}
use Rattle.sporc_keys.proofs.Common.{AllByRecursion, found_passes}
use Rattle.lms_ots.specs.declared.ots_type.OtsType.{OtsType}
use Rattle.lms_tree.specs.declared.lms_type.LmsType.{LmsType}
use Rattle.lms_leaf.specs.LeafFile.{IsLeafHeight}
use Rattle.sporc_keys.specs.Fields.{format_at}
use Rattle.sporc_keys.specs.KeyFile.{IsKeyWidth, lms_type_at, ots_type_at}

-- ---- formats

pub format_takes : (format : List ℕ) (r x : Reading) → IsBytes r.rest → format_at format r ≡ Ok x → Takes r format x
unfolding format_at
format_takes format r x h e =
    let a = bind_ok (bytes_at 4 r) (λ bytes. only_if (bytes_eq bytes.0 format) r.at bytes.1) x e in
    let g = only_if_ok (bytes_eq a.0.0 format) r.at a.0.1 x a.2 in
    let t = bytes_takes 4 r a.0 h a.1 in
    let same : a.0.0 ≡ format = (bytes_eq-Decides a.0.0 format).0 g.0 in
    let P : List ℕ → Type 0 = λ text. Takes r text a.0.1 in
    let Q : Reading → Type 0 = λ y. Takes r format y in
    subst Q g.1 (subst P same t.0)

pub format_again : (format : List ℕ) (at : ℕ) (rest : List ℕ) → length format ≡ 4 → format_at format (record { rest = format ++ rest; at = at }) ≡ Ok (record { rest = rest; at = at + 4 })
unfolding format_at
format_again format at rest len = rw (bytes_again 4 at format rest len, (bytes_eq-Decides format format).1 refl) refl

-- ---- types

found_in : {X : Type 0} (P : X → Type 0) (test : X → Bool) (xs : List X) (x : X) → AllByRecursion P xs → find test xs ≡ Some x → P x
found_in P test [] x all e = absurd cc
found_in P test (y ∷ ys) x all e = go (test y) (found_in P test ys x all.1) e
  where
    go : (b : Bool) → (find test ys ≡ Some x → P x) → cond b (Some y) (find test ys) ≡ Some x → P x
    go true later e = let same : y ≡ x = cc in subst P same all.0
    go false later e = later e

lms_found : (code : ℕ) (lms : LmsType) → find (λ t. lms_code_of t == code) (H5 ∷ H10 ∷ H15 ∷ []) ≡ Some lms → (lms_code_of lms ≡ code) × IsLeafHeight (height_of lms)
lms_found code lms e =
    let known = found_in (λ t. IsLeafHeight (height_of t)) (λ t. lms_code_of t == code) (H5 ∷ H10 ∷ H15 ∷ []) lms (inl refl, (inr (inl refl), (inr (inr refl), tt))) e in
    (eqb-true _ _ (found_passes (λ t. lms_code_of t == code) (H5 ∷ H10 ∷ H15 ∷ []) lms e), known)

ots_found : (code : ℕ) (ots : OtsType) → find (λ t. ots_code_of t == code) (W4 ∷ W8 ∷ []) ≡ Some ots → (ots_code_of ots ≡ code) × IsKeyWidth ots
ots_found code ots e =
    let known = found_in IsKeyWidth (λ t. ots_code_of t == code) (W4 ∷ W8 ∷ []) ots (inl refl, (inr refl, tt)) e in
    (eqb-true _ _ (found_passes (λ t. ots_code_of t == code) (W4 ∷ W8 ∷ []) ots e), known)

pub lms_takes : (r : Reading) (x : LmsType × Reading) → IsBytes r.rest → lms_type_at r ≡ Ok x → Takes r (to_be_bytes w32 (lms_code_of x.0)) x.1 × IsLeafHeight (height_of x.0)
unfolding lms_type_at
lms_takes r x h e =
    let a = bind_ok (number_at w32 r) (λ code. present r.at (find (λ t. lms_code_of t == code.0) (H5 ∷ H10 ∷ H15 ∷ [])) >>= λ lms. Ok (lms, code.1)) x e in
    let b = bind_ok (present r.at (find (λ t. lms_code_of t == a.0.0) (H5 ∷ H10 ∷ H15 ∷ []))) (λ lms. Ok (lms, a.0.1)) x a.2 in
    let t = number_takes w32 (2 ^ 32) wide32 r a.0 h a.1 in
    let f = lms_found a.0.0 b.0 (present_ok r.at (find (λ t. lms_code_of t == a.0.0) (H5 ∷ H10 ∷ H15 ∷ [])) b.0 b.1) in
    let P : ℕ → Type 0 = λ code. Takes r (to_be_bytes w32 code) a.0.1 in
    let Q : LmsType × Reading → Type 0 = λ y. Takes r (to_be_bytes w32 (lms_code_of y.0)) y.1 × IsLeafHeight (height_of y.0) in
    subst Q (ok_is (b.0, a.0.1) x b.2) (subst P (sym f.0) t.0, f.1)

pub ots_takes : (r : Reading) (x : OtsType × Reading) → IsBytes r.rest → ots_type_at r ≡ Ok x → Takes r (to_be_bytes w32 (ots_code_of x.0)) x.1 × IsKeyWidth x.0
unfolding ots_type_at
ots_takes r x h e =
    let a = bind_ok (number_at w32 r) (λ code. present r.at (find (λ t. ots_code_of t == code.0) (W4 ∷ W8 ∷ [])) >>= λ ots. Ok (ots, code.1)) x e in
    let b = bind_ok (present r.at (find (λ t. ots_code_of t == a.0.0) (W4 ∷ W8 ∷ []))) (λ ots. Ok (ots, a.0.1)) x a.2 in
    let t = number_takes w32 (2 ^ 32) wide32 r a.0 h a.1 in
    let f = ots_found a.0.0 b.0 (present_ok r.at (find (λ t. ots_code_of t == a.0.0) (W4 ∷ W8 ∷ [])) b.0 b.1) in
    let P : ℕ → Type 0 = λ code. Takes r (to_be_bytes w32 code) a.0.1 in
    let Q : OtsType × Reading → Type 0 = λ y. Takes r (to_be_bytes w32 (ots_code_of y.0)) y.1 × IsKeyWidth y.0 in
    subst Q (ok_is (b.0, a.0.1) x b.2) (subst P (sym f.0) t.0, f.1)

pub lms_again : (lms : LmsType) (at : ℕ) (rest : List ℕ) → IsLeafHeight (height_of lms)
    → lms_type_at (record { rest = to_be_bytes w32 (lms_code_of lms) ++ rest; at = at }) ≡ Ok (lms, record { rest = rest; at = at + 4 })
unfolding lms_type_at
lms_again H5 at rest is = rw (u32_again 5 at rest (omega arith)) refl
lms_again H10 at rest is = rw (u32_again 6 at rest (omega arith)) refl
lms_again H15 at rest is = rw (u32_again 7 at rest (omega arith)) refl
lms_again lms at rest (inl e) = absurd (omega (arith, e))
lms_again lms at rest (inr (inl e)) = absurd (omega (arith, e))
lms_again lms at rest (inr (inr e)) = absurd (omega (arith, e))

pub ots_again : (ots : OtsType) (at : ℕ) (rest : List ℕ) → IsKeyWidth ots
    → ots_type_at (record { rest = to_be_bytes w32 (ots_code_of ots) ++ rest; at = at }) ≡ Ok (ots, record { rest = rest; at = at + 4 })
unfolding ots_type_at
ots_again W4 at rest is = rw (u32_again 3 at rest (omega arith)) refl
ots_again W8 at rest is = rw (u32_again 4 at rest (omega arith)) refl
ots_again ots at rest (inl e) = absurd cc
ots_again ots at rest (inr e) = absurd cc

-- ---- all of some bytes

-- what is read from all of some bytes is spelled by them
pub whole_takes : {A : Type 0} (read : Reading → Result (A × Reading) ℕ) (bytes : List ℕ) (x : A) → whole read bytes ≡ Ok x
    → (end : Reading) × (read (record { rest = bytes; at = 0 }) ≡ Ok (x, end)) × (end.rest ≡ [])
whole_takes {A} read bytes x e =
    let a = bind_ok (read (record { rest = bytes; at = 0 })) (λ value. end_at value.1 >>= λ end. Ok value.0) x e in
    let b = bind_ok (end_at a.0.1) (λ end. Ok a.0.0) x a.2 in
    let P : A → Type 0 = λ y. read (record { rest = bytes; at = 0 }) ≡ Ok (y, a.0.1) in
    (a.0.1, subst P (ok_is a.0.0 x b.2) a.1, end_takes a.0.1 b.1)
