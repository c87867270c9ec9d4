-- Numbers in ascending order, by recursion.
use Rattle.std.proofs.Common.{ℕ, zero, suc, ◌≡◌, ◌+◌, ◌<◌, ◌≤◌, List, [], ◌∷◌, get_or, sym, subst, arith}
use Rattle.std.specs.List.Sorted.{IsStrictlyIncreasing}

-- a list whose second number is above its first, and that increases from there
increasing_cons : (x y : ℕ) (ys : List ℕ) → x < y → IsStrictlyIncreasing (y ∷ ys) → IsStrictlyIncreasing (x ∷ y ∷ ys)
increasing_cons x y ys lt is zero h = lt
increasing_cons x y ys lt is (suc k) h =
    let one : suc k + 1 ≡ suc (k + 1) = omega arith in
    subst (λ (j : ℕ). get_or (y ∷ ys) k 0 < get_or (x ∷ y ∷ ys) j 0) (sym one) (is k (omega (arith, h)))

increasing_tail : (x y : ℕ) (ys : List ℕ) → IsStrictlyIncreasing (x ∷ y ∷ ys) → (x < y) × IsStrictlyIncreasing (y ∷ ys)
increasing_tail x y ys is = (is 0 (omega arith), later)
  where
    later : IsStrictlyIncreasing (y ∷ ys)
    later k h =
        let one : suc k + 1 ≡ suc (k + 1) = omega arith in
        subst (λ (j : ℕ). get_or (y ∷ ys) k 0 < get_or (x ∷ y ∷ ys) j 0) one (is (suc k) (omega (arith, h)))

-- each number is above the one before it, and the first is at least this
abbrev pub Ascends : ℕ → List ℕ → Type 0
Ascends least [] = Unit {0}
Ascends least (n ∷ ns) = (least ≤ n) × Ascends (n + 1) ns

pub ascends_increasing : (least : ℕ) (ns : List ℕ) → Ascends least ns → IsStrictlyIncreasing ns
ascends_increasing least (n ∷ m ∷ ns) is = increasing_cons n m ns (omega (arith, is.1.0)) (ascends_increasing (n + 1) (m ∷ ns) is.1)
ascends_increasing least ns is = λ k h. absurd (omega (arith, h))

pub increasing_ascends : (least n : ℕ) (ns : List ℕ) → least ≤ n → IsStrictlyIncreasing (n ∷ ns) → Ascends least (n ∷ ns)
increasing_ascends least n [] le is = (le, tt)
increasing_ascends least n (m ∷ ns) le is =
    let t = increasing_tail n m ns is in
    (le, increasing_ascends (n + 1) m ns (omega (arith, t.0)) t.1)

pub increasing_from_zero : (ns : List ℕ) → IsStrictlyIncreasing ns → Ascends 0 ns
increasing_from_zero [] is = tt
increasing_from_zero (n ∷ ns) is = increasing_ascends 0 n ns (omega arith) is

-- ascending from a lesser number on
pub ascends_below : (less least : ℕ) (ns : List ℕ) → less ≤ least → Ascends least ns → Ascends less ns
ascends_below less least [] le is = tt
ascends_below less least (n ∷ ns) le is = (omega (arith, le, is.0), is.1)
