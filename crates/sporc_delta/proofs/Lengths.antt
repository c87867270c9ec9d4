-- The lengths of the texts before and after a delta.
use Rattle.std.proofs.Common.{◌≡◌, ℕ, zero, suc, ◌+◌, List, [], ◌∷◌, ◌++◌, length, refl, ap, arith}
use Rattle.sporc_delta.proofs.Common.{Mark, Keep, Insert, base_len, out_len, keep_marks, remove_marks, insert_marks}
use Rattle.sporc_delta.specs.Marks.{Remove, inserted_len}

pub base_len-append : (ms ns : List Mark) → base_len (ms ++ ns) ≡ base_len ms + base_len ns
base_len-append [] ns = omega arith
base_len-append (Keep ∷ ms) ns = omega (arith, base_len-append ms ns)
base_len-append (Remove ∷ ms) ns = omega (arith, base_len-append ms ns)
base_len-append (Insert c ∷ ms) ns = base_len-append ms ns

pub out_len-append : (ms ns : List Mark) → out_len (ms ++ ns) ≡ out_len ms + out_len ns
out_len-append [] ns = omega arith
out_len-append (Keep ∷ ms) ns = omega (arith, out_len-append ms ns)
out_len-append (Remove ∷ ms) ns = out_len-append ms ns
out_len-append (Insert c ∷ ms) ns = omega (arith, out_len-append ms ns)

pub base_len-keep_marks : (n : ℕ) → base_len (keep_marks n) ≡ n
base_len-keep_marks zero = refl
base_len-keep_marks (suc n) = ap suc (base_len-keep_marks n)

pub out_len-keep_marks : (n : ℕ) → out_len (keep_marks n) ≡ n
out_len-keep_marks zero = refl
out_len-keep_marks (suc n) = ap suc (out_len-keep_marks n)

pub base_len-remove_marks : (n : ℕ) → base_len (remove_marks n) ≡ n
base_len-remove_marks zero = refl
base_len-remove_marks (suc n) = ap suc (base_len-remove_marks n)

pub out_len-remove_marks : (n : ℕ) → out_len (remove_marks n) ≡ 0
out_len-remove_marks zero = refl
out_len-remove_marks (suc n) = out_len-remove_marks n

pub base_len-insert_marks : (text : List ℕ) → base_len (insert_marks text) ≡ 0
base_len-insert_marks [] = refl
base_len-insert_marks (c ∷ text) = base_len-insert_marks text

pub out_len-insert_marks : (text : List ℕ) → out_len (insert_marks text) ≡ length text
out_len-insert_marks [] = refl
out_len-insert_marks (c ∷ text) = ap suc (out_len-insert_marks text)

-- the characters that pieces insert
pub inserted_len-append : (ms ns : List Mark) → inserted_len (ms ++ ns) ≡ inserted_len ms + inserted_len ns
inserted_len-append [] ns = omega arith
inserted_len-append (Keep ∷ ms) ns = inserted_len-append ms ns
inserted_len-append (Remove ∷ ms) ns = inserted_len-append ms ns
inserted_len-append (Insert c ∷ ms) ns = omega (arith, inserted_len-append ms ns)

pub inserted_len-keep_marks : (n : ℕ) → inserted_len (keep_marks n) ≡ 0
inserted_len-keep_marks zero = refl
inserted_len-keep_marks (suc n) = inserted_len-keep_marks n

pub inserted_len-remove_marks : (n : ℕ) → inserted_len (remove_marks n) ≡ 0
inserted_len-remove_marks zero = refl
inserted_len-remove_marks (suc n) = inserted_len-remove_marks n

pub inserted_len-insert_marks : (text : List ℕ) → inserted_len (insert_marks text) ≡ length text
inserted_len-insert_marks [] = refl
inserted_len-insert_marks (c ∷ text) = ap suc (inserted_len-insert_marks text)

-- the lengths of a delta that is given by its pieces
pub ruleset lengths = (base_len-append, out_len-append, base_len-keep_marks, out_len-keep_marks, base_len-remove_marks, out_len-remove_marks, base_len-insert_marks, out_len-insert_marks)
