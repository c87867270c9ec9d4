-- Worked examples of tails.
use Rattle.std.proofs.Common.{◌≡◌, ℕ, List, [], ◌∷◌, ◌++◌, take, Ok, Err, refl}
use Rattle.sporc_store.proofs.Common.{Malformed, taken_to}
use Rattle.sporc_bytes.specs.Fields.{bytes_at, number_at}
use Rattle.sporc_store.specs.TailBytes.{record_at, records_behind, tail_behind, tail_bytes}
use Rattle.sporc_store.proofs.Examples.{document, ab, c}

-- the log as the tail began: one entry
abbrev log : List (List ℕ)
log = (120 ∷ []) ∷ []

-- the tail of "ab" and "c" behind it, "SPT1" first
abbrev tail : List ℕ
tail =
    83 ∷ 80 ∷ 84 ∷ 49 ∷ 1 ∷ 2 ∷ 3 ∷ 4 ∷ 5 ∷ 6 ∷ 7 ∷ 8 ∷ 9 ∷ 10 ∷ 11 ∷ 12 ∷ 13 ∷ 14 ∷ 15 ∷ 16
    ∷ 0 ∷ 0 ∷ 0 ∷ 2 ∷ 0 ∷ 0 ∷ 0 ∷ 2 ∷ 97 ∷ 98 ∷ 0 ∷ 0 ∷ 0 ∷ 3 ∷ 0 ∷ 0 ∷ 0 ∷ 1 ∷ 99 ∷ []

pub written_example : tail_bytes document 1 (ab ∷ c ∷ []) ≡ tail
unfolding tail_bytes
written_example = refl

pub read_example : tail_behind log document tail ≡ Ok (taken_to (ab ∷ c ∷ []) 39)
unfolding tail_behind records_behind record_at number_at bytes_at
read_example = refl

-- without its last byte: the second record counts as none
pub cut_example : tail_behind log document (take 38 tail) ≡ Ok (taken_to (ab ∷ []) 30)
unfolding tail_behind records_behind record_at number_at bytes_at
cut_example = refl

-- behind a log that was saved since
pub skipped_example : tail_behind (log ++ ab ∷ []) document tail ≡ Ok (taken_to (c ∷ []) 39)
unfolding tail_behind records_behind record_at number_at bytes_at
skipped_example = refl

-- behind one that has another entry there, and behind one that ends before the tail begins
pub other_example : tail_behind (log ++ c ∷ []) document tail ≡ Err (Malformed 28)
unfolding tail_behind records_behind record_at number_at bytes_at
other_example = refl

pub gap_example : tail_behind [] document tail ≡ Err (Malformed 20)
unfolding tail_behind records_behind record_at number_at bytes_at
gap_example = refl

-- a record twice
pub twice_example : tail_behind log document (take 30 tail ++ 0 ∷ 0 ∷ 0 ∷ 2 ∷ []) ≡ Err (Malformed 30)
unfolding tail_behind records_behind record_at number_at bytes_at
twice_example = refl

-- a head that is cut, and that of another document
pub head_example : tail_behind log document (take 19 tail) ≡ Ok (taken_to [] 0)
unfolding tail_behind
head_example = refl

pub foreign_example : tail_behind log c tail ≡ Err (Malformed 0)
unfolding tail_behind
foreign_example = refl
