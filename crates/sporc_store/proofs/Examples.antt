-- Worked examples of the definitions.
use Rattle.std.proofs.Common.{◌≡◌, ℕ, List, [], ◌∷◌, ◌++◌, take, refl}
use Rattle.sporc_store.proofs.Common.{Genesis, End, Foreign, Cut, Refused, read_to, an_order, loaded}
use Rattle.sporc_bytes.specs.Fields.{bytes_at, number_at, counted_at, number_within}
use Rattle.sporc_entry.specs.Entry.{entry_of, header_at}
use Rattle.sporc_head.specs.declared.refusal.Refusal.TheVariants.{Malformed}
use Rattle.sporc_head.specs.HeadChecks.{head_fault}
use Rattle.sporc_store.specs.SavedFile.{entries_at, count_at, opened, saved_in, saved_bytes}
use Rattle.sporc_store.specs.Loading.{fault_behind, accepted_behind}

-- a document, and two entries: "ab" and "c"
abbrev pub document : List ℕ
document = 1 ∷ 2 ∷ 3 ∷ 4 ∷ 5 ∷ 6 ∷ 7 ∷ 8 ∷ 9 ∷ 10 ∷ 11 ∷ 12 ∷ 13 ∷ 14 ∷ 15 ∷ 16 ∷ []

abbrev pub ab : List ℕ
ab = 97 ∷ 98 ∷ []

abbrev pub c : List ℕ
c = 99 ∷ []

-- their file, "SPH1" first
abbrev file : List ℕ
file = 83 ∷ 80 ∷ 72 ∷ 49 ∷ 1 ∷ 2 ∷ 3 ∷ 4 ∷ 5 ∷ 6 ∷ 7 ∷ 8 ∷ 9 ∷ 10 ∷ 11 ∷ 12 ∷ 13 ∷ 14 ∷ 15 ∷ 16 ∷ 0 ∷ 0 ∷ 0 ∷ 2 ∷ 0 ∷ 0 ∷ 0 ∷ 2 ∷ 97 ∷ 98 ∷ 0 ∷ 0 ∷ 0 ∷ 1 ∷ 99 ∷ []

pub saved_example : saved_bytes document (ab ∷ c ∷ []) ≡ file
unfolding saved_bytes
saved_example = refl

pub read_example : saved_in document file ≡ read_to (ab ∷ c ∷ []) End
unfolding saved_in opened count_at entries_at counted_at number_at bytes_at
read_example = refl

-- without its last byte: the bytes of the second entry, from place 34 on, are cut short
pub cut_example : saved_in document (take 34 file) ≡ read_to (ab ∷ []) (Cut 34)
unfolding saved_in opened count_at entries_at counted_at number_at bytes_at
cut_example = refl

-- one byte more
pub longer_example : saved_in document (file ++ 0 ∷ []) ≡ read_to (ab ∷ c ∷ []) (Cut 35)
unfolding saved_in opened count_at entries_at counted_at number_at bytes_at
longer_example = refl

-- the file of another document, and a file without its document
pub foreign_example : saved_in c file ≡ read_to [] Foreign
unfolding saved_in opened
foreign_example = refl

pub headless_example : saved_in document (take 19 file) ≡ read_to [] Foreign
unfolding saved_in opened
headless_example = refl

-- a number of entries above the limit
pub many_example : saved_in document (take 20 file ++ 0 ∷ 0 ∷ 64 ∷ 1 ∷ []) ≡ read_to [] (Cut 20)
unfolding saved_in opened count_at number_at bytes_at
many_example = refl

-- neither entry is one that an order takes: no entry begins with the byte 97
pub refused_example : (genesis : Genesis) → loaded (an_order genesis) document file ≡ read_to [] (Refused 1 (Malformed 0))
unfolding saved_in opened count_at entries_at counted_at number_at bytes_at accepted_behind fault_behind head_fault entry_of header_at number_within
refused_example genesis = refl
