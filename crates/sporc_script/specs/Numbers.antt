-- Lists of numbers with one space between two of them.
use Rattle.std.specs.Prelude.{ℕ, ◌<◌, ◌==◌, if◌then◌else◌, List, [], ◌∷◌, ◌++◌, length, codes}
use Rattle.std.specs.Prelude.{Option, Some, option_map}
use Rattle.std.specs.List.{AllByRecursion}
use Rattle.std.specs.Fmt.{decimal}
use Rattle.sporc_script.specs.declared.command.Join.{Join}
use Rattle.sporc_script.specs.Lines.{with_byte}
use Rattle.sporc_script.specs.Readers.{device_of, pair_of, then_read}
use Rattle.sporc_script.specs.Spelling.{DeviceInRange, IsU64, device_text}
use Rattle.sporc_script.specs.Words.{number_of}

abbrev pub numbers_spelling : List ℕ → List ℕ
numbers_spelling [] = []
numbers_spelling (n ∷ []) = decimal n
numbers_spelling (n ∷ m ∷ ns) = decimal n ++ (codes " " ++ numbers_spelling (m ∷ ns))

abbrev pub join_spelling : Join → List ℕ
join_spelling j = device_text j.device ++ (codes " " ++ numbers_spelling j.entries)

-- there is one at least
abbrev pub NumbersInRange : List ℕ → Type 0
NumbersInRange ns = AllByRecursion IsU64 ns × (0 < length ns)

abbrev pub JoinInRange : Join → Type 0
JoinInRange j = DeviceInRange j.device × NumbersInRange j.entries

-- the parts between spaces
abbrev pub parts_of : List ℕ → List (List ℕ)
parts_of [] = [] ∷ []
parts_of (b ∷ bs) = if b == 32 then [] ∷ parts_of bs else with_byte b (parts_of bs)

-- the numbers that words are
abbrev pub all_numbers : List (List ℕ) → Option (List ℕ)
all_numbers [] = Some []
all_numbers (word ∷ words) =
    then_read (number_of word) (λ n. option_map (λ ns. n ∷ ns) (all_numbers words))

unfoldable pub numbers_of : List ℕ → Option (List ℕ)
numbers_of words = all_numbers (parts_of words)

unfoldable pub join_of : List ℕ → Option Join
join_of words =
    option_map (λ p. record { device = p.0; entries = p.1 }) (pair_of device_of numbers_of words)
