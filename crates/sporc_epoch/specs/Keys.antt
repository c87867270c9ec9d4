-- Keys by number: those of epochs, and those that a member shares with others.
use Rattle.std.specs.Prelude.{ℕ, List}
use Rattle.std.specs.Ordering.{nat_cmp}
use Rattle.std.specs.BTreeMap.{BTreeMap}
use Rattle.std.specs.Coded.{Coded, coded_ℕ, coded_list}
use Rattle.std.specs.FinMap.{FinMap, code, from_entries}

-- the bytes of a key, by the number of an epoch or of a member
abbrev pub Keys : Type 0
Keys = FinMap nat_cmp (List ℕ)

-- keys as numbers and lists, by which proofs tell them apart
abbrev pub keys_code : Coded Keys
keys_code = code coded_ℕ (coded_list coded_ℕ)

-- what a map of the code holds
abbrev pub pairs_in : BTreeMap ℕ (List ℕ) → Keys
pairs_in pairs = from_entries pairs.entries
