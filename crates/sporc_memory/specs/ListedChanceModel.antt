-- What contracts see of a list of random words.
use Rattle.std.specs.Prelude.{ℕ, List, Some}
use Rattle.sporc_memory.specs.CallsModel.{CallsModel}
use Rattle.sporc_outside.specs.Chances.{ChanceTold}

-- the words given so far, those that are left, and the calls
pub record ListedChanceModel : Type 0 where
  pub given : List (List ℕ)
  pub left : List (List ℕ)
  pub calls : CallsModel

abbrev pub chance_told : ListedChanceModel → ChanceTold
chance_told c = record { given = Some c.given; faults = c.calls.faults }
