-- What contracts see of the calls of an object in memory, and what one call more does to them.
use Rattle.std.specs.Prelude.{◌≡◌, ℕ, List, Result, IsErr, Contains}
use Rattle.sporc_outside.specs.Counts.{next_count}

-- the numbers of the calls that are to fail, how many calls were made, and how many failed
pub record CallsModel : Type 0 where
  pub failing : List ℕ
  pub made : ℕ
  pub faults : ℕ

-- no call yet, and these are to fail
abbrev pub calls_failing : List ℕ → CallsModel
calls_failing failing = record { failing = failing; made = 0; faults = 0 }

-- one call more, and one more that failed
abbrev pub one_more : CallsModel → CallsModel
one_more calls = record calls { made = next_count calls.made }

abbrev pub one_failed : CallsModel → CallsModel
one_failed calls =
    record calls { made = next_count calls.made; faults = next_count calls.faults }

-- a call that returned this was counted, and failed if its number is listed
pub record CountsCall {T E : Type 0} (old new : CallsModel) (result : Result T E) : Type 0 where
  pub failing : new.failing ≡ old.failing
  pub made : new.made ≡ next_count old.made
  pub listed : Contains old.failing (next_count old.made) → IsErr result
