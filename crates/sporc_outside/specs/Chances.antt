-- What a chance tells.
use Rattle.std.specs.Prelude.{ℕ, List, Option, None}

-- the random words given so far, where it tells them, and its count of faults
pub record ChanceTold : Type 0 where
  pub given : Option (List (List ℕ))
  pub faults : ℕ

-- what a chance tells that tells nothing but its count of faults, as a real one
abbrev pub silent_chance : ℕ → ChanceTold
silent_chance faults = record { given = None; faults = faults }
