-- What contracts see of a leaf file of the system.
use Rattle.std.specs.Prelude.{ℕ}

-- how many bytes it has, and its count of faults
pub record RealDiskModel : Type 0 where
  pub len : ℕ
  pub faults : ℕ
