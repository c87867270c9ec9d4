-- A log as it was opened.
use Rattle.std.specs.Prelude.{ℕ, List}

-- the log of a document as it was opened: the name of its tail's file, and how many entries it had
pub record OpenLogModel : Type 0 where
  pub name : List ℕ
  pub logged : ℕ
