-- What contracts see of a link in memory.
use Rattle.std.specs.Prelude.{ℕ, Bool, false, List, []}
use Rattle.sporc_memory.specs.CallsModel.{CallsModel}

-- the bytes that are left to be read, those that were written, the most bytes that a call moves,
-- the calls of both directions, and whether it was shut
pub record MemoryLinkModel : Type 0 where
  pub left : List ℕ
  pub written : List ℕ
  pub piece : ℕ
  pub calls : CallsModel
  pub is_shut : Bool

-- a link with these bytes to be read, of which nothing was asked yet
abbrev pub link_of : List ℕ → ℕ → CallsModel → MemoryLinkModel
link_of bytes piece calls =
    record { left = bytes; written = []; piece = piece; calls = calls; is_shut = false }
