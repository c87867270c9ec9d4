-- Every string that is hashed for a history that a member reads.
use Rattle.std.specs.Prelude.{ℕ, ◌+◌, List}
use Rattle.sporc_hash.specs.Strings.{strings}
use Rattle.sporc_entry.specs.declared.genesis.Genesis.{Genesis}
use Rattle.sporc_entry.specs.Genesis.{genesis_bytes}
use Rattle.sporc_head.specs.History.{epoch_of}
use Rattle.sporc_line.specs.Kit.{Kit}
use Rattle.sporc_line.specs.Keys.{epoch_key}

-- those of its chain, and the commitment strings of its epochs' keys
abbrev pub line_strings : Genesis → Kit → List (List ℕ) → List (List ℕ)
line_strings g k es = strings (genesis_bytes g) es g.document (epoch_key g k es) (epoch_of es + 1)
