-- What a member must hold to open a document.
use Rattle.std.specs.Prelude.{ℕ, Bool, false, List, [], ◌∷◌, Option, None, Some, is_some}
use Rattle.std.specs.Str.{bytes_eq}
use Rattle.sporc_base.specs.FirstFault.{unless}
use Rattle.sporc_hash.specs.Chain.{commitment_of}
use Rattle.sporc_entry.specs.declared.genesis.Genesis.{Genesis}
use Rattle.sporc_line.specs.declared.fault.LineOpenFault.{LineOpenFault}
use Rattle.sporc_line.specs.declared.fault.LineOpenFault.TheVariants.{NoKey, WrongKey}

-- whether a key of epoch 0 meets the commitment of the genesis
abbrev pub opens : Genesis → Option (List ℕ) → Bool
opens genesis None = false
opens genesis (Some key) = bytes_eq (commitment_of genesis.document 0 key) genesis.commitment

-- the checks of a ring's key of epoch 0, if it has one
abbrev pub open_checks : Genesis → Option (List ℕ) → List (Option LineOpenFault)
open_checks genesis key =
    unless (is_some key) NoKey
    ∷ unless (opens genesis key) WrongKey
    ∷ []
