-- The commitment that an epoch's key meets.
use Rattle.std.specs.Prelude.{ℕ, zero, suc, List, Option, None, Some, slice_get}
use Rattle.sporc_entry.specs.declared.genesis.Genesis.{Genesis}
use Rattle.sporc_head.specs.History.{CommittedChange}

abbrev pub commitment_started : Genesis → Option CommittedChange → List ℕ
commitment_started genesis None = genesis.commitment
commitment_started genesis (Some change) = change.body.commitment

-- that of the genesis, or of the change that starts the epoch
abbrev pub commitment_after : Genesis → List CommittedChange → ℕ → List ℕ
commitment_after genesis committed zero = genesis.commitment
commitment_after genesis committed (suc e) = commitment_started genesis (slice_get committed e)
