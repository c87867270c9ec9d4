use Rattle.std.proofs.Common.{length, ◌+◌, ◌*◌}
use Rattle.sporc_store.proofs.Common.{nat_eq, if◌then◌else◌}
use Rattle.sporc_store.proofs.appending.+append_blocks.Given as goal

-- at first no entry is examined; from then on the front of them is
abbrev pub decreases-append_blocks : goal.decreases-append_blocks
decreases-append_blocks g l = 2 * length l.entries.now + (if nat_eq l.known 0 then 1 else 0)
