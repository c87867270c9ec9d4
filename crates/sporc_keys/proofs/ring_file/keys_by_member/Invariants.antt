use Rattle.std.proofs.Common.{◌≡◌, take}
use Rattle.sporc_keys.proofs.Common.{pair_keys}
use Rattle.sporc_epoch.specs.Keys.{pairs_in}
use Rattle.sporc_keys.proofs.ring_file.keys_by_member.Given as goal

abbrev pub invariant-loop-pair : goal.invariant-loop-pair
invariant-loop-pair l = pairs_in l.keys ≡ pair_keys (take l.pair-index l.pairs)
