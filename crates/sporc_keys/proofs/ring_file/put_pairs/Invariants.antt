use Rattle.std.proofs.Common.{◌≡◌, ◌++◌, take}
use Rattle.sporc_keys.proofs.Common.{flat_map, pair_bytes}
use Rattle.sporc_keys.proofs.ring_file.put_pairs.Given as goal

abbrev pub invariant-loop-pair : goal.invariant-loop-pair
invariant-loop-pair l = l.out ≡ l.initial.out ++ flat_map pair_bytes (take l.pair-index l.pairs)
