use Rattle.std.proofs.Common.{◌≡◌, reverse, vec_len}
use Rattle.sporc_epoch.proofs.Common.{empty, keys_back, ring_of}
use Rattle.sporc_epoch.proofs.hints.keys_back.Given as goal

abbrev pub invariant-loop-start : goal.invariant-loop-start
invariant-loop-start l =
    ring_of l.ring.keys (keys_back l.epoch l.key (reverse l.starts.items)) ≡ ring_of empty (keys_back l.fn.epoch l.fn.key (reverse l.fn.starts.items))

abbrev pub decreases-loop-start : goal.decreases-loop-start
decreases-loop-start l = vec_len l.starts
