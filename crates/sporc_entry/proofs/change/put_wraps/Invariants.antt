use Rattle.std.proofs.Common.{◌≡◌, ◌++◌, take}
use Rattle.sporc_entry.proofs.Common.{flat_map, wrap_bytes}
use Rattle.sporc_entry.proofs.change.put_wraps.Given as goal

abbrev pub invariant-loop-wrap : goal.invariant-loop-wrap
invariant-loop-wrap l = l.out ≡ l.initial.out ++ flat_map wrap_bytes (take l.wrap-index l.wraps)
