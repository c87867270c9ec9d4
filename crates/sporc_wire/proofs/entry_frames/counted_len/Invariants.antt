use Rattle.std.proofs.Common.{◌≡◌, length, take}
use Rattle.sporc_wire.proofs.Common.{flat_map, counted, counted_to_end}
use Rattle.sporc_wire.proofs.entry_frames.counted_len.Given as goal

abbrev pub invariant-loop-entry : goal.invariant-loop-entry
invariant-loop-entry l = l.len ≡ counted_to_end (length (flat_map (λ e. counted e.items) (take l.entry-index l.entries)))
