use Rattle.std.proofs.Common.{◌≡◌, ◌++◌, take}
use Rattle.sporc_wire.proofs.Common.{flat_map, counted}
use Rattle.sporc_wire.proofs.entry_frames.put_entries.Given as goal

abbrev pub invariant-loop-entry : goal.invariant-loop-entry
invariant-loop-entry l = l.out ≡ l.initial.out ++ flat_map (λ e. counted e.items) (take l.entry-index l.entries)
