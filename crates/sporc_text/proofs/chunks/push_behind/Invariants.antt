use Rattle.std.proofs.Common.{◌≡◌, drop}
use Rattle.sporc_text.proofs.Common.{into_iter_items}
use Rattle.sporc_text.proofs.chunks.push_behind.Given as goal

abbrev pub invariant-loop : goal.invariant-loop
invariant-loop l = into_iter_items l.left ≡ drop l.counter (into_iter_items l.initial.left)
