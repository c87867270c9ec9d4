use Rattle.std.proofs.Common.{vec_capacity}
use Rattle.sporc_text.proofs.Common.{into_iter_items}
use Rattle.sporc_text.proofs.MoveLemmas.{AreMoved}
use Rattle.sporc_text.proofs.chunks.push_some.Given as goal

abbrev pub invariant-loop : goal.invariant-loop
invariant-loop l = AreMoved l.initial.list.items (vec_capacity l.initial.list) (into_iter_items l.initial.chunks) l.counter l.list.items (vec_capacity l.list) (into_iter_items l.chunks)
