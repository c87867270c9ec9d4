use Rattle.std.proofs.Common.{◌≡◌, ◌*◌, ◌/◌, ◌%◌, ℕ, arith, subst, sym, ◌∙◌}
use Rattle.sporc_play.proofs.Common.{setup_of, batch, batches, generated_cast, after_each, opening, AreDeclared, StandsFor}
use Rattle.sporc_play.proofs.Batched.{batches_more, run_room, stands_both}
use Rattle.sporc_play.proofs.GeneratedRun.{generated_declared}
use Rattle.sporc_play.proofs.generated.generated_run.Goals as goal

pub new-requires : goal.new-requires
new-requires c = record { declared = subst AreDeclared (sym (c.as_slice.ensures.value ∙ c.in_ok-lines.ensures)) generated_declared }

pub perform_batch-requires-clause-room : goal.perform_batch-requires-clause-room
perform_batch-requires-clause-room c = run_room c.loop-k.k c.loop-k.state (omega arith) c.loop-k.invariant

pub loop-k-preserved : goal.loop-k-preserved
loop-k-preserved c = batches_more c.loop-k.state c.perform_batch.new.state c.loop-k.k c.loop-k.invariant c.in_default.ensures

pub perform_batch-requires-2-clause-room : goal.perform_batch-requires-2-clause-room
perform_batch-requires-2-clause-room c = run_room c.loop-k.k c.loop-k.state (omega arith) c.loop-k.invariant

pub returns-in-Ok : goal.returns-in-Ok
returns-in-Ok c =
    let all : c.loop-k.k ≡ c.args.edits / 3 = omega arith in
    let IsStood : ℕ → Type 0 = λ n. StandsFor generated_cast (after_each (setup_of generated_cast) (opening generated_cast) (batches n)) c.loop-k.state in
    stands_both c.loop-k.state c.perform_batch-2.new.state (batches (c.args.edits / 3)) (batch (3 * (c.args.edits / 3)) (c.args.edits % 3)) (subst IsStood all c.loop-k.invariant) c.in-Ok.ensures
