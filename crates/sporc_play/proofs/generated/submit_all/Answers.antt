use Rattle.std.proofs.Common.{◌+◌, arith, ap}
use Rattle.sporc_play.proofs.Common.{submits}
use Rattle.sporc_script.specs.declared.command.Command.TheVariants.{Submit}
use Rattle.sporc_play.proofs.Batched.{can_submit, mapped_room, maps_more, all_done}
use Rattle.sporc_play.proofs.generated.submit_all.Goals as goal

pub perform-requires : goal.perform-requires
perform-requires c =
    can_submit c.loop-a.state c.first.result (c.loop-a.a + 1) c.first.ensures.value (mapped_room 4 1 c.args.state.now c.loop-a.state submits c.loop-a.a c.requires.room c.loop-a.invariant (omega arith)) (omega arith, omega arith)

pub loop-a-preserved : goal.loop-a-preserved
loop-a-preserved c = maps_more c.args.state.now c.loop-a.state c.perform.new.state submits c.loop-a.a (Submit c.first.result) c.loop-a.invariant (λ scene stands. ap Submit c.first.ensures.value) c.in_ok-perform.ensures

pub returns : goal.returns
returns c = all_done c.args.state.now c.loop-a.state submits c.loop-a.a c.args.authors (omega arith) c.loop-a.invariant
