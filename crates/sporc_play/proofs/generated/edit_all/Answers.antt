use Rattle.std.proofs.Common.{◌+◌, arith}
use Rattle.sporc_play.proofs.Common.{edits}
use Rattle.sporc_play.proofs.Batched.{can_edit, mapped_room, maps_more, all_done}
use Rattle.sporc_play.proofs.generated.edit_all.Goals as goal

pub edit_of-requires-clause-room : goal.edit_of-requires-clause-room
edit_of-requires-clause-room c = mapped_room 4 1 c.args.state.now c.loop-a.state (edits c.args.batch) c.loop-a.a c.requires.room c.loop-a.invariant (omega arith)

pub perform-requires : goal.perform-requires
perform-requires c =
    can_edit c.loop-a.state c.in_ok-edit.edit c.args.batch (c.loop-a.a + 1)
    (mapped_room 4 1 c.args.state.now c.loop-a.state (edits c.args.batch) c.loop-a.a c.requires.room c.loop-a.invariant (omega arith))
    (omega arith, omega arith) c.in_ok-edit.ensures

pub loop-a-preserved : goal.loop-a-preserved
loop-a-preserved c = maps_more c.args.state.now c.loop-a.state c.perform.new.state (edits c.args.batch) c.loop-a.a c.in_ok-edit.edit c.loop-a.invariant c.in_ok-edit.ensures c.in_ok-perform.ensures

pub returns : goal.returns
returns c = all_done c.args.state.now c.loop-a.state (edits c.args.batch) c.loop-a.a c.args.authors (omega arith) c.loop-a.invariant
