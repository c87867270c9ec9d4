use Rattle.std.proofs.Common.{◌+◌, ◌/◌, ◌++◌, flat_map, map, arith, length-append}
use Rattle.sporc_play.proofs.Common.{length-map, on_ok_weaker, up_to, edits, gives, submits}
use Rattle.sporc_play.proofs.Batched.{has_room, length-up_to, mapped_room, performs_both}
use Rattle.sporc_play.proofs.generated.perform_batch.Goals as goal

pub submit_all-requires-clause-room : goal.submit_all-requires-clause-room
submit_all-requires-clause-room c =
    mapped_room 20 4 c.args.state.now c.edit_all.new.state (edits (c.args.done / 3 + 1)) c.args.authors c.requires.room c.in_ok-edit_all.ensures (omega arith)

pub accept_all-requires-clause-room : goal.accept_all-requires-clause-room
accept_all-requires-clause-room c =
    let editing = map (edits (c.args.done / 3 + 1)) (up_to c.args.authors) in
    let submitting = map submits (up_to c.args.authors) in
    has_room 20 13 c.args.state.now c.submit_all.new.state (editing ++ submitting) c.requires.room
    (performs_both c.args.state.now c.edit_all.new.state c.submit_all.new.state editing submitting c.in_ok-edit_all.ensures c.in_ok-submit_all.ensures)
    (omega (arith, length-append editing submitting, length-map (up_to c.args.authors) (edits (c.args.done / 3 + 1)), length-map (up_to c.args.authors) submits, length-up_to c.args.authors))

pub returns : goal.returns
returns c =
    let editing = map (edits (c.args.done / 3 + 1)) (up_to c.args.authors) in
    let submitting = map submits (up_to c.args.authors) in
    let accepting = flat_map (λ a. map (gives (c.args.done + a)) (up_to 3)) (up_to c.args.authors) in
    on_ok_weaker c.accept_all.result
    (λ last. performs_both c.args.state.now c.submit_all.new.state c.accept_all.new.state (editing ++ submitting) accepting
    (performs_both c.args.state.now c.edit_all.new.state c.submit_all.new.state editing submitting c.in_ok-edit_all.ensures c.in_ok-submit_all.ensures) last)
    c.accept_all.ensures
