use Rattle.std.proofs.Common.{rules}
use Rattle.sporc_session.proofs.Common.{result_err, known_of, LinesDid}
use Rattle.sporc_session.proofs.Crowding.{crowd_last, crowd_step}
use Rattle.sporc_session.proofs.Wearing.{read_join}
use Rattle.sporc_session.proofs.crowd.+crowd+fn-crowd-join_mut+arg2.Goals as goal

pub returns-in_default-clause-crowd : goal.returns-in_default-clause-crowd
returns-in_default-clause-crowd g c' c =
    crowd_last _ _ c.args.rounds c.args.scripts.now (result_err c.first_phase-receiver.result.0) c.in_default.ensures.cases c.first_phase-receiver.ensures.phase c.first_phase-receiver.ensures.counts

pub returns-clause-crowd : goal.returns-clause-crowd
returns-clause-crowd g c' c =
    let r = c.join_mut-first.result in
    let editor : LinesDid (known_of c.in-Ok.both.1) (known_of r.1.1) c.in-Some.script.now (result_err r.1.0) = search rules in
    crowd_step (known_of c.args.first) (known_of r.0.1) (known_of r.1.1) (known_of c.join.result) _ _ _ _ _ _
    c.join.ensures.known c.join.ensures.first c.join.ensures.other c.join.ensures.agrees
    (known_of c.in-Ok.both.0) (known_of c.in-Ok.both.1) c.args.rounds c.args.scripts.now c.in-Some.script.now c.in-Some.others.now
    r.0.0.receiver c.with_editor.result.receiver r.1.0 r.0.0.editors c.with_editor.result.editors
    c.in-Some.ensures.cases.0 c.with_editor.ensures.receiver c.with_editor.ensures.editors c.in-Ok.ensures.old c.in-Ok.ensures.new editor (search rules)

pub returns-clause-read : goal.returns-clause-read
returns-clause-read g c' c =
    let r = c.join_mut-first.result in
    read_join r.0.1 r.1.1 c.join.result c.join.ensures.read c.join.ensures.watermark r.0.0.receiver c.with_editor.result.receiver r.1.0 r.0.0.editors c.with_editor.result.editors
    c.with_editor.ensures.receiver c.with_editor.ensures.editors (search rules) (search rules)

pub returns-clause-shut : goal.returns-clause-shut
returns-clause-shut g c' c = search rules
