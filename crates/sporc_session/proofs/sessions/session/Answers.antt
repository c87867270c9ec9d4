use Rattle.std.proofs.Common.{ap, ◌∙◌, ◌∷◌, []}
use Rattle.sporc_session.proofs.Common.{Result, ⊤, result_err, first_of, known_of, SessionFault, stand_at, empty_inbox, link_told}
use Rattle.sporc_session.proofs.Sessioning.{Begins, crowd_from, session_settled, session_stopped}
use Rattle.sporc_session.proofs.Wearing.{worn_at}
use Rattle.sporc_session.proofs.sessions.session.Goals as goal

pub returns-in-Err-clause-session : goal.returns-in-Err-clause-session
returns-in-Err-clause-session g c =
    let first = c.crowd-pass in
    let begins : Begins (known_of c.args.pass) = record { number = c.requires.first; splits = c.requires.alone.0; joined = c.requires.alone.1; allowed = c.requires.allowed; agrees = c.requires.agrees } in
    let crowd = crowd_from (known_of c.args.pass) (link_told (g.L.Stream.told c.args.link.now)) (g.C.Chance.told c.args.chance.now).given (g.C.Chance.told c.args.chance.now).faults c.new-inbox.result _ _ _ _ _ c.new-inbox.ensures.value first.ensures.crowd in
    (first.new.inbox, session_stopped (stand_at c.args.pass (g.L.Stream.told c.args.link.now) empty_inbox (g.C.Chance.told c.args.chance.now)) (stand_at first.result.1 (g.L.Stream.told first.new.link) first.new.inbox (g.C.Chance.told first.new.chance)) c.args.rounds c.args.until c.args.editors.now (result_err first.result.0.receiver) (result_err first.result.0.editors) begins crowd c.in-Err.fault (ap (λ (r : Result ⊤ SessionFault). first_of (result_err r ∷ result_err first.result.0.editors ∷ [])) c.in-Err.is))

pub returns-in-Err-editors-clause-session : goal.returns-in-Err-editors-clause-session
returns-in-Err-editors-clause-session g c =
    let first = c.crowd-pass in
    let begins : Begins (known_of c.args.pass) = record { number = c.requires.first; splits = c.requires.alone.0; joined = c.requires.alone.1; allowed = c.requires.allowed; agrees = c.requires.agrees } in
    let crowd = crowd_from (known_of c.args.pass) (link_told (g.L.Stream.told c.args.link.now)) (g.C.Chance.told c.args.chance.now).given (g.C.Chance.told c.args.chance.now).faults c.new-inbox.result _ _ _ _ _ c.new-inbox.ensures.value first.ensures.crowd in
    (first.new.inbox, session_stopped (stand_at c.args.pass (g.L.Stream.told c.args.link.now) empty_inbox (g.C.Chance.told c.args.chance.now)) (stand_at first.result.1 (g.L.Stream.told first.new.link) first.new.inbox (g.C.Chance.told first.new.chance)) c.args.rounds c.args.until c.args.editors.now (result_err first.result.0.receiver) (result_err first.result.0.editors) begins crowd c.in-Err-editors.fault (ap (λ (r : Result ⊤ SessionFault). first_of (result_err r ∷ result_err first.result.0.editors ∷ [])) c.in_default.is ∙ ap (λ (r : Result ⊤ SessionFault). first_of (result_err r ∷ [])) c.in-Err-editors.is))

pub returns-clause-session : goal.returns-clause-session
returns-clause-session g c =
    let first = c.crowd-pass in
    let begins : Begins (known_of c.args.pass) = record { number = c.requires.first; splits = c.requires.alone.0; joined = c.requires.alone.1; allowed = c.requires.allowed; agrees = c.requires.agrees } in
    let crowd = crowd_from (known_of c.args.pass) (link_told (g.L.Stream.told c.args.link.now)) (g.C.Chance.told c.args.chance.now).given (g.C.Chance.told c.args.chance.now).faults c.new-inbox.result _ _ _ _ _ c.new-inbox.ensures.value first.ensures.crowd in
    (c.second_phase.new.inbox, session_settled (stand_at c.args.pass (g.L.Stream.told c.args.link.now) empty_inbox (g.C.Chance.told c.args.chance.now)) (stand_at first.result.1 (g.L.Stream.told first.new.link) first.new.inbox (g.C.Chance.told first.new.chance)) c.args.rounds c.args.until c.args.editors.now (result_err first.result.0.receiver) (result_err first.result.0.editors) begins crowd (stand_at c.second_phase.result.1 (g.L.Stream.told c.second_phase.new.link) c.second_phase.new.inbox (g.C.Chance.told c.second_phase.new.chance)) c.second_phase.result.0 (ap result_err c.in_default.is) (ap result_err c.in_default-editors.is) c.second_phase.ensures.counts c.second_phase.ensures.phase)

pub returns-in-Err-clause-read : goal.returns-in-Err-clause-read
returns-in-Err-clause-read g c =
    worn_at c.crowd-pass.result.1 c.crowd-pass.result.0.receiver c.in-Err.fault c.in-Err.is c.crowd-pass.ensures.read.0

pub returns-in-Err-editors-clause-read : goal.returns-in-Err-editors-clause-read
returns-in-Err-editors-clause-read g c =
    worn_at c.crowd-pass.result.1 c.crowd-pass.result.0.editors c.in-Err-editors.fault c.in-Err-editors.is c.crowd-pass.ensures.read.1
