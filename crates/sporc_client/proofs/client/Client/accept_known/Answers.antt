use Rattle.std.proofs.Common.{◌++◌, ◌∷◌, [], ℕ, List, length, ap, ◌∙◌, subst, sym}
use Rattle.sporc_client.proofs.Common.{first_fault, ClientModel, Accept, err_from_is_err_and}
use Rattle.sporc_client.specs.Answers.{accept_fault}
use Rattle.sporc_client.proofs.Checked.{accept_room}
use Rattle.sporc_client.proofs.Comings.{SameLine, accept_model, accepted_there, can_settle, more_with, no_more, prepared_there, same_fields, same_model}
use Rattle.sporc_client.proofs.Events.{events_logged, state_is}
use Rattle.sporc_client.proofs.client.Client.accept_known.Goals as goal

pub returns-in_err-prepared-clause-fault : goal.returns-in_err-prepared-clause-fault
unfolding accept_fault
returns-in_err-prepared-clause-fault g c =
    let p = err_from_is_err_and c.from_residual.result c.from_residual.ensures.1 in
    rw (p.1, p.2) (λ other. ap (λ p. accept_fault p c.args.pos c.args.bytes.now) (state_is c.self.invariant c.self.view_is) ∙ c.in_err-prepared.ensures.fault other)

pub take_entry-requires : goal.take_entry-requires
take_entry-requires g c =
    let inside = c.self.inside in
    let did = c.in_ok-prepared.ensures in
    let lines : SameLine inside.line c.check_entry.new.line = record { genesis = did.genesis; kit = did.kit; entries = did.entries } in
    let room = accept_room (length inside.own.shown) (first_fault inside.line.genesis inside.line.kit inside.line.entries c.args.pos c.args.bytes.now) did.fault in
    record {
      bytes = did.bytes;
      prepared = prepared_there c.self.invariant c.check_entry.new.line c.in_ok-prepared.prepared lines did.prepared;
      room = did.room;
      settles = can_settle c.self.invariant c.in_ok-prepared.prepared did.prepared room;
    }

pub invariant_of-self-in_err-take_entry : goal.invariant_of-self-in_err-take_entry
invariant_of-self-in_err-take_entry g c =
    let did = c.in_ok-prepared.ensures in
    let same = c.in_err-take_entry.ensures.line_unchanged in
    let lines = subst (SameLine c.self.inside.line) (sym same) (record { genesis = did.genesis; kit = did.kit; entries = did.entries }) in
    same_fields c.self.invariant c.take_entry.new.line c.take_entry.new.own lines c.in_err-take_entry.ensures.unchanged

pub returns-in_err-take_entry-clause-log : goal.returns-in_err-take_entry-clause-log
returns-in_err-take_entry-clause-log g c =
    let inside = c.self.inside in
    let did = c.in_ok-prepared.ensures in
    let same = c.in_err-take_entry.ensures.line_unchanged in
    let lines = subst (SameLine inside.line) (sym same) (record { genesis = did.genesis; kit = did.kit; entries = did.entries }) in
    let model = same_model inside.line c.take_entry.new.line inside.signer inside.ticket inside.own c.take_entry.new.own lines c.in_err-take_entry.ensures.unchanged in
    no_more c.from_residual-in_err-take_entry.result (Accept c.args.by c.args.bytes.now) c.args.self.now _ c.from_residual-in_err-take_entry.ensures.0 (model ∙ c.self.view_is)

pub invariant_of-self-2 : goal.invariant_of-self-2
invariant_of-self-2 g c =
    let inside = c.self.inside in
    let did = c.in_ok-prepared.ensures in
    let lines : SameLine inside.line c.check_entry.new.line = record { genesis = did.genesis; kit = did.kit; entries = did.entries } in
    let room = accept_room (length inside.own.shown) (first_fault inside.line.genesis inside.line.kit inside.line.entries c.args.pos c.args.bytes.now) did.fault in
    (accepted_there c.self.invariant c.check_entry.new.line c.in_ok-prepared.prepared lines did.prepared c.take_entry.new.line c.take_entry.new.own c.args.by room c.in_ok-take_entry.ensures.ok).invariant

pub returns-clause-fault : goal.returns-clause-fault
unfolding accept_fault
returns-clause-fault g c = ap (λ p. accept_fault p c.args.pos c.args.bytes.now) (state_is c.self.invariant c.self.view_is) ∙ c.in_ok-prepared.ensures.fault

pub returns-clause-ok : goal.returns-clause-ok
returns-clause-ok g c = events_logged c.take_entry.new.line.entries c.take_entry.new.own.journal c.journal.result.now c.journal.ensures.value

pub returns-clause-log : goal.returns-clause-log
returns-clause-log g c =
    let inside = c.self.inside in
    let did = c.in_ok-prepared.ensures in
    let lines : SameLine inside.line c.check_entry.new.line = record { genesis = did.genesis; kit = did.kit; entries = did.entries } in
    let room = accept_room (length inside.own.shown) (first_fault inside.line.genesis inside.line.kit inside.line.entries c.args.pos c.args.bytes.now) did.fault in
    let M : ClientModel g.row.D.Denot → ClientModel g.row.D.Denot = λ m. record m { log = m.log ++ Accept c.args.by c.args.bytes.now ∷ [] } in
    accept_model c.self.invariant c.check_entry.new.line c.in_ok-prepared.prepared lines did.prepared c.take_entry.new.line c.take_entry.new.own c.args.by room c.in_ok-take_entry.ensures.ok
    ∙ ap (λ (b : List ℕ). more_with inside.line inside.signer inside.ticket inside.own (Accept c.args.by b)) did.bytes
    ∙ ap M c.self.view_is
