use Rattle.std.proofs.Common.{rules, ◌≡◌, [], ◌∷◌, ◌++◌, Some, refl, ap, ◌∙◌}
use Rattle.sporc_client.proofs.Common.{plain_of, ClientModel, state_of, Edit}
use Rattle.sporc_client.specs.Answers.{edit_fault}
use Rattle.sporc_client.proofs.Checked.{edit_passed}
use Rattle.sporc_client.proofs.Comings.{model_more, no_more, same_fields, same_line, same_model}
use Rattle.sporc_client.proofs.Events.{edit_limits, edit_recorded, events_logged, state_is}
use Rattle.sporc_client.proofs.client.Client.edit.Goals as goal

pub returns-in_err-check_edit-clause-fault : goal.returns-in_err-check_edit-clause-fault
unfolding edit_fault
returns-in_err-check_edit-clause-fault g c =
    let fault : edit_fault (state_of c.args.self.now) c.args.seen c.args.delta.now ≡ Some c.in_err-check_edit.field-0.0 =
    ap (λ p. edit_fault p c.args.seen c.args.delta.now) (state_is c.self.invariant c.self.view_is) ∙ c.in_err-check_edit.ensures.fault in
    rw fault (search rules)

pub returns-in_err-check_edit-clause-log : goal.returns-in_err-check_edit-clause-log
returns-in_err-check_edit-clause-log g c =
    no_more c.from_residual.result (Edit c.args.by c.args.seen c.args.delta.now) c.args.self.now c.args.self.now c.from_residual.ensures.0 refl

pub overflow_cast-seen : goal.overflow_cast-seen
unfolding edit_fault
overflow_cast-seen g c =
    let inside = c.self.inside in
    let passed = edit_passed (plain_of inside.signer.key inside.line inside.own) c.args.seen c.args.delta.now (c.in_ok-check_edit.ensures.fault) in
    let limits = edit_limits c.self.invariant c.args.seen c.args.delta.now passed in
    let small = limits.small in
    search rules

pub record_edit-requires : goal.record_edit-requires
unfolding edit_fault
record_edit-requires g c =
    let inside = c.self.inside in
    let passed = edit_passed (plain_of inside.signer.key inside.line inside.own) c.args.seen c.args.delta.now (c.in_ok-check_edit.ensures.fault) in
    let limits = edit_limits c.self.invariant c.args.seen c.args.delta.now passed in
    record { in_bounds = passed.within; base = limits.base; limit = limits.limit; restated = limits.restated_base; events_limit = passed.room.events }

pub invariant_of-self : goal.invariant_of-self
invariant_of-self g c = same_fields c.self.invariant c.self.inside.line c.record_edit.new.own same_line c.in_err-record_edit.ensures.unchanged

pub returns-in_err-record_edit-clause-log : goal.returns-in_err-record_edit-clause-log
returns-in_err-record_edit-clause-log g c =
    let inside = c.self.inside in
    let same = same_model inside.line inside.line inside.signer inside.ticket inside.own c.record_edit.new.own same_line c.in_err-record_edit.ensures.unchanged in
    no_more c.from_residual-in_err-record_edit.result (Edit c.args.by c.args.seen c.args.delta.now) c.args.self.now _ c.from_residual-in_err-record_edit.ensures.0 (same ∙ c.self.view_is)

pub invariant_of-self-2 : goal.invariant_of-self-2
unfolding edit_fault
invariant_of-self-2 g c =
    let did = c.in_ok-record_edit.ensures in
    (edit_recorded c.self.invariant c.record_edit.new.own c.args.by c.args.seen c.args.delta.now (c.in_ok-check_edit.ensures.fault) did.pending did.flight did.shown did.journal).invariant

pub returns-clause-ok : goal.returns-clause-ok
returns-clause-ok g c = events_logged c.self.inside.line.entries c.record_edit.new.own.journal c.journal.result.now c.journal.ensures.value

pub returns-clause-log : goal.returns-clause-log
unfolding edit_fault
returns-clause-log g c =
    let event = Edit c.args.by c.args.seen c.args.delta.now in
    let did = c.in_ok-record_edit.ensures in
    let M : ClientModel g.row.D.Denot → ClientModel g.row.D.Denot = λ m. record m { log = m.log ++ event ∷ [] } in
    model_more (edit_recorded c.self.invariant c.record_edit.new.own c.args.by c.args.seen c.args.delta.now (c.in_ok-check_edit.ensures.fault) did.pending did.flight did.shown did.journal)
    ∙ ap M c.self.view_is

pub returns-clause-fault : goal.returns-clause-fault
unfolding edit_fault
returns-clause-fault g c =
    ap (λ p. edit_fault p c.args.seen c.args.delta.now) (state_is c.self.invariant c.self.view_is) ∙ c.in_ok-check_edit.ensures.fault
