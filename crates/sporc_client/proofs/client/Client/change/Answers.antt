use Rattle.std.proofs.Common.{rules, ◌≡◌, List, [], ◌∷◌, ◌++◌, Some, refl, ap, ◌∙◌, arith}
use Rattle.sporc_client.proofs.Common.{Mark, keep_marks, plain_of, state_of, Change, keeps}
use Rattle.sporc_client.specs.Answers.{change_fault}
use Rattle.sporc_client.proofs.Checked.{change_passed}
use Rattle.sporc_client.proofs.Comings.{no_more, same_fields, same_line, same_model}
use Rattle.sporc_client.proofs.Events.{change_recorded, length_of_shown, shown_length, events_logged, state_is}
use Rattle.sporc_client.proofs.client.Client.change.Goals as goal

pub returns-in_err-check_change-clause-fault : goal.returns-in_err-check_change-clause-fault
unfolding change_fault
returns-in_err-check_change-clause-fault g c =
    let fault : change_fault (state_of c.args.self.now) ≡ Some c.in_err-check_change.field-0.0 =
    ap change_fault (state_is c.self.invariant c.self.view_is) ∙ c.in_err-check_change.ensures.fault in
    rw fault (search rules)

pub returns-in_err-check_change-clause-log : goal.returns-in_err-check_change-clause-log
returns-in_err-check_change-clause-log g c = no_more c.from_residual.result (Change c.args.by c.args.change) c.args.self.now c.args.self.now c.from_residual.ensures.0 refl

pub ready_keep-requires : goal.ready_keep-requires
ready_keep-requires g c = record { follow = c.self.invariant.sound.follow; limit = omega (arith, shown_length c.self.invariant) }

pub invariant_of-self : goal.invariant_of-self
invariant_of-self g c = same_fields c.self.invariant c.self.inside.line c.ready_keep.new.own same_line c.in_err-ready.ensures.unchanged

pub returns-in_err-ready-clause-log : goal.returns-in_err-ready-clause-log
returns-in_err-ready-clause-log g c =
    let inside = c.self.inside in
    let same = same_model inside.line inside.line inside.signer inside.ticket inside.own c.ready_keep.new.own same_line c.in_err-ready.ensures.unchanged in
    no_more c.from_residual-in_err-ready.result (Change c.args.by c.args.change) c.args.self.now _ c.from_residual-in_err-ready.ensures.0 (same ∙ c.self.view_is)

pub record_item-requires-clause-limit : goal.record_item-requires-clause-limit
unfolding change_fault
record_item-requires-clause-limit g c =
    let own = c.self.inside.own in
    let room = change_passed (plain_of c.self.inside.signer.key c.self.inside.line own) (c.in_ok-check_change.ensures.fault) in
    rw c.in_ok-ready.ensures.unchanged.shown room.events

pub invariant_of-self-2 : goal.invariant_of-self-2
unfolding change_fault
invariant_of-self-2 g c =
    let inside = c.self.inside in
    let line = inside.line in
    let signer = inside.signer in
    let own = inside.own in
    let known = c.self.invariant in
    let checks = c.in_ok-check_change.ensures.fault in
    let recorded_item = c.record_item.ensures in
    let ready = c.in_ok-ready.ensures.unchanged in
    let form : c.in_ok-ready.ready.form ≡ keeps (plain_of signer.key line own) = c.in_ok-ready.ensures.ok ∙ ap keep_marks (length_of_shown known) in
    (change_recorded known c.record_item.new.self c.args.by c.args.change checks
    (rw ready.pending at recorded_item.pending) (recorded_item.flight ∙ ready.flight) (recorded_item.shown ∙ ap (λ (fs : List (List Mark)). fs ++ c.in_ok-ready.ready.form ∷ []) ready.shown ∙ ap (λ (f : List Mark). own.shown ++ f ∷ []) form) (rw ready.journal at recorded_item.journal)).invariant

pub returns-clause-fault : goal.returns-clause-fault
unfolding change_fault
returns-clause-fault g c =
    ap change_fault (state_is c.self.invariant c.self.view_is) ∙ c.in_ok-check_change.ensures.fault

pub returns-clause-ok : goal.returns-clause-ok
returns-clause-ok g c = events_logged c.self.inside.line.entries c.record_item.new.self.journal c.journal.result.now c.journal.ensures.value
