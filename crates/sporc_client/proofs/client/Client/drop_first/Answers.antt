use Rattle.std.proofs.Common.{◌≡◌, List, [], ◌∷◌, ◌++◌, ap, ◌∙◌, arith, sym}
use Rattle.sporc_client.proofs.Common.{Mark, keep_marks, Event, Pending, drop, plain_of, Dropped, keeps, Drop, due}
use Rattle.sporc_client.specs.declared.event.Event.TheVariants as stored
use Rattle.sporc_client.proofs.Comings.{same_fields, same_line}
use Rattle.sporc_client.proofs.Events.{drop_recorded, length_of_shown, shown_length, state_is}
use Rattle.sporc_client.proofs.Submitting.{due_room, is_event}
use Rattle.sporc_client.proofs.client.Client.drop_first.Goals as goal

pub ready_keep-requires : goal.ready_keep-requires
ready_keep-requires g c = record { follow = c.self.invariant.sound.follow; limit = omega (arith, shown_length c.self.invariant) }

pub invariant_of-self : goal.invariant_of-self
invariant_of-self g c = same_fields c.self.invariant c.self.inside.line c.ready_keep.new.own same_line c.in_err-ready.ensures.unchanged

pub record_drop-requires-clause-limit : goal.record_drop-requires-clause-limit
record_drop-requires-clause-limit g c =
    let inside = c.self.inside in
    let plain = plain_of inside.signer.key inside.line inside.own in
    let is : due plain ≡ Drop c.args.fault = ap due (sym (state_is c.self.invariant c.self.view_is)) ∙ c.requires in
    rw c.in_ok-ready.ensures.unchanged.shown (due_room plain (ap is_event is))

pub invariant_of-self-2 : goal.invariant_of-self-2
invariant_of-self-2 g c =
    let inside = c.self.inside in
    let line = inside.line in
    let signer = inside.signer in
    let own = inside.own in
    let known = c.self.invariant in
    let plain = plain_of signer.key line own in
    let is : due plain ≡ Drop c.args.fault = ap due (sym (state_is known c.self.view_is)) ∙ c.requires in
    let did = c.record_drop.ensures in
    let ready = c.in_ok-ready.ensures.unchanged in
    let form : c.in_ok-ready.ready.form ≡ keeps plain = c.in_ok-ready.ensures.ok ∙ ap keep_marks (length_of_shown known) in
    (drop_recorded known c.record_drop.new.self c.args.by c.args.fault is
    (did.pending ∙ ap (λ (ps : List Pending). drop 1 ps) ready.pending)
    (did.flight ∙ ready.flight)
    (did.shown ∙ ap (λ (fs : List (List Mark)). fs ++ c.in_ok-ready.ready.form ∷ []) ready.shown ∙ ap (λ (f : List Mark). own.shown ++ f ∷ []) form)
    (did.journal ∙ ap (λ (es : List Event). es ++ stored.Dropped c.args.by c.args.fault ∷ []) ready.journal)).invariant
