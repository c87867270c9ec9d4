use Rattle.std.proofs.Common.{◌≡◌, ℕ, List, [], ◌∷◌, ◌++◌, Option, Some, refl, ap, sym, subst, ◌∙◌, true, arith}
use Rattle.sporc_client.proofs.Common.{Mark, keep_marks, Event, ClientInvariant, plain_of, AreInOrder, leaves_of, IsSubmission, at_hand, Submit, log_of, PlainClient, keeps, due, is_signing}
use Rattle.sporc_client.specs.declared.event.Event.TheVariants as stored
use Rattle.sporc_client.proofs.Comings.{same_fields, same_line}
use Rattle.sporc_client.proofs.Events.{length_of_shown, same_key, shown_length, state_is, submit_recorded}
use Rattle.sporc_client.proofs.Submitting.{due_room, signs_event}
use Rattle.sporc_client.proofs.Leaves.{leaf_there, order_at_hand}
use Rattle.sporc_client.proofs.client.Client.submit_first.Goals as goal

pub ready_keep-requires : goal.ready_keep-requires
ready_keep-requires g c = record { follow = c.self.invariant.sound.follow; limit = omega (arith, shown_length c.self.invariant) }

pub invariant_of-self : goal.invariant_of-self
invariant_of-self g c = same_fields c.self.invariant c.self.inside.line c.ready_keep.new.own same_line c.in_err-ready.ensures.unchanged

pub record_submission-requires-clause-limit : goal.record_submission-requires-clause-limit
record_submission-requires-clause-limit g c =
    let inside = c.self.inside in
    let plain = plain_of inside.signer.key inside.line inside.own in
    let is : is_signing (due plain) ≡ true = ap (λ p. is_signing (due p)) (sym (state_is c.self.invariant c.self.view_is)) ∙ c.requires in
    rw c.in_ok-ready.ensures.unchanged.shown (due_room plain (signs_event (due plain) is))

pub invariant_of-self-in_err-made : goal.invariant_of-self-in_err-made
invariant_of-self-in_err-made g c =
    let inside = c.self.inside in
    let line = inside.line in
    let signer = inside.signer in
    let own = inside.own in
    let known = c.self.invariant in
    let ready = c.in_ok-ready.ensures.unchanged in
    let made = c.in_err-made.ensures in
    let signer' = c.make_entry.new.signer in
    let hand = at_hand inside.ticket signer.leaves signer'.leaves in
    let order = order_at_hand g.D.LeafDisk.told signer.leaves signer'.leaves (leaves_of (log_of line.entries own.journal)) inside.ticket known.leaves
    (λ leaf h. ap (λ s. s.leaves) (made.undrawn leaf h)) made.drawn in
    let kept : AreInOrder signer'.leaves.next_at_open signer'.leaves.next c.make_entry.new.kept (leaves_of (log_of line.entries own.journal)) =
    subst (λ (t : Option ℕ). AreInOrder signer'.leaves.next_at_open signer'.leaves.next t (leaves_of (log_of line.entries own.journal))) (sym made.ticket) order in
    let with_ticket = same_key known signer' c.make_entry.new.kept made.key made.within kept in
    same_fields with_ticket line c.ready_keep.new.own
    same_line ready

pub invariant_of-self-2 : goal.invariant_of-self-2
invariant_of-self-2 g c =
    let inside = c.self.inside in
    let line = inside.line in
    let signer = inside.signer in
    let own = inside.own in
    let known = c.self.invariant in
    let plain = plain_of signer.key line own in
    let did = c.record_submission.ensures in
    let ready = c.in_ok-ready.ensures.unchanged in
    let made = c.in_ok-made.ensures in
    let signer' = c.make_entry.new.signer in
    let bytes = c.in_ok-made.made.answer in
    let signed = leaves_of (log_of line.entries own.journal) in
    let after = plain_of signer.key line c.ready_keep.new.own in
    let same : after ≡ plain = rw (ready.pending, ready.flight, ready.shown) refl in
    let leaf = leaf_there (λ leaf. IsSubmission after leaf bytes) (at_hand inside.ticket signer.leaves signer'.leaves) made.submission in
    let order = order_at_hand g.D.LeafDisk.told signer.leaves signer'.leaves signed inside.ticket known.leaves
    (λ leaf h. ap (λ s. s.leaves) (made.undrawn leaf h)) made.drawn in
    let kept : AreInOrder signer'.leaves.next_at_open signer'.leaves.next (Some leaf.0) signed = subst (λ (t : Option ℕ). AreInOrder signer'.leaves.next_at_open signer'.leaves.next t signed) leaf.1 order in
    let form : c.in_ok-ready.ready.form ≡ keeps plain = c.in_ok-ready.ensures.ok ∙ ap keep_marks (length_of_shown known) in
    let with_none = (submit_recorded known signer' c.record_submission.new.self c.args.by leaf.0 bytes made.key (subst (λ (p : PlainClient). IsSubmission p leaf.0 bytes) same leaf.2) kept
    (did.pending ∙ ready.pending)
    (did.flight ∙ ap Some made.made.flight)
    (did.shown ∙ ap (λ (fs : List (List Mark)). fs ++ c.in_ok-ready.ready.form ∷ []) ready.shown ∙ ap (λ (f : List Mark). own.shown ++ f ∷ []) form)
    (did.journal ∙ ap (λ (es : List Event). es ++ stored.Submit c.args.by c.in_ok-made.made.event ∷ []) ready.journal
    ∙ ap (λ (b : List ℕ). own.journal ++ stored.Submit c.args.by b ∷ []) made.made.event)).invariant in
    subst (λ (t : Option ℕ). ClientInvariant line signer' t c.record_submission.new.self) (sym made.ticket) with_none
