use Rattle.std.proofs.Common.{rules, ◌≡◌, List, ℕ, [], ◌∷◌, ◌++◌, Some, length, refl, ap, ◌∙◌, arith}
use Rattle.sporc_client.proofs.Common.{chars, Mark, replacement, text_of, Event, discard_fault, plain_of, state_of, Discard, committed_of, shown_of, length-encode_all}
use Rattle.sporc_client.specs.declared.event.Event.TheVariants as events
use Rattle.sporc_client.proofs.Checked.{events_left}
use Rattle.sporc_client.proofs.Comings.{no_more, same_fields, same_line, same_model}
use Rattle.sporc_client.proofs.Events.{discard_recorded, length_of_shown, replaced_base, shown_length, events_logged, state_is}
use Rattle.sporc_client.proofs.client.Client.discard.Goals as goal

pub returns-in_err-check_events-clause-fault : goal.returns-in_err-check_events-clause-fault
returns-in_err-check_events-clause-fault g c =
    let fault : discard_fault (state_of c.args.self.now) ≡ Some c.in_err-check_events.field-0.0 = ap discard_fault (state_is c.self.invariant c.self.view_is) ∙ c.in_err-check_events.ensures.fault in
    rw fault (search rules)

pub returns-in_err-check_events-clause-log : goal.returns-in_err-check_events-clause-log
returns-in_err-check_events-clause-log g c = no_more c.from_residual.result (Discard c.args.by) c.args.self.now c.args.self.now c.from_residual.ensures.0 refl

pub returns-in_err-text-clause-log : goal.returns-in_err-text-clause-log
returns-in_err-text-clause-log g c = no_more c.from_residual-in_err-text.result (Discard c.args.by) c.args.self.now c.args.self.now c.from_residual-in_err-text.ensures.0 refl

pub returns-in_err-form-clause-log : goal.returns-in_err-form-clause-log
returns-in_err-form-clause-log g c = no_more c.from_residual-in_err-form.result (Discard c.args.by) c.args.self.now c.args.self.now c.from_residual-in_err-form.ensures.0 refl

pub replace_all-requires-clause-limit : goal.replace_all-requires-clause-limit
replace_all-requires-clause-limit g c = omega (arith, c.shown_len.ensures.value, shown_length c.self.invariant)

pub replace_all-requires-clause-text_limit : goal.replace_all-requires-clause-text_limit
replace_all-requires-clause-text_limit g c =
    let line = c.self.inside.line in
    let text = text_of line.genesis line.kit line.entries in
    omega (arith, ap length c.as_str.ensures.value, ap length c.in_ok-text.ensures.ok, length-encode_all text, c.in_ok-text.ensures.within)

pub ready-requires : goal.ready-requires
ready-requires g c = record { base = replaced_base c.self.invariant c.in_ok-form.form c.shown_len.result _ c.in_ok-form.ensures.ok c.shown_len.ensures.value }

pub invariant_of-self : goal.invariant_of-self
invariant_of-self g c =
    let ready = c.in_err-ready.ensures in
    same_fields c.self.invariant c.self.inside.line c.ready.new.self same_line
    (record { pending = ready.pending; flight = ready.flight; shown = ready.shown; journal = ready.journal })

pub returns-in_err-ready-clause-log : goal.returns-in_err-ready-clause-log
returns-in_err-ready-clause-log g c =
    let inside = c.self.inside in
    let ready = c.in_err-ready.ensures in
    let same = same_model inside.line inside.line inside.signer inside.ticket inside.own c.ready.new.self same_line
    (record { pending = ready.pending; flight = ready.flight; shown = ready.shown; journal = ready.journal }) in
    no_more c.from_residual-in_err-ready.result (Discard c.args.by) c.args.self.now _ c.from_residual-in_err-ready.ensures.0 (same ∙ c.self.view_is)

pub record_discard-requires-clause-limit : goal.record_discard-requires-clause-limit
record_discard-requires-clause-limit g c = rw c.in_ok-ready.ensures.shown (events_left (length c.self.inside.own.shown) c.in_ok-check_events.ensures.fault)

pub invariant_of-self-2 : goal.invariant_of-self-2
invariant_of-self-2 g c =
    let inside = c.self.inside in
    let line = inside.line in
    let signer = inside.signer in
    let own = inside.own in
    let known = c.self.invariant in
    let plain = plain_of signer.key line own in
    let did = c.record_discard.ensures in
    let ready = c.in_ok-ready.ensures in
    let text : chars c.as_str.result.now ≡ committed_of plain = ap chars c.as_str.ensures.value ∙ c.in_ok-text.ensures.characters in
    let form : c.in_ok-ready.ready.form ≡ replacement (length (shown_of plain)) (committed_of plain) =
    ready.ok
    ∙ c.in_ok-form.ensures.ok
    ∙ ap (λ (n : ℕ). replacement n (chars c.as_str.result.now)) (c.shown_len.ensures.value ∙ length_of_shown known)
    ∙ ap (replacement (length (shown_of plain))) text in
    (discard_recorded known c.record_discard.new.self c.args.by (events_left (length own.shown) c.in_ok-check_events.ensures.fault)
    did.pending
    did.flight
    (did.shown ∙ ap (λ (fs : List (List Mark)). fs ++ c.in_ok-ready.ready.form ∷ []) ready.shown ∙ ap (λ (f : List Mark). own.shown ++ f ∷ []) form)
    (did.journal ∙ ap (λ (es : List Event). es ++ events.Discard c.args.by ∷ []) ready.journal)).invariant

pub returns-clause-fault : goal.returns-clause-fault
returns-clause-fault g c =
    ap discard_fault (state_is c.self.invariant c.self.view_is) ∙ c.in_ok-check_events.ensures.fault

pub returns-clause-ok : goal.returns-clause-ok
returns-clause-ok g c = events_logged c.self.inside.line.entries c.record_discard.new.self.journal c.journal.result.now c.journal.ensures.value
