use Rattle.std.proofs.Common.{◌+◌, ◌<◌, ◌≤◌, ◌++◌, ◌∷◌, [], List, length, take, ap, sym, ◌∙◌, arith}
use Rattle.sporc_client.proofs.Common.{take_all, Mark, forms_of, length-forms, Event}
use Rattle.sporc_client.specs.declared.event.Event.TheVariants as events
use Rattle.sporc_client.proofs.AcceptedHistories.{next_form_at, place_more}
use Rattle.sporc_client.proofs.client.restarting.accepted_before.Goals as goal

pub ready-requires : goal.ready-requires
ready-requires c =
    let line = c.args.line.now in
    let next = next_form_at line.genesis line.kit line.entries c.loop-i.i c.form.result.now c.len-len.ensures.good c.form.ensures.value in
    record { base = rw (c.in_ok-form.ensures.ok, c.loop-i.invariant.shown) next.base }

pub loop-i-preserved : goal.loop-i-preserved
loop-i-preserved c =
    let line = c.args.line.now in
    let i = c.loop-i.i in
    let before = c.loop-i.invariant in
    let ready = c.in_ok-ready.ensures in
    let did = c.record_event.ensures in
    let next = next_form_at line.genesis line.kit line.entries i c.form.result.now c.len-len.ensures.good c.form.ensures.value in
    let within : i < length line.entries = omega (arith, c.loop-i-test.true, c.len-len.ensures.value) in
    record {
      pending = did.pending ∙ ready.pending ∙ before.pending;
      flight = did.flight ∙ ready.flight ∙ before.flight;
      shown =
          did.shown
          ∙ ap (λ (fs : List (List Mark)). fs ++ c.in_ok-ready.ready.form ∷ []) (ready.shown ∙ before.shown)
          ∙ ap (λ (f : List Mark). take i (forms_of line.genesis line.kit line.entries) ++ f ∷ []) (ready.ok ∙ c.in_ok-form.ensures.ok)
          ∙ sym next.more;
      journal =
          did.journal
          ∙ ap (λ (es : List Event). es ++ events.Accept 0 (i + 1) ∷ []) (ready.journal ∙ before.journal)
          ∙ sym (place_more i line.entries within);
    }

pub returns-clause-shown : goal.returns-clause-shown
returns-clause-shown c =
    let line = c.args.line.now in
    let forms = forms_of line.genesis line.kit line.entries in
    let all : length forms ≤ c.loop-i.i = omega (arith, length-forms line.genesis line.kit line.entries, c.len-len.ensures.value, c.loop-i-test.false) in
    c.loop-i.invariant.shown ∙ take_all c.loop-i.i forms all
