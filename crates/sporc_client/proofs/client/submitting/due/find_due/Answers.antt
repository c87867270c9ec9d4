use Rattle.std.proofs.Common.{◌≡◌, ◌∙◌, Some, None, Ok, refl, sym, ap}
use Rattle.std.specs.Prelude.{slice_get}
use Rattle.sporc_client.specs.declared.client.submitting.due.Due.TheVariants as steps
use Rattle.sporc_client.proofs.Submitting.{by_first, is_waiting, there}
use Rattle.sporc_client.proofs.client.submitting.due.find_due.Goals as goal

pub returns-then-is_some : goal.returns-then-is_some
returns-then-is_some c = record {
  value = is_waiting c.args.line.now c.args.own.now.shown c.args.own.now.pending c.args.own.now.flight (there c.flight.result c.args.own.now.flight c.flight.ensures.value ∙ sym c.is_some.ensures ∙ c.if-is_some.true);
}

pub returns-in-None : goal.returns-in-None
returns-in-None c =
    let own = c.args.own.now in
    let empty : slice_get own.pending 0 ≡ None = ap (λ ps. slice_get ps 0) (sym c.pending.ensures.value) ∙ sym c.in-None.ensures.value in
    record { value = by_first c.args.line.now own.shown (Ok steps.Nothing) own.pending own.flight (there c.flight.result own.flight c.flight.ensures.value ∙ sym c.is_some.ensures ∙ c.if-is_some.false) empty refl }

pub returns-in-Some : goal.returns-in-Some
returns-in-Some c =
    let own = c.args.own.now in
    let first : slice_get own.pending 0 ≡ Some c.in-Some.item.now = ap (λ ps. slice_get ps 0) (sym c.pending.ensures.value) ∙ sym c.in-Some.ensures.value in
    record { value = by_first c.args.line.now own.shown c.find_due_first.result own.pending own.flight (there c.flight.result own.flight c.flight.ensures.value ∙ sym c.is_some.ensures ∙ c.if-is_some.false) first c.find_due_first.ensures.value }
