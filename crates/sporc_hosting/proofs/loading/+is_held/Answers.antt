use Rattle.std.proofs.Common.{ap, sym, ◌∙◌, bytes_eq}
use Rattle.sporc_hosting.proofs.Loaded.{first_held, later_held, none_held}
use Rattle.sporc_hosting.proofs.loading.+is_held.Goals as goal

pub returns-in_default : goal.returns-in_default
returns-in_default t c = record { value = none_held c.args.orders.now c.args.document.now c.in_default.ensures.cases }

pub returns-then-is_same : goal.returns-then-is_same
returns-then-is_same t c = record {
  value = first_held c.args.orders.now c.args.document.now c.in-Some.first.now c.in-Some.others.now c.in-Some.ensures.cases.0
      (ap (bytes_eq c.args.document.now) (sym c.document.ensures.value) ∙ sym c.is_same.ensures.value ∙ c.if-is_same.true);
}

pub returns : goal.returns
returns t c = record {
  value = later_held c.args.orders.now c.args.document.now c.in-Some.first.now c.in-Some.others.now _ c.in-Some.ensures.cases.0
      (ap (bytes_eq c.args.document.now) (sym c.document.ensures.value) ∙ sym c.is_same.ensures.value ∙ c.if-is_same.false) c.is_held.ensures.value;
}
