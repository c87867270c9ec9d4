use Rattle.std.proofs.Common.{sym, ◌∙◌, arith}
use Rattle.sporc_suffix.proofs.Common.{length-map, ReadyModel, forms_in}
use Rattle.sporc_suffix.proofs.Kept.{ends_within, form_kept, run_kept}
use Rattle.sporc_suffix.proofs.runs.run_at.Goals as goal

pub last_of-requires : goal.last_of-requires
last_of-requires c = omega (arith, ends_within c.args.level c.args.place (forms_in c.args.forms.now) c.requires.in_bounds, length-map c.args.forms.now (λ (item : ReadyModel). item.form), c.requires.limit)

pub offset_bounds-forms-last_of : goal.offset_bounds-forms-last_of
offset_bounds-forms-last_of c =
    omega (arith, ends_within c.args.level c.args.place (forms_in c.args.forms.now) c.requires.in_bounds, length-map c.args.forms.now (λ (item : ReadyModel). item.form), c.requires.limit, c.last_of.ensures.value)

pub bounds-forms-last_of : goal.bounds-forms-last_of
bounds-forms-last_of c = omega (arith, ends_within c.args.level c.args.place (forms_in c.args.forms.now) c.requires.in_bounds, length-map c.args.forms.now (λ (item : ReadyModel). item.form), c.last_of.ensures.value)

pub returns-then-level-eq0 : goal.returns-then-level-eq0
returns-then-level-eq0 c = record {
  value = rw c.form.ensures.value (form_kept c.args.forms.now c.args.level c.args.place c.last_of.result c.index-forms-last_of.result c.if-level-eq0.true c.requires.in_bounds c.last_of.ensures.value c.index-forms-last_of.is);
}

pub run-requires : goal.run-requires
run-requires c =
    (run_kept c.args.forms.now c.args.level c.args.place c.last_of.result c.index-forms-last_of.result c.requires.runs (omega (arith, c.if-level-eq0.false)) c.requires.in_bounds c.last_of.ensures.value c.index-forms-last_of.is).0

pub returns : goal.returns
returns c = record {
  value =
      sym (run_kept c.args.forms.now c.args.level c.args.place c.last_of.result c.index-forms-last_of.result c.requires.runs (omega (arith, c.if-level-eq0.false)) c.requires.in_bounds c.last_of.ensures.value c.index-forms-last_of.is).1
      ∙ c.run.ensures.value;
}
