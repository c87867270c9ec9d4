use Rattle.std.proofs.Common.{◌≡◌, drop, ap, sym, ◌∙◌}
use Rattle.std.proofs.lemmas.List.{drop-map}
use Rattle.sporc_suffix.proofs.Common.{ReadyModel, forms_in}
use Rattle.sporc_suffix.proofs.Passing.{Follow-drop}
use Rattle.sporc_suffix.proofs.blocks.Blocks.composed.Goals as goal

pub in_halves-requires-clause-follow : goal.in_halves-requires-clause-follow
in_halves-requires-clause-follow c =
    let items = c.self.inside.forms.items in
    let back : c.split_at.result.1.now ≡ drop c.args.from c.self.inside.forms.items = c.split_at.ensures.back ∙ ap (drop c.args.from) c.as_slice-2.ensures.value in
    let there : forms_in c.split_at.result.1.now ≡ drop c.args.from (forms_in c.self.inside.forms.items) = ap forms_in back ∙ sym (drop-map (λ (item : ReadyModel). item.form) c.args.from items) in
    rw (c.reached_at-len.ensures.value, c.as_slice.ensures.value, there) (Follow-drop c.self.inside.base c.args.from (forms_in c.self.inside.forms.items) c.self.invariant.follow)
