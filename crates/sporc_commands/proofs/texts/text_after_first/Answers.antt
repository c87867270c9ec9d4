use Rattle.std.proofs.Common.{◌-◌, ◌∙◌}
use Rattle.sporc_line.specs.Document.{forms_from}
use Rattle.sporc_commands.proofs.Prefixes.{form_applied, form_fits}
use Rattle.sporc_commands.proofs.texts.text_after_first.Goals as goal

pub forms-init : goal.forms-init
unfolding forms_from
forms-init c = c.new-text.ensures.value

pub apply-requires : goal.apply-requires
apply-requires c =
    let line = c.args.line.now in
    record { base = form_fits line.genesis line.kit line.entries c.requires.good c.forms.i c.form.result.now c.forms.text c.forms.invariant c.form.ensures.value }

pub forms-preserved : goal.forms-preserved
forms-preserved c =
    let line = c.args.line.now in
    c.in_ok-apply.ensures.ok ∙ form_applied line.genesis line.kit line.entries c.requires.good c.forms.i c.form.result.now c.forms.text c.forms.invariant c.form.ensures.value
