use Rattle.sporc_line.proofs.LineKeeps.{line_opens}
use Rattle.sporc_line.proofs.line.Line.empty.Goals as goal

pub invariant_of-result : goal.invariant_of-result
invariant_of-result c =
    line_opens c.in_ok-heads.heads.genesis c.args.genesis c.args.kit c.in_ok-heads.heads.entries c.args.key c.in_ok-forms.forms.base c.in_ok-forms.forms.forms c.new-2.result c.requires.holds c.requires.meets
    c.in_ok-heads.ensures.genesis c.in_ok-heads.ensures.empty c.in_ok-forms.ensures.base c.in_ok-forms.ensures.forms c.new-2.ensures.value
