use Rattle.std.proofs.Common.{ap, ◌∙◌}
use Rattle.sporc_script.proofs.Common.{lines_of}
use Rattle.sporc_script.proofs.TextLines.{lines_of-last, lines_of-split}
use Rattle.sporc_script.proofs.lines.next_line.Goals as goal

pub returns-in-Some-clause-lines : goal.returns-in-Some-clause-lines
returns-in-Some-clause-lines c =
    ap lines_of c.in-Some.ensures.value.1 ∙ lines_of-split c.in-Some.parts.0.now c.in-Some.parts.1.now c.in-Some.ensures.value.0

pub returns-in-None-clause-lines : goal.returns-in-None-clause-lines
returns-in-None-clause-lines c = lines_of-last c.args.text.now c.requires c.in-None.ensures.value
