use Rattle.std.proofs.Common.{◌≡◌, ◌+◌, ◌∷◌, ◌∙◌, ap, drop, List, drop-cons, add-one, arith}
use Rattle.sporc_screen.proofs.Common.{Mark, keep_marks}
use Rattle.sporc_screen.proofs.Following.{Composing-start, Composing-step}
use Rattle.sporc_screen.proofs.lines.composed.Goals as goal

pub loop-line-init : goal.loop-line-init
loop-line-init c = Composing-start c.in_ok-all.all c.args.lines.now c.args.len (c.in_ok-all.ensures ∙ ap keep_marks c.len_before.ensures.value) c.requires.lead

pub loop-line-preserved : goal.loop-line-preserved
loop-line-preserved c =
    let i = c.loop-line.line-index in
    let xs = c.args.lines.now in
    let item : List Mark = c.line-item.result in
    let at : drop i xs ≡ item ∷ drop (i + 1) xs = grind (arith, drop-cons xs i item c.loop-line-test.true, c.line-item.is, add-one i) in
    Composing-step c.loop-line.all c.in_ok-all-2.all item i xs c.args.len at c.in_ok-all-2.ensures.ok c.loop-line.invariant
