use Rattle.std.proofs.Common.{sym, ◌∙◌}
use Rattle.sporc_script.proofs.Common.{cut}
use Rattle.sporc_script.proofs.Cuts.{behind_none, cut_here, cut_more, cut_nowhere}
use Rattle.sporc_script.proofs.words.cut.Goals as goal

pub loop-i-init : goal.loop-i-init
loop-i-init c = behind_none (cut c.args.line.now)

pub loop-i-preserved : goal.loop-i-preserved
loop-i-preserved c =
    rw c.place_after-place.ensures (cut_more c.args.line.now c.loop-i.place c.loop-i.i c.loop-i-test.true (sym c.ends_word.ensures ∙ c.if-ends_word.false) c.loop-i.invariant)

pub returns-then-ends_word : goal.returns-then-ends_word
returns-then-ends_word c = record { value = cut_here c.args.line.now c.loop-i.place c.loop-i.i c.loop-i-test.true (sym c.ends_word.ensures ∙ c.if-ends_word.true) c.loop-i.invariant }

pub returns : goal.returns
returns c = record { value = cut_nowhere c.args.line.now c.loop-i.place c.loop-i.i c.loop-i-test.false c.loop-i.invariant }
