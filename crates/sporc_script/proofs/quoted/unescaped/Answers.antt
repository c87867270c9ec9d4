use Rattle.std.proofs.Common.{sym, ◌∙◌}
use Rattle.sporc_script.proofs.Escapes.{after_backslash, after_byte, cut_short, read_whole, refused_here}
use Rattle.sporc_script.proofs.quoted.unescaped.Goals.{in-Backslash, in-Byte+in_ok-push-in-Byte, then-escaped, else-escaped}
use Rattle.sporc_script.proofs.quoted.unescaped.Goals as goal

pub loop-b-preserved : goal.loop-b-preserved
loop-b-preserved c =
    elim c.match-step_at.branch [
      | in-Backslash w ↦
          let h = after_backslash c.args.body.now c.loop-b.text.items c.loop-b.escaped c.loop-b.b-index c.loop-b-test.true c.loop-b.invariant (sym c.step_at.ensures ∙ w.in-Backslash.is) in
          rw (w.text-is, w.escaped-is) h
      | in-Byte+in_ok-push-in-Byte w ↦
          let h = after_byte c.args.body.now c.loop-b.text.items c.loop-b.escaped c.loop-b.b-index _ c.loop-b-test.true c.loop-b.invariant (sym c.step_at.ensures ∙ w.in-Byte.is) in
          rw (w.text-is, w.in_ok-push-in-Byte.ensures.items, w.escaped-is) h
    ]

pub returns-in-Refused : goal.returns-in-Refused
returns-in-Refused c =
    sym (refused_here c.args.body.now c.loop-b.text.items c.loop-b.escaped c.loop-b.b-index c.loop-b-test.true c.loop-b.invariant (sym c.step_at.ensures ∙ c.in-Refused.is))

pub returns : goal.returns
returns c =
    elim c.if-escaped.branch [
      | then-escaped w ↦ rw w.result-is (sym (cut_short c.args.body.now c.loop-b.text.items c.loop-b.escaped c.loop-b.b-index c.loop-b-test.false c.loop-b.invariant w.if-escaped.true))
      | else-escaped w ↦ rw w.result-is (sym (read_whole c.args.body.now c.loop-b.text.items c.loop-b.escaped c.loop-b.b-index c.loop-b-test.false c.loop-b.invariant w.if-escaped.false))
    ]
