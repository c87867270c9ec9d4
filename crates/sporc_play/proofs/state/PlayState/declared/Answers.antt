use Rattle.std.proofs.Common.{◌≡◌, ◌+◌, ◌++◌, ◌∷◌, [], List, arith, ap, sym, subst, take, ◌∙◌}
use Rattle.sporc_play.proofs.Common.{take_all, take_more, PlayLine, tree_of, HaveDeclared}
use Rattle.sporc_play.proofs.Opened.{stands_first}
use Rattle.sporc_play.proofs.state.PlayState.declared.Goals as goal

pub loop-line-preserved : goal.loop-line-preserved
loop-line-preserved c =
    let lines = c.args.lines.now in
    let i = c.loop-line.line-index in
    let line = c.line-item.result in
    let more : take (i + 1) lines ≡ take i lines ++ line ∷ [] = take_more lines i line c.loop-line-test.true ∙ ap (λ (l : PlayLine). take i lines ++ l ∷ []) (sym c.line-item.is) in
    subst (λ (ls : List PlayLine). HaveDeclared (tree_of lines) ls c.declare.new.cast c.declare.new.seats.items c.declare.new.rogues.items) (sym more)
    (c.in_ok-declare.ensures.ok (tree_of lines) (take i lines) c.loop-line.invariant)

pub returns : goal.returns
returns c =
    let lines = c.args.lines.now in
    let known = subst (λ (ls : List PlayLine). HaveDeclared (tree_of lines) ls c.loop-line.cast c.loop-line.seats.items c.loop-line.rogues.items) (take_all c.loop-line.line-index lines (omega arith)) c.loop-line.invariant in
    stands_first lines _ c.requires known c.in_ok-genesis.ensures.value c.new.ensures.items
