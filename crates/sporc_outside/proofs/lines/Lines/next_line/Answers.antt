use Rattle.std.proofs.Common.{◌∙◌, List, ℕ, Some, ap, subst, sym}
use Rattle.std.proofs.lemmas.Bool.{ltb-true}
use Rattle.std.specs.Io.KnownBytes.{prepend_known}
use Rattle.sporc_outside.specs.Lines.{LinesModel, TakesLine, after_line, first_line, unread_of}
use Rattle.sporc_outside.proofs.LineLemmas.{takes_line}
use Rattle.sporc_outside.proofs.lines.Lines.next_line.Goals as goal

pub returns-clause-value : goal.returns-clause-value
returns-clause-value g c =
    let left = (g.S.Stream.told c.loop-self.source).left in
    let same = ap (λ (lines : LinesModel). lines.held) c.in_ok-look.ensures.unchanged in
    let line = c.in_ok-take_line.ensures.ok ∙ ap first_line same in
    let rest = c.in_ok-take_line.ensures.held ∙ ap after_line same in
    subst (λ (held : List ℕ). TakesLine (unread_of c.args.self.now (g.S.Stream.told c.args.source.now).left) (prepend_known held left) (Some c.in_ok-take_line.field-0.items)) (sym rest)
    (subst (λ (l : List ℕ). TakesLine (unread_of c.args.self.now (g.S.Stream.told c.args.source.now).left) (prepend_known (after_line c.loop-self.self.held) left) (Some l)) (sym line)
    (takes_line (unread_of c.args.self.now (g.S.Stream.told c.args.source.now).left) c.loop-self.self.held left c.loop-self.invariant.unread (ltb-true _ _ (sym c.in_ok-look.ensures.ok ∙ c.if-not-branch.false))))
