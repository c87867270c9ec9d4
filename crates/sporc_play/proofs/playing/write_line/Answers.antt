use Rattle.std.proofs.Common.{◌++◌, ℕ, List, ap, ◌∙◌, subst}
use Rattle.sporc_play.proofs.Common.{Appends, AppendsPrefix}
use Rattle.sporc_play.proofs.playing.write_line.Goals as goal

pub returns-in_err-write_all-clause-prefix : goal.returns-in_err-write_all-clause-prefix
returns-in_err-write_all-clause-prefix g c failed script scene stands =
    let (l, writes, is) = c.in_ok-perform.ensures.line script scene stands in
    let bytes = c.as_bytes.ensures.value ∙ is ∙ ap (λ (t : List ℕ). t ++ l) c.new-line.ensures.bytes in
    (l, writes, subst (λ (bs : List ℕ). AppendsPrefix (g.O.Stream.told c.args.out.now).written (g.O.Stream.told c.write_all.new.out).written bs) bytes c.in_err-write_all.ensures.err)

pub returns-clause-ok : goal.returns-clause-ok
returns-clause-ok g c script scene stands =
    let (l, writes, is) = c.in_ok-perform.ensures.line script scene stands in
    let bytes = c.as_bytes.ensures.value ∙ is ∙ ap (λ (t : List ℕ). t ++ l) c.new-line.ensures.bytes in
    (l, writes, subst (λ (bs : List ℕ). Appends (g.O.Stream.told c.args.out.now).written (g.O.Stream.told c.write_all.new.out).written bs) bytes c.in_ok-write_all.ensures.ok)
