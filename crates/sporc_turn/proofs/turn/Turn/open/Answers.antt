use Rattle.std.proofs.Common.{rules, subst, sym, ◌∷◌, [], Some, length}
use Rattle.sporc_turn.proofs.Common.{opening, TurnInvariant, newcomer}
use Rattle.sporc_turn.proofs.Passes.{opens}
use Rattle.sporc_turn.proofs.turn.Turn.open.Goals as goal

pub new-requires : goal.new-requires
new-requires g c =
    let logs = g.S.Kept.log in
    let watermarks = g.S.Kept.watermark in
    let by = g.S.Kept.by in
    subst (λ xs. TurnInvariant by logs watermarks (length (logs c.of-about.result.value)) (opening (0 ∷ 0 ∷ c.logged-count.result ∷ []) xs (newcomer (logs c.of-about.result.value) (watermarks c.of-about.result.value)))) {x = Some c.args.value ∷ []} (search rules)
    (subst (λ v. TurnInvariant by logs watermarks (length (logs v)) (opening (0 ∷ 0 ∷ c.logged-count.result ∷ []) (Some c.args.value ∷ []) (newcomer (logs v) (watermarks v)))) (sym c.of-about.ensures) (opens logs watermarks by c.args.value c.logged-count.result c.logged-count.ensures))
