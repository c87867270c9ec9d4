use Rattle.std.proofs.Common.{◌≡◌, Some, None, ap, sym, ◌∙◌, subst}
use Rattle.sporc_line.proofs.Common.{get, Genesis, Kit, Meets}
use Rattle.sporc_line.proofs.LineKeeps.{opens_with}
use Rattle.sporc_line.proofs.line.Line.reopen.Goals as goal

pub empty-requires-clause-meets : goal.empty-requires-clause-meets
empty-requires-clause-meets c =
    let same : Some c.in-Some.key ≡ get c.self.inside.kit.ring 0 = sym c.in-Some.is ∙ c.hint.ensures.value ∙ ap (λ (kit : Kit). get kit.ring 0) c.in_ok-kit.ensures.ok in
    let genesis : c.in_ok-genesis.genesis ≡ c.self.inside.heads.genesis = c.in_ok-genesis.ensures.ok ∙ c.genesis.ensures.value in
    subst (λ (g : Genesis). Meets g 0 (Some c.in-Some.key) g.commitment) (sym genesis)
    (opens_with c.self.inside.heads.genesis c.self.inside.kit c.self.inside.heads.entries (Some c.in-Some.key) c.self.invariant.good same)

pub unreachable-requires : goal.unreachable-requires
unreachable-requires c =
    let same : None ≡ get c.self.inside.kit.ring 0 = sym c.in-None.is ∙ c.hint.ensures.value ∙ ap (λ (kit : Kit). get kit.ring 0) c.in_ok-kit.ensures.ok in
    opens_with c.self.inside.heads.genesis c.self.inside.kit c.self.inside.heads.entries None c.self.invariant.good same
