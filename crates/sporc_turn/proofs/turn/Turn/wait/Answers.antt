use Rattle.std.proofs.Common.{rules, ap, ◌∙◌, ◌∷◌, sym, Some}
use Rattle.sporc_turn.proofs.Common.{rest}
use Rattle.sporc_turn.proofs.Turns.{serves}
use Rattle.sporc_turn.proofs.turn.Turn.wait.Goals as goal

pub load-served-requires : goal.load-served-requires
load-served-requires g c = (search rules, search rules, serves g.S.Kept.log g.S.Kept.watermark g.S.Kept.by _ _ _ _ (ap (λ m. m.0.waits) c.turns.invariant.3 ∙ c.requires.waits))

pub exchange-requires : goal.exchange-requires
exchange-requires g c =
    let got = c.load-served.ensures.2.0 (c.if-served-ticket.true ∙ sym (ap (λ m. m.0.ticket) c.turns.invariant.3 ∙ c.requires.ticket)) in
    (search rules, (Some got.0, ap (λ m. m.1) got.1 ∙ ap (λ l. (0, Some got.0) ∷ rest l) (sym (ap (λ m. m.1) got.1))))
