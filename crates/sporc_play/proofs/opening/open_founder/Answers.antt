use Rattle.std.proofs.Common.{ap, ◌∙◌}
use Rattle.sporc_play.proofs.Common.{Keys, seat_open}
use Rattle.sporc_play.proofs.opening.open_founder.Goals as goal

pub returns-in-Ok : goal.returns-in-Ok
returns-in-Ok c =
    let seat = c.args.seat.now in
    record { ok = λ s is same. c.in-Ok.ensures.ok s is same ∙ ap (λ (keys : Keys). seat_open s keys seat seat.signer) c.in_ok-ring.ensures.value }
