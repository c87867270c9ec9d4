use Rattle.std.proofs.Common.{ap, ◌∙◌, sym}
use Rattle.sporc_turn.proofs.Extending.{Extends-push_or_same}
use Rattle.sporc_thread_tests.proofs.lock.work.once.Goals as goal

pub give-requires-clause-log : goal.give-requires-clause-log
give-requires-clause-log g c =
    let turn = ap (λ h. h.seat.me.0.known) c.add_number.ensures.turn ∙ c.in-Ok.ensures.held in
    Extends-push_or_same (λ n. n) _ _ _ _ _ (sym (ap (λ k. k.seen) turn)) (c.number-number.ensures.value ∙ sym (ap (λ k. k.number) turn)) c.add_number.ensures.log
