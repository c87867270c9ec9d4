use Rattle.std.proofs.Common.{rules, ap, ◌≤◌, ◌∙◌, ◌∷◌, Some, sym, ◌+◌, subst}
use Rattle.sporc_turn.proofs.Common.{rest, Extends, Agrees}
use Rattle.sporc_turn.proofs.Turns.{raises, passes}
use Rattle.sporc_turn.proofs.Passes.{room_slot, view_there}
use Rattle.sporc_turn.proofs.turn.Turn.give.Goals as goal

pub store-requires : goal.store-requires
store-requires g c =
    let e = c.exchange.ensures in
    let held = c.args.held in
    let logs = g.S.Kept.log in (
      search rules,
      search rules,
      raises logs g.S.Kept.watermark g.S.Kept.by _ _ _ c.exchange.new.seat.me held.value _
          (ap (λ m. m.1) e.3 ∙ ap (λ l. (0, Some held.value) ∷ rest l) (room_slot held.holder.seat.me.1 held.holder.room))
          (ap (λ m. m.0.turns) e.3 ∙ held.holder.is_out.1)
          c.logged-count.ensures
          (subst (λ k. Extends g.S.Kept.by k (logs held.value)) (sym (ap (λ m. m.0.known) e.3)) c.requires.log)
          (subst (λ n. n ≤ g.S.Kept.watermark held.value) (sym (ap (λ m. m.0.watermark) e.3)) c.requires.watermark),
    )

pub store-requires-2 : goal.store-requires-2
store-requires-2 g c =
    let e = c.exchange.ensures in
    let held = c.args.held in
    let logs = g.S.Kept.log in
    let has = ap (λ m. m.1) e.3 ∙ ap (λ l. (0, Some held.value) ∷ rest l) (room_slot held.holder.seat.me.1 held.holder.room) in
    let s = (c.store.ensures.2 held.value has).0 in (
      search rules,
      search rules,
      passes logs g.S.Kept.watermark g.S.Kept.by _ _ _ c.store.new.seat.me held.value _
          (ap (λ m. m.1) s ∙ has)
          (ap (λ m. m.0.turns) s ∙ ap (λ m. m.0.turns) e.3 ∙ held.holder.is_out.1)
          (ap (λ m. m.0.known.seen) s)
          (ap (λ m. m.0.watermark) s)
          (ap (λ n. n + 1) held.holder.ticket_is ∙ ap (λ m. m.0.ticket + 1) (sym e.3) ∙ ap (λ m. m.0.ticket + 1) (sym s)),
    )

pub returns-clause-agrees : goal.returns-clause-agrees
returns-clause-agrees g c =
    let held = c.args.held in
    let logs = g.S.Kept.log in
    let s = c.store.ensures.2 held.value (ap (λ m. m.1) c.exchange.ensures.3 ∙ ap (λ l. (0, Some held.value) ∷ rest l) (room_slot held.holder.seat.me.1 held.holder.room)) in
    let known = ap (λ v. v.known) (view_there _ _ c.into_badge.ensures.2) ∙ ap (λ m. m.0.known) c.store-2.ensures.2 ∙ ap (λ m. m.0.known) s.0 in
    subst (λ k. Agrees g.S.Kept.by k (logs held.value)) (sym known) s.1
