use Rattle.std.proofs.Common.{◌≡◌, ◌≤◌, []}
use Rattle.sporc_turn.proofs.Common.{IsIdle, reading}
use Rattle.sporc_turn.proofs.turn.Turn.draw.Given as goal

-- the pass is still idle, and may have read the next ticket
abbrev pub invariant-tries : goal.invariant-tries
invariant-tries g l =
    (goal.iterator-tries g).can_next l.iterator' × (goal.iterator-tries g).is_finite l.iterator'
    × (l.seat.table_id ≡ l.initial.seat.table_id) × (l.seat.me.1 ≡ []) × IsIdle l.seat.me.0
    × (l.seat.me.0 ≡ reading l.initial.seat.me.0 l.seat.me.0.read) × (l.initial.seat.me.0.read ≤ l.seat.me.0.read)
