-- What contracts say of a lock, its passes and its held values.
use Rattle.std.specs.Prelude.{◌≡◌, ℕ, ◌-◌, ◌≤◌, length}
use Rattle.sporc_turn.specs.declared.kept.Kept.{Ghosts}
use Rattle.sporc_turn.specs.declared.held.Held.{Held}
use Rattle.sporc_turn.specs.declared.pass.Pass.{Pass}
use Rattle.sporc_turn.specs.declared.turn.Turn.{Turn}
use Rattle.sporc_turn.specs.declared.known.Known.{Known}
use Rattle.sporc_turn.specs.declared.limits.TheConstants.{MAX_TICKETS}
use Rattle.sporc_turn.specs.Seats.{view_of}

-- what a pass knows
abbrev pub known_of : {E : Type 0} → Pass E → Known E
known_of p = (view_of p.badge).known

-- the next ticket, as the pass last read it
abbrev pub read_of : {E : Type 0} → Pass E → ℕ
read_of p = (view_of p.badge).read

-- the watermark of the value, as the pass last saw it
abbrev pub watermark_of : {E : Type 0} → Pass E → ℕ
watermark_of p = (view_of p.badge).watermark

-- the pass has read that every ticket was drawn
abbrev pub IsWorn : {E : Type 0} → Pass E → Type 0
IsWorn p = MAX_TICKETS ≤ read_of p

-- how many passes were split from it and not joined back
abbrev pub out_of : {E : Type 0} → Pass E → ℕ
out_of p = (known_of p).splits - length (known_of p).joined

-- the pass is one of this lock
abbrev pub IsPassOf : {S E : Type 0} → Turn S E → Pass E → Type 0
IsPassOf t p = p.badge.table_id ≡ t.table.shared.table_id

module _ {S E : Type 0} {g : Ghosts S E} where
  -- the value that is held
  abbrev pub value_of : Held S E g → S
  value_of h = h.value

  -- what the pass that holds the value knows: it has seen the log that `take` found
  abbrev pub known_held : Held S E g → Known E
  known_held h = h.holder.seat.me.0.known

  -- the next ticket, as the pass that holds the value last read it
  abbrev pub read_held : Held S E g → ℕ
  read_held h = h.holder.seat.me.0.read

  -- the watermark that `take` found
  abbrev pub watermark_held : Held S E g → ℕ
  watermark_held h = h.holder.seat.me.0.watermark

  -- the value is one of this lock
  abbrev pub IsHeldOf : Turn S E → Held S E g → Type 0
  IsHeldOf t h = h.holder.seat.table_id ≡ t.table.shared.table_id

  -- it is one turn, whatever became of the value
  abbrev pub IsSameTurn : Held S E g → Held S E g → Type 0
  IsSameTurn old new = new.holder ≡ old.holder
