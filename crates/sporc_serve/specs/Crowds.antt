-- Sessions that a server runs beside one another, for inner contracts.
use Rattle.std.specs.Prelude.{◌≡◌, ◌≢◌, ◌+◌, ◌<◌, ◌≤◌, ◌^◌, ℕ, List, Option, Some, None, Result}
use Rattle.std.specs.Prelude.{Err}
use Rattle.sporc_outside.specs.Nets.{AreShutBehind, NetTold}
use Rattle.sporc_outside.specs.Told.{IsTrueIfTold}
use Rattle.sporc_turn.specs.declared.known.Known.{Known}
use Rattle.sporc_turn.specs.declared.pass.Pass.{Pass}
use Rattle.sporc_turn.specs.declared.turn.Turn.{Turn}
use Rattle.sporc_turn.specs.declared.limits.TheConstants.{MAX_TICKETS}
use Rattle.sporc_turn.specs.Passes.{known_of, read_of, IsPassOf}
use Rattle.sporc_entry.specs.declared.genesis.Genesis.{Genesis}
use Rattle.sporc_order.specs.declared.tail.Tail.{Ghosts}
use Rattle.sporc_serve.specs.declared.desk.Desk.{Desk}
use Rattle.sporc_serve.specs.declared.end.SessionEnd.TheVariants as ends
use Rattle.sporc_serve.specs.declared.fault.ServeFault.{ServeFault}
use Rattle.sporc_serve.specs.declared.fault.ServeFault.TheVariants.{Unkept}
use Rattle.sporc_serve.specs.declared.item.Item.{Item}
use Rattle.sporc_serve.specs.Logs.{OfDocument}
use Rattle.sporc_serve.specs.Turns.{HasReadLast}
use Rattle.sporc_serve.specs.Visits.{Visit, Visits, IsServedSession, SomeWorn, TookLinks}

-- the sessions that were served, of so many, where the pass that comes back has read this as the
-- next ticket
pub record Crowd (genesis : Genesis) (before after : Known Item) (read : ℕ) (old new : NetTold)
    (sessions : ℕ) (result : Result (Unit {0}) ServeFault) (visits : List Visit) : Type 0 where
  pub visits_are : Visits genesis before after visits
  pub links : TookLinks old new sessions result visits
  pub worn : (ticket : ℕ) → SomeWorn ticket visits → MAX_TICKETS ≤ read

abbrev pub IsCrowd : Genesis → Known Item → Known Item
    → ℕ → NetTold → NetTold → ℕ → Result (Unit {0}) ServeFault → Type 0
IsCrowd genesis before after read old new sessions result =
    (visits : List Visit) × Crowd genesis before after read old new sessions result visits

-- what sessions leave of a net: their links came back shut, it was asked for no other address, as
-- many links are out, and its count did not fall
abbrev pub LeavesNet : NetTold → NetTold → Type 0
LeavesNet old new = AreShutBehind old.returned new.returned × (new.asked ≡ old.asked)
    × (new.out ≡ old.out) × (old.faults ≤ new.faults)

-- the other sessions, so many, were served at a net by number 0's pass, which knew `before`, and is
-- `after` now
abbrev pub ServesOthers : {T : Type 0} {tail : Ghosts T} → Turn (Desk T tail) Item → NetTold
    → NetTold → ℕ → Result (Unit {0}) ServeFault → Pass Item → Pass Item → Type 0
ServesOthers {T} {tail} turn old new sessions result after before =
    IsPassOf turn after × ((known_of after).number ≡ 0) × OfDocument (known_of before).seen
    (λ genesis. IsCrowd genesis (known_of before) (known_of after) (read_of after) old new
    sessions result) × LeavesNet old new × (result ≡ Err Unkept → tail.may_fail)

-- one session was served by another pass, which was `before`, and is `after` now: its link is shut
abbrev pub ServesOne : {T : Type 0} {tail : Ghosts T} → Turn (Desk T tail) Item → Visit
    → Pass Item → Pass Item → Type 0
ServesOne {T} {tail} turn v after before =
    IsPassOf turn after × ((known_of after).number ≡ (known_of before).number)
    × OfDocument (known_of before).seen
    (λ genesis. IsServedSession genesis (known_of before) (known_of after) v)
    × IsTrueIfTold v.after.is_shut × HasReadLast (read_of after) v.end
    × (v.end ≡ ends.Unkept → tail.may_fail)

-- a pass of this lock with number 0, which has room for so many splits
abbrev pub IsFirst : {T : Type 0} {tail : Ghosts T} → Turn (Desk T tail) Item → Option (Pass Item)
    → ℕ → Type 0
IsFirst turn None sessions = ⊥
IsFirst turn (Some p) sessions =
    IsPassOf turn p × ((known_of p).number ≡ 0) × ((known_of p).splits + sessions < 2 ^ 32)

-- a pass of this lock with another number
abbrev pub IsOther : {T : Type 0} {tail : Ghosts T} → Turn (Desk T tail) Item
    → Option (Pass Item) → Type 0
IsOther turn None = ⊥
IsOther turn (Some p) = IsPassOf turn p × ((known_of p).number ≢ 0)
