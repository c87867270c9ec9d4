-- What a server did, whole.
use Rattle.std.specs.Prelude.{◌≡◌, ◌+◌, ◌≤◌, ℕ, List, [], ◌∷◌, length, drop}
use Rattle.std.specs.Prelude.{replicate, Result}
use Rattle.std.specs.List.{All}
use Rattle.sporc_base.specs.Lists.{StartsWith}
use Rattle.sporc_outside.specs.Nets.{NetTold}
use Rattle.sporc_turn.specs.declared.known.Known.{Known}
use Rattle.sporc_turn.specs.declared.pass.Pass.{Pass}
use Rattle.sporc_turn.specs.Log.{own}
use Rattle.sporc_turn.specs.Passes.{known_of, IsWorn}
use Rattle.sporc_entry.specs.declared.genesis.Genesis.{Genesis}
use Rattle.sporc_order.specs.OrderModel.{OrderModel}
use Rattle.sporc_serve.specs.declared.item.Item.{Item}
use Rattle.sporc_serve.specs.Logs.{by_of, log_of, order_at}
use Rattle.sporc_serve.specs.declared.fault.ServeFault.{ServeFault}
use Rattle.sporc_serve.specs.Visits.{Visit, IsServedSession, SomeWorn, TookLinks}

-- the log of an order that is handed in
abbrev pub log_at_first : OrderModel → List Item
log_at_first order = log_of order (replicate (length order.entries) 0)

module _ (genesis : Genesis) (start log : List Item) where
  -- a session by the pass with this number: what it knew first begins with the log at first, and
  -- the log at last with all that it knew; the log's entries with its number are those that it
  -- added
  pub record Attends (number : ℕ) (first last : Known Item) (v : Visit) : Type 0 where
    pub number_is : first.number ≡ number
    pub none : first.mine ≡ []
    pub begins : StartsWith first.seen start
    pub session : IsServedSession genesis first last v
    pub known : StartsWith log last.seen
    pub own_are : own by_of number (length start) log ≡ last.mine

  -- sessions by passes with the numbers from this one on
  abbrev pub Attended : ℕ → List Visit → Type 0
  Attended number [] = Unit {0}
  Attended number (v ∷ vs) = (first : Known Item) × (last : Known Item)
      × Attends number first last v × Attended (number + 1) vs

-- The order that is handed back is that of a log which begins with the order that was handed in.
-- Each further entry was added by one of the sessions: it has the number of a session's pass.
pub record Served (before after : OrderModel)
    (visits : List Visit) (log : List Item) : Type 0 where
  pub order_is : after ≡ order_at before.genesis log
  pub begins : StartsWith log (log_at_first before)
  pub sessions : Attended before.genesis (log_at_first before) log 1 visits
  pub numbered : All (λ e. (1 ≤ by_of e) × (by_of e ≤ length visits))
      (drop (length (log_at_first before)) log)

-- a pass that has seen this log has read that every ticket was drawn
abbrev pub IsWornAt : List Item → Type 0
IsWornAt log = (pass : Pass Item) × ((known_of pass).seen ≡ log) × IsWorn pass

-- so many sessions at a net, of which this is answered; if one of them ended at the lock's last
-- ticket, the pass that the lock was closed with has read it
pub record ServesAt (before after : OrderModel) (old new : NetTold) (sessions : ℕ)
    (result : Result (Unit {0}) ServeFault) (visits : List Visit) (log : List Item) : Type 0 where
  pub served : Served before after visits log
  pub links : TookLinks old new sessions result visits
  pub worn : (ticket : ℕ) → SomeWorn ticket visits → IsWornAt log

abbrev pub IsServed : OrderModel → OrderModel
    → NetTold → NetTold → ℕ → Result (Unit {0}) ServeFault → Type 0
IsServed before after old new sessions result = (visits : List Visit) × (log : List Item)
    × ServesAt before after old new sessions result visits log
