-- Orders under locks of their own, for inner contracts.
use Rattle.std.specs.Prelude.{◌≡◌, ℕ, List, map, reverse, Option, Some, None, Result}
use Rattle.std.specs.List.{AllByRecursion, AllZip}
use Rattle.sporc_outside.specs.Nets.{NetTold}
use Rattle.sporc_turn.specs.Knowing.{first_known}
use Rattle.sporc_turn.specs.Log.{Agrees}
use Rattle.sporc_turn.specs.Passes.{known_of, out_of}
use Rattle.sporc_turn.specs.declared.pass.Pass.{Pass}
use Rattle.sporc_entry.specs.declared.genesis.Genesis.{Genesis}
use Rattle.sporc_order.specs.OrderModel.{OrderModel}
use Rattle.sporc_order.specs.declared.tail.Tail.{Ghosts}
use Rattle.sporc_serve.specs.declared.item.Item.{Item}
use Rattle.sporc_serve.specs.Logs.{by_of, order_at, IsLogOf}
use Rattle.sporc_serve.specs.Served.{log_at_first}
use Rattle.sporc_serve.specs.Visits.{TookLinks}
use Rattle.sporc_serve.specs.declared.fault.ServeFault.{ServeFault}
use Rattle.sporc_docs.specs.declared.locks.Locks.{Locks}
use Rattle.sporc_docs.specs.Hands.{HasFirst}
use Rattle.sporc_docs.specs.Lists.{AreApart}
use Rattle.sporc_docs.specs.Served.{Session, visits_of, AreBound, IsServedDocument}

-- number 0 of the lock round an order, as it was opened
abbrev pub KnowsFirst : OrderModel → Option (Pass Item) → Type 0
KnowsFirst o None = ⊥
KnowsFirst o (Some p) = known_of p ≡ first_known (log_at_first o)

-- locks round these orders, in their order
pub record AreOpen {T : Type 0} {tail : Ghosts T} (orders : List OrderModel)
    (locks : Locks T tail) : Type 0 where
  pub firsts : AllZip HasFirst locks.turns.items locks.firsts.items
  pub documents_are : locks.documents.items ≡ map (λ o. o.genesis.document) orders
  pub known : AllZip KnowsFirst orders locks.firsts.items

-- each pass that was split from number 0 was joined back
abbrev pub IsBack : Option (Pass Item) → Type 0
IsBack None = ⊥
IsBack (Some p) = out_of p ≡ 0

abbrev pub AreBack : List (Option (Pass Item)) → Type 0
AreBack ps = AllByRecursion IsBack ps

-- the order under a lock that is closed with number 0: that of all that number 0 has seen
abbrev pub Closes : Option (Pass Item) → OrderModel → Type 0
Closes None o = ⊥
Closes (Some p) o = Agrees by_of (known_of p) (known_of p).seen × ((genesis : Genesis)
    → IsLogOf genesis (known_of p).seen → o ≡ order_at genesis (known_of p).seen)

-- number 0 of the lock round an order, once these sessions have ended
abbrev pub Ends : List Session → OrderModel → Option (Pass Item)
    → Type 0
Ends sessions o p = (o' : OrderModel) → Closes p o' → IsServedDocument sessions o o'

-- number 0 of the locks round these orders, the last order's first, once so many sessions at a net
-- have ended
pub record Ending (orders : List OrderModel)
    (firsts : List (Option (Pass Item))) (old new : NetTold) (count : ℕ)
    (result : Result (Unit {0}) ServeFault) (sessions : List Session) : Type 0 where
  pub bound : AreBound orders sessions
  pub back : AreBack firsts
  pub ends : AllZip (Ends sessions) (reverse orders) firsts
  pub links : TookLinks old new count result (visits_of sessions)

abbrev pub AreEnding : List OrderModel → List (Option (Pass Item))
    → NetTold → NetTold → ℕ → Result (Unit {0}) ServeFault → Type 0
AreEnding orders firsts old new count result =
    (sessions : List Session) × Ending orders firsts old new count result sessions

-- whichever orders of these documents were under locks that were just opened, the last order's
-- first
abbrev pub EndsAll : List (List ℕ) → List (Option (Pass Item)) → List (Option (Pass Item))
    → NetTold → NetTold → ℕ → Result (Unit {0}) ServeFault → Type 0
EndsAll documents firsts firsts' old new count result =
    (orders : List OrderModel) → AreApart orders
    → documents ≡ map (λ o. o.genesis.document) (reverse orders)
    → AllZip KnowsFirst (reverse orders) firsts → AreEnding orders firsts' old new count result
