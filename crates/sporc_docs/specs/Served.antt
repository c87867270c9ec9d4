-- What a server of many documents did: for each document what a server of it alone does, with the
-- sessions bound to it.
use Rattle.std.specs.Prelude.{◌≡◌, ◌⊎◌, ◌+◌, ℕ, List, [], ◌∷◌, length, drop, map, Option, Some}
use Rattle.std.specs.Prelude.{Result, Ok, Err}
use Rattle.std.specs.List.{All, AllZip}
use Rattle.sporc_base.specs.Lists.{StartsWith}
use Rattle.sporc_outside.specs.Nets.{NetTold}
use Rattle.sporc_turn.specs.declared.known.Known.{Known}
use Rattle.sporc_entry.specs.declared.genesis.Genesis.{Genesis}
use Rattle.sporc_order.specs.OrderModel.{OrderModel}
use Rattle.sporc_serve.specs.declared.end.SessionEnd.TheVariants.{Worn}
use Rattle.sporc_serve.specs.declared.fault.ServeFault.{ServeFault}
use Rattle.sporc_serve.specs.declared.fault.ServeFault.TheVariants as faults
use Rattle.sporc_serve.specs.declared.item.Item.{Item}
use Rattle.sporc_serve.specs.Logs.{by_of, order_at}
use Rattle.sporc_serve.specs.Visits.{Visit, TookLinks}
use Rattle.sporc_serve.specs.Served.{Attends, IsWornAt, log_at_first}
use Rattle.sporc_docs.specs.declared.fault.DocsServeFault.{DocsServeFault}
use Rattle.sporc_docs.specs.declared.fault.DocsServeFault.TheVariants as faults'
use Rattle.sporc_docs.specs.Machine.{bound_by}
use Rattle.sporc_docs.specs.Sessions.{IsBound}

-- each of these tails keeps the entries of the order at its place
abbrev pub AreKept : {T : Type 0} → (T → List (List ℕ) → Type 0) → List T → List OrderModel → Type 0
AreKept keeps tails orders = AllZip (λ tail o. ∥ keeps tail o.entries ∥₁) tails orders

-- what a server of many documents answers, as the server of one says it
abbrev pub as_served : Result (Unit {0}) DocsServeFault → Result (Unit {0}) ServeFault
as_served (Ok done) = Ok done
as_served (Err faults'.ListenFault) = Err faults.ListenFault
as_served (Err (faults'.Worn ticket)) = Err (faults.Worn ticket)
as_served (Err faults'.Memory) = Err faults.Memory
as_served (Err faults'.Unkept) = Err faults.Unkept

-- a session, and the document that its first message names, if that is held
pub record Session : Type 0 where
  pub visit : Visit
  pub document : Option (List ℕ)

abbrev pub visits_of : List Session → List Visit
visits_of sessions = map (λ s. s.visit) sessions

-- the number of a session that is bound to this document, where the first of them has the number
-- `number`
abbrev pub IsOneOf : List ℕ → ℕ → List Session → ℕ → Type 0
IsOneOf document number [] n = ⊥
IsOneOf document number (s ∷ ss) n =
    ((s.document ≡ Some document) × (n ≡ number)) ⊎ IsOneOf document (number + 1) ss n

-- each session is bound to what its first message names among these orders
abbrev pub AreBound : List OrderModel → List Session → Type 0
AreBound orders [] = Unit {0}
AreBound orders (s ∷ ss) = IsBound (bound_by orders) s.visit s.document × AreBound orders ss

module _ (genesis : Genesis) (start log : List Item) where
  -- a session of this document; if it ended at the lock's last ticket, the pass that the lock was
  -- closed with has read it
  pub record AttendsDocument (number : ℕ) (first last : Known Item) (v : Visit) : Type 0 where
    pub attends : Attends genesis start log number first last v
    pub worn : (ticket : ℕ) → v.end ≡ Worn ticket → IsWornAt log

  -- of the sessions, which have the numbers from this one on, each that is bound to this document
  abbrev pub AttendAll : ℕ → List Session → Type 0
  AttendAll number [] = Unit {0}
  AttendAll number (s ∷ ss) = (s.document ≡ Some genesis.document
      → (first : Known Item) × (last : Known Item) × AttendsDocument number first last s.visit)
      × AttendAll (number + 1) ss

-- The order of a document is that of a log which begins with the order that was handed in. Each
-- further entry was added by one of the sessions that are bound to this document.
pub record ServedDocument (before after : OrderModel) (sessions : List Session)
    (log : List Item) : Type 0 where
  pub order_is : after ≡ order_at before.genesis log
  pub begins : StartsWith log (log_at_first before)
  pub attend : AttendAll before.genesis (log_at_first before) log 1 sessions
  pub numbered : All (λ e. IsOneOf before.genesis.document 1 sessions (by_of e))
      (drop (length (log_at_first before)) log)

abbrev pub IsServedDocument : List Session → OrderModel → OrderModel → Type 0
IsServedDocument sessions before after =
    (log : List Item) × ServedDocument before after sessions log

-- so many sessions at a net, of which this is answered
pub record ServesDocuments (before after : List OrderModel) (old new : NetTold) (count : ℕ)
    (result : Result (Unit {0}) ServeFault) (sessions : List Session) : Type 0 where
  pub bound : AreBound before sessions
  pub served : AllZip (IsServedDocument sessions) before after
  pub links : TookLinks old new count result (visits_of sessions)

abbrev pub AreServed : List OrderModel → List OrderModel → NetTold → NetTold → ℕ
    → Result (Unit {0}) ServeFault → Type 0
AreServed before after old new count result =
    (sessions : List Session) × ServesDocuments before after old new count result sessions
