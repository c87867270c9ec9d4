-- Exchanges of a session, and what is accepted of the entries that come.
use Rattle.std.specs.Prelude.{◌≡◌, ℕ, List, [], ◌∷◌}
use Rattle.sporc_turn.specs.declared.known.Known.{Known}
use Rattle.sporc_wire.specs.declared.to_server.ToServer.{ToServer}
use Rattle.sporc_wire.specs.declared.to_server.ToServer.TheVariants as to_server
use Rattle.sporc_exchange.specs.declared.fault.ExchangeFault.{ExchangeFault}
use Rattle.sporc_exchange.specs.declared.fault.ExchangeFault.TheVariants as exchanges
use Rattle.sporc_exchange.specs.Asking as exchange
use Rattle.sporc_exchange.specs.Replies.{handed_out}
use Rattle.sporc_exchange.specs.Wires.{Exchanged, LinkStand, spelled}
use Rattle.sporc_shared.specs.Items.{Item}
use Rattle.sporc_session.specs.declared.fault.SessionFault.{SessionFault}
use Rattle.sporc_session.specs.declared.fault.SessionFault.TheVariants as faults
use Rattle.sporc_session.specs.Acts.{all_of, items_by}
use Rattle.sporc_session.specs.Traces.{KnowsMore}
use Rattle.sporc_session.specs.Endings.{TakingStopped, takes_of}

-- the fault of a session in which an exchange fails
abbrev pub session_fault : ExchangeFault → SessionFault
session_fault exchanges.LinkFault = faults.LinkFault
session_fault (exchanges.BadMessage place) = faults.BadMessage place
session_fault (exchanges.LinkEnded taken) = faults.LinkEnded taken
session_fault exchanges.Memory = faults.Memory

-- a session's fault is that of an exchange of which this holds
abbrev pub IsOfExchange : (ExchangeFault → Type 0) → SessionFault → Type 0
IsOfExchange Fails fault = (cause : ExchangeFault) × (fault ≡ session_fault cause) × Fails cause

-- a message was not sent: a prefix of its bytes was written
abbrev pub Unsent : LinkStand → LinkStand → ToServer → SessionFault → Type 0
Unsent a b message = IsOfExchange (exchange.Unsent a b message)

-- an exchange failed
abbrev pub AskFails : LinkStand → LinkStand → ToServer → SessionFault → Type 0
AskFails a b message = IsOfExchange (exchange.AskFails a b message)

-- Entries were pulled after so many others, and accepted
pub record Gathered (k k' : Known Item) (a b : LinkStand) (at : ℕ)
    (came : List (List ℕ)) : Type 0 where
  pub link : Exchanged a b (spelled (to_server.Pull at ∷ [])) (handed_out at came ∷ [])
  pub knows : KnowsMore k k' (all_of items_by (takes_of at came))

-- none came, or one of them wasn't accepted
pub data GatherStopped (k k' : Known Item) (a b : LinkStand) (at : ℕ)
    (fault : SessionFault) : Type 0 where
  asking : k' ≡ k → AskFails a b (to_server.Pull at) fault → GatherStopped k k' a b at fault
  taking : {came : List (List ℕ)}
      → Exchanged a b (spelled (to_server.Pull at ∷ [])) (handed_out at came ∷ [])
      → TakingStopped k k' at came fault → GatherStopped k k' a b at fault
