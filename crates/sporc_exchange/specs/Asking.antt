-- What an exchange of messages does to a link.
use Rattle.std.specs.Prelude.{◌≡◌, ◌<◌, ◌≤◌, ℕ, List, [], ◌∷◌, length, take, Option, None, Some}
use Rattle.std.specs.Prelude.{Result, Ok, Err, IfErr, IfOk, OnOk, ⊤}
use Rattle.std.specs.Io.KnownBytes.{Consumes, IsAtEnd}
use Rattle.sporc_head.specs.declared.refusal.Refusal.{Refusal}
use Rattle.sporc_outside.specs.Counts.{Rose}
use Rattle.sporc_wire.specs.declared.to_client.ToClient.{ToClient}
use Rattle.sporc_wire.specs.declared.to_client.ToClient.TheVariants as to_client
use Rattle.sporc_wire.specs.declared.to_server.ToServer.{ToServer}
use Rattle.sporc_wire.specs.declared.to_server.ToServer.TheVariants as to_server
use Rattle.sporc_exchange.specs.declared.fault.ExchangeFault.{ExchangeFault}
use Rattle.sporc_exchange.specs.declared.fault.ExchangeFault.TheVariants as faults
use Rattle.sporc_exchange.specs.Replies.{IsAnswer, ServerReply, Ordered, Rejected, handed_out}
use Rattle.sporc_exchange.specs.Replies.{reply_message}
use Rattle.sporc_exchange.specs.Wires.{IsBadFrame, IsCut, IsLastFrom, LinkStand, Exchanged}
use Rattle.sporc_exchange.specs.Wires.{more_taken, spelled}

-- a piece was taken off the link, and nothing was written to it
pub record Took (a b : LinkStand) (piece : List ℕ) : Type 0 where
  pub written : b.written ≡ a.written
  pub consumed : Consumes a.left b.left piece
  pub inbox : b.inbox ≡ more_taken piece a.inbox
  pub count : a.faults ≤ b.faults

-- why no whole message came, whatever was sent before
abbrev pub SilentFor : LinkStand → LinkStand → ExchangeFault → Type 0
SilentFor a b faults.LinkFault = Rose a.faults b.faults
SilentFor a b (faults.LinkEnded taken) = IsAtEnd b.left × IsCut b.inbox × (taken ≡ b.inbox.taken)
SilentFor a b (faults.BadMessage place) = IsBadFrame b.inbox place
SilentFor a b faults.Memory = ⊤

-- why a message was not sent whole
abbrev pub UnsentFor : LinkStand → LinkStand → ExchangeFault → Type 0
UnsentFor a b faults.LinkFault = Rose a.faults b.faults
UnsentFor a b faults.Memory = ⊤
UnsentFor a b _ = ⊥

-- a message was not sent: a prefix of its bytes was written
pub record Unsent (a b : LinkStand) (message : ToServer) (fault : ExchangeFault) : Type 0 where
  pub n : ℕ
  pub did : Exchanged a b (take n (spelled (message ∷ []))) []
  pub cause : UnsentFor a b fault

-- no whole message came
pub record IsSilent (a b : LinkStand) (fault : ExchangeFault) : Type 0 where
  pub did : Exchanged a b [] []
  pub cause : SilentFor a b fault

-- a message was sent, and no whole message came
pub record NoAnswer (a b : LinkStand) (message : ToServer) (fault : ExchangeFault) : Type 0 where
  pub did : Exchanged a b (spelled (message ∷ [])) []
  pub cause : SilentFor a b fault

-- the message that came is no answer to the one sent
pub record WrongAnswer (a b : LinkStand) (message : ToServer) (fault : ExchangeFault) : Type 0 where
  pub answer : ToClient
  pub place : ℕ
  pub did : Exchanged a b (spelled (message ∷ [])) (answer ∷ [])
  pub wrong : ¬ IsAnswer message answer
  pub starts : IsLastFrom place answer b.inbox
  pub is : fault ≡ faults.BadMessage place

-- an exchange failed
pub data AskFails (a b : LinkStand) (message : ToServer) (fault : ExchangeFault) : Type 0 where
  unsent : Unsent a b message fault → AskFails a b message fault
  silent : NoAnswer a b message fault → AskFails a b message fault
  wrong : WrongAnswer a b message fault → AskFails a b message fault

-- a message was sent, and this one came, whose frame began at the place where the inbox stood
pub record Asks (a b : LinkStand) (message : ToServer) (answer : ToClient) : Type 0 where
  pub did : Exchanged a b (spelled (message ∷ [])) (answer ∷ [])
  pub starts : IsLastFrom a.inbox.at answer b.inbox

-- a piece was taken off the link, or why not
pub record ReadEnds (a b : LinkStand) (result : Result ⊤ ExchangeFault) : Type 0 where
  pub ok : OnOk result ((piece : List ℕ) × (0 < length piece) × Took a b piece)
  pub err : IfErr result (IsSilent a b)

-- a message was sent, or why not
pub record SendEnds (a b : LinkStand) (message : ToServer)
    (result : Result ⊤ ExchangeFault) : Type 0 where
  pub ok : OnOk result (Exchanged a b (spelled (message ∷ [])) [])
  pub err : IfErr result (Unsent a b message)

-- the next message came, whose frame began at the place where the inbox stood, or why not
pub record ReceiveEnds (a b : LinkStand) (result : Result ToClient ExchangeFault) : Type 0 where
  pub ok : IfOk result (λ answer. Exchanged a b [] (answer ∷ [])
      × IsLastFrom a.inbox.at answer b.inbox)
  pub err : IfErr result (IsSilent a b)

-- a message was sent, and the next one came, or why not
pub record AskEnds (a b : LinkStand) (message : ToServer)
    (result : Result ToClient ExchangeFault) : Type 0 where
  pub ok : IfOk result (Asks a b message)
  pub err : IfErr result (AskFails a b message)

-- the entries after so many others were pulled, or why not
pub record PullEnds (a b : LinkStand) (from : ℕ)
    (result : Result (List (List ℕ)) ExchangeFault) : Type 0 where
  pub ok : IfOk result
      (λ es. Exchanged a b (spelled (to_server.Pull from ∷ [])) (handed_out from es ∷ []))
  pub err : IfErr result (AskFails a b (to_server.Pull from))

-- an entry was ordered, or refused
abbrev pub IsReply : Option Refusal → ServerReply → Type 0
IsReply None (Ordered position) = ⊤
IsReply None (Rejected refusal) = ⊥
IsReply (Some refusal) (Ordered position) = ⊥
IsReply (Some refusal) (Rejected r) = r ≡ refusal

-- an entry was sent, and it was answered that it was ordered, or why it was refused
abbrev pub IsAnswered : LinkStand → LinkStand → List ℕ → Option Refusal → Type 0
IsAnswered a b entry refusal = (reply : ServerReply) × IsReply refusal reply
    × Exchanged a b (spelled (to_server.Submit entry ∷ [])) (reply_message reply ∷ [])

-- an entry was sent and answered, or why not
pub record SubmitEnds (a b : LinkStand) (entry : List ℕ)
    (result : Result (Option Refusal) ExchangeFault) : Type 0 where
  pub ok : IfOk result (IsAnswered a b entry)
  pub err : IfErr result (AskFails a b (to_server.Submit entry))

-- what an answer to an entry says; anything else is no answer to it, and its frame began at this
-- place
abbrev pub IsOutcomeOf : ℕ → Result ToClient ExchangeFault
    → Result (Option Refusal) ExchangeFault → Type 0
IsOutcomeOf place (Err fault) result = result ≡ Err fault
IsOutcomeOf place (Ok (to_client.Ordered position)) result = result ≡ Ok None
IsOutcomeOf place (Ok (to_client.Rejected refusal)) result = result ≡ Ok (Some refusal)
IsOutcomeOf place (Ok (to_client.Entries first entries)) result =
    result ≡ Err (faults.BadMessage place)
IsOutcomeOf place (Ok to_client.Empty) result = result ≡ Err (faults.BadMessage place)
