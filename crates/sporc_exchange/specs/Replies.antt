-- What a server answers to a message.
use Rattle.std.specs.Prelude.{◌≡◌, ℕ, ◌+◌, List, [], ◌∷◌}
use Rattle.sporc_head.specs.declared.refusal.Refusal.{Refusal}
use Rattle.sporc_wire.specs.declared.fault.FrameFault.{FrameFault}
use Rattle.sporc_wire.specs.declared.fault.FrameFault.TheVariants as frames
use Rattle.sporc_wire.specs.declared.to_client.ToClient.{ToClient}
use Rattle.sporc_wire.specs.declared.to_client.ToClient.TheVariants as to_client
use Rattle.sporc_wire.specs.declared.to_server.ToServer.{ToServer}
use Rattle.sporc_wire.specs.declared.to_server.ToServer.TheVariants as to_server
use Rattle.sporc_exchange.specs.declared.fault.ExchangeFault.{ExchangeFault}
use Rattle.sporc_exchange.specs.declared.fault.ExchangeFault.TheVariants as faults

-- the server's answer to an entry that was sent
pub data ServerReply : Type 0 where
  Ordered : (position : ℕ) → ServerReply
  Rejected : Refusal → ServerReply

-- the answer that hands out entries after some
abbrev pub handed_out : ℕ → List (List ℕ) → ToClient
handed_out from [] = to_client.Empty
handed_out from (entry ∷ entries) = to_client.Entries (from + 1) (entry ∷ entries)

abbrev pub reply_message : ServerReply → ToClient
reply_message (Ordered position) = to_client.Ordered position
reply_message (Rejected refusal) = to_client.Rejected refusal

-- a message from the server is an answer to this one
abbrev pub IsAnswer : ToServer → ToClient → Type 0
IsAnswer (to_server.Hello document member) answer = ⊥
IsAnswer (to_server.Pull from) answer = (came : List (List ℕ)) × (answer ≡ handed_out from came)
IsAnswer (to_server.Submit entry) answer = (reply : ServerReply) × (answer ≡ reply_message reply)

-- the fault of an exchange in which the next frame, which begins at this place, is no message
abbrev pub unread_fault : ℕ → FrameFault → ExchangeFault
unread_fault place (frames.BadMessage at) = faults.BadMessage at
unread_fault place (frames.TooLong len) = faults.BadMessage place
unread_fault place frames.Memory = faults.Memory
