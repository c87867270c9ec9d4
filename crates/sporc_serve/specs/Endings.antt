-- Why a step of a session is its last.
use Rattle.std.specs.Prelude.{◌≡◌, ◌<◌, ◌≤◌, ℕ, List, [], length, Option, Some, None, Result, Ok}
use Rattle.std.specs.Prelude.{Err}
use Rattle.std.specs.Io.KnownBytes.{Consumes, Appends, IsAtEnd}
use Rattle.sporc_outside.specs.Counts.{Rose}
use Rattle.sporc_outside.specs.Streams.{StreamTold}
use Rattle.sporc_outside.specs.Writing.{AppendsLess}
use Rattle.sporc_wire.specs.declared.fault.FrameFault.{FrameFault}
use Rattle.sporc_wire.specs.declared.to_server.ToServer.{ToServer}
use Rattle.sporc_wire.specs.Messages.{Unread, HandsOut, stream_of, fed, next}
use Rattle.sporc_wire.specs.ToServer.{to_server_of}
use Rattle.sporc_order.specs.declared.session.Answer.{Answer}
use Rattle.sporc_order.specs.declared.session.Answer.TheVariants.{Close}
use Rattle.sporc_serve.specs.declared.end.SessionEnd.{SessionEnd}
use Rattle.sporc_serve.specs.declared.end.SessionEnd.TheVariants.{Closed, LinkEnded, LinkFault}
use Rattle.sporc_serve.specs.declared.end.SessionEnd.TheVariants.{BadFrame, Worn, Memory, Unkept}
use Rattle.sporc_serve.specs.Sending.{bytes_of}

-- why no answer is to follow, where a link was given these bytes and its count went from `before`
-- to `after`
abbrev pub IsSendEnd : Answer → Option (List ℕ) → Option (List ℕ) → ℕ → ℕ → SessionEnd → Type 0
IsSendEnd answer written written' before after Closed =
    (answer ≡ Close) × Appends written written' []
IsSendEnd answer written written' before after LinkFault =
    AppendsLess written written' (bytes_of answer) × Rose before after
IsSendEnd answer written written' before after Memory =
    Appends written written' [] × (0 < length (bytes_of answer))
IsSendEnd answer written written' before after LinkEnded = ⊥
IsSendEnd answer written written' before after BadFrame = ⊥
IsSendEnd answer written written' before after (Worn ticket) = ⊥
IsSendEnd answer written written' before after Unkept = ⊥

-- a link that has this left, its count of faults, and the bytes of it that are no message yet
pub record Inlet : Type 0 where
  pub left : Option (List ℕ)
  pub faults : ℕ
  pub unread : Unread

abbrev pub inlet : Option (List ℕ) → ℕ → Unread → Inlet
inlet left faults unread = record { left = left; faults = faults; unread = unread }

-- by what the link tells
abbrev pub inlet_at : StreamTold → Unread → Inlet
inlet_at link unread = inlet link.left link.faults unread

-- a piece of the link's bytes was taken, and stands behind those that are no message yet
pub record TakesPiece (a b : Inlet) (piece : List ℕ) : Type 0 where
  pub taken : Consumes a.left b.left piece
  pub unread : b.unread ≡ fed piece a.unread

-- why no message is to follow
abbrev pub IsNextEnd : Inlet → Inlet → SessionEnd → Type 0
IsNextEnd a b LinkEnded =
    Consumes a.left b.left [] × IsAtEnd b.left × ((next to_server_of a.unread).answer ≡ Ok None)
IsNextEnd a b LinkFault = Consumes a.left b.left [] × Rose a.faults b.faults
    × ((next to_server_of a.unread).answer ≡ Ok None)
IsNextEnd a b BadFrame = Consumes a.left b.left [] × (fault : FrameFault)
    × ((next to_server_of a.unread).answer ≡ Err fault)
IsNextEnd a b Memory = (piece : List ℕ) × Consumes a.left b.left piece
IsNextEnd a b Closed = ⊥
IsNextEnd a b (Worn ticket) = ⊥
IsNextEnd a b Unkept = ⊥

-- the next message was taken
pub record TakesMessage (a b : Inlet) (message : ToServer) : Type 0 where
  pub left : b.left ≡ a.left
  pub answer : (next to_server_of a.unread).answer ≡ Ok (Some message)
  pub unread : b.unread ≡ (next to_server_of a.unread).after

-- the next message, or none if a piece more was taken
abbrev pub IsNext : Inlet → Inlet → Result (Option ToServer) SessionEnd → Type 0
IsNext a b (Ok (Some message)) = TakesMessage a b message
IsNext a b (Ok None) = (piece : List ℕ) × TakesPiece a b piece
IsNext a b (Err end) = IsNextEnd a b end

-- these bytes were taken, and no message of them was handed out
pub record Waits (a b : Inlet) (bytes : List ℕ) : Type 0 where
  pub taken : Consumes a.left b.left bytes
  pub reads : HandsOut to_server_of (stream_of bytes) [] b.unread
  pub faults : a.faults ≤ b.faults

-- what comes of waiting for the first message
abbrev pub IsFirstMessage : Inlet → Inlet → Result ToServer SessionEnd → Type 0
IsFirstMessage a b (Ok message) = TakesMessage a b message
IsFirstMessage a b (Err end) = IsNextEnd a b end

-- the first message, or why there is none
abbrev pub ReadsFirst : Inlet → Inlet → Result ToServer SessionEnd → Type 0
ReadsFirst a b result =
    (mid : Inlet) × (bytes : List ℕ) × Waits a mid bytes × (mid.faults ≤ b.faults)
    × IsFirstMessage mid b result
