-- A link in bytes: the messages that were written to it, and those that the bytes taken from it
-- read as.
use Rattle.std.specs.Prelude.{◌≡◌, ◌⊎◌, ◌<◌, ◌≤◌, ◌^◌, ℕ, ◌+◌, List, [], ◌++◌, length, Option, None}
use Rattle.std.specs.Prelude.{Some, Ok, Err, IfSome}
use Rattle.std.specs.Io.KnownBytes.{Appends, Consumes}
use Rattle.std.specs.List.{flat_map}
use Rattle.sporc_outside.specs.Streams.{StreamTold}
use Rattle.sporc_wire.specs.declared.fault.FrameFault.TheVariants as frames
use Rattle.sporc_wire.specs.declared.to_client.ToClient.{ToClient}
use Rattle.sporc_wire.specs.declared.to_server.ToServer.{ToServer}
use Rattle.sporc_exchange.specs.declared.inbox.TheConstants.{PIECE}
use Rattle.sporc_wire.specs.Messages.{Unread, HandsOut, counted_to_end, fed, next}
use Rattle.sporc_wire.specs.Stream.{frame}
use Rattle.sporc_wire.specs.ToClient.{to_client_of}
use Rattle.sporc_wire.specs.ToServer.{to_server_bytes}

-- the bytes of messages, each in its frame
abbrev pub spelled : List ToServer → List ℕ
spelled messages = flat_map (λ message. frame (to_server_bytes message)) messages

-- The bytes that were taken off a link and not handed out, with the place of the first of them in
-- the stream, and how many were taken in all. The last ones may still be held, behind those that
-- are cut into frames
pub record InboxModel : Type 0 where
  pub at : ℕ
  pub rest : List ℕ
  pub held : List ℕ
  pub taken : ℕ

-- nothing was taken yet
abbrev pub empty_inbox : InboxModel
empty_inbox = record { at = 0; rest = []; held = []; taken = 0 }

abbrev pub unread_of : InboxModel → Unread
unread_of inbox = record { at = inbox.at; rest = inbox.rest ++ inbox.held; fault = None }

-- a piece more was taken
abbrev pub more_taken : List ℕ → InboxModel → InboxModel
more_taken piece inbox =
    record inbox { held = inbox.held ++ piece; taken = counted_to_end (inbox.taken + length piece) }

-- what was held is cut into frames
abbrev pub none_held : InboxModel → InboxModel
none_held inbox = record inbox { rest = inbox.rest ++ inbox.held; held = [] }

-- What an inbox keeps: a fault that was found is that of the next frame, and nothing is held then
pub record InboxInvariant (frames : Unread) (len : ℕ) : Type 0 where
  pub fault : IfSome frames.fault (λ fault.
      ((next to_client_of (record frames { fault = None })).answer ≡ Err fault) × (len ≡ 0))
  pub few : len ≤ PIECE

-- what a link tells, but for whether it was shut: the bytes that are left, those written to it, and
-- its count of faults
pub record LinkTold : Type 0 where
  pub left : Option (List ℕ)
  pub written : Option (List ℕ)
  pub faults : ℕ

abbrev pub link_told : StreamTold → LinkTold
link_told link = record { left = link.left; written = link.written; faults = link.faults }

-- and what was taken off it
pub record LinkStand : Type 0 where
  pub left : Option (List ℕ)
  pub written : Option (List ℕ)
  pub faults : ℕ
  pub inbox : InboxModel

abbrev pub link_stand : LinkTold → InboxModel → LinkStand
link_stand link inbox =
    record { left = link.left; written = link.written; faults = link.faults; inbox = inbox }

abbrev pub link_at : StreamTold → InboxModel → LinkStand
link_at link inbox = link_stand (link_told link) inbox

-- the bytes that were taken off the link, with those from before, read as these answers, and then
-- the rest
pub record Received (a b : LinkStand) (answers : List ToClient) : Type 0 where
  pub came : List ℕ
  pub consumed : Consumes a.left b.left came
  pub reads : HandsOut to_client_of (fed came (unread_of a.inbox)) answers (unread_of b.inbox)
  pub counted : a.inbox.taken < 2 ^ 64
      → b.inbox.taken ≡ counted_to_end (a.inbox.taken + length came)

-- these bytes were written, and these answers came
pub record Exchanged (a b : LinkStand) (written : List ℕ) (answers : List ToClient) : Type 0 where
  pub sent : Appends a.written b.written written
  pub received : Received a b answers
  pub count : a.faults ≤ b.faults

-- the message was the last that was handed out, and its frame began at this place
pub record IsLastFrom (place : ℕ) (message : ToClient) (inbox : InboxModel) : Type 0 where
  pub before : InboxModel
  pub place_is : place ≡ before.at
  pub next_is : next to_client_of (unread_of before)
      ≡ record { answer = Ok (Some message); after = unread_of inbox }

-- no whole frame is left
abbrev pub IsCut : InboxModel → Type 0
IsCut inbox = (next to_client_of (unread_of inbox)).answer ≡ Ok None

-- the next frame is no message, from this place of the stream on, or its length is above the limit:
-- the place is then that of the frame's start
abbrev pub IsBadFrame : InboxModel → ℕ → Type 0
IsBadFrame inbox place =
    ((next to_client_of (unread_of inbox)).answer ≡ Err (frames.BadMessage place))
    ⊎ (((len : ℕ) × ((next to_client_of (unread_of inbox)).answer ≡ Err (frames.TooLong len)))
    × (place ≡ inbox.at))
