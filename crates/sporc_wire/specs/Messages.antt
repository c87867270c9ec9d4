-- The messages of a stream.
use Rattle.std.specs.Prelude.{◌≡◌, ℕ, ◌+◌, ◌-◌, ◌^◌, min, nat_lt, List, [], ◌∷◌, ◌++◌, length}
use Rattle.std.specs.Prelude.{Option, Some, None, Result, Ok, Err, if◌then◌else◌}
use Rattle.sporc_wire.specs.declared.cutter.TheConstants.{MAX_BODY}
use Rattle.sporc_wire.specs.declared.fault.FrameFault.{FrameFault}
use Rattle.sporc_wire.specs.declared.fault.FrameFault.TheVariants.{BadMessage, TooLong}
use Rattle.sporc_wire.specs.Stream.{FirstFrame, partial, too_long, whole, first_frame, frame}

-- a number, as far as a u64 counts
abbrev pub counted_to_end : ℕ → ℕ
counted_to_end n = min n (2 ^ 64 - 1)

-- a stream, as far as it came, from the first message on that was not handed out
pub record Unread : Type 0 where
  -- the place of the first byte
  pub at : ℕ
  pub rest : List ℕ
  -- the fault that was found, which stays
  pub fault : Option FrameFault

-- a stream of these bytes
abbrev pub stream_of : List ℕ → Unread
stream_of bytes = record { at = 0; rest = bytes; fault = None }

-- a stream that was fed more bytes
abbrev pub fed : List ℕ → Unread → Unread
fed more s = record s { rest = s.rest ++ more }

-- what is answered for the next message, and what is unread then
pub record Next (M : Type 0) : Type 0 where
  pub answer : Result (Option M) FrameFault
  pub after : Unread

abbrev pub waits : {M : Type 0} → Unread → Next M
waits s = record { answer = Ok None; after = s }

abbrev pub stops : {M : Type 0} → FrameFault → Unread → Next M
stops fault s = record { answer = Err fault; after = record s { fault = Some fault } }

-- after the body of a frame was read, whose length is this
abbrev pub next_read : {M : Type 0} → Unread → ℕ → List ℕ → Result M ℕ → Next M
next_read s len rest (Ok message) = record {
  answer = Ok (Some message);
  after = record { at = counted_to_end (s.at + (4 + len)); rest = rest; fault = s.fault };
}
next_read s len rest (Err place) = stops (BadMessage (counted_to_end (s.at + (4 + place)))) s

abbrev pub next_frame : {M : Type 0} → (List ℕ → Result M ℕ) → Unread → FirstFrame → Next M
next_frame read s partial = waits s
next_frame read s (too_long len) = stops (TooLong len) s
next_frame read s (whole body rest) = next_read s (length body) rest (read body)

-- the next message of those whose bodies are read so: none unless a whole frame is there; a frame
-- that is no message and a length above the limit are answered from then on
abbrev pub next_unless : {M : Type 0} → (List ℕ → Result M ℕ) → Unread → Option FrameFault → Next M
next_unless read s (Some fault) = record { answer = Err fault; after = s }
next_unless read s None = next_frame read s (first_frame s.rest)

unfoldable pub next : {M : Type 0} → (List ℕ → Result M ℕ) → Unread → Next M
next read s = next_unless read s s.fault

-- these messages come first in a stream, and then this is unread
abbrev pub HandsOut : {M : Type 0} → (List ℕ → Result M ℕ) → Unread → List M → Unread → Type 0
HandsOut read s [] t = s ≡ t
HandsOut read s (m ∷ ms) t =
    ((next read s).answer ≡ Ok (Some m)) × HandsOut read (next read s).after ms t

-- a stream is these messages, and then no whole frame or a fault
pub record AreMessages {M : Type 0} (read : List ℕ → Result M ℕ) (stream : List ℕ)
    (messages : List M) (fault : Option FrameFault) : Type 0 where
  pub rest : Unread
  pub reads : HandsOut read (stream_of stream) messages rest
  pub end : (next read rest).answer ≡ (elim fault [ None ↦ Ok None | Some f ↦ Err f ])

-- the frame of a body, if that is not too long
abbrev pub framed : List ℕ → Result (List ℕ) FrameFault
framed body =
    if nat_lt MAX_BODY (length body) then Err (TooLong (counted_to_end (length body)))
    else Ok (frame body)
