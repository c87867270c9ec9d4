-- A stream of frames: each is the length of a body, four bytes with the highest first, and then the
-- body.
use Rattle.std.specs.Prelude.{ℕ, nat_lt, List, ◌++◌, length, take, drop, if◌then◌else◌}
use Rattle.std.specs.Int.{w32, to_be_bytes, from_be_bytes}
use Rattle.sporc_wire.specs.declared.cutter.TheConstants.{MAX_BODY}

-- the frame of a body
abbrev pub frame : List ℕ → List ℕ
frame body = to_be_bytes w32 (length body) ++ body

-- what a stream begins with
pub data FirstFrame : Type 0 where
  -- a part of a frame, or nothing
  partial : FirstFrame
  -- a length above the limit
  too_long : ℕ → FirstFrame
  -- a body, and the bytes after its frame
  whole : List ℕ → List ℕ → FirstFrame

-- a body of this length, and what follows it
unfoldable pub frame_of_len : ℕ → List ℕ → FirstFrame
frame_of_len len bytes =
    if nat_lt MAX_BODY len then too_long len
    else if nat_lt (length bytes) len then partial
    else whole (take len bytes) (drop len bytes)

unfoldable pub first_frame : List ℕ → FirstFrame
first_frame bytes =
    if nat_lt (length bytes) 4 then partial
    else frame_of_len (from_be_bytes w32 (take 4 bytes)) (drop 4 bytes)
