-- What contracts see of a cutter of frames, and what its parts hold.
use Rattle.std.specs.Prelude.{◌≡◌, ℕ, ◌≤◌, List, ◌++◌, Option, Some, None, MatchOption, length}
use Rattle.std.specs.Int.{w32, to_be_bytes}
use Rattle.bytes.specs.Filled.{Filled}
use Rattle.tokio_util.specs.declared.codec.length_delimited.DecodeState.{DecodeState}
use Rattle.tokio_util.specs.declared.codec.length_delimited.DecodeState.TheVariants.{Head, Data}
use Rattle.tokio_util.specs.declared.codec.length_delimited.LengthDelimitedCodec as codec
use Rattle.tokio_util.specs.Codec.LengthDelimited.{codec_layout}
use Rattle.tokio_util.specs.Codec.LengthField.{Layout, default_layout}
use Rattle.sporc_wire.specs.declared.cutter.TheConstants.{MAX_BODY}
use Rattle.sporc_wire.specs.Stream.{first_frame, frame, partial, whole}

-- a body that was cut out, and the bytes after its frame
pub record CutterModel : Type 0 where
  pub body : Option (List ℕ)
  pub rest : List ℕ

-- a body that was cut out, with its frame before the rest
abbrev pub put_back : Option (List ℕ) → List ℕ → List ℕ
put_back None rest = rest
put_back (Some body) rest = frame body ++ rest

-- the bytes that are not handed out
abbrev pub unread : CutterModel → List ℕ
unread c = put_back c.body c.rest

-- the body of the first frame was cut out of these bytes, which left the rest; or none is whole
abbrev pub CutsFirst : List ℕ → Option (List ℕ) → List ℕ → Type 0
CutsFirst bytes body rest =
    MatchOption body (first_frame bytes ≡ partial) (λ cut. first_frame bytes ≡ whole cut rest)

-- the bytes of a buffer
abbrev pub filled : Option Filled → Option (List ℕ)
filled None = None
filled (Some b) = Some b.items

-- the layout of the frames
abbrev pub our_layout : Layout
our_layout = record default_layout { max_frame_len = MAX_BODY }

-- the bytes that the codec still has to read, the length that it read put back
abbrev pub rest_of : DecodeState → List ℕ → List ℕ
rest_of Head bytes = bytes
rest_of (Data len) bytes = to_be_bytes w32 len ++ bytes

-- a length that was read is within the limit
abbrev pub IsWithin : DecodeState → Type 0
IsWithin Head = Unit {0}
IsWithin (Data len) = len ≤ MAX_BODY

-- a body that was cut out is within the limit
abbrev pub FitsLimit : Option Filled → Type 0
FitsLimit None = Unit {0}
FitsLimit (Some body) = length body.items ≤ MAX_BODY

-- the codec cuts frames of our layout, and waits for a body within the limit
pub record IsOurs (c : codec.LengthDelimitedCodec) : Type 0 where
  pub layout : codec_layout c ≡ our_layout
  pub within : IsWithin c.state
