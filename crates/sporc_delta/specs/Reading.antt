-- Reading the bytes of a delta from left to right, up to the first fault.
use Rattle.std.specs.Prelude.{ℕ, zero, suc, Bool, true, false, ◌||◌, List, [], ◌∷◌, length, drop}
use Rattle.std.specs.Prelude.{slice_index, Option, Some, None, Result, Ok, Err, nat_lt, ◌==◌}
use Rattle.std.specs.Prelude.{if◌then◌else◌}
use Rattle.std.specs.Int.{w64, from_be_bytes}
use Rattle.std.specs.Str.{chars, is_utf8}
use Rattle.sporc_bytes.specs.Fields.{Reading, ◌>>=◌, fault_as, bytes_at}
use Rattle.sporc_delta.specs.declared.encode.TheConstants.{INSERT, KEEP, REMOVE}
use Rattle.sporc_delta.specs.declared.limits.TheConstants.{MAX_COUNT}
use Rattle.sporc_delta.specs.declared.fault.DeltaFault.{DeltaFault}
use Rattle.sporc_delta.specs.declared.fault.DeltaFault.TheVariants as faults
use Rattle.sporc_delta.specs.declared.part.Kind.{Kind}
use Rattle.sporc_delta.specs.declared.part.Kind.TheVariants as kinds
use Rattle.sporc_delta.specs.declared.part.Part.{Part}
use Rattle.sporc_delta.specs.declared.part.Part.TheVariants.{Keep, Insert as InsertText, Remove}
use Rattle.sporc_delta.specs.Marks.{Mark}
use Rattle.sporc_delta.specs.Parts.{marks_of, kind_of}

-- so many bytes, or that they are cut short
abbrev pub piece_at : ℕ → Reading → Result (List ℕ × Reading) DeltaFault
piece_at n r = fault_as (λ _. faults.Short) (bytes_at n r)

-- the kind that a byte stands for
abbrev pub kind_at : ℕ → Result Kind DeltaFault
kind_at byte =
    if byte == KEEP then Ok kinds.Keep
    else (if byte == INSERT then Ok kinds.Insert
    else (if byte == REMOVE then Ok kinds.Remove else Err faults.BadKind))

-- a count that is allowed
abbrev pub count_at : ℕ → Result ℕ DeltaFault
count_at count = if count == 0 || nat_lt MAX_COUNT count then Err faults.BadCount else Ok count

-- a part before is of this kind
abbrev pub is_kind : Option Kind → Kind → Bool
is_kind (Some kinds.Keep) kinds.Keep = true
is_kind (Some kinds.Insert) kinds.Insert = true
is_kind (Some kinds.Remove) kinds.Remove = true
is_kind before kind = false

-- the kind and the count of a part that stands behind one of the kind before
unfoldable pub head_at : Option Kind → Reading → Result (Kind × ℕ × Reading) DeltaFault
head_at before r = do
  head ← piece_at 9 r
  kind ← kind_at (slice_index head.0 0)
  count ← count_at (from_be_bytes w64 (drop 1 head.0))
  if is_kind before kind then Err faults.SameNeighbours else Ok (kind, count, head.1)

-- the text of so many bytes
unfoldable pub text_at : ℕ → Reading → Result (List ℕ × Reading) DeltaFault
text_at n r = do
  text ← piece_at n r
  if is_utf8 text.0 then Ok (chars text.0, text.1) else Err faults.NotUtf8

-- the part of this kind and count
abbrev pub body_at : Kind → ℕ → Reading → Result (Part × Reading) DeltaFault
body_at kinds.Keep count r = Ok (Keep count, r)
body_at kinds.Insert count r = text_at count r >>= λ text. Ok (InsertText text.0, text.1)
body_at kinds.Remove count r = Ok (Remove count, r)

unfoldable pub part_at : Option Kind → Reading → Result (Part × Reading) DeltaFault
part_at before r = do
  head ← head_at before r
  body_at head.0 head.1 head.2

-- the parts to the end, of which there are at most n
unfoldable pub parts_at : ℕ → Option Kind → Reading → Result (List Part) DeltaFault
parts_at zero before r = if length r.rest == 0 then Ok [] else Err faults.Short
parts_at (suc n) before r =
    if length r.rest == 0 then Ok []
    else (part_at before r
    >>= λ first. parts_at n (Some (kind_of first.0)) first.1 >>= λ others. Ok (first.0 ∷ others))

-- the delta that the bytes spell, or the first fault: there are no more parts than bytes
unfoldable pub read_delta : List ℕ → Result (List Mark) DeltaFault
read_delta bytes = do
  parts ← parts_at (length bytes) None (record { rest = bytes; at = 0 })
  Ok (marks_of parts)
