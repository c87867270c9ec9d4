-- Messages to a client: what the body of a frame says, and the body of each.
--
-- | Message | Body |
-- | Ordered | the byte 1, the position as u32 |
-- | Rejected | the byte 2, the number of the refusal's check as u8, its detail as u32 |
-- | Entries | the byte 3, the first's position as u32, how many as u8 (1 to 16), and each counted |
-- | Empty | the byte 4 |
--
-- An entry may have any length.
use Rattle.std.specs.Prelude.{◌≢◌, ℕ, ◌-◌, ◌<◌, ◌≤◌, ◌^◌, ◌==◌, List, [], ◌∷◌, ◌++◌, length, Result}
use Rattle.std.specs.Prelude.{Ok, Err, if◌then◌else◌}
use Rattle.std.specs.List.{flat_map}
use Rattle.std.specs.Int.{w8, w32, to_be_bytes}
use Rattle.sporc_bytes.specs.Fields.{Reading, ◌>>=◌, number_at, counted_at, counted, end_at}
use Rattle.sporc_bytes.specs.Fields.{present, values_at, number_within}
use Rattle.sporc_head.specs.declared.refusal.Refusal.TheVariants.{Memory}
use Rattle.sporc_head.specs.Refusal.{refusal_code_of}
use Rattle.sporc_wire.specs.Refusals.{refusal_detail_of, refusal_with}
use Rattle.sporc_wire.specs.declared.to_client.ToClient.{ToClient}
use Rattle.sporc_wire.specs.declared.to_client.ToClient.TheVariants.{Ordered, Rejected, Entries}
use Rattle.sporc_wire.specs.declared.to_client.ToClient.TheVariants.{Empty}
use Rattle.sporc_wire.specs.declared.to_client.TheConstants.{ORDERED, REJECTED, ENTRIES, EMPTY}
use Rattle.sporc_wire.specs.declared.to_client.TheConstants.{MAX_PULLED, MAX_CODE}

-- ---- reading

unfoldable pub ordered_at : Reading → Result ToClient ℕ
ordered_at r = do
  position ← number_at w32 r
  end ← end_at position.1
  Ok (Ordered position.0)

-- a detail that does not fit the number of the check is forbidden
unfoldable pub rejected_at : Reading → Result ToClient ℕ
rejected_at r = do
  code ← number_within 1 MAX_CODE w8 r
  detail ← number_at w32 code.1
  refusal ← present code.1.at (refusal_with code.0 detail.0)
  end ← end_at detail.1
  Ok (Rejected refusal)

unfoldable pub entries_at : Reading → Result ToClient ℕ
entries_at r = do
  first ← number_at w32 r
  count ← number_within 1 MAX_PULLED w8 first.1
  entries ← values_at (counted_at (2 ^ 32 - 1)) count.0 count.1
  end ← end_at entries.1
  Ok (Entries first.0 entries.0)

unfoldable pub empty_at : Reading → Result ToClient ℕ
empty_at r = do
  end ← end_at r
  Ok Empty

-- a message of this kind, whose byte stands at the place of the body's start
abbrev pub to_client_of_kind : ℕ → Reading → Result ToClient ℕ
to_client_of_kind kind r =
    if kind == ORDERED then ordered_at r
    else if kind == REJECTED then rejected_at r
    else if kind == ENTRIES then entries_at r
    else if kind == EMPTY then empty_at r
    else Err 0

-- the message that a body is, or the place in it of the first field that is cut short or forbidden
unfoldable pub to_client_of : List ℕ → Result ToClient ℕ
to_client_of body = do
  kind ← number_at w8 (record { rest = body; at = 0 })
  to_client_of_kind kind.0 kind.1

-- ---- writing

-- the body of a message
abbrev pub to_client_bytes : ToClient → List ℕ
to_client_bytes (Ordered position) = ORDERED ∷ to_be_bytes w32 position
to_client_bytes (Rejected refusal) =
    REJECTED ∷ refusal_code_of refusal ∷ to_be_bytes w32 (refusal_detail_of refusal)
to_client_bytes (Entries first entries) =
    ENTRIES ∷ to_be_bytes w32 first ++ (length entries ∷ flat_map counted entries)
to_client_bytes Empty = EMPTY ∷ []

-- the fields are in range
abbrev pub IsToClient : ToClient → Type 0
IsToClient (Ordered position) = position < 2 ^ 32
IsToClient (Rejected refusal) = (refusal ≢ Memory) × (refusal_detail_of refusal < 2 ^ 32)
IsToClient (Entries first entries) =
    (first < 2 ^ 32) × (1 ≤ length entries) × (length entries ≤ MAX_PULLED)
IsToClient Empty = Unit {0}
