-- The file of a member's ring: the keys that it has from the beginning.
--
-- | Field | Bytes | Rule |
-- | format | 4 | `SPR1` |
-- | member | 2 | |
-- | has the key of epoch 0 | 1 | 0 or 1 |
-- | key of epoch 0 | 32 | only behind a 1 |
-- | count | 2 | |
-- | keys shared with members, each | 2 member, 32 key | strictly ascending |
--
-- Nothing follows.
use Rattle.std.specs.Prelude.{◌≡◌, ℕ, ◌+◌, ◌^◌, ◌<◌, ◌==◌, List, [], ◌∷◌, ◌++◌, length, map, fold}
use Rattle.std.specs.Prelude.{codes, Option, None, Some, Result, Ok, IfSome, if◌then◌else◌}
use Rattle.std.specs.FinMap.{empty, insert}
use Rattle.std.specs.Int.{w8, w16, to_be_bytes}
use Rattle.std.specs.List.{AllByRecursion, flat_map}
use Rattle.std.specs.List.Sorted.{IsStrictlyIncreasing}
use Rattle.sporc_bytes.specs.Fields.{Reading, ◌>>=◌, ascending_at, number_at, bytes_at}
use Rattle.sporc_bytes.specs.Fields.{number_within}
use Rattle.sporc_entry.specs.declared.limits.TheConstants.{HIGHEST_MEMBER}
use Rattle.sporc_epoch.specs.Keys.{Keys}
use Rattle.sporc_keys.specs.declared.ring_file.PairKey.{PairKey}
use Rattle.sporc_keys.specs.declared.ring_file.RingFile.{RingFile}
use Rattle.sporc_keys.specs.Fields.{format_at, whole}

-- ---- reading

-- the key of epoch 0, behind a byte that says whether it is there
unfoldable pub epoch_key_at : Reading → Result (Option (List ℕ) × Reading) ℕ
epoch_key_at r = do
  has ← number_within 0 1 w8 r
  if has.0 == 0 then Ok (None, has.1) else (bytes_at 32 has.1 >>= λ key. Ok (Some key.0, key.1))

-- a key shared with a member whose number is at least this
unfoldable pub pair_at : ℕ → Reading → Result (PairKey × Reading) ℕ
pair_at least r = do
  member ← number_within least HIGHEST_MEMBER w16 r
  key ← bytes_at 32 member.1
  Ok (record { member = member.0; key = key.0 }, key.1)

-- so many shared keys in ascending order of their members
unfoldable pub pairs_at : ℕ → Reading → Result (List PairKey × Reading) ℕ
pairs_at n r = ascending_at pair_at (λ p. p.member) 0 n r

-- the fields of a ring file whose member is from low to high
unfoldable pub ring_file_at : ℕ → ℕ → Reading → Result (RingFile × Reading) ℕ
ring_file_at low high r = do
  start ← format_at (codes "SPR1") r
  member ← number_within low high w16 start
  epoch_key ← epoch_key_at member.1
  count ← number_at w16 epoch_key.1
  pairs ← pairs_at count.0 count.1
  Ok (record { member = member.0; epoch_key = epoch_key.0; pairs = pairs.0 }, pairs.1)

-- the ring file that bytes spell, or the place of the first field that is cut short or forbidden
abbrev pub ring_file_in : List ℕ → Result RingFile ℕ
ring_file_in bytes = whole (ring_file_at 0 HIGHEST_MEMBER) bytes

-- the ring file of this member that bytes spell, where any other member is forbidden
abbrev pub ring_file_of_member : ℕ → List ℕ → Result RingFile ℕ
ring_file_of_member member bytes = whole (ring_file_at member member) bytes

-- ---- writing

-- the bytes of the key of epoch 0
abbrev pub epoch_key_bytes : Option (List ℕ) → List ℕ
epoch_key_bytes None = 0 ∷ []
epoch_key_bytes (Some key) = 1 ∷ key

-- the bytes of a shared key
abbrev pub pair_bytes : PairKey → List ℕ
pair_bytes p = to_be_bytes w16 p.member ++ p.key

-- the bytes of a ring file
unfoldable pub ring_file_bytes : RingFile → List ℕ
ring_file_bytes f = codes "SPR1" ++ (to_be_bytes w16 f.member ++ (epoch_key_bytes f.epoch_key
    ++ (to_be_bytes w16 (length f.pairs) ++ flat_map pair_bytes f.pairs)))

pub record IsPairKey (p : PairKey) : Type 0 where
  pub member : p.member < 2 ^ 16
  pub key : length p.key ≡ 32

-- the members that keys are shared with
abbrev pub members_of : List PairKey → List ℕ
members_of pairs = map (λ p. p.member) pairs

-- a ring file that has a spelling
pub record IsRingFile (f : RingFile) : Type 0 where
  pub member : f.member < 2 ^ 16
  pub epoch_key : IfSome f.epoch_key (λ key. length key ≡ 32)
  pub count : length f.pairs < 2 ^ 16
  pub pairs : AllByRecursion IsPairKey f.pairs
  pub ascending : IsStrictlyIncreasing (members_of f.pairs)

-- ---- the keys

-- the keys of epochs: that of epoch 0, where it is there
abbrev pub epoch_keys : Option (List ℕ) → Keys
epoch_keys None = empty
epoch_keys (Some key) = insert empty 0 key

-- one more shared key
abbrev pub with_pair : Keys → PairKey → Keys
with_pair keys p = insert keys p.member p.key

-- shared keys by their members
abbrev pub pair_keys : List PairKey → Keys
pair_keys pairs = fold with_pair empty pairs
