-- The file of a summary: its bytes, what bytes say, and what its author signs.
--
-- | Field | Bytes | Rule |
-- | format | 4 | `SPE1` |
-- | document | 16 | |
-- | author | 2 | |
-- | device | 1 | |
-- | count of entries | 4 | at most MAX_ENTRIES |
-- | values of the chain, each | 32 | one more than entries |
-- | signature | counted | |
--
-- Nothing follows.
use Rattle.std.specs.Prelude.{ℕ, ◌+◌, ◌-◌, ◌^◌, List, ◌∷◌, ◌++◌, length, Result, Ok}
use Rattle.std.specs.Int.{w8, w16, w32, to_be_bytes}
use Rattle.std.specs.List.{flat_map}
use Rattle.sporc_bytes.specs.Fields.{Reading, ◌>>=◌, bytes_at, number_at, number_within, values_at}
use Rattle.sporc_bytes.specs.Fields.{counted_at, counted, end_at}
use Rattle.sporc_head.specs.declared.limits.TheConstants.{MAX_ENTRIES}
use Rattle.sporc_evidence.specs.declared.fields.TheConstants.{FORMAT}
use Rattle.sporc_evidence.specs.Summary.{SummaryModel}

-- ---- reading

-- one value of a chain
abbrev pub hash_at : Reading → Result (List ℕ × Reading) ℕ
hash_at r = bytes_at 32 r

-- the fields of a summary
unfoldable pub summary_at : Reading → Result (SummaryModel × Reading) ℕ
summary_at r = do
  format ← number_within FORMAT FORMAT w32 r
  document ← bytes_at 16 format.1
  author ← number_at w16 document.1
  device ← number_at w8 author.1
  count ← number_within 0 MAX_ENTRIES w32 device.1
  hashes ← values_at hash_at (count.0 + 1) count.1
  Ok (
    record {
      document = document.0;
      author = author.0;
      device = device.0;
      hashes = hashes.0;
    },
    hashes.1,
  )

-- the summary and the signature that bytes spell
unfoldable pub summary_in : List ℕ → Result (SummaryModel × List ℕ) ℕ
summary_in bytes = do
  summary ← summary_at (record { rest = bytes; at = 0 })
  signature ← counted_at (2 ^ 32 - 1) summary.1
  end ← end_at signature.1
  Ok (summary.0, signature.0)

-- ---- writing

-- the bytes of a summary up to its signature
unfoldable pub summary_bytes : SummaryModel → List ℕ
summary_bytes x = to_be_bytes w32 FORMAT ++ (x.document ++ (to_be_bytes w16 x.author ++ x.device
    ∷ (to_be_bytes w32 (length x.hashes - 1) ++ flat_map (λ h. h) x.hashes)))

-- the string that the author of a summary signs: 6, and the summary without its signature
abbrev pub signed_string : SummaryModel → List ℕ
signed_string x = 6 ∷ summary_bytes x

-- the file of a summary with this signature
abbrev pub summary_file : SummaryModel → List ℕ → List ℕ
summary_file x signature = summary_bytes x ++ counted signature
