-- What examining an entry's signature finds, and the key that the check of a signature uses.
use Rattle.std.specs.Prelude.{◌≡◌, ℕ, Bool, false, List, Option, None, Some, Result, Ok, Err}
use Rattle.lms_tree.specs.LmsPublic.{public_key_in}
use Rattle.sporc_hash.specs.Chain.{entry_digest}
use Rattle.sporc_member.specs.Roster.{Roster, key_of}
use Rattle.sporc_entry.specs.declared.entry.Entry.{Entry}
use Rattle.sporc_entry.specs.declared.header.Header.{Header}
use Rattle.sporc_entry.specs.Entry.{author_device, entry_of, signed_string}
use Rattle.sporc_entry.specs.Skimming.{header_in}
use Rattle.sporc_head.specs.declared.examined.Verdict.{Verdict}
use Rattle.sporc_head.specs.HeadChecks.{verifies_under}

-- whether an entry's signature verifies under the key that these bytes spell
abbrev pub is_signed_under : List ℕ → Entry → Bool
is_signed_under key e = verifies_under (signed_string e) e.signature (public_key_in key)

-- whether reading found an entry whose signature does
abbrev pub is_signed_read : List ℕ → Result Entry ℕ → Bool
is_signed_read key (Ok e) = is_signed_under key e
is_signed_read key (Err at) = false

-- whether bytes are an entry whose signature verifies under the key that other bytes spell
unfoldable pub is_verified : List ℕ → List ℕ → Bool
is_verified key bytes = is_signed_read key (entry_of bytes)

-- a verdict tells exactly that of these bytes, and what the chain links of them
pub record IsExact (v : Verdict) (bytes : List ℕ) : Type 0 where
  pub good : v.good ≡ is_verified v.key bytes
  pub digest : v.digest ≡ entry_digest bytes

-- a verdict tells exactly whether an entry's signature verifies
abbrev pub IsExactOf : Verdict → Entry → Type 0
IsExactOf v e = v.good ≡ is_signed_under v.key e

-- the key of the device that signs the entry with a header, if there is one
abbrev pub key_at : Roster → Option Header → Option (List ℕ)
key_at roster None = None
key_at roster (Some h) = key_of roster (author_device h)

-- the key that the check of an entry's signature uses: None if the bytes are no entry, or its
-- author has no such live device
unfoldable pub key_for : Roster → List ℕ → Option (List ℕ)
key_for roster bytes = key_at roster (header_in bytes)
