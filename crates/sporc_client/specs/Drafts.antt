-- Entries that are to be signed.
use Rattle.std.specs.Prelude.{◌≡◌, ℕ, ◌+◌, ◌≤◌, List, ◌++◌, drop, vec_len, vec_capacity}
use Rattle.std.specs.Int.{w32, to_be_bytes}
use Rattle.lms_tree.specs.LmsPrivate.{LmsPrivate}
use Rattle.lms_tree.specs.Signatures.{lms_signature_of}
use Rattle.sporc_entry.specs.declared.entry.Entry.{Entry}
use Rattle.sporc_entry.specs.Entry.{entry_bytes, signed_string}
use Rattle.sporc_client.specs.declared.client.submitting.draft.Draft.{Draft}
use Rattle.sporc_client.specs.declared.client.submitting.draft.Made.{Made}

-- the bytes of an entry whose signature has n bytes, up to its signature
abbrev pub prefix_bytes : ℕ → List ℕ → List ℕ
prefix_bytes n message = drop 1 message ++ to_be_bytes w32 n

-- each of the three has room for n bytes more
pub record HasRoom (n : ℕ) (draft : Draft) : Type 0 where
  pub answer : vec_len draft.answer + n ≤ vec_capacity draft.answer
  pub flight : vec_len draft.flight + n ≤ vec_capacity draft.flight
  pub event : vec_len draft.event + n ≤ vec_capacity draft.event

-- what the author of an entry signs, and a prefix of its bytes, three times
pub record IsDraft (n : ℕ) (entry : Entry) (draft : Draft) : Type 0 where
  pub message : draft.message.items ≡ signed_string entry
  pub answer : draft.answer.items ≡ prefix_bytes n (signed_string entry)
  pub flight : draft.flight.items ≡ prefix_bytes n (signed_string entry)
  pub event : draft.event.items ≡ prefix_bytes n (signed_string entry)
  pub room : HasRoom n draft

-- these bytes, three times
pub record AreCopies (bytes : List ℕ) (made : Made) : Type 0 where
  pub answer : made.answer ≡ bytes
  pub flight : made.flight ≡ bytes
  pub event : made.event ≡ bytes

-- the bytes of an entry that this leaf signed
abbrev pub signed_bytes : LmsPrivate → ℕ → List ℕ → Entry → List ℕ
signed_bytes key leaf randomizer e =
    entry_bytes (record e { signature = lms_signature_of key leaf randomizer (signed_string e) })
