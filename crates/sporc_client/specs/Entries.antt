-- The entry that a client makes of its first pending item.
use Rattle.std.specs.Prelude.{ℕ, ◌+◌, List, [], length, unwrap_or}
use Rattle.lms_tree.specs.Signatures.{lms_signature_of}
use Rattle.sporc_cipher.specs.Mask.{mask_of}
use Rattle.sporc_delta.specs.Format.{delta_bytes}
use Rattle.sporc_member.specs.declared.change.Change.{Change as MemberChange}
use Rattle.sporc_member.specs.Roster.{after_change, numbers_of}
use Rattle.sporc_entry.specs.declared.entry.Entry.{Entry}
use Rattle.sporc_entry.specs.declared.header.Header.{Header}
use Rattle.sporc_entry.specs.ChangeBody.{change_body_bytes}
use Rattle.sporc_entry.specs.Entry.{entry_bytes, signed_string}
use Rattle.sporc_entry.specs.Version.{version_of}
use Rattle.sporc_epoch.specs.Sealing.{Sealing, body_sealed}
use Rattle.sporc_epoch.specs.Streams.{entry_stream}
use Rattle.sporc_head.specs.History.{count_of, epoch_of, hash_of, roster_of}
use Rattle.sporc_line.specs.Keys.{epoch_key}
use Rattle.sporc_line.specs.LineModel.{LineModel}
use Rattle.sporc_client.specs.declared.pending.Pending.{Pending}
use Rattle.sporc_client.specs.declared.pending.Pending.TheVariants.{Edit, Change}
use Rattle.sporc_client.specs.PlainClient.{PlainClient, line_of}

-- the leaf that signs, and the random bytes: 32 for the signature, and 32 that are the next epoch's
-- key if it is a change
pub record Chosen : Type 0 where
  pub leaf : ℕ
  pub randomizer : List ℕ
  pub new_key : List ℕ

-- the key of the history's epoch
abbrev pub current_key : LineModel → List ℕ
current_key line =
    unwrap_or (epoch_key line.genesis line.kit line.entries (epoch_of line.entries)) []

-- 1 for an edit, 2 for a change
abbrev pub kind_of : Pending → ℕ
kind_of (Edit marks) = 1
kind_of (Change change) = 2

-- what stands before the body of the device's next entry
abbrev pub next_header : LineModel → ℕ → Pending → Header
next_header line leaf item = record {
  version = version_of (roster_of line.genesis line.entries).upgraded;
  document = line.genesis.document;
  author = line.kit.me.member;
  device = line.kit.me.number;
  number = count_of line.kit.me line.entries + 1;
  base = length line.entries;
  base_hash = hash_of line.genesis line.entries;
  epoch = epoch_of line.entries;
  leaf = leaf;
  kind = kind_of item;
}

-- what a change of the members seals: a new key, for the members after it
abbrev pub sealing_of : LineModel → ℕ → List ℕ → MemberChange → Sealing
sealing_of line leaf new_key change = record {
  change = change;
  members = numbers_of (after_change (roster_of line.genesis line.entries) change).members;
  document = line.genesis.document;
  stream = entry_stream line.kit.me leaf;
  epoch = epoch_of line.entries;
  old = current_key line;
  new = new_key;
}

-- the body: an edit's bytes masked under the epoch's key, or a change with the sealed keys
abbrev pub body_of : LineModel → ℕ → List ℕ → Pending → List ℕ
body_of line leaf new_key (Edit marks) =
    mask_of (current_key line) (entry_stream line.kit.me leaf) (delta_bytes marks)
body_of line leaf new_key (Change change) =
    change_body_bytes (body_sealed (sealing_of line leaf new_key change) line.kit.pairs)

abbrev pub unsigned_entry : LineModel → ℕ → List ℕ → Pending → Entry
unsigned_entry line leaf new_key item = record {
  header = next_header line leaf item;
  body = body_of line leaf new_key item;
  signature = [];
}

-- the one entry that a client makes of an item
unfoldable pub entry_made : PlainClient → Chosen → Pending → Entry
entry_made c chosen item =
    let unsigned = unsigned_entry (line_of c) chosen.leaf chosen.new_key item in
    record unsigned {
      signature = lms_signature_of c.opening.key chosen.leaf chosen.randomizer
          (signed_string unsigned);
    }

-- and its bytes
abbrev pub bytes_made : PlainClient → Chosen → Pending → List ℕ
bytes_made c chosen item = entry_bytes (entry_made c chosen item)
