-- A client: a history, and what of the client's own is not committed yet. Everything else is
-- computed from these.
use Rattle.std.specs.Prelude.{ℕ, List, [], take, Option, None, fold}
use Rattle.lms_tree.specs.LmsPrivate.{LmsPrivate}
use Rattle.sporc_delta.specs.Marks.{Mark, apply}
use Rattle.sporc_member.specs.declared.device.Device.{Device}
use Rattle.sporc_entry.specs.declared.genesis.Genesis.{Genesis}
use Rattle.sporc_line.specs.Kit.{Kit}
use Rattle.sporc_line.specs.Document.{text_after, text_of}
use Rattle.sporc_line.specs.LineModel.{LineModel}
use Rattle.sporc_client.specs.declared.pending.Pending.{Pending}
use Rattle.sporc_client.specs.declared.pending.Pending.TheVariants.{Edit, Change}

-- what a client is opened with: the document, what its device was given, and its private key
pub record Opening : Type 0 where
  pub genesis : Genesis
  pub kit : Kit
  pub key : LmsPrivate

pub record PlainClient : Type 0 where
  pub opening : Opening
  -- its history, each entry's bytes, oldest first
  pub entries : List (List ℕ)
  -- its own edits and changes that are not committed, each edit stated on the text before it
  pub pending : List Pending
  -- the entry made of the first of them, while it is on its way
  pub flight : Option (List ℕ)
  -- for each event, the delta from the shown text before it to that after it
  pub shown : List (List Mark)

-- a client that was just opened
abbrev pub opened : Opening → PlainClient
opened opening = record { opening = opening; entries = []; pending = []; flight = None; shown = [] }

-- what it shares with the others of its document: its history, and what reads it
abbrev pub line_of : PlainClient → LineModel
line_of c = record {
  genesis = c.opening.genesis;
  kit = c.opening.kit;
  entries = c.entries;
  spare = 0;
}

-- its device
abbrev pub me_of : PlainClient → Device
me_of c = c.opening.kit.me

-- the text after a pending item
abbrev pub after_pending : List ℕ → Pending → List ℕ
after_pending text (Edit marks) = apply marks text
after_pending text (Change change) = text

-- the committed text
abbrev pub committed_of : PlainClient → List ℕ
committed_of c = text_of c.opening.genesis c.opening.kit c.entries

-- the shown text: the committed text with the pending edits
abbrev pub shown_of : PlainClient → List ℕ
shown_of c = fold after_pending (committed_of c) c.pending

-- the text that was shown after the first events
abbrev pub shown_after : ℕ → PlainClient → List ℕ
shown_after events c = text_after (take events c.shown)
