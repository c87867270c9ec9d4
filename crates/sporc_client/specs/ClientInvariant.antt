-- What contracts see of a client's fields, and what holds of them at every moment.
use Rattle.std.specs.Prelude.{◌≡◌, ℕ, ◌^◌, ◌<◌, true, List, Option, IfSome}
use Rattle.lms_tree.specs.LmsPrivate.{LmsPrivate}
use Rattle.lms_tree.specs.LmsType.{height_of}
use Rattle.lms_sign.specs.Signer.{SignerModel}
use Rattle.sporc_line.specs.LineModel.{LineModel}
use Rattle.sporc_client.specs.ClientModel.{AreInOrder, ClientModel, leaves_of, state_of}
use Rattle.sporc_client.specs.Log.{Logged, accepted_in, journal_of, log_of}
use Rattle.sporc_client.specs.PlainClient.{PlainClient}
use Rattle.sporc_client.specs.Allowed.{is_allowed}
use Rattle.sporc_client.specs.Small.{IsSmall}
use Rattle.sporc_client.specs.Soundness.{IsSound}
use Rattle.sporc_client.specs.Workspace.{WorkspaceModel}

abbrev pub client_model : {D : Type 0} → LineModel → SignerModel D → Option ℕ → WorkspaceModel
    → ClientModel D
client_model line signer ticket own = record {
  opening = record { genesis = line.genesis; kit = line.kit; key = signer.key };
  log = log_of line.entries own.journal;
  leaves = signer.leaves;
  ticket = ticket;
}

-- the client that the fields hold
abbrev pub plain_of : LmsPrivate → LineModel → WorkspaceModel → PlainClient
plain_of key line own = record {
  opening = record { genesis = line.genesis; kit = line.kit; key = key };
  entries = line.entries;
  pending = own.pending;
  flight = own.flight;
  shown = own.shown;
}

-- the journal names the accepted entries by their places
pub record Stores (log : List Logged) (line : LineModel) (own : WorkspaceModel) : Type 0 where
  pub entries : line.entries ≡ accepted_in log
  pub journal : own.journal ≡ journal_of log

pub record ClientInvariant {D : Type 0} (line : LineModel) (signer : SignerModel D)
    (ticket : Option ℕ) (own : WorkspaceModel) : Type 0 where
  pub stores : Stores (log_of line.entries own.journal) line own
  -- the fields are what the log makes of them
  pub state : plain_of signer.key line own ≡ state_of (client_model line signer ticket own)
  pub allowed : is_allowed (client_model line signer ticket own).opening
      (log_of line.entries own.journal) ≡ true
  pub sound : IsSound (plain_of signer.key line own)
  pub small : IsSmall (plain_of signer.key line own)
  pub unspent : IfSome ticket (λ leaf. leaf < 2 ^ height_of signer.key.lms)
  pub leaves : AreInOrder signer.leaves.next_at_open signer.leaves.next ticket
      (leaves_of (log_of line.entries own.journal))
