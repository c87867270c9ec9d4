-- A member's session, whole.
use Rattle.std.specs.Prelude.{ℕ, List, Option, Result, ⊤}
use Rattle.lms_sign.specs.Signer.{SignerModel}
use Rattle.lms_tree.specs.LmsPrivate.{LmsPrivate}
use Rattle.sporc_client.specs.Step.{log_of_entries}
use Rattle.sporc_line.specs.LineModel.{LineModel}
use Rattle.sporc_outside.specs.Chances.{ChanceTold}
use Rattle.sporc_outside.specs.Nets.{NetTold}
use Rattle.sporc_outside.specs.Uses.{Use}
use Rattle.sporc_shared.specs.Items.{Past}
use Rattle.sporc_session.specs.declared.fault.SessionFault.{SessionFault}
use Rattle.sporc_files.specs.declared.fault.Fault.{Fault}
use Rattle.sporc_clients.specs.Nets.{IsWork, NotBegun}
use Rattle.sporc_device.specs.Opening.{Begin}
use Rattle.sporc_device.specs.Resuming.{IsResumed, NotResumed}
use Rattle.sporc_clients.specs.Uses.{from, until}
use Rattle.sporc_clients.specs.declared.session.Wanted.{Wanted}

-- how a member signs: by its private key, from this leaf on
pub record Signs : Type 0 where
  pub key : LmsPrivate
  pub first_leaf : ℕ

abbrev pub signs_of : {D : Type 0} → SignerModel D → Signs
signs_of signer = record { key = signer.key; first_leaf = signer.leaves.next }

-- the past of the client that goes on with the entries of a line, each an accept by 0
abbrev pub past_with : LineModel → Signs → Past
past_with line signs = record {
  opening = record { genesis = line.genesis; kit = line.kit; key = signs.key };
  first_leaf = signs.first_leaf;
  log = log_of_entries line.entries;
}

module _ (begin : Begin) (saved : Option (List ℕ)) (net : Use NetTold) where
  -- a session led the member's client from its line to another past
  pub record IsAttended (wanted : Wanted) (signs : Signs) (after : Past)
      (chance : Use ChanceTold) (result : Result ⊤ SessionFault) : Type 0 where
    pub between : NetTold
    pub line : LineModel
    pub resumed : IsResumed begin saved (until between net) line
    pub work : IsWork wanted begin.address
        (past_with line signs) after (from between net) chance result

  -- why none began
  pub data NotAttended (fault : Fault) : Type 0 where
    not_resumed : NotResumed begin saved net fault → NotAttended fault
    not_begun : {between : NetTold} {line : LineModel}
        → IsResumed begin saved (until between net) line
        → NotBegun begin.address (from between net) net.before.faults fault → NotAttended fault
