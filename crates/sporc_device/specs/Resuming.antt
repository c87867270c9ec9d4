-- A member's line with its saved history, and the client that goes on with it.
use Rattle.std.specs.Prelude.{◌≡◌, ℕ, List, [], Option, None, Some, option_map, Result, Ok, Err, ⊤}
use Rattle.std.specs.Global.{Vec}
use Rattle.lms_sign.specs.Signer.{SignerModel}
use Rattle.sporc_outside.specs.Nets.{NetTold}
use Rattle.sporc_outside.specs.Uses.{Use}
use Rattle.sporc_member.specs.declared.device.Device.{Device}
use Rattle.sporc_entry.specs.declared.genesis.Genesis.{Genesis}
use Rattle.sporc_line.specs.Kit.{Kit}
use Rattle.sporc_line.specs.LineModel.{LineModel}
use Rattle.sporc_client.specs.ClientModel.{ClientModel}
use Rattle.sporc_client.specs.Step.{log_of_entries}
use Rattle.sporc_store.specs.declared.stop.Stop.TheVariants.{End}
use Rattle.sporc_store.specs.Loading.{a_member, loaded}
use Rattle.sporc_store.specs.SavedFile.{Taken, read_to, saved_in}
use Rattle.sporc_files.specs.declared.fault.Fault.{Fault}
use Rattle.sporc_files.specs.declared.file.File.TheVariants.{History}
use Rattle.sporc_files.specs.Faults.{AnswersUnlessOutside, unless_stopped, whole}
use Rattle.sporc_device.specs.Opening.{Begin, NotOpened, Opens, begin_with}
use Rattle.sporc_device.specs.declared.member.Member.{Member}

-- what a device that was given this loads: nothing, to the end, if there is no file
abbrev pub taken_by : Genesis → Kit → Option (List ℕ) → Taken
taken_by genesis kit None = read_to [] End
taken_by genesis kit (Some bytes) = loaded (a_member genesis kit) genesis.document bytes

-- the entries of its saved history, if it accepts all of them
abbrev pub entries_by : Device → Genesis → Kit → Option (List ℕ) → Result (List (List ℕ)) Fault
entries_by device genesis kit saved = whole (History device) (taken_by genesis kit saved)

-- whether a saved history is whole, if there is one, whoever checks its entries
abbrev pub read_whole : Device → List ℕ → Option (List ℕ) → Result ⊤ Fault
read_whole device document None = Ok tt
read_whole device document (Some bytes) =
    unless_stopped (History device) (saved_in document bytes).stop tt

-- whether it is whole as far as that is seen before a member's line is opened: a joiner's is read
-- before its hints are fetched, while a founder, who has the key of epoch 0, needs none
abbrev pub whole_before : Device → Option (List ℕ) → List ℕ → Option (List ℕ) → Result ⊤ Fault
whole_before device None document saved = read_whole device document saved
whole_before device (Some key) document saved = Ok tt

-- what the line of a member is opened by, with the server at an address
abbrev pub begin_at : Member → List ℕ → Begin
begin_at member address = begin_with member.genesis member.device member.ring address

-- the bytes of its saved history, if it has one
abbrev pub saved_of : Member → Option (List ℕ)
saved_of member = option_map (λ (bytes : Vec ℕ). bytes.items) member.saved

-- the client that goes on with the entries of a line, each an accept by 0
abbrev pub client_with : {D : Type 0} → LineModel → SignerModel D → ClientModel D
client_with line signer = record {
  opening = record { genesis = line.genesis; kit = line.kit; key = signer.key };
  log = log_of_entries line.entries;
  leaves = signer.leaves;
  ticket = None;
}

module _ (begin : Begin) (saved : Option (List ℕ)) where
  -- whether its saved history is whole, as far as that is seen before its line is opened
  abbrev pub checked_before : Result ⊤ Fault
  checked_before = whole_before begin.device begin.ring.epoch_key begin.genesis.document saved

  -- the entries of its saved history, by what its device was given
  abbrev pub entries_with : Kit → Result (List (List ℕ)) Fault
  entries_with kit = entries_by begin.device begin.genesis kit saved

  module _ (net : Use NetTold) where
    -- the member's line was opened, and has all entries of its saved history
    pub record IsResumed (line : LineModel) : Type 0 where
      pub whole : checked_before ≡ Ok tt
      pub opens : Opens begin net line.kit
      pub genesis : line.genesis ≡ begin.genesis
      pub loaded : entries_with line.kit ≡ Ok line.entries

    -- why not
    pub data NotResumed (fault : Fault) : Type 0 where
      -- its saved history is not whole, and no link was asked for
      not_whole : checked_before ≡ Err fault → net.after ≡ net.before → NotResumed fault
      -- its line was not opened
      not_opened : checked_before ≡ Ok tt → NotOpened begin net fault → NotResumed fault
      -- the loading of its saved history stopped before the end, or memory ran out: then no stop of
      -- it is told
      not_loaded : {kit : Kit} → checked_before ≡ Ok tt → Opens begin net kit
          → AnswersUnlessOutside (λ (line : LineModel). line.entries) ⊥ (Err fault)
          (entries_with kit) → NotResumed fault
