-- What a member's device is given, before its history is loaded.
use Rattle.std.specs.Prelude.{◌≡◌, ℕ, List, [], None, Some, is_none, if◌then◌else◌, Result, Ok, Err}
use Rattle.sporc_entry.specs.declared.genesis.Genesis.{Genesis}
use Rattle.sporc_keys.specs.declared.ring_file.RingFile.{RingFile}
use Rattle.sporc_line.specs.Kit.{Kit}
use Rattle.sporc_line.specs.LineModel.{LineModel}
use Rattle.sporc_member.specs.declared.device.Device.{Device}
use Rattle.sporc_outside.specs.Nets.{NetTold}
use Rattle.sporc_outside.specs.Uses.{Use}
use Rattle.sporc_files.specs.declared.fault.Fault.{Fault}
use Rattle.sporc_files.specs.Faults.{AnswersUnlessOutside}
use Rattle.sporc_files.specs.Opening.{kit_by}
use Rattle.sporc_device.specs.Fetching.{IsFetchAt, NotFetched}

-- what a line is opened by: the document, the device, what its member's ring file says, and where
-- the server is
pub record Begin : Type 0 where
  pub genesis : Genesis
  pub device : Device
  pub ring : RingFile
  pub address : List ℕ

abbrev pub begin_with : Genesis → Device → RingFile → List ℕ → Begin
begin_with genesis device ring address =
    record { genesis = genesis; device = device; ring = ring; address = address }

-- how many links its hints take: a founder has the key of epoch 0, and needs none
abbrev pub links_for_hints : RingFile → ℕ
links_for_hints ring = if is_none ring.epoch_key then 1 else 0

-- what the device is given, if hints are taken from these entries
abbrev pub kit_from : Begin → List (List ℕ) → Result Kit Fault
kit_from begin entries = kit_by begin.genesis begin.device begin.ring entries

module _ (begin : Begin) (net : Use NetTold) where
  -- the entries that hints are taken from: a founder needs none, and all those of the server were
  -- fetched for a joiner
  pub data HasEntries (entries : List (List ℕ)) : Type 0 where
    founds : {key : List ℕ} → begin.ring.epoch_key ≡ Some key → net.after ≡ net.before
        → entries ≡ [] → HasEntries entries
    joins : begin.ring.epoch_key ≡ None
        → IsFetchAt begin.address begin.genesis.document begin.device.member net (Ok entries)
        → HasEntries entries

  -- the device is given this: its key of epoch 0 is the one that the genesis commits to
  pub record Opens (kit : Kit) : Type 0 where
    pub entries : List (List ℕ)
    pub has : HasEntries entries
    pub gives : kit_from begin entries ≡ Ok kit

  -- why it is not: the entries were not fetched for a joiner, or they give no hints, or the keys
  -- don't open the document, or memory ran out
  pub data NotOpened (fault : Fault) : Type 0 where
    no_entries : begin.ring.epoch_key ≡ None
        → NotFetched begin.address begin.genesis.document begin.device.member net fault
        → NotOpened fault
    no_kit : {entries : List (List ℕ)} → HasEntries entries
        → AnswersUnlessOutside (λ (line : LineModel). line.kit) ⊥ (Err fault)
        (kit_from begin entries) → NotOpened fault
