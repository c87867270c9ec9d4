-- What the command did.
use Rattle.std.specs.Prelude.{◌≡◌, ◌≤◌, ℕ, List, [], ◌∷◌, ◌++◌, length, Option, option_map, Result}
use Rattle.std.specs.Prelude.{Err, ⊤}
use Rattle.lms_leaf.specs.Leaves.{LeavesModel}
use Rattle.lms_tree.specs.LmsType.{height_of}
use Rattle.sporc_member.specs.declared.device.Device.{Device}
use Rattle.sporc_outside.specs.Counts.{count_of_both}
use Rattle.sporc_outside.specs.Files.{IsDiskOf, TakesBack}
use Rattle.sporc_outside.specs.Uses.{Use, use_of}
use Rattle.sporc_outside.specs.Streams.{IsUnwritten, StreamTold}
use Rattle.sporc_outside.specs.Folders.{FolderTold}
use Rattle.sporc_outside.specs.Chances.{ChanceTold}
use Rattle.sporc_outside.specs.Nets.{NetTold}
use Rattle.sporc_outside.specs.LeafDisk.{DiskTold, disk_images}
use Rattle.sporc_shared.specs.Items.{Past}
use Rattle.sporc_session.specs.declared.fault.SessionFault.{SessionFault}
use Rattle.sporc_words.specs.declared.client.Client.{Client as Words}
use Rattle.sporc_files.specs.declared.fault.Fault.{Fault}
use Rattle.sporc_files.specs.declared.file.File.{File}
use Rattle.sporc_files.specs.declared.file.File.TheVariants.{History, Leaf}
use Rattle.sporc_files.specs.Names.{FileNames, file_name}
use Rattle.sporc_files.specs.Reading.{IsFileFault, SaysFileIfThere, any_bytes}
use Rattle.sporc_clients.specs.Attending.{IsAttended, NotAttended, Signs}
use Rattle.sporc_clients.specs.Counts.{CountedIfFailed, CountsAround, RoseIfFailed, counts_around}
use Rattle.sporc_clients.specs.Concluding.{LeavesAreTaken, PrintOutcome, SaveOutcome}
use Rattle.sporc_device.specs.Opening.{Begin, begin_with}
use Rattle.sporc_clients.specs.declared.session.Wanted.{Wanted}
use Rattle.sporc_device.specs.declared.member_files.MemberFiles.{MemberFiles}
use Rattle.sporc_clients.specs.Causes.{ended}
use Rattle.sporc_device.specs.LeafFile.{IsLeafFileFault, IsOpened, KeepsPassed}
use Rattle.sporc_device.specs.MemberFiles.{IsMemberFault, SayMember, own_files}

-- ---- what a call found and left

-- all that a call was handed
pub record ClientUse : Type 0 where
  pub out : Use StreamTold
  pub folder : Use FolderTold
  pub net : Use NetTold
  pub chance : Use ChanceTold

abbrev pub uses : Use StreamTold → Use FolderTold → Use NetTold → Use ChanceTold → ClientUse
uses out folder net chance =
    record { out = out; folder = folder; net = net; chance = chance }

-- nothing was written, no file was changed, and no random word was taken
pub record IsUntouched (did : ClientUse) : Type 0 where
  pub out : IsUnwritten did.out
  pub files : did.folder.after.files ≡ did.folder.before.files
  pub words : did.chance.after.given ≡ did.chance.before.given

-- the counts of its links and of its chance
abbrev pub counts_of : ClientUse → CountsAround
counts_of did = counts_around did.net.before.link_faults did.net.after.link_faults did.chance

-- ---- what it was asked for

-- the names of its files
abbrev pub names_of : Words → FileNames
names_of words = record { document = words.name; others = words.scripts }

-- the files that it asks its folder for, of a device and of so many editors
abbrev pub client_files : Device → ℕ → List File
client_files device scripts = own_files device scripts ++ Leaf device ∷ History device ∷ []

-- what the line of the member's device is opened by
abbrev pub begin_of : Words → MemberFiles → Begin
begin_of words m = begin_with m.genesis words.device m.ring words.address

-- the session
abbrev pub wanted_of : Words → MemberFiles → Wanted
wanted_of words m = record { rounds = words.rounds; until = words.until; editors = m.editors }

-- how the member signs, over its leaves
abbrev pub signs_with : {D : Type 0} → MemberFiles → LeavesModel D → Signs
signs_with m leaves = record { key = m.tree; first_leaf = leaves.next }

-- ---- a session over the disk of the leaf file

module _ {D : Type 0} (disks : D → DiskTold) (words : Words) (m : MemberFiles)
    (did : ClientUse) where
  -- The member's leaves go on behind the last block that is taken on this disk, and this is its
  -- saved history, if it has one
  pub record IsReady (first : D) (leaves : LeavesModel D) (history : Option (List ℕ)) : Type 0 where
    pub opened : IsOpened (disks first).stored (disks leaves.disk).stored leaves
    pub says : SaysFileIfThere any_bytes did.folder.before.files
        (file_name (names_of words) (History words.device)) history

  -- A session led the member's client from its saved history to a last past. However it ended, the
  -- history of that past was saved, and its journal and report were printed, and then the answer is
  -- the first fault: out of memory at one of these two, that of the session, of saving, or of
  -- printing
  pub record Worked (first last : D) (answer : Result ⊤ Fault) : Type 0 where
    pub leaves : LeavesModel D
    pub history : Option (List ℕ)
    pub ready : IsReady first leaves history
    pub past : Past
    pub session : Result ⊤ SessionFault
    pub attended : IsAttended (begin_of words m) history did.net
        (wanted_of words m) (signs_with m leaves) past did.chance session
    pub causes : RoseIfFailed (counts_of did) session
    pub disk : CountedIfFailed (disks last).faults session
    pub saved : Result ⊤ Fault
    pub saves : SaveOutcome past (file_name (names_of words) (History words.device))
        did.folder saved
    pub printed : Result ⊤ Fault
    pub prints : PrintOutcome past did.out printed
    pub taken : LeavesAreTaken (disk_images (disks last)) past
    pub answers : answer ≡ ended session saved printed

  -- why no session began: the leaf file is none of the key's; behind its opening, the saved history
  -- was not read; or the client could not go on with it
  pub data NotWorked (first last : D) (fault : Fault) : Type 0 where
    no_leaves : IsLeafFileFault
        (use_of disks first last) words.device (height_of m.tree.lms) fault
        → did.net.after ≡ did.net.before → NotWorked first last fault
    no_history : {leaves : LeavesModel D}
        → IsOpened (disks first).stored (disks leaves.disk).stored leaves
        → IsFileFault any_bytes did.folder (names_of words) (History words.device) fault
        → did.net.after ≡ did.net.before → NotWorked first last fault
    no_session : {leaves : LeavesModel D} {history : Option (List ℕ)} → IsReady first leaves history
        → NotAttended (begin_of words m) history did.net fault → NotWorked first last fault

  -- by the answer
  pub data DiskOutcome (first last : D) : Result ⊤ Fault → Type 0 where
    worked : {answer : Result ⊤ Fault} → Worked first last answer → DiskOutcome first last answer
    not_worked : {fault : Fault} → NotWorked first last fault → IsUntouched did
        → (disks last).stored ≡ (disks first).stored
        → KeepsPassed (disk_images (disks first)) (disk_images (disks last))
        → DiskOutcome first last (Err fault)

-- ---- the whole command

-- The disk of the leaf file was lent, with the file's bytes, for the time of a use of the folder,
-- and taken back. Its bytes are the file's
pub record LendsDisk {D : Type 0} (disks : D → DiskTold) (name : List ℕ)
    (whole during : Use FolderTold) (first last : D) : Type 0 where
  pub is : IsDiskOf whole.before.files name (disks first).stored
  pub fresh : (disks first).faults ≡ 0
  pub unchanged : during.before.files ≡ whole.before.files
  pub lent : during.after.lent ≡ option_map (λ lent. name ∷ lent) whole.before.lent
  pub back : TakesBack during.after.lent during.after.files whole.after.files (disks last).stored
  pub since : whole.before.faults ≤ during.before.faults
  pub kept : during.before.faults ≤ during.after.faults
  pub counted : count_of_both during.after.faults (disks last).faults ≤ whole.after.faults

-- a call with another use of its folder
abbrev pub with_folder : ClientUse → Use FolderTold → ClientUse
with_folder did during =
    record { out = did.out; folder = during; net = did.net; chance = did.chance }

module _ {D : Type 0} (disks : D → DiskTold) (words : Words) (did : ClientUse) where
  -- what told files say of the member and its editors
  abbrev pub Say : MemberFiles → Type 0
  Say m = SayMember did.folder.before.files (names_of words) words.device (length words.scripts) m

  -- What the command did, by its answer: a file of the member was the first that was not read, the
  -- disk of its leaf file was not lent, or the member worked over that disk
  pub data ClientOutcome : Result ⊤ Fault → Type 0 where
    no_member : {fault : Fault}
        → IsMemberFault did.folder (names_of words) words.device fault
        → did.net.after ≡ did.net.before → IsUntouched did → ClientOutcome (Err fault)
    no_disk : {fault : Fault} (m : MemberFiles) → Say m
        → IsFileFault any_bytes did.folder (names_of words) (Leaf words.device) fault
        → did.net.after ≡ did.net.before → IsUntouched did → ClientOutcome (Err fault)
    over_disk : {answer : Result ⊤ Fault} (m : MemberFiles) (first last : D)
        (during : Use FolderTold) → Say m → LendsDisk disks
        (file_name (names_of words) (Leaf words.device)) did.folder during first last
        → DiskOutcome disks words m (with_folder did during) first last answer
        → ClientOutcome answer
