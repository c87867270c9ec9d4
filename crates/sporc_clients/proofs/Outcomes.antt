-- What the command did, at each of its ends.
use Rattle.std.proofs.Common.{◌≡◌, ℕ, ◌≤◌, List, ◌∷◌, length, Option, option_map, Result, Ok, Err, ap, subst, arith, ◌∙◌}
use Rattle.sporc_clients.proofs.Common.{⊤, Device, NamedFile, ChanceTold, FolderTold, NetTold, Use, DiskTold, Words, Fault, History, Leaf, FileNames, file_name, Genesis, RingFile, Past, SessionFault, IsAttended}
use Rattle.sporc_clients.proofs.Common.{NotAttended, begin_with, Wanted, IsMemberFault, SayMember, ClientOutcome, ClientUse, names_of, File, SaveOutcome, LmsPrivate, IsDiskOf}
use Rattle.sporc_outside.specs.Files.{ChangesFile, with_file}
use Rattle.sporc_files.specs.declared.fault.Fault.TheVariants as faults
use Rattle.sporc_files.specs.Reading.{IsFileFault, SaysFileIfThere, any_bytes}
use Rattle.sporc_clients.specs.Concluding.{history_bytes}
use Rattle.sporc_device.specs.declared.member_files.MemberFiles.{MemberFiles}

-- with other words for its names, its files, and the count of the member's editors
module _ (names : FileNames) (words : Words) (named : names ≡ names_of words) where
  pub disk_of : (told now : Option (List NamedFile)) (stored : Option (List ℕ)) → now ≡ told → IsDiskOf now (file_name names (Leaf words.device)) stored
      → IsDiskOf told (file_name (names_of words) (Leaf words.device)) stored
  disk_of told now stored same is =
      subst (λ (n : FileNames). IsDiskOf told (file_name n (Leaf words.device)) stored) named
      (subst (λ (o : Option (List NamedFile)). IsDiskOf o (file_name names (Leaf words.device)) stored) same is)

  pub member_fault : (folder : Use FolderTold) (fault : Fault) → IsMemberFault folder names words.device fault → IsMemberFault folder (names_of words) words.device fault
  member_fault folder fault why = subst (λ (n : FileNames). IsMemberFault folder n words.device fault) named why

  pub file_fault : (file : File) (folder : Use FolderTold) (fault : Fault) → IsFileFault any_bytes folder names file fault → IsFileFault any_bytes folder (names_of words) file fault
  file_fault file folder fault why = subst (λ (n : FileNames). IsFileFault any_bytes folder n file fault) named why

module _ (told : Option (List NamedFile)) (names : FileNames) (words : Words) (named : names ≡ names_of words) where
  pub member_says : (count : ℕ) (m : MemberFiles) → count ≡ length words.scripts → SayMember told names words.device count m
      → SayMember told (names_of words) words.device (length words.scripts) m
  member_says count m all say =
      subst (λ (n : ℕ). SayMember told (names_of words) words.device n m) all
      (subst (λ (n : FileNames). SayMember told n words.device count m) named say)

  pub history_says : (history : Option (List ℕ)) → SaysFileIfThere any_bytes told (file_name names (History words.device)) history
      → SaysFileIfThere any_bytes told (file_name (names_of words) (History words.device)) history
  history_says history says = subst (λ (n : FileNames). SaysFileIfThere any_bytes told (file_name n (History words.device)) history) named says

-- the disk is out, of a folder that had lent as much as before
pub lent_at : (last lends read first : Option (List (List ℕ))) (names : FileNames) (words : Words) → last ≡ lends
    → lends ≡ option_map (λ lent. file_name names (Leaf words.device) ∷ lent) read → read ≡ first → names ≡ names_of words
    → last ≡ option_map (λ lent. file_name (names_of words) (Leaf words.device) ∷ lent) first
lent_at last lends read first names words stays lent same named =
    stays ∙ lent ∙ ap (λ (o : Option (List (List ℕ))). option_map (λ lent. file_name names (Leaf words.device) ∷ lent) o) same
    ∙ ap (λ (n : FileNames). option_map (λ lent. file_name n (Leaf words.device) ∷ lent) first) named

-- the exit of a `?`
pub ends_so : {D : Type 0} (disks : D → DiskTold) (words : Words) (did : ClientUse) (r : Result ⊤ Fault) (y fault : Fault) → r ≡ Err y → y ≡ fault
    → ClientOutcome disks words did (Err fault) → ClientOutcome disks words did r
ends_so disks words did r y fault is same ended = rw (is, same) ended

-- ---- a session

-- with other words for the address and the key
module _ (genesis : Genesis) (device : Device) (ring : RingFile) (address told : List ℕ) (history : Option (List ℕ)) (net : Use NetTold) (same : told ≡ address) where
  pub attended_at : (wanted : Wanted) (key own : LmsPrivate) (leaf : ℕ) (past : Past) (chance : Use ChanceTold) (session : Result ⊤ SessionFault) → own ≡ key
      → IsAttended (begin_with genesis device ring told) history net wanted (record { key = own; first_leaf = leaf }) past chance session
      → IsAttended (begin_with genesis device ring address) history net wanted (record { key = key; first_leaf = leaf }) past chance session
  attended_at wanted key own leaf past chance session signs attended =
      subst (λ (a : List ℕ). IsAttended (begin_with genesis device ring a) history net wanted (record { key = key; first_leaf = leaf }) past chance session) same
      (subst (λ (k : LmsPrivate). IsAttended (begin_with genesis device ring told) history net wanted (record { key = k; first_leaf = leaf }) past chance session) signs attended)

  pub not_attended_at : (fault : Fault) → NotAttended (begin_with genesis device ring told) history net fault → NotAttended (begin_with genesis device ring address) history net fault
  not_attended_at fault why = subst (λ (a : List ℕ). NotAttended (begin_with genesis device ring a) history net fault) same why

-- what was saved in a part of a use of the folder, which went on to its end
saved_within : (past : Past) (name : List ℕ) (whole : Use FolderTold) (mid : FolderTold) (result : Result ⊤ Fault) → mid.files ≡ whole.before.files → whole.before.faults ≤ mid.faults
    → SaveOutcome past name (record { before = mid; after = whole.after }) result → SaveOutcome past name whole result
saved_within past name whole mid (Err faults.Outside) same more (rose, changes) =
    (omega (arith, rose, more), subst (λ (o : Option (List NamedFile)). ChangesFile o whole.after.files name) same changes)
saved_within past name whole mid (Ok done) same more is = is ∙ ap (option_map (λ old. with_file old name (history_bytes past))) same
saved_within past name whole mid (Err faults.FullFile) same more (long, is) = (long, is ∙ same)
saved_within past name whole mid (Err faults.Memory) same more is = is ∙ same
saved_within past name whole mid (Err fault) same more never = absurd never

-- with other words for its name
pub saved_as : (past : Past) (name shown : List ℕ) (whole : Use FolderTold) (mid : FolderTold) (result : Result ⊤ Fault) → shown ≡ name → mid.files ≡ whole.before.files → whole.before.faults ≤ mid.faults
    → SaveOutcome past shown (record { before = mid; after = whole.after }) result → SaveOutcome past name whole result
saved_as past name shown whole mid result called same more is =
    subst (λ (n : List ℕ). SaveOutcome past n whole result) called (saved_within past shown whole mid result same more is)
