-- What `found` does: it makes a document of the founders' key files and of words of the chance.
use Rattle.std.specs.Prelude.{◌≡◌, ◌⊎◌, ℕ, List, [], ◌∷◌, ◌++◌, map, Option, true, Result, Ok, Err}
use Rattle.std.specs.List.{AllByRecursion, flat_map}
use Rattle.lms_tree.specs.LmsPrivate.{LmsPrivate, lms_public_of}
use Rattle.sporc_outside.specs.Counts.{Rose}
use Rattle.sporc_outside.specs.declared.named_file.NamedFile.{NamedFile}
use Rattle.sporc_outside.specs.Uses.{Use}
use Rattle.sporc_outside.specs.Folders.{FolderTold}
use Rattle.sporc_outside.specs.Chances.{ChanceTold}
use Rattle.sporc_member.specs.Device.{IsMember, first_device}
use Rattle.sporc_entry.specs.Genesis.{genesis_bytes}
use Rattle.sporc_keys.specs.declared.founding.Founding.{Founding}
use Rattle.sporc_keys.specs.declared.named.Named.{Named}
use Rattle.sporc_keys.specs.declared.named.Named.TheVariants as named
use Rattle.sporc_keys.specs.declared.ring_file.RingFile.{RingFile}
use Rattle.sporc_keys.specs.Founding.{IsFounding, in_order}
use Rattle.sporc_keys.specs.RingFile.{ring_file_bytes}
use Rattle.sporc_words.specs.declared.found.Found.{Found}
use Rattle.sporc_words.specs.declared.standing.Standing.{Standing}
use Rattle.sporc_words.specs.declared.standing.Standing.TheVariants as standings
use Rattle.sporc_words.specs.declared.standing.Participant.{Participant}
use Rattle.sporc_words.specs.Values.{may_found}
use Rattle.sporc_files.specs.declared.fault.Fault.{Fault}
use Rattle.sporc_files.specs.declared.fault.Fault.TheVariants as faults
use Rattle.sporc_files.specs.declared.file.File.{File}
use Rattle.sporc_files.specs.declared.file.File.TheVariants as files
use Rattle.sporc_files.specs.Names.{FileNames, file_name, names_of_document}
use Rattle.sporc_files.specs.Reading.{IsFileFault, SaysFile, key_file}
use Rattle.sporc_files.specs.Writing.{Stores, StoresFirst, StoresPrefix, file_with}
use Rattle.sporc_files.specs.Faults.{IsOutsideFault}

-- words that may found a document
pub record MayFound (asked : Found) : Type 0 where
  pub may : may_found asked.participants ≡ true
  pub members : AllByRecursion (λ p. IsMember p.member) asked.participants

-- ---- those who are named

-- one who is named: a founder by the key of its first device, a joiner by its number alone
abbrev pub IsNamed : Option (List NamedFile) → FileNames → ℕ → Standing → Named → Type 0
IsNamed told names member (standings.Founder role) one = (key : LmsPrivate) × SaysFile
    (key_file (first_device member)) told (file_name names (files.Key (first_device member))) key
    × (one ≡ named.Founder member role (lms_public_of key))
IsNamed told names member standings.Joiner one = one ≡ named.Joiner member

-- all who are named, in the order of the words
abbrev pub AreNamed : Option (List NamedFile) → FileNames → List Participant → List Named → Type 0
AreNamed told names [] [] = Unit {0}
AreNamed told names (p ∷ ps) (n ∷ ns) =
    IsNamed told names p.member p.standing n × AreNamed told names ps ns
AreNamed told names [] (n ∷ ns) = ⊥
AreNamed told names (p ∷ ps) [] = ⊥

-- the key file of a founder is the first that does not say a key, for this fault
pub record FirstBadKey (folder : Use FolderTold) (names : FileNames) (all : List Participant)
    (fault : Fault) : Type 0 where
  pub before : List Participant
  pub one : Participant
  pub behind : List Participant
  pub split : all ≡ before ++ one ∷ behind
  pub named : List Named
  pub read : AreNamed folder.before.files names before named
  pub cause : IsFileFault (key_file (first_device one.member)) folder names
      (files.Key (first_device one.member)) fault

-- ---- files

abbrev pub ring_of_founding : FileNames → RingFile → NamedFile
ring_of_founding names ring = file_with names (files.Ring ring.member) (ring_file_bytes ring)

-- the genesis, and then each ring, in ascending order of the numbers
abbrev pub founding_files : FileNames → Founding → List NamedFile
founding_files names founding = file_with names files.Genesis (genesis_bytes founding.genesis)
    ∷ map (ring_of_founding names) founding.rings

-- the names of files, in their order
abbrev pub names_in : List NamedFile → List (List ℕ)
names_in files = map (λ f. f.name) files

-- the key file that is read of one who is named: a founder's
abbrev pub key_read : ℕ → Standing → List File
key_read member (standings.Founder role) = files.Key (first_device member) ∷ []
key_read member standings.Joiner = []

-- the key files that are read, in the order of the words
abbrev pub keys_read : List Participant → List File
keys_read participants = flat_map (λ p. key_read p.member p.standing) participants

-- the rings that are written
abbrev pub rings_written : List Participant → List File
rings_written participants = map (λ p. files.Ring p.member) participants

-- the files that are asked for: the key file of each founder, the genesis, and the ring of each who
-- is named
abbrev pub found_files : List Participant → List File
found_files participants = keys_read participants ++ (files.Genesis ∷ rings_written participants)

-- why not all files were written, and what stands: only if a call failed may anything stand of the
-- file that it was to write
abbrev pub IsStoreFault : List NamedFile → Use FolderTold → Fault → Type 0
IsStoreFault new folder faults.Memory = StoresFirst new folder.before.files folder.after.files
IsStoreFault new folder faults.Outside = Rose folder.before.faults folder.after.faults
    × StoresPrefix new folder.before.files folder.after.files
IsStoreFault new folder fault = ⊥

-- ---- the command

-- the document was made
pub record Founds (asked : Found) (files : Use FolderTold) (chance : Use ChanceTold) : Type 0 where
  pub named : List Named
  pub read : AreNamed files.before.files (names_of_document asked.name) asked.participants named
  pub founding : Founding
  pub made : IsFounding chance.before.given chance.after.given (in_order named) founding
  pub stores : Stores
      (founding_files (names_of_document asked.name) founding) files.before.files files.after.files

-- no key file of a founder is bad, and nothing was made of the words of the chance
pub record FailsAtChance (asked : Found) (files : Use FolderTold) (chance : Use ChanceTold)
    (fault : Fault) : Type 0 where
  pub named : List Named
  pub read : AreNamed files.before.files (names_of_document asked.name) asked.participants named
  pub cause : IsOutsideFault chance.before.faults chance.after.faults fault
  pub stand : files.after.files ≡ files.before.files

-- a founder's key file is bad
pub record FailsAtKeys (asked : Found) (files : Use FolderTold) (fault : Fault) : Type 0 where
  pub cause : FirstBadKey files (names_of_document asked.name) asked.participants fault
  pub stand : files.after.files ≡ files.before.files

-- the document was made, and why not all of its files were written
pub record FailsAtWriting (asked : Found) (files : Use FolderTold) (chance : Use ChanceTold)
    (fault : Fault) : Type 0 where
  pub named : List Named
  pub read : AreNamed files.before.files (names_of_document asked.name) asked.participants named
  pub founding : Founding
  pub made : IsFounding chance.before.given chance.after.given (in_order named) founding
  pub cause : IsStoreFault (founding_files (names_of_document asked.name) founding) files fault

-- what `found` did, by its answer
abbrev pub FoundOutcome : {T : Type 0} → Found → Use FolderTold → Use ChanceTold
    → Result T Fault → Type 0
FoundOutcome asked files chance (Ok done) = Founds asked files chance
FoundOutcome asked files chance (Err fault) = FailsAtKeys asked files fault
    ⊎ (FailsAtChance asked files chance fault ⊎ FailsAtWriting asked files chance fault)
