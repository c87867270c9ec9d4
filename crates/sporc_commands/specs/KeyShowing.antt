-- What `public` does: it prints the line of a key that is there, as `keygen` printed it.
use Rattle.std.specs.Prelude.{◌≡◌, ◌⊎◌, ℕ, List, Option, Some, Result, Ok, Err}
use Rattle.std.specs.Io.KnownBytes.{Appends}
use Rattle.lms_tree.specs.LmsPrivate.{LmsPrivate, lms_public_of}
use Rattle.sporc_outside.specs.Counts.{Rose}
use Rattle.sporc_outside.specs.Files.{file_in}
use Rattle.sporc_outside.specs.Uses.{Use}
use Rattle.sporc_outside.specs.Writing.{AppendsPrefix}
use Rattle.sporc_outside.specs.declared.named_file.NamedFile.{NamedFile}
use Rattle.sporc_outside.specs.Streams.{IsUnwritten, StreamTold}
use Rattle.sporc_outside.specs.Folders.{FolderTold}
use Rattle.sporc_keys.specs.KeyFile.{IsKeyFile, key_file_bytes}
use Rattle.sporc_keys.specs.NewKey.{made_of}
use Rattle.sporc_keys.specs.declared.new_key.NewKey.{NewKey}
use Rattle.sporc_words.specs.declared.public.Public.{Public}
use Rattle.sporc_files.specs.declared.fault.Fault.{Fault}
use Rattle.sporc_files.specs.declared.fault.Fault.TheVariants as faults
use Rattle.sporc_files.specs.declared.file.File.TheVariants as files
use Rattle.sporc_files.specs.Names.{file_name, names_of_document}
use Rattle.sporc_files.specs.Reading.{IsFileFault, SaysFile, key_file}
use Rattle.sporc_commands.specs.KeyMaking.{key_line}

-- the line of `keygen` for the key that a device's key file says
pub record IsLineOf (asked : Public) (told : Option (List NamedFile)) (line : List ℕ) : Type 0 where
  pub key : LmsPrivate
  pub says : SaysFile (key_file asked.device) told
      (file_name (names_of_document asked.name) (files.Key asked.device)) key
  pub line_is : line ≡ key_line (lms_public_of key)

-- the key file of a new key stands where `public` looks for it
pub record HasNewKey (told : List NamedFile) (asked : Public) (key : NewKey) : Type 0 where
  pub is_key_file : IsKeyFile key.file
  pub made : key ≡ made_of key.file
  pub device : key.file.device ≡ asked.device
  pub stands : file_in told (file_name (names_of_document asked.name) (files.Key asked.device))
      ≡ Some (key_file_bytes key.file)

-- it was written as this says
pub record ShowsLine (asked : Public) (told : Option (List NamedFile))
    (Written : List ℕ → Type 0) : Type 0 where
  pub line : List ℕ
  pub of : IsLineOf asked told line
  pub written : Written line

-- the key file says nothing, or memory ran out, and nothing was printed
pub record FailsAtKey (asked : Public) (folder : Use FolderTold) (out : Use StreamTold)
    (fault : Fault) : Type 0 where
  pub cause : IsFileFault (key_file asked.device) folder (names_of_document asked.name)
      (files.Key asked.device) fault
  pub unwritten : IsUnwritten out

-- the sink failed, and a prefix of the line was printed
pub record FailsAtPrint (asked : Public) (folder : Use FolderTold) (out : Use StreamTold)
    (fault : Fault) : Type 0 where
  pub outside : fault ≡ faults.Outside
  pub rose : Rose out.before.faults out.after.faults
  pub shows : ShowsLine asked folder.before.files
      (AppendsPrefix out.before.written out.after.written)

-- what `public` did, by its answer
abbrev pub PublicOutcome : {T : Type 0} → Public → Use FolderTold → Use StreamTold
    → Result T Fault → Type 0
PublicOutcome asked folder out (Ok done) =
    ShowsLine asked folder.before.files (Appends out.before.written out.after.written)
PublicOutcome asked folder out (Err fault) =
    FailsAtKey asked folder out fault ⊎ FailsAtPrint asked folder out fault
