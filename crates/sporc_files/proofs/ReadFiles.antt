-- What is read of files, and what follows of it.
use Rattle.std.proofs.Common.{◌≡◌, ℕ, ◌≤◌, ◌<◌, List, length, Option, None, Some, Result, Ok, Err, refl, sym, ap, ◌∙◌, subst, arith}
use Rattle.std.proofs.lemmas.Bool.{le-ltb, lt-ltb}
use Rattle.sporc_files.proofs.Common.{Rose, HasFile, HasNoFile, NamedFile, Use, FolderTold, Fault, File, FileNames, file_name, IsFileFault, AnswersUnlessOutside}
use Rattle.sporc_bytes.specs.Fields.{◌>>=◌, fault_as}
use Rattle.sporc_outside.specs.Files.{file_in}
use Rattle.sporc_outside.specs.declared.file_fault.TheConstants.{MAX_FILE}
use Rattle.sporc_files.proofs.Answering.{fails_first, tells_alone, tells_as, tells_behind}
use Rattle.sporc_files.proofs.FaultCases.{IsPart}
use Rattle.sporc_files.specs.Contents.{AnswersOfFile, IsFileAt, said}
use Rattle.sporc_files.specs.Reading.{SaysFile}
use Rattle.sporc_files.specs.declared.fault.Fault.TheVariants as faults

-- ---- what a folder holds

-- what a told folder holds at a name
abbrev pub there : Option (List NamedFile) → List ℕ → Option (List ℕ)
there None name = None
there (Some told) name = file_in told name

pub is_there : (told : Option (List NamedFile)) (name : List ℕ) → IsFileAt told name (there told name)
is_there None name = tt
is_there (Some told) name = refl

pub has_at : (told : Option (List NamedFile)) (name bytes : List ℕ) → HasFile told name bytes → IsFileAt told name (Some bytes)
has_at None name bytes has = tt
has_at (Some told) name bytes has = has

pub none_at : (told : Option (List NamedFile)) (name : List ℕ) → HasNoFile told name → IsFileAt told name None
none_at None name has = tt
none_at (Some told) name has = has

-- ---- what is answered of it

module _ {A : Type 0} (parse : List ℕ → Result A ℕ) where
  pub said_short : (file : File) (bytes : List ℕ) (read : Result A ℕ) → length bytes ≤ MAX_FILE → parse bytes ≡ read → said parse file (Some bytes) ≡ fault_as (faults.Malformed file) read
  said_short file bytes read short is = rw (le-ltb MAX_FILE (length bytes) short, is) refl

  pub said_long : (file : File) (bytes : List ℕ) → MAX_FILE < length bytes → said parse file (Some bytes) ≡ Err (faults.TooLong file)
  said_long file bytes long = rw (lt-ltb MAX_FILE (length bytes) long) refl

  pub says : (told : Option (List NamedFile)) (name : List ℕ) (file : File) (a : A) → SaysFile parse told name a
      → (content : Option (List ℕ)) × IsFileAt told name content × (said parse file content ≡ Ok a)
  says told name file a (bytes, short, has, is) = (Some bytes, has_at told name bytes has, said_short file bytes (Ok a) short is)

  pub fails : {X : Type 0} (view : X → A) (folder : Use FolderTold) (names : FileNames) (file : File) (fault : Fault) → IsFileFault parse folder names file fault
      → AnswersOfFile view folder (file_name names file) (Err fault) (said parse file)
  fails view folder names file faults.Memory why = (there folder.before.files (file_name names file), is_there folder.before.files (file_name names file), tt)
  fails view folder names file faults.Outside why = (there folder.before.files (file_name names file), is_there folder.before.files (file_name names file), why)
  fails view folder names file (faults.Missing other) (same, none) =
      (None, none_at folder.before.files (file_name names file) none, ap (λ (f : File). Err (faults.Missing f)) (sym same))
  fails view folder names file (faults.TooLong other) (same, len, (above, bytes, is, has)) = (
    Some bytes,
    has_at folder.before.files (file_name names file) bytes has,
    said_long file bytes (omega (arith, above, is)) ∙ ap (λ (f : File). Err (faults.TooLong f)) (sym same),
  )
  fails view folder names file (faults.Malformed other at) (same, bytes, short, has, is) = (
    Some bytes,
    has_at folder.before.files (file_name names file) bytes has,
    said_short file bytes (Err at) short is ∙ ap (λ (f : File). Err (faults.Malformed f at)) (sym same),
  )
  fails view folder names file fault why = absurd why

-- in a part of a use of the folder
pub answers_within : {X Y : Type 0} (view : X → Y) (whole part : Use FolderTold) (name : List ℕ) (r : Result X Fault) (says : Option (List ℕ) → Result Y Fault) → AnswersOfFile view part name r says
    → IsPart whole part → AnswersOfFile view whole name r says
answers_within view whole part name r says (content, at, tells) is_part = (
  content,
  subst (λ (o : Option (List NamedFile)). IsFileAt o name content) is_part.same at,
  tells_as view (Rose part.before.faults part.after.faults) (Rose whole.before.faults whole.after.faults) r (says content) (λ rose. omega (arith, is_part.since, is_part.until, rose)) tells,
)

-- ---- a file that is read, and a value made of what it says
module _ {A X Y : Type 0} (parse : List ℕ → Result A ℕ) (view : X → Y) (folder : Use FolderTold) (names : FileNames) (file : File) (k : A → Result Y Fault) where
  pub reads_none : (fault : Fault) (r : Result X Fault) → r ≡ Err fault → IsFileFault parse folder names file fault
      → AnswersOfFile view folder (file_name names file) r (λ content. said parse file content >>= k)
  reads_none fault r is_fault why =
      let (content, is, tells) = fails parse (λ (a : A). a) folder names file fault why in
      (content, is, rw is_fault (fails_first (λ (a : A). a) view (Rose folder.before.faults folder.after.faults) fault (said parse file content) k tells))

  pub reads_value : (a : A) (r : Result X Fault) → SaysFile parse folder.before.files (file_name names file) a → AnswersUnlessOutside view ⊥ r (k a)
      → AnswersOfFile view folder (file_name names file) r (λ content. said parse file content >>= k)
  reads_value a r said_a tells =
      let (content, is, value) = says parse folder.before.files (file_name names file) file a said_a in
      let Failed = Rose folder.before.faults folder.after.faults in
      (content, is, tells_behind view Failed r (said parse file content) a k value (tells_alone view Failed r (k a) tells))
