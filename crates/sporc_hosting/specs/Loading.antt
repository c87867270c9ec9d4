-- The orders that a server of several documents begins with.
use Rattle.std.specs.Prelude.{◌≡◌, ℕ, ◌+◌, Bool, true, false, option_map, List, [], ◌∷◌, ◌++◌}
use Rattle.std.specs.Prelude.{length, Option, Some, None, Result, Ok, Err, IfOk, OnOk, bytes_eq}
use Rattle.std.specs.Prelude.{if◌then◌else◌}
use Rattle.sporc_bytes.specs.Fields.{◌>>=◌, fault_as}
use Rattle.sporc_outside.specs.Counts.{Rose}
use Rattle.sporc_outside.specs.Files.{file_in, made_in}
use Rattle.sporc_outside.specs.Told.{IfBoth}
use Rattle.sporc_outside.specs.declared.named_file.NamedFile.{NamedFile}
use Rattle.sporc_outside.specs.AppendFile.{AppendTold}
use Rattle.sporc_outside.specs.Folders.{FolderTold}
use Rattle.sporc_outside.specs.Uses.{Use}
use Rattle.sporc_entry.specs.declared.genesis.Genesis.{Genesis}
use Rattle.sporc_order.specs.OrderModel.{OrderModel}
use Rattle.std.specs.List.{AllZip}
use Rattle.sporc_docs.specs.Lists.{is_of, place_of}
use Rattle.sporc_docs.specs.Served.{AreKept}
use Rattle.sporc_files.specs.declared.fault.Fault.{Fault}
use Rattle.sporc_files.specs.declared.fault.Fault.TheVariants as faults
use Rattle.sporc_files.specs.declared.file.File.TheVariants as files
use Rattle.sporc_files.specs.Faults.{AnswersUnlessOutside, fault_among}
use Rattle.sporc_files.specs.Names.{FileNames, file_name, names_of_document}
use Rattle.sporc_files.specs.Contents.{AnswersOfFile, genesis_in}
use Rattle.sporc_hosting.specs.Serving.{AreServedFiles, HasLogged, ServedFiles, log_in, logged}
use Rattle.sporc_hosting.specs.Serving.{order_in}
use Rattle.sporc_hosting.specs.Tails.{KeepsBehind, LogTailModel}
use Rattle.sporc_hosting.specs.OpenLogModel.{OpenLogModel}
use Rattle.sporc_hosting.specs.declared.loading.OpenDocs.{OpenDocs}

-- ---- names

-- the files of one document, and those of several
abbrev pub files_of_one : List ℕ → List (List ℕ)
files_of_one name =
    file_name (names_of_document name) files.Genesis ∷ file_name (names_of_document name) files.Tail
    ∷ file_name (names_of_document name) files.Log ∷ []

abbrev pub files_of_all : List (List ℕ) → List (List ℕ)
files_of_all [] = []
files_of_all (name ∷ names) = files_of_one name ++ files_of_all names

-- told files once the tail of this document was made
abbrev pub with_tail_made : List ℕ → Option (List NamedFile) → Option (List NamedFile)
with_tail_made name told =
    option_map (λ held. made_in held (file_name (names_of_document name) files.Tail)) told

abbrev pub with_tails_made : List (List ℕ) → Option (List NamedFile) → Option (List NamedFile)
with_tails_made [] told = told
with_tails_made (name ∷ names) told = with_tails_made names (with_tail_made name told)

-- the files of several documents, as a folder holds them, each once the tails of those before it
-- were made
abbrev pub AreFilesOfAll : Option (List NamedFile) → List (List ℕ) → List ServedFiles → Type 0
AreFilesOfAll told [] [] = Unit {0}
AreFilesOfAll told (name ∷ names) (content ∷ contents) =
    AreServedFiles told (names_of_document name) content
    × AreFilesOfAll (with_tail_made name told) names contents
AreFilesOfAll told names contents = ⊥

-- no tail of documents with these names has this name
abbrev pub IsNoTail : List (List ℕ) → List ℕ → Type 0
IsNoTail [] other = Unit {0}
IsNoTail (name ∷ names) other =
    (bytes_eq (file_name (names_of_document name) files.Tail) other ≡ false) × IsNoTail names other

-- told files became these, where only the tails of documents with these names may have changed
abbrev pub ChangesTails : List (List ℕ) → Option (List NamedFile) → Option (List NamedFile) → Type 0
ChangesTails names before after = IfBoth before after (λ files more. (other : List ℕ)
    → IsNoTail names other → file_in more other ≡ file_in files other)

-- ---- what they hold

-- whether one of these orders is of this document
abbrev pub is_held : List OrderModel → List ℕ → Bool
is_held [] document = false
is_held (o ∷ os) document = if is_of document o then true else is_held os document

-- the order that the files of the document of this number give. If it is held, its log is loaded,
-- and that it is held is the fault then; the tail is left alone, since it is that of the order that
-- is held
abbrev pub order_unless_held : ℕ → Bool → ServedFiles → Result OrderModel Fault
order_unless_held number false content = order_in content
order_unless_held number true content =
    log_in content >>= λ order. Err (faults.Exists (files.Document number))

-- the order that the files of the document of this number give, where these orders are held
abbrev pub opened_in : ℕ → List OrderModel → ServedFiles → Result OrderModel Fault
opened_in number held content = genesis_in content.genesis
    >>= λ genesis. order_unless_held number (is_held held genesis.document) content

-- orders, unless the last one's document was held
abbrev pub unless_held : ℕ → Option ℕ → List OrderModel → Result (List OrderModel) Fault
unless_held number None orders = Ok orders
unless_held number (Some place) orders = Err (faults.Exists (files.Document number))

-- the order of the document of this number, behind those that are held, unless one of its document
-- is held
abbrev pub added : ℕ → List OrderModel → OrderModel → Result (List OrderModel) Fault
added number held order =
    unless_held number (place_of held order.genesis.document) (held ++ order ∷ [])

-- these orders and that of the document of this number, by what its files hold
abbrev pub with_document : ℕ → List OrderModel → ServedFiles → Result (List OrderModel) Fault
with_document number held content =
    fault_as (fault_among number) (opened_in number held content) >>= added number held

-- the orders of several documents, behind those that are held; the first of them has this number
abbrev pub orders_in : ℕ → List OrderModel → List ServedFiles → Result (List OrderModel) Fault
orders_in number held [] = Ok held
orders_in number held (content ∷ contents) =
    with_document number held content >>= λ more. orders_in (number + 1) more contents

-- ---- what is found of it in the files of a folder

-- the order of a document, unless it is held
abbrev pub FindsUnlessHeld : {X : Type 0} → (X → OrderModel) → (X → ℕ) → Use FolderTold → FileNames
    → ℕ → List OrderModel → Result X Fault → Type 0
FindsUnlessHeld view len folder names number held result =
    (content : ServedFiles) × AreServedFiles folder.before.files names content
    × AnswersUnlessOutside view (Rose folder.before.faults folder.after.faults) result
    (opened_in number held content)
    × IfOk result (λ it. HasLogged content (len it))

-- the first fault of the log of a document that is held, or that it is held, in the file with this
-- name
abbrev pub FindsHeld : Use FolderTold → List ℕ → ℕ → Genesis → Fault → Type 0
FindsHeld folder name number genesis fault =
    AnswersOfFile (λ (order : OrderModel). order) folder name (Err fault) (λ log. logged genesis log
    >>= λ (order : OrderModel). Err (faults.Exists (files.Document number)))

-- the documents so far, or why one more is not among them
abbrev pub opened_to : Result (Unit {0}) Fault → List OrderModel → Result (List OrderModel) Fault
opened_to (Ok done) orders = Ok orders
opened_to (Err fault) orders = Err fault

-- ---- what is open

-- of each document with one of these names and what its files held: its order, the tail that keeps
-- its entries, and its log as it was opened
pub record AreOpen {D : Type 0} (file_told : D → AppendTold) (names : List (List ℕ))
    (contents : List ServedFiles) (orders : List OrderModel)
    (tails : List (LogTailModel D)) (logs : List OpenLogModel) : Type 0 where
  pub kept : AreKept (KeepsBehind file_told) tails orders
  pub logged : AllZip (λ content log. HasLogged content log.logged) contents logs
  pub named : AllZip (λ name log. log.name ≡ file_name (names_of_document name) files.Tail)
      names logs
  pub each : length logs ≡ length orders

module _ {D : Type 0} (file_told : D → AppendTold) where
  -- one document more is open if that succeeded
  abbrev pub AreOpenTo : Result (Unit {0}) Fault → List ℕ → ServedFiles → List OrderModel
      → List (LogTailModel D) → List OpenLogModel → List (List ℕ) → List ServedFiles → Type 0
  AreOpenTo (Ok done) name content new tails logs first begun =
      AreOpen file_told (first ++ name ∷ []) (begun ++ content ∷ []) new tails logs
  AreOpenTo (Err fault) name content new tails logs first begun =
      AreOpen file_told first begun new tails logs

  -- the document with this name was opened behind those that were open
  pub record OpensOne (folder : Use FolderTold) (name : List ℕ) (number : ℕ)
      (result : Result (Unit {0}) Fault) (old new : List OrderModel)
      (tails : List (LogTailModel D)) (logs : List OpenLogModel) (first : List (List ℕ))
      (begun : List ServedFiles) : Type 0 where
    pub content : ServedFiles
    pub are : AreServedFiles folder.before.files (names_of_document name) content
    pub found : AnswersUnlessOutside (λ (orders : List OrderModel). orders)
        (Rose folder.before.faults folder.after.faults) (opened_to result new)
        (with_document number old content)
    pub are_open : AreOpenTo result name content new tails logs first begun

  -- the first of the documents with these names were opened behind those that were open, all of
  -- them if that succeeded
  pub record OpensMore (folder : Use FolderTold) (names : List (List ℕ)) (number : ℕ)
      (result : Result (Unit {0}) Fault) (old new : List OrderModel)
      (tails : List (LogTailModel D)) (logs : List OpenLogModel)
      (first : List (List ℕ)) (begun : List ServedFiles) : Type 0 where
    pub contents : List ServedFiles
    pub are : AreFilesOfAll folder.before.files names contents
    pub found : AnswersUnlessOutside (λ (orders : List OrderModel). orders)
        (Rose folder.before.faults folder.after.faults) (opened_to result new)
        (orders_in number old contents)
    pub opened : List (List ℕ)
    pub held : List ServedFiles
    pub rest : List (List ℕ)
    pub names_are : names ≡ opened ++ rest
    pub are_open : AreOpen file_told (first ++ opened) (begun ++ held) new tails logs
    pub all : OnOk result ((opened ≡ names) × (held ≡ contents))

  -- one was, or several, whatever was open as far as it says
  abbrev pub OpensOneBehind : Use FolderTold → List ℕ → ℕ → Result (Unit {0}) Fault → OpenDocs D
      → OpenDocs D → Type 0
  OpensOneBehind folder name number result old new =
      (first : List (List ℕ)) (begun : List ServedFiles)
      → AreOpen file_told first begun old.docs old.tails.items old.logs.items
      → OpensOne folder name number result old.docs new.docs new.tails.items new.logs.items
      first begun

  abbrev pub OpensMoreBehind : Use FolderTold → List (List ℕ) → ℕ → Result (Unit {0}) Fault
      → OpenDocs D → OpenDocs D → Type 0
  OpensMoreBehind folder names number result old new =
      (first : List (List ℕ)) (begun : List ServedFiles)
      → AreOpen file_told first begun old.docs old.tails.items old.logs.items
      → OpensMore folder names number result old.docs new.docs new.tails.items new.logs.items
      first begun
