-- What a server begins with, and the log that it saves.
use Rattle.std.specs.Prelude.{◌≡◌, ◌∷◌, ℕ, List, [], length, Option, None, Some, Result, Ok, IfOk}
use Rattle.sporc_bytes.specs.Fields.{◌>>=◌, fault_as}
use Rattle.sporc_outside.specs.Counts.{Rose}
use Rattle.sporc_outside.specs.Files.{or_empty}
use Rattle.sporc_outside.specs.Folders.{FolderTold}
use Rattle.sporc_outside.specs.Uses.{Use}
use Rattle.sporc_outside.specs.declared.named_file.NamedFile.{NamedFile}
use Rattle.sporc_entry.specs.declared.genesis.Genesis.{Genesis}
use Rattle.sporc_order.specs.OrderModel.{OrderModel}
use Rattle.sporc_store.specs.declared.stop.Stop.TheVariants.{End}
use Rattle.sporc_store.specs.declared.tail_fault.TailFault.{TailFault}
use Rattle.sporc_store.specs.declared.tail_fault.TailFault.TheVariants as tails
use Rattle.sporc_store.specs.Loading.{accepted_from, an_order, loaded}
use Rattle.sporc_store.specs.SavedFile.{Taken, saved_file}
use Rattle.sporc_store.specs.TailBytes.{tail_behind}
use Rattle.sporc_serve.specs.declared.fault.ServeFault.{ServeFault}
use Rattle.sporc_serve.specs.declared.fault.ServeFault.TheVariants as serving
use Rattle.sporc_files.specs.declared.fault.Fault.{Fault}
use Rattle.sporc_files.specs.declared.fault.Fault.TheVariants as faults
use Rattle.sporc_files.specs.declared.file.File.{File}
use Rattle.sporc_files.specs.declared.file.File.TheVariants as files
use Rattle.sporc_files.specs.Faults.{AnswersUnlessOutside, fault_of_saving, first_fault, whole}
use Rattle.sporc_files.specs.Names.{FileNames, file_name}
use Rattle.sporc_files.specs.Contents.{IsFileAt, bytes_in, genesis_in}

-- the files of a server
pub record ServedFiles : Type 0 where
  pub genesis : Option (List ℕ)
  pub log : Option (List ℕ)
  pub tail : Option (List ℕ)

abbrev pub served_files : List File
served_files = files.Genesis ∷ files.Tail ∷ files.Log ∷ []

-- the files of a server, as a folder holds them
pub record AreServedFiles (told : Option (List NamedFile)) (names : FileNames)
    (content : ServedFiles) : Type 0 where
  pub genesis : IsFileAt told (file_name names files.Genesis) content.genesis
  pub log : IsFileAt told (file_name names files.Log) content.log
  pub tail : IsFileAt told (file_name names files.Tail) content.tail

-- an order of these entries
abbrev pub order_with : Genesis → List (List ℕ) → OrderModel
order_with genesis entries = record { genesis = genesis; entries = entries }

-- the order of entries that were taken of a file, if they are all of it
abbrev pub order_of_whole : File → Genesis → Taken → Result OrderModel Fault
order_of_whole file genesis taken = whole file taken >>= λ entries. Ok (order_with genesis entries)

-- the order that a log holds, if it is whole and each entry is accepted
abbrev pub logged_in : Genesis → List ℕ → Result OrderModel Fault
logged_in genesis bytes =
    order_of_whole files.Log genesis (loaded (an_order genesis) genesis.document bytes)

-- the order of a document's log, an empty one if there is no log
abbrev pub logged : Genesis → Option (List ℕ) → Result OrderModel Fault
logged genesis None = Ok (order_with genesis [])
logged genesis (Some bytes) = bytes_in files.Log (Some bytes) >>= λ within. logged_in genesis within

-- the order that a document's genesis and log give
abbrev pub log_in : ServedFiles → Result OrderModel Fault
log_in content = genesis_in content.genesis >>= λ genesis. logged genesis content.log

-- ---- the tail

-- the fault of the program that one of opening a tail is
abbrev pub fault_of_tail : TailFault → Fault
fault_of_tail tails.Failed = faults.Outside
fault_of_tail (tails.TooLong len) = faults.TooLong files.Tail
fault_of_tail (tails.Malformed at) = faults.Malformed files.Tail at
fault_of_tail (tails.Refused position refusal) = faults.Refused position refusal
fault_of_tail tails.Memory = faults.Memory

-- the bytes of a tail: none, if there is no such file
abbrev pub tail_in : Option (List ℕ) → Result (List ℕ) Fault
tail_in content = bytes_in files.Tail (Some (or_empty content))

-- the order of a log with what it lacks of its tail, if each entry is accepted
abbrev pub with_tail : OrderModel → List ℕ → Result OrderModel Fault
with_tail order bytes =
    fault_as fault_of_tail (tail_behind order.entries order.genesis.document bytes)
    >>= λ taken. order_of_whole files.Tail order.genesis
    (accepted_from (an_order order.genesis) order.entries taken.entries End)

-- the order of a log behind a genesis, with what it lacks of a tail. The tail's file is taken
-- before the log is read
abbrev pub order_behind : Genesis → Option (List ℕ) → Option (List ℕ) → Result OrderModel Fault
order_behind genesis log tail =
    tail_in tail >>= λ bytes. logged genesis log >>= λ order. with_tail order bytes

-- the order that a server begins with: that of the genesis, the log, and the tail behind it
abbrev pub order_in : ServedFiles → Result OrderModel Fault
order_in content =
    genesis_in content.genesis >>= λ genesis. order_behind genesis content.log content.tail

-- so many entries are in the log alone
abbrev pub HasLogged : ServedFiles → ℕ → Type 0
HasLogged content len =
    (order : OrderModel) × (log_in content ≡ Ok order) × (length order.entries ≡ len)

-- it was found in the files of a folder
abbrev pub FindsOrder : {X : Type 0} → (X → OrderModel) → (X → ℕ) → Use FolderTold → FileNames
    → Result X Fault → Type 0
FindsOrder view len folder names result =
    (content : ServedFiles) × AreServedFiles folder.before.files names content
    × AnswersUnlessOutside view (Rose folder.before.faults folder.after.faults) result
    (order_in content)
    × IfOk result (λ it. HasLogged content (len it))

-- it was found behind a genesis that was read before
abbrev pub FindsOrderBehind : {X : Type 0} → (X → OrderModel) → (X → ℕ) → Use FolderTold
    → FileNames → Genesis → Result X Fault → Type 0
FindsOrderBehind view len folder names genesis result = (log : Option (List ℕ))
    × (tail : Option (List ℕ)) × IsFileAt folder.before.files (file_name names files.Log) log
    × IsFileAt folder.before.files (file_name names files.Tail) tail
    × AnswersUnlessOutside view (Rose folder.before.faults folder.after.faults) result
    (order_behind genesis log tail)
    × IfOk result
    (λ it. (order : OrderModel) × (logged genesis log ≡ Ok order) × (length order.entries ≡ len it))

-- the file of an order's entries, unless it would be too long
abbrev pub saved_log : OrderModel → Result (List ℕ) Fault
saved_log order = fault_as fault_of_saving (saved_file order.genesis.document order.entries)

-- the fault of the program that a server's is
abbrev pub serve_fault : ServeFault → Fault
serve_fault serving.ListenFault = faults.Outside
serve_fault (serving.Worn ticket) = faults.Worn
serve_fault serving.Memory = faults.Memory
serve_fault serving.Unkept = faults.Outside

-- a server's fault goes before one of saving its log, unless memory ran out at that: this is told,
-- so that no log is lost unseen
abbrev pub ended : Result (Unit {0}) ServeFault → Result (Unit {0}) Fault → Result (Unit {0}) Fault
ended served kept = first_fault (fault_as serve_fault served) kept
