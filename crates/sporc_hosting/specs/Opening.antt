-- What is found behind a genesis, where the tail's file is out, for inner contracts.
use Rattle.std.specs.Prelude.{◌≡◌, ◌⊎◌, ◌<◌, ℕ, List, length, Option, Some, Result, Ok, Err, IfOk}
use Rattle.sporc_bytes.specs.Fields.{◌>>=◌}
use Rattle.sporc_outside.specs.Counts.{Rose}
use Rattle.sporc_outside.specs.AppendFile.{AppendTold}
use Rattle.sporc_outside.specs.Folders.{FolderTold}
use Rattle.sporc_outside.specs.Told.{IfTold}
use Rattle.sporc_outside.specs.Uses.{Use}
use Rattle.sporc_outside.specs.declared.named_file.NamedFile.{NamedFile}
use Rattle.sporc_entry.specs.declared.genesis.Genesis.{Genesis}
use Rattle.sporc_order.specs.OrderModel.{OrderModel}
use Rattle.sporc_store.specs.TailReadings.{AreTold}
use Rattle.sporc_files.specs.declared.fault.Fault.{Fault}
use Rattle.sporc_files.specs.declared.file.File.TheVariants as files
use Rattle.sporc_files.specs.Faults.{AnswersUnlessOutside}
use Rattle.sporc_files.specs.Contents.{IsFileAt, bytes_in}
use Rattle.sporc_hosting.specs.Serving.{logged, with_tail}

-- an answer that hands a file back with its fault, without that file
abbrev pub without_file : {X D : Type 0} → Result X (Fault × D) → Result X Fault
without_file (Ok it) = Ok it
without_file (Err e) = Err e.0

-- the count of a file's faults rose, or the folder's did
abbrev pub RoseIn : {X D : Type 0} → (D → AppendTold) → Result X (Fault × D) → Type 0
RoseIn file_told (Ok it) = ⊥
RoseIn file_told (Err e) = 0 < (file_told e.1).faults

-- behind the order of a log: what the bytes of a tail give, of a file that tells these
abbrev pub FindsTail : {X D : Type 0} → (X → OrderModel) → Option (List ℕ) → (D → AppendTold)
    → OrderModel → Result X (Fault × D) → Type 0
FindsTail view stored file_told order result = (bytes : List ℕ) × AreTold stored bytes
    × AnswersUnlessOutside view (RoseIn file_told result) (without_file result)
    (bytes_in files.Tail (Some bytes) >>= with_tail order)

-- a told folder's file that tells these
abbrev pub IsToldIn : Option (List NamedFile) → Option (List ℕ) → List ℕ → Type 0
IsToldIn told stored bytes = IfTold told (λ files. AreTold stored bytes)

-- behind a genesis: what the log gives, and the bytes of the tail behind it
abbrev pub FindsBehind : {X D : Type 0} → (X → OrderModel) → (X → ℕ) → Use FolderTold → List ℕ
    → Option (List ℕ) → (D → AppendTold) → Genesis → Result X (Fault × D) → Type 0
FindsBehind view len folder name stored file_told genesis result =
    (log : Option (List ℕ)) × IsFileAt folder.before.files name log
    × (bytes : List ℕ) × IsToldIn folder.before.files stored bytes
    × AnswersUnlessOutside view
    (Rose folder.before.faults folder.after.faults ⊎ RoseIn file_told result) (without_file result)
    (bytes_in files.Tail (Some bytes)
    >>= λ tail. logged genesis log >>= λ order. with_tail order tail)
    × IfOk result
    (λ it. (order : OrderModel) × (logged genesis log ≡ Ok order) × (length order.entries ≡ len it))
