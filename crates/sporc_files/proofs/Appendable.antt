-- Why a file is not handed out to be appended to, as a fault of the program.
use Rattle.std.proofs.Common.{◌≡◌, ℕ, List, Option, Some, None, refl}
use Rattle.sporc_files.proofs.Common.{ChangesFile, IsAppendFault, NamedFile, Use, FolderTold, Fault, File, fault_of_file, FileNames, file_name, IsAppendingFault, FileFault, Failed, TooLong, Memory}

of_append : (folder : Use FolderTold) (names : FileNames) (file : File) (cause : FileFault) → IsAppendFault folder.before.files (file_name names file) folder.before.faults folder.after.faults cause
    → IsAppendingFault folder names file (fault_of_file file cause)
of_append folder names file Failed rose = rose
of_append folder names file (TooLong len) long = (refl, len, long)
of_append folder names file Memory any = tt
of_append folder names file cause never = absurd never

pub append_fault : (folder : Use FolderTold) (names : FileNames) (file : File) (name : List ℕ) (cause : FileFault) (fault : Fault) → name ≡ file_name names file → fault ≡ fault_of_file file cause
    → IsAppendFault folder.before.files name folder.before.faults folder.after.faults cause → IsAppendingFault folder names file fault
append_fault folder names file name cause fault called is why = rw is (of_append folder names file cause (rw called at why))

-- nothing was changed
pub changes_none : (files : Option (List NamedFile)) (name : List ℕ) → ChangesFile files files name
changes_none None name = tt
changes_none (Some told) name = λ other apart. refl
