-- Why a file is not read, or its disk not lent, as a fault of the program.
use Rattle.std.proofs.Common.{◌≡◌, ℕ, List, Option, refl}
use Rattle.sporc_files.proofs.Common.{IsDiskFault, IsReadFault, NamedFile, Use, FolderTold, Fault, File, fault_of_file, FileNames, file_name, IsFileFault, any_bytes, FileFault, Missing, Failed, TooLong, Exists, Memory}

of_file : (folder : Use FolderTold) (names : FileNames) (file : File) (cause : FileFault) → IsReadFault folder.before.files (file_name names file) folder.before.faults folder.after.faults cause
    → IsFileFault any_bytes folder names file (fault_of_file file cause)
of_file folder names file Missing none = (refl, none)
of_file folder names file Failed rose = rose
of_file folder names file (TooLong len) long = (refl, len, long)
of_file folder names file Exists never = never
of_file folder names file Memory any = tt

pub read_fault : (folder : Use FolderTold) (names : FileNames) (file : File) (name : List ℕ) (cause : FileFault) (fault : Fault) → name ≡ file_name names file → fault ≡ fault_of_file file cause
    → IsReadFault folder.before.files name folder.before.faults folder.after.faults cause → IsFileFault any_bytes folder names file fault
read_fault folder names file name cause fault called is why = rw is (of_file folder names file cause (rw called at why))

-- why a disk is not lent
of_disk : (files : Option (List NamedFile)) (name : List ℕ) (before after : ℕ) (cause : FileFault) → IsDiskFault files name before after cause → IsReadFault files name before after cause
of_disk files name before after Missing why = why
of_disk files name before after Failed why = why
of_disk files name before after (TooLong len) why = why
of_disk files name before after Exists never = never
of_disk files name before after Memory never = tt

pub disk_fault : (folder : Use FolderTold) (names : FileNames) (file : File) (name : List ℕ) (cause : FileFault) (fault : Fault) → name ≡ file_name names file → fault ≡ fault_of_file file cause
    → IsDiskFault folder.before.files name folder.before.faults folder.after.faults cause → IsFileFault any_bytes folder names file fault
disk_fault folder names file name cause fault called is why =
    read_fault folder names file name cause fault called is (of_disk folder.before.files name folder.before.faults folder.after.faults cause why)
