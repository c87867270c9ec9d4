-- What contracts see of a folder in memory.
use Rattle.std.specs.List.{All}
use Rattle.std.specs.Prelude.{ℕ, List, [], Some, IsSome, ◌≡◌, ◌<◌, suc, ◌++◌, length, take, drop}
use Rattle.std.specs.Prelude.{None, slice_set, slice_index_or}
use Rattle.sporc_memory.specs.CallsModel.{CallsModel}
use Rattle.sporc_outside.specs.Files.{file_in, IsTooLong, with_file, without_file}
use Rattle.sporc_outside.specs.Folders.{FolderTold}
use Rattle.sporc_outside.specs.declared.file_fault.FileFault.{FileFault}
use Rattle.sporc_outside.specs.declared.file_fault.FileFault.TheVariants.{Missing, Failed, TooLong}
use Rattle.sporc_outside.specs.declared.file_fault.FileFault.TheVariants.{Exists, Memory}
use Rattle.sporc_outside.specs.declared.named_file.NamedFile.{NamedFile}

-- the files, the names asked for, the names of the files whose disks are out, the last one first,
-- the calls, and which calls of the next disk and of the next file that is handed out to be
-- appended to are to fail
pub record MemoryFolderModel : Type 0 where
  pub files : List NamedFile
  pub asked : List (List ℕ)
  pub lent : List (List ℕ)
  pub calls : CallsModel
  pub disk_calls : List ℕ
  pub append_calls : List ℕ

-- a folder with these files, of which nothing was asked yet
abbrev pub folder_of : List NamedFile → CallsModel → MemoryFolderModel
folder_of files calls = record {
  files = files;
  asked = [];
  lent = [];
  calls = calls;
  disk_calls = [];
  append_calls = [];
}

-- there is a file with each of these names
abbrev pub HasEach : List NamedFile → List (List ℕ) → Type 0
HasEach files names = All (λ name. IsSome (file_in files name)) names

abbrev pub folder_told : MemoryFolderModel → FolderTold
folder_told f = record {
  files = Some f.files;
  asked = Some f.asked;
  lent = Some f.lent;
  faults = f.calls.faults;
}

-- why the bytes of a file in memory are not handed out
abbrev pub IsAbsence : List NamedFile → List ℕ → FileFault → Type 0
IsAbsence files name Missing = file_in files name ≡ None
IsAbsence files name Failed = ⊥
IsAbsence files name (TooLong len) = IsTooLong (Some files) name len
IsAbsence files name Exists = ⊥
IsAbsence files name Memory = ⊥

-- the first file with this name stands at a place
pub record IsPlaceOf (files : List NamedFile) (name : List ℕ) (place : ℕ) : Type 0 where
  pub within : place < length files
  pub file : NamedFile
  pub is : (other : NamedFile) → slice_index_or files place other ≡ file
  pub found : file_in files name ≡ Some file.bytes
  pub others : (bytes : List ℕ)
      → with_file files name bytes ≡ slice_set files place (record file { bytes = bytes })
  pub without : without_file files name ≡ take place files ++ drop (suc place) files
