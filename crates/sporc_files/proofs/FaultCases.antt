-- Why a file is not read or written, case by case.
use Rattle.std.proofs.Common.{◌≡◌, ◌≤◌, ℕ, List, Option, Result, Err, subst, arith}
use Rattle.sporc_files.proofs.Common.{Rose, HasFile, HasNoFile, IsTooLong, NamedFile, Use, FolderTold, Fault, File, FileNames, file_name, IsFileFault, IsOutsideFault, IfErr}
use Rattle.sporc_files.specs.Reading.{SaysFile}
use Rattle.sporc_files.specs.declared.fault.Fault.TheVariants as faults

-- ---- a file that is read

-- a part of a use of a folder, before which no file was changed
pub record IsPart (whole part : Use FolderTold) : Type 0 where
  pub same : part.before.files ≡ whole.before.files
  pub since : whole.before.faults ≤ part.before.faults
  pub until : part.after.faults ≤ whole.after.faults

-- what a file of a later folder says
pub says_now : {A : Type 0} (parse : List ℕ → Result A ℕ) (told now : Option (List NamedFile)) (name : List ℕ) (a : A) → now ≡ told → SaysFile parse now name a → SaysFile parse told name a
says_now parse told now name a same says = subst (λ (o : Option (List NamedFile)). SaysFile parse o name a) same says

-- why it says nothing in a part of a use
pub file_within : {A : Type 0} (parse : List ℕ → Result A ℕ) (whole part : Use FolderTold) (names : FileNames) (file : File) (fault : Fault) → IsFileFault parse part names file fault
    → IsPart whole part → IsFileFault parse whole names file fault
file_within parse whole part names file faults.Memory why is_part = tt
file_within parse whole part names file faults.Outside rose is_part = omega (arith, rose, is_part.since, is_part.until)
file_within parse whole part names file (faults.Missing other) (is, none) is_part = (is, subst (λ (o : Option (List NamedFile)). HasNoFile o (file_name names file)) is_part.same none)
file_within parse whole part names file (faults.TooLong other) (is, len, long) is_part =
    (is, len, subst (λ (o : Option (List NamedFile)). IsTooLong o (file_name names file) len) is_part.same long)
file_within parse whole part names file (faults.Malformed other at) (is, bytes, within, has, bad) is_part =
    (is, bytes, within, subst (λ (o : Option (List NamedFile)). HasFile o (file_name names file) bytes) is_part.same has, bad)
file_within parse whole part names file fault never is_part = absurd never

-- what the exit of a `?` says
pub if_err : {T : Type 0} (r : Result T Fault) (P : Fault → Type 0) (y fault : Fault) → r ≡ Err y → y ≡ fault → P fault → IfErr r P
if_err r P y fault is same held = rw (is, same) held

-- ---- a file that is written

pub data WriteCase (before after : ℕ) : Fault → Type 0 where
  WriteMemory : WriteCase before after faults.Memory
  WriteFailed : Rose before after → WriteCase before after faults.Outside

pub write_case : (before after : ℕ) (fault : Fault) → IsOutsideFault before after fault → WriteCase before after fault
write_case before after faults.Memory any = WriteMemory
write_case before after faults.Outside rose = WriteFailed rose
write_case before after fault never = absurd never
