-- What a folder tells.
use Rattle.std.specs.Prelude.{◌≢◌, ◌≤◌, ℕ, List, Option, None, Result, IfErr, OnOk}
use Rattle.sporc_outside.specs.Told.{AppendsItem, MayAppend}
use Rattle.sporc_outside.specs.Uses.{Use}
use Rattle.sporc_outside.specs.declared.file_fault.FileFault.{FileFault}
use Rattle.sporc_outside.specs.declared.file_fault.FileFault.TheVariants.{Failed}
use Rattle.sporc_outside.specs.declared.named_file.NamedFile.{NamedFile}

-- the files, the names asked for so far, and the names of the files whose disks are out, the last
-- one first, each where it tells them, and its count of faults
pub record FolderTold : Type 0 where
  pub files : Option (List NamedFile)
  pub asked : Option (List (List ℕ))
  pub lent : Option (List (List ℕ))
  pub faults : ℕ

-- what a folder tells that tells nothing but its count of faults, as a real one
abbrev pub silent_folder : ℕ → FolderTold
silent_folder faults = record { files = None; asked = None; lent = None; faults = faults }

-- a call that asks for a file by its name: the name was asked for if the call answered, and maybe
-- if it failed
pub record Asks {T : Type 0} (did : Use FolderTold) (name : List ℕ)
    (result : Result T FileFault) : Type 0 where
  pub asked : OnOk result (AppendsItem did.before.asked did.after.asked name)
  pub answered : IfErr result
      (λ fault. fault ≢ Failed → AppendsItem did.before.asked did.after.asked name)
  pub may_ask : MayAppend did.before.asked did.after.asked name
  pub kept : did.before.faults ≤ did.after.faults
