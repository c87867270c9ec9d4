-- Which names a folder was asked for, and how often a net was asked for an address.
use Rattle.std.specs.Prelude.{◌≡◌, ◌≤◌, ℕ, List, ◌++◌, map, replicate, Option, Contains}
use Rattle.std.specs.List.{All}
use Rattle.sporc_outside.specs.Folders.{FolderTold}
use Rattle.sporc_outside.specs.Told.{IfBoth}
use Rattle.sporc_outside.specs.Uses.{Use}
use Rattle.sporc_files.specs.declared.file.File.{File}
use Rattle.sporc_files.specs.Names.{FileNames, file_name}

-- the told names asked for grew by some of these alone
abbrev pub AsksOnly : List (List ℕ) → Option (List (List ℕ)) → Option (List (List ℕ)) → Type 0
AsksOnly names before after = IfBoth before after (λ asked more. (new : List (List ℕ))
    × (more ≡ asked ++ new) × All (λ name. Contains names name) new)

-- these files alone were asked for, none was changed, and no disk is out that was not before
pub record OnlyReads (names : FileNames) (read : List File) (folder : Use FolderTold) : Type 0 where
  pub files : folder.after.files ≡ folder.before.files
  pub lent : folder.after.lent ≡ folder.before.lent
  pub may_ask : AsksOnly (map (file_name names) read) folder.before.asked folder.after.asked
  pub kept : folder.before.faults ≤ folder.after.faults

-- the told addresses asked for grew by this one alone, and by it so often at most
abbrev pub AsksAtMost : ℕ → Option (List (List ℕ)) → Option (List (List ℕ)) → List ℕ → Type 0
AsksAtMost most before after address = IfBoth before after
    (λ asked more. (times : ℕ) × (times ≤ most) × (more ≡ asked ++ replicate times address))
