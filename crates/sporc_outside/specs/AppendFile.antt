-- What a file that is appended to tells, and what its calls do to its bytes and to what a crash may
-- leave of them.
use Rattle.std.specs.Prelude.{◌≡◌, ◌⊎◌, ◌<◌, ℕ, List, ◌++◌, length, take, Option, None, Some}
use Rattle.sporc_outside.specs.Counts.{Rose}
use Rattle.sporc_outside.specs.LeafDisk.{CrashStep, IsFound}
use Rattle.sporc_outside.specs.Uses.{Use}
use Rattle.sporc_outside.specs.declared.file_fault.FileFault.{FileFault}
use Rattle.sporc_outside.specs.declared.file_fault.FileFault.TheVariants.{Missing, Failed, TooLong}
use Rattle.sporc_outside.specs.declared.file_fault.FileFault.TheVariants.{Exists, Memory}
use Rattle.sporc_outside.specs.declared.file_fault.TheConstants.{MAX_FILE}

-- its name and the bytes that a read gives, where it tells them; the moment, a number that does not
-- fall; what a crash at a moment, up to this one, may leave; and its count of faults
pub record AppendTold : Type 1 where
  pub name : Option (List ℕ)
  pub stored : Option (List ℕ)
  pub moment : ℕ
  pub images : ℕ → List ℕ → Type 0
  pub faults : ℕ

-- what a file tells that tells nothing but its count of faults, as a real one
abbrev pub silent_file : ℕ → AppendTold
silent_file faults =
    record { name = None; stored = None; moment = 0; images = λ m image. ⊥; faults = faults }

-- what a crash at this moment may leave
abbrev pub file_images : AppendTold → List ℕ → Type 0
file_images told = told.images told.moment

-- one call of such a file: at each moment of it a crash leaves what it could have left as the call
-- began, but for a step
abbrev pub FileSteps : Use AppendTold → (List ℕ → List ℕ → Type 0) → Type 0
FileSteps did step =
    CrashStep did.before.moment did.after.moment did.before.images did.after.images step

-- the same bytes, and behind them a prefix of these
abbrev pub GrowsBy : List ℕ → List ℕ → List ℕ → Type 0
GrowsBy bytes old new = (n : ℕ) × (new ≡ old ++ take n bytes)

-- the same bytes, or the first so many of them
abbrev pub MayBeCut : ℕ → List ℕ → List ℕ → Type 0
MayBeCut len old new = (new ≡ old) ⊎ (new ≡ take len old)

-- what is found after a crash of that file at that moment
abbrev pub IsFileFound : {A : Type 0} → (A → AppendTold) → A → ℕ → A → Type 0
IsFileFound file_told =
    IsFound (λ a. (file_told a).stored) (λ a. (file_told a).moment) (λ a. (file_told a).images)

-- why the bytes of a file are not read, where its count of faults went from `before` to `after`
abbrev pub IsWholeFault : Option (List ℕ) → ℕ → ℕ → FileFault → Type 0
IsWholeFault stored before after Missing = ⊥
IsWholeFault stored before after Failed = Rose before after
IsWholeFault None before after (TooLong len) = MAX_FILE < len
IsWholeFault (Some bytes) before after (TooLong len) = (MAX_FILE < len) × (length bytes ≡ len)
IsWholeFault stored before after Exists = ⊥
IsWholeFault stored before after Memory = Unit {0}
