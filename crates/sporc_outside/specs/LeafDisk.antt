-- What a disk tells, what a crash may leave of its bytes, and what its calls do to them.
use Rattle.std.specs.Prelude.{◌≡◌, ◌≢◌, ◌⊎◌, ◌↔◌, ℕ, ◌+◌, ◌<◌, ◌≤◌, List, ◌++◌, length, take, drop}
use Rattle.std.specs.Prelude.{slice_index, Option, Some, None}
use Rattle.sporc_outside.specs.Uses.{Use}
use Rattle.sporc_outside.specs.Told.{GoesTold, IfTold}

-- the bytes that a read gives, where it tells them; the moment, a number that does not fall; what a
-- crash at a moment, up to this one, may leave; and its count of faults
pub record DiskTold : Type 1 where
  pub stored : Option (List ℕ)
  pub moment : ℕ
  pub images : ℕ → List ℕ → Type 0
  pub faults : ℕ

-- what a disk tells that tells nothing but its count of faults, as a real one
abbrev pub silent_disk : ℕ → DiskTold
silent_disk faults = record { stored = None; moment = 0; images = λ m image. ⊥; faults = faults }

-- what a crash at this moment may leave
abbrev pub disk_images : DiskTold → List ℕ → Type 0
disk_images told = told.images told.moment

-- the byte at a place is not zero, whatever a crash leaves
abbrev pub IsStable : (List ℕ → Type 0) → ℕ → Type 0
IsStable images at = (image : List ℕ) → images image → slice_index image at ≢ 0

-- the list with these bytes in place of those from a place on
abbrev pub overwrite : List ℕ → ℕ → List ℕ → List ℕ
overwrite old at bytes = take at old ++ bytes ++ drop (at + length bytes) old

-- the same bytes
abbrev pub IsSame : List ℕ → List ℕ → Type 0
IsSame old new = new ≡ old

-- the same bytes but for n of them from a place on
pub record IsSameOutside (at n : ℕ) (old new : List ℕ) : Type 0 where
  pub length : length new ≡ length old
  pub others : (i : ℕ) → (i < at) ⊎ (at + n ≤ i) → slice_index new i ≡ slice_index old i

-- the told bytes stay but for n of them from a place on
abbrev pub KeepsOutside : ℕ → ℕ → Option (List ℕ) → Option (List ℕ) → Type 0
KeepsOutside at n = GoesTold (IsSameOutside at n)

-- One call, which began at the moment `before` and ended at `after`: at each moment of it a crash
-- leaves what it could have left as the call began, but for a step. What it left at earlier moments
-- stays as it was.
pub record CrashStep (before after : ℕ) (past images : ℕ → List ℕ → Type 0)
    (step : List ℕ → List ℕ → Type 0) : Type 0 where
  pub later : before ≤ after
  pub earlier : (m : ℕ) (image : List ℕ) → m ≤ before → images m image ↔ past m image
  pub during : (m : ℕ) (image : List ℕ) → before ≤ m → m ≤ after → images m image
      → (old : List ℕ) × past before old × step old image

-- one call of a disk, so
abbrev pub DiskSteps : Use DiskTold → (List ℕ → List ℕ → Type 0) → Type 0
DiskSteps did step =
    CrashStep did.before.moment did.after.moment did.before.images did.after.images step

-- of a disk that tells its bytes: a call ended later than it began
abbrev pub TakesTime : Option (List ℕ) → ℕ → ℕ → Type 0
TakesTime stored before after = IfTold stored (λ bytes. before < after)

-- what is found after a crash of that disk at that moment reads as one of the images, and its
-- images are among them
pub record IsFound {D : Type 0} (stored : D → Option (List ℕ)) (moment : D → ℕ)
    (images : D → ℕ → List ℕ → Type 0) (disk : D) (at : ℕ) (found : D) : Type 0 where
  pub reads : (image : List ℕ) × images disk at image × (stored found ≡ Some image)
  pub among : (image : List ℕ) → images found (moment found) image → images disk at image

abbrev pub IsDiskFound : {D : Type 0} → (D → DiskTold) → D → ℕ → D → Type 0
IsDiskFound disk_told =
    IsFound (λ d. (disk_told d).stored) (λ d. (disk_told d).moment) (λ d. (disk_told d).images)
