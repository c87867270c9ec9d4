-- Lives of a leaf file: a life begins as its disk is handed out, as a run of a program finds it,
-- and ends as it comes back, or with a crash.
use Rattle.std.specs.Prelude.{ℕ, ◌<◌, List, [], ◌∷◌, ◌++◌, All, AllPairs}
use Rattle.sporc_outside.specs.LeafDisk.{DiskTold, IsDiskFound, disk_images}
use Rattle.lms_leaf.specs.LeafFile.{IsPassed}

-- the disk as it was handed out, and as it came back or was found after a crash, and the leaves
-- given in between
pub record LeafLife (D : Type 0) : Type 0 where
  pub lent : D
  pub last : D
  pub given : List ℕ

-- the leaves that were given in a life rise, from above all that were passed before; they are
-- passed behind it, and what was passed before still is
pub record IsLife {D : Type 0} (disk_told : D → DiskTold) (life : LeafLife D) : Type 0 where
  pub rise : AllPairs (λ leaf later. leaf < later) life.given
  pub above : (leaf : ℕ) → IsPassed (disk_images (disk_told life.lent)) leaf
      → All (λ given. leaf < given) life.given
  pub passed : All (IsPassed (disk_images (disk_told life.last))) life.given
  pub kept : (leaf : ℕ) → IsPassed (disk_images (disk_told life.lent)) leaf
      → IsPassed (disk_images (disk_told life.last)) leaf

module _ {D : Type 0} (disk_told : D → DiskTold) where
  -- the next life begins with what a read gives of the disk that the one before it left, or with
  -- what a crash leaves of it
  abbrev pub GoesOn : LeafLife D → List (LeafLife D) → Type 0
  GoesOn life [] = Unit {0}
  GoesOn life (next ∷ lives) =
      IsDiskFound disk_told life.last (disk_told life.last).moment next.lent

  -- lives one behind another
  abbrev pub AreLives : List (LeafLife D) → Type 0
  AreLives [] = Unit {0}
  AreLives (life ∷ lives) = IsLife disk_told life × GoesOn life lives × AreLives lives

-- the leaves of all of them
abbrev pub all_given : {D : Type 0} → List (LeafLife D) → List ℕ
all_given [] = []
all_given (life ∷ lives) = life.given ++ all_given lives
