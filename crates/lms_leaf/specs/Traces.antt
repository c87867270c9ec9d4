-- Traces of a leaf file: openings, draws, failed calls, and crashes at any moment, in any order.
use Rattle.std.specs.Prelude.{ℕ, ◌≤◌, List, [], ◌∷◌, Result, Ok, Err}
use Rattle.sporc_outside.specs.LeafDisk.{DiskTold, IsDiskFound}
use Rattle.lms_leaf.specs.Leaves.{LeavesModel, Draws, Opens, disk_after}
use Rattle.lms_leaf.specs.declared.faults.LeafFault.{LeafFault}
use Rattle.lms_leaf.specs.declared.faults.LeafOpenFault.{LeafOpenFault}

-- One thing that happens. A call that a crash cuts off at a moment never answers; its move has what
-- the call would have answered, the moment, and the disk that is found afterwards.
pub data LeafMove (D : Type 0) : Type 0 where
  Open : Result (LeavesModel D) (LeafOpenFault × D) → LeafMove D
  OpenCut : Result (LeavesModel D) (LeafOpenFault × D) → ℕ → D → LeafMove D
  Draw : Result ℕ LeafFault → LeavesModel D → LeafMove D
  DrawCut : Result ℕ LeafFault → LeavesModel D → ℕ → D → LeafMove D
  Close : LeafMove D
  Crash : D → LeafMove D

-- between two moves the disk is at rest, or in leaves
pub data FileState (D : Type 0) : Type 0 where
  AtRest : D → FileState D
  InUse : LeavesModel D → FileState D

abbrev pub disk_of : {D : Type 0} → FileState D → D
disk_of (AtRest disk) = disk
disk_of (InUse leaves) = leaves.disk

-- where an opening leads
abbrev pub state_opened : {D : Type 0} → Result (LeavesModel D) (LeafOpenFault × D) → FileState D
state_opened (Ok leaves) = InUse leaves
state_opened (Err fault) = AtRest fault.1

-- the state after these moves
abbrev pub state_after : {D : Type 0} → FileState D → List (LeafMove D) → FileState D
state_after state [] = state
state_after state (Open result ∷ moves) = state_after (state_opened result) moves
state_after state (OpenCut result at found ∷ moves) = state_after (AtRest found) moves
state_after state (Draw result after ∷ moves) = state_after (InUse after) moves
state_after state (DrawCut result after at found ∷ moves) = state_after (AtRest found) moves
state_after state (Close ∷ moves) = state_after (AtRest (disk_of state)) moves
state_after state (Crash found ∷ moves) = state_after (AtRest found) moves

-- a moment of a call
abbrev pub IsDuring : {D : Type 0} → (D → DiskTold) → D → D → ℕ → Type 0
IsDuring disk_told old new at = ((disk_told old).moment ≤ at) × (at ≤ (disk_told new).moment)

module _ {D : Type 0} (disk_told : D → DiskTold) where
  -- these moves can happen, one after another
  abbrev pub IsTrace : FileState D → List (LeafMove D) → Type 0
  IsTrace state [] = Unit {0}
  IsTrace state (Crash found ∷ moves) =
      IsDiskFound disk_told (disk_of state) (disk_told (disk_of state)).moment found
      × IsTrace (AtRest found) moves
  IsTrace (AtRest disk) (Open result ∷ moves) =
      Opens disk_told disk result × IsTrace (state_opened result) moves
  IsTrace (AtRest disk) (OpenCut result at found ∷ moves) =
      Opens disk_told disk result × IsDuring disk_told disk (disk_after result) at
      × IsDiskFound disk_told (disk_after result) at found × IsTrace (AtRest found) moves
  IsTrace (AtRest disk) (move ∷ moves) = ⊥
  IsTrace (InUse leaves) (Draw result after ∷ moves) =
      Draws disk_told leaves result after × IsTrace (InUse after) moves
  IsTrace (InUse leaves) (DrawCut result after at found ∷ moves) =
      Draws disk_told leaves result after × IsDuring disk_told leaves.disk after.disk at
      × IsDiskFound disk_told after.disk at found × IsTrace (AtRest found) moves
  IsTrace (InUse leaves) (Close ∷ moves) = IsTrace (AtRest leaves.disk) moves
  IsTrace (InUse leaves) (move ∷ moves) = ⊥

-- the numbers that were given
abbrev pub drawn : {D : Type 0} → List (LeafMove D) → List ℕ
drawn [] = []
drawn (Draw (Ok leaf) after ∷ moves) = leaf ∷ drawn moves
drawn (move ∷ moves) = drawn moves
