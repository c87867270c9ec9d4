-- What a value that numbers leaves holds, and what its calls do to the disk and to the next number.
use Rattle.std.specs.Prelude.{◌≡◌, ◌≢◌, ◌↔◌, ◌⊎◌, ℕ, ◌+◌, ◌*◌, ◌/◌, ◌%◌, ◌<◌, ◌≤◌, Bool, List}
use Rattle.std.specs.Prelude.{length, slice_index, Option, Some, Result, Ok, Err, is_ok, IsTrue}
use Rattle.std.specs.Prelude.{IfOk, IfSome, if◌then◌else◌}
use Rattle.sporc_outside.specs.Counts.{Rose}
use Rattle.sporc_outside.specs.LeafDisk.{DiskTold, IsStable, KeepsOutside, disk_images}
use Rattle.lms_leaf.specs.LeafFile.{IsTaken, taken_blocks}
use Rattle.lms_leaf.specs.declared.leaf_file.TheConstants.{LEAVES_PER_BLOCK}
use Rattle.lms_leaf.specs.declared.faults.LeafFault.{LeafFault}
use Rattle.lms_leaf.specs.declared.faults.LeafFault.TheVariants.{Exhausted, DiskFault}
use Rattle.lms_leaf.specs.declared.faults.LeafOpenFault.{LeafOpenFault}
use Rattle.lms_leaf.specs.declared.faults.LeafOpenFault.TheVariants as open_faults

-- the disk, the next number and what it was at the opening, how many leaves there are, whether a
-- call of the disk has failed, and the disk's count of faults as it was opened
pub record LeavesModel (D : Type 0) : Type 0 where
  pub disk : D
  pub next : ℕ
  pub next_at_open : ℕ
  pub leaf_count : ℕ
  pub faulty : Bool
  pub faults_at_open : ℕ

-- At each moment from the old disk to the new one, a byte that was stable is stable. What a crash
-- could have left before stays as it was.
pub record KeepsStable {D : Type 0} (disk_told : D → DiskTold) (old new : D) : Type 0 where
  pub later : (disk_told old).moment ≤ (disk_told new).moment
  pub earlier : (m : ℕ) (image : List ℕ) → m ≤ (disk_told old).moment
      → (disk_told new).images m image ↔ (disk_told old).images m image
  pub each : (at : ℕ) → IsStable (disk_images (disk_told old)) at
      → (m : ℕ) → (disk_told old).moment ≤ m → m ≤ (disk_told new).moment
      → IsStable ((disk_told new).images m) at

-- a draw gives the next number, one from the opening's on, and goes on to the one after it; its
-- block is marked by a one, which is stable then, and no other byte changes
pub record Draws {D : Type 0} (disk_told : D → DiskTold)
    (old : LeavesModel D) (result : Result ℕ LeafFault) (new : LeavesModel D) : Type 0 where
  pub given : IfOk result (λ leaf. leaf ≡ old.next)
  pub forward : IfOk result (λ leaf. old.next_at_open ≤ leaf)
  pub within : IfOk result (λ leaf. leaf < old.leaf_count)
  pub next : new.next ≡ (if is_ok result then old.next + 1 else old.next)
  pub next_at_open : new.next_at_open ≡ old.next_at_open
  pub leaf_count : new.leaf_count ≡ old.leaf_count
  pub stable : KeepsStable disk_told old.disk new.disk
  pub taken : IfOk result (λ leaf. IsTaken (disk_images (disk_told new.disk)) leaf)
  pub marked : IfOk result (λ leaf. leaf % LEAVES_PER_BLOCK ≡ 0 → IfSome (disk_told new.disk).stored
      (λ bytes. slice_index bytes (leaf / LEAVES_PER_BLOCK) ≡ 1))
  pub others : KeepsOutside (old.next / LEAVES_PER_BLOCK) 1 (disk_told old.disk).stored
      (disk_told new.disk).stored
  -- a draw inside a block, or after a fault, writes nothing
  pub unwritten : old.next % LEAVES_PER_BLOCK ≢ 0
      → (disk_told new.disk).stored ≡ (disk_told old.disk).stored
  pub unwritten_faulty : IsTrue old.faulty
      → (disk_told new.disk).stored ≡ (disk_told old.disk).stored

-- when a draw gives no number: `Exhausted` exactly where all are drawn, and `DiskFault` only where
-- the disk's count of faults rose, in this draw or in an earlier one since the opening
pub record DrawFaults {D : Type 0} (disk_told : D → DiskTold)
    (old : LeavesModel D) (result : Result ℕ LeafFault) (new : LeavesModel D) : Type 0 where
  pub exhausted : (next : ℕ)
      → (result ≡ Err (Exhausted next)) ↔ ((old.next ≡ old.leaf_count) × (next ≡ old.next))
  pub now : result ≡ Err DiskFault
      → IsTrue old.faulty ⊎ Rose (disk_told old.disk).faults (disk_told new.disk).faults
  pub since_open : result ≡ Err DiskFault → Rose old.faults_at_open (disk_told new.disk).faults
  -- and then until the next opening
  pub still : IsTrue old.faulty → result ≡ Err DiskFault
  pub faulty : IsTrue new.faulty ↔ (result ≡ Err DiskFault)
  pub faults_at_open : new.faults_at_open ≡ old.faults_at_open
  pub count : (disk_told old.disk).faults ≤ (disk_told new.disk).faults

-- a crash leaves what a read gives
abbrev pub IsSynced : Option (List ℕ) → (List ℕ → Type 0) → Type 0
IsSynced stored images = (image : List ℕ) → images image → stored ≡ Some image

-- at a moment with two calls more to come, the length and the read, a crash left what a read gives
pub record IsSyncedFirst {D : Type 0} (disk_told : D → DiskTold)
    (old new : D) : Type 0 where
  pub at : ℕ
  pub after : (disk_told old).moment ≤ at
  pub before : at + 2 ≤ (disk_told new).moment
  pub synced : IsSynced (disk_told old).stored ((disk_told new).images at)

-- the disk that an opening gives, in the leaves or back
abbrev pub disk_after : {D : Type 0} → Result (LeavesModel D) (LeafOpenFault × D) → D
disk_after (Ok leaves) = leaves.disk
disk_after (Err fault) = fault.1

-- an opening goes on behind the last block that is taken, and leaves what the disk stores; no crash
-- takes any of it away then
pub record Opens {D : Type 0} (disk_told : D → DiskTold)
    (disk : D) (result : Result (LeavesModel D) (LeafOpenFault × D)) : Type 0 where
  pub next : IfOk result (λ leaves. IfSome (disk_told disk).stored
      (λ bytes. leaves.next ≡ LEAVES_PER_BLOCK * taken_blocks bytes))
  pub stable : KeepsStable disk_told disk (disk_after result)
  pub synced : IfOk result
      (λ leaves. IsSynced (disk_told leaves.disk).stored (disk_images (disk_told leaves.disk)))
  -- the sync stands before all that is read
  pub synced_first : IfOk result
      (λ leaves. IfSome (disk_told disk).stored (λ bytes. IsSyncedFirst disk_told disk leaves.disk))
  pub unwritten : (disk_told (disk_after result)).stored ≡ (disk_told disk).stored

-- why a disk that should have so many blocks was not opened, and what came back: `DiskFault` only
-- where the disk's count of faults rose, `BadLength` with another length, and out of memory before
-- any call of the disk
pub record OpenFaults {D : Type 0} (disk_told : D → DiskTold)
    (blocks : ℕ) (disk : D) (fault : LeafOpenFault) (back : D) : Type 0 where
  pub disk_fault : fault ≡ open_faults.DiskFault
      → Rose (disk_told disk).faults (disk_told back).faults
  pub bad_length : (len : ℕ) → fault ≡ open_faults.BadLength len
      → (len ≢ blocks) × IfSome (disk_told disk).stored (λ bytes. len ≡ length bytes)
  pub memory : fault ≡ open_faults.Memory → back ≡ disk
