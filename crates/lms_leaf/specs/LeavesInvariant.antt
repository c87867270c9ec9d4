-- What holds of the fields of every value that numbers leaves.
use Rattle.std.specs.Prelude.{◌≡◌, ℕ, ◌-◌, ◌*◌, ◌%◌, ◌<◌, ◌≤◌, false, length, slice_index, IfSome}
use Rattle.std.specs.Prelude.{IsTrue}
use Rattle.sporc_outside.specs.Counts.{Rose}
use Rattle.sporc_outside.specs.LeafDisk.{DiskTold, disk_images}
use Rattle.lms_leaf.specs.LeafFile.{AreTaken}
use Rattle.lms_leaf.specs.declared.leaf_file.TheConstants.{LEAVES_PER_BLOCK}
use Rattle.lms_leaf.specs.declared.leaves.Leaves.TheInside.{Inside}

pub record LeavesInvariant {D : Type 0} (disk_told : D → DiskTold) (l : Inside D) : Type 0 where
  -- the opening went on at a whole block
  pub opened : l.next_at_open % LEAVES_PER_BLOCK ≡ 0
  pub forward : l.next_at_open ≤ l.next
  pub within : l.next ≤ l.leaf_count
  pub whole : l.leaf_count % LEAVES_PER_BLOCK ≡ 0
  pub file : IfSome (disk_told l.disk).stored
      (λ bytes. LEAVES_PER_BLOCK * length bytes ≡ l.leaf_count)
  -- the blocks of all leaves drawn since the opening are taken, and so is the last one that was
  -- taken before it
  pub taken : AreTaken (disk_images (disk_told l.disk)) (l.next_at_open - 1) l.next
  -- and no block behind them is
  pub free : l.faulty ≡ false → IfSome (disk_told l.disk).stored
      (λ bytes. (block : ℕ) → l.next ≤ LEAVES_PER_BLOCK * block → slice_index bytes block ≡ 0)
  pub counted : l.faults_at_open ≤ (disk_told l.disk).faults
  pub fault : IsTrue l.faulty
      → (l.next < l.leaf_count) × Rose l.faults_at_open (disk_told l.disk).faults
