-- The leaf file of a device, as its disk is opened.
use Rattle.std.specs.Prelude.{◌≡◌, ◌≢◌, ℕ, ◌*◌, List, length, Option, IfSome}
use Rattle.lms_leaf.specs.declared.leaf_file.TheConstants.{LEAVES_PER_BLOCK}
use Rattle.lms_leaf.specs.LeafFile.{IsPassed, block_count, taken_blocks}
use Rattle.lms_leaf.specs.Leaves.{LeavesModel}
use Rattle.sporc_member.specs.declared.device.Device.{Device}
use Rattle.sporc_outside.specs.Counts.{Rose}
use Rattle.sporc_outside.specs.LeafDisk.{DiskTold}
use Rattle.sporc_outside.specs.Uses.{Use}
use Rattle.sporc_files.specs.declared.fault.Fault.{Fault}
use Rattle.sporc_files.specs.declared.fault.Fault.TheVariants as faults
use Rattle.sporc_files.specs.declared.file.File.TheVariants.{Leaf}

-- Leaves go on behind the last block that is taken, and nothing was written
pub record IsOpened {D : Type 0} (stored stored' : Option (List ℕ))
    (leaves : LeavesModel D) : Type 0 where
  pub next : IfSome stored (λ bytes. leaves.next ≡ LEAVES_PER_BLOCK * taken_blocks bytes)
  pub first : leaves.next_at_open ≡ leaves.next
  pub unwritten : stored' ≡ stored

-- why they don't, of a key whose tree has a height: the disk failed, or it is malformed at its
-- length
abbrev pub IsLeafFileFault : Use DiskTold → Device → ℕ → Fault → Type 0
IsLeafFileFault disk device height faults.Memory = Unit {0}
IsLeafFileFault disk device height faults.Outside = Rose disk.before.faults disk.after.faults
IsLeafFileFault disk device height (faults.Malformed file len) = (file ≡ Leaf device)
    × (len ≢ block_count height) × IfSome disk.before.stored (λ bytes. len ≡ length bytes)
IsLeafFileFault disk device height fault = ⊥

-- by what a crash may leave before and after: each leaf that was passed still is
abbrev pub KeepsPassed : (List ℕ → Type 0) → (List ℕ → Type 0) → Type 0
KeepsPassed old new = (leaf : ℕ) → IsPassed old leaf → IsPassed new leaf
