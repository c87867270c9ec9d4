-- What an opening keeps of the leaf file.
use Rattle.std.proofs.Common.{◌≡◌, ℕ, List, sym, subst, arith}
use Rattle.sporc_device.proofs.Common.{DiskTold, disk_images, KeepsStable, KeepsPassed}

-- what is stable stays so, and so what was passed
pub keeps_passed : {D : Type 0} (disk_told : D → DiskTold) (old new : D) → KeepsStable disk_told old new
    → KeepsPassed (disk_images (disk_told old)) (disk_images (disk_told new))
keeps_passed disk_told old new stable leaf passed = (passed.0, passed.1, stable.each _ passed.2 (disk_told new).moment stable.later (omega arith))

-- of a disk that is the same one
pub kept_to : {D : Type 0} (old : List ℕ → Type 0) (disk_told : D → DiskTold) (back disk : D) → back ≡ disk
    → KeepsPassed old (disk_images (disk_told disk)) → KeepsPassed old (disk_images (disk_told back))
kept_to {D} old disk_told back disk same kept = subst (λ (d : D). KeepsPassed old (disk_images (disk_told d))) (sym same) kept
