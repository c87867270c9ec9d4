-- A sync with a length and a read behind it.
use Rattle.std.proofs.Common.{◌≡◌, ◌∙◌, ℕ, ◌<◌, ◌≤◌, List, Option, Some, None, IfSome, IsSome, refl, sym, arith}
use Rattle.sporc_outside.specs.LeafDisk.{DiskTold, IsSame, TakesTime, DiskSteps, disk_images}
use Rattle.sporc_outside.specs.Uses.{use_of}
use Rattle.lms_leaf.specs.Leaves.{IsSynced, IsSyncedFirst}

if_told : {A : Type 0} (o : Option (List ℕ)) → (IsSome o → A) → IfSome o (λ bytes. A)
if_told None f = tt
if_told (Some bytes) f = f refl

took : (o : Option (List ℕ)) (before after : ℕ) → IsSome o → TakesTime o before after → before < after
took None before after told takes = cc
took (Some bytes) before after told takes = takes

pub synced_first : {D : Type 0} (disk_told : D → DiskTold) (old synced len read : D)
    → (disk_told synced).stored ≡ (disk_told old).stored → (disk_told old).moment ≤ (disk_told synced).moment → IsSynced (disk_told synced).stored (disk_images (disk_told synced))
    → (disk_told len).stored ≡ (disk_told synced).stored → TakesTime (disk_told synced).stored (disk_told synced).moment (disk_told len).moment
    → DiskSteps (use_of disk_told synced len) IsSame
    → TakesTime (disk_told len).stored (disk_told len).moment (disk_told read).moment → DiskSteps (use_of disk_told len read) IsSame
    → IfSome (disk_told old).stored (λ bytes. IsSyncedFirst disk_told old read)
synced_first disk_told old synced len read same_synced later durable same_len time_len images_len time_read images_read =
    if_told (disk_told old).stored (λ told.
    let told_synced : IsSome (disk_told synced).stored = rw same_synced told in
    let told_len : IsSome (disk_told len).stored = rw same_len told_synced in
    let first = took (disk_told synced).stored (disk_told synced).moment (disk_told len).moment told_synced time_len in
    let second = took (disk_told len).stored (disk_told len).moment (disk_told read).moment told_len time_read in
    record {
      at = (disk_told synced).moment;
      after = later;
      before = omega (arith, first, second);
      synced = λ image is.
          let at_len = (images_read.earlier (disk_told synced).moment image (omega (arith, first))).0 is in
          let at_sync = (images_len.earlier (disk_told synced).moment image (omega arith)).0 at_len in
          sym same_synced ∙ durable image at_sync;
    })
