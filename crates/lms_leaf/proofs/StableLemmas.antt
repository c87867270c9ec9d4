-- What calls of a disk leave of stable bytes.
use Rattle.std.proofs.Common.{◌≡◌, ◌≢◌, ℕ, ◌-◌, ◌<◌, ◌≤◌, List, [], ◌∷◌, length, slice_index, Option, Some, None, IfSome, IsSome, option_map, sym, ap, ◌∙◌, inl, inr, arith}
use Rattle.std.proofs.lemmas.Bool.{cases_lt}
use Rattle.sporc_outside.specs.LeafDisk.{DiskTold, IsStable, IsSame, IsSameOutside, overwrite, DiskSteps, disk_images}
use Rattle.sporc_outside.specs.Uses.{use_of}
use Rattle.sporc_outside.proofs.Overwrites.{slice_index-overwrite_inside}
use Rattle.lms_leaf.specs.Leaves.{KeepsStable}

pub keeps_stable-trans : {D : Type 0} (disk_told : D → DiskTold) (first next last : D)
    → KeepsStable disk_told first next → KeepsStable disk_told next last → KeepsStable disk_told first last
keeps_stable-trans disk_told first next last one two = record {
  later = omega (arith, one.later, two.later);
  earlier = λ m image le.
      let le' : m ≤ (disk_told next).moment = omega (arith, one.later) in (
        λ h. (one.earlier m image le).0 ((two.earlier m image le').0 h),
        λ h. (two.earlier m image le').1 ((one.earlier m image le).1 h),
      );
  each = λ at stable m low high.
      let there = one.each at stable (disk_told next).moment one.later (omega arith) in
      elim (cases_lt (disk_told next).moment m) [
        | inl after ↦ two.each at there m (omega arith) high
        | inr before ↦ λ image h. one.each at stable m low before image ((two.earlier m image before).0 h)
      ];
}

-- a call keeps the stable bytes that each of its steps keeps
keeps_stable-pass : {D : Type 0} (disk_told : D → DiskTold) (step : List ℕ → List ℕ → Type 0) (old new : D)
    → DiskSteps (use_of disk_told old new) step
    → ((at : ℕ) → IsStable (disk_images (disk_told old)) at → (before image : List ℕ) → disk_images (disk_told old) before → step before image
    → slice_index image at ≢ 0)
    → KeepsStable disk_told old new
keeps_stable-pass disk_told step old new pass kept = record {
  later = pass.later;
  earlier = pass.earlier;
  each = λ at stable m low high image h.
      let from = pass.during m image low high h in
      kept at stable from.0 image from.1 from.2;
}

pub keeps_stable-same : {D : Type 0} (disk_told : D → DiskTold) (old new : D)
    → DiskSteps (use_of disk_told old new) IsSame → KeepsStable disk_told old new
keeps_stable-same disk_told old new pass =
    keeps_stable-pass disk_told IsSame old new pass (λ at stable before image was same. rw same (stable before was))

-- a byte that reads as zero is not stable
unstable : (stored : Option (List ℕ)) (images : List ℕ → Type 0) (at : ℕ) → IsSome stored → IfSome stored images
    → IfSome stored (λ bytes. (at < length bytes) × (slice_index bytes at ≡ 0)) → IsStable images at → ⊥
unstable None images at told is free stable = cc
unstable (Some bytes) images at told is free stable = stable bytes is free.1

-- a write over such a byte keeps the stable ones
pub keeps_stable-write : {D : Type 0} (disk_told : D → DiskTold)
    (at : ℕ) (old new : D) → IfSome (disk_told old).stored (disk_images (disk_told old))
    → ((image : List ℕ) → disk_images (disk_told old) image → IsSome (disk_told old).stored)
    → IfSome (disk_told old).stored (λ bytes. (at < length bytes) × (slice_index bytes at ≡ 0))
    → DiskSteps (use_of disk_told old new) (IsSameOutside at 1) → KeepsStable disk_told old new
keeps_stable-write disk_told at old new is told free pass =
    keeps_stable-pass disk_told (IsSameOutside at 1) old new pass (λ i stable before image was outside.
    elim (cases_lt i at) [
      | inl below ↦ rw (outside.others i (inl below)) (stable before was)
      | inr from ↦ elim (cases_lt at i) [
        | inl above ↦ rw (outside.others i (inr (omega arith))) (stable before was)
        | inr here ↦
            let same : i ≡ at = omega arith in
            absurd (unstable (disk_told old).stored (disk_images (disk_told old)) at (told before was) is free (rw same at stable))
      ]
    ])

-- after a one is written and synced, that byte is stable
pub stable-synced : (stored : Option (List ℕ)) (images : List ℕ → Type 0) (at : ℕ)
    → IfSome stored (λ bytes. (at < length bytes) × (slice_index bytes at ≡ 0))
    → ((image : List ℕ) → images image → option_map (λ bytes. overwrite bytes at (1 ∷ [])) stored ≡ Some image)
    → IsStable images at
stable-synced None images at free durable image is = absurd (let e = durable image is in cc)
stable-synced (Some bytes) images at free durable image is =
    let e = durable image is in
    let same : overwrite bytes at (1 ∷ []) ≡ image = cc in
    let here : at - at ≡ 0 = omega arith in
    let one = slice_index-overwrite_inside bytes at (1 ∷ []) at (omega (arith, free.0)) (omega arith) (omega arith) in
    λ zero. absurd (let wrong : 1 ≡ 0 = sym (rw here at (ap (λ (l : List ℕ). slice_index l at) (sym same) ∙ one)) ∙ zero in omega arith)
