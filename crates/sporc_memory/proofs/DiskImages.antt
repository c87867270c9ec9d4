-- What a crash of a disk in memory may leave, over one call.
use Rattle.std.proofs.Common.{◌≡◌, ℕ, ◌+◌, ◌-◌, ◌<◌, ◌≤◌, ◌⊎◌, inl, inr, Bool, true, false, List, [], ◌∷◌, ◌++◌, length, take, drop, slice_index, Some, refl, ap, sym, subst, ◌∙◌, arith, length-drop, length-take-le, get_or-take}
use Rattle.sporc_memory.proofs.Common.{Result, OnOk, get_or-drop, CallsModel, ext_get_or, Call, overwrite, IsSame, IsSameOutside, CrashStep, DiskState, state_after, MemoryDiskModel}
use Rattle.sporc_memory.proofs.Common.{IsUnsynced, bytes_of}
use Rattle.std.proofs.lemmas.Bool.{cases_lt}
use Rattle.sporc_memory.specs.Logged.{LogsCall}
use Rattle.sporc_memory.specs.declared.requests.DiskRequest.{DiskRequest}
use Rattle.sporc_memory.specs.declared.requests.DiskRequest.TheVariants.{Write, Sync}
use Rattle.sporc_memory.specs.MemoryDisk.{after_request, IsImage, IsWrite, images_of}
use Rattle.sporc_memory.proofs.LoggedImages.{IsFailedCall, Steps, bytes_done, bytes_failed, bytes_quiet, durable, images_in, passes}
use Rattle.sporc_outside.proofs.Overwrites.{length-overwrite, slice_index-overwrite_outside, slice_index-overwrite_inside}

-- ---- a call that writes nothing

-- after a sync an image is what a read gives, so it was one before
synced_bytes : (bytes image : List ℕ) → IsImage (record { bytes = bytes; unsynced = [] }) image → image ≡ bytes
synced_bytes bytes image h = ext_get_or 0 image bytes h.length (λ i below. elim (h.synced i) [ inl unsynced ↦ absurd unsynced | inr same ↦ same ])

image_synced : (s : DiskState) (image : List ℕ) → IsImage (record s { unsynced = [] }) image → IsImage s image
image_synced s image h = record { length = h.length; synced = λ i. elim (h.synced i) [ inl unsynced ↦ absurd unsynced | inr same ↦ inr same ] }

steps_same : (s : DiskState) (request : DiskRequest) → (IsWrite request → ⊥) → (done : Bool) → Steps after_request IsImage s request done IsSame
steps_same s Sync quiet true image h = (image, image_synced s image h, refl)
steps_same s (Write at bytes) quiet done image h = absurd (quiet _)
steps_same s request quiet done image h = (image, h, refl)

bytes_same : (s : DiskState) (request : DiskRequest) → (IsWrite request → ⊥) → (done : Bool) → (after_request s done request).bytes ≡ s.bytes
bytes_same s (Write at bytes) quiet done = absurd (quiet _)
bytes_same s request quiet done = refl

-- by what a disk holds: its first bytes, its log, and its calls
pub same_images : {T E : Type 0} (old : MemoryDiskModel) (first : List ℕ) (log new : List (Call DiskRequest)) (calls : CallsModel) (request : DiskRequest)
    (r : Result T E) → ◌≡◌ {A = MemoryDiskModel} (record { first = first; log = log; calls = calls }) old → (IsWrite request → ⊥)
    → LogsCall log new request r → CrashStep (length old.log) (length new) (images_of old) (images_in after_request IsImage first new) IsSame
same_images old first log new calls request r is quiet logs =
    rw (← is) (passes after_request IsImage first log new request r IsSame logs (λ image. refl) (steps_same (state_after first log) request quiet))

pub same_bytes : {T E : Type 0} (first : List ℕ) (log new : List (Call DiskRequest)) (request : DiskRequest) (r : Result T E) → (IsWrite request → ⊥)
    → LogsCall log new request r → (state_after first new).bytes ≡ (state_after first log).bytes
same_bytes first log new request r quiet logs =
    bytes_quiet after_request IsImage first log new request r (bytes_same (state_after first log) request quiet) logs

pub synced_images : {T E : Type 0} (old new : MemoryDiskModel) (r : Result T E) → LogsCall old.log new.log Sync r
    → OnOk r ((image : List ℕ) → images_of new (length new.log) image → Some (bytes_of new) ≡ Some image)
synced_images old new r logs = durable after_request IsImage new.first old.log new.log Sync r refl synced_bytes logs

-- ---- a write

-- a write leaves the bytes outside its range, in what a read gives and in each image
pub overwrite_outside : (old : List ℕ) (at : ℕ) (bytes : List ℕ) → at + length bytes ≤ length old
    → IsSameOutside at (length bytes) old (overwrite old at bytes)
overwrite_outside old at bytes h = record {
  length = length-overwrite old at bytes h;
  others = λ i out. slice_index-overwrite_outside old at bytes i h out;
}

pub same_outside : (at n : ℕ) (xs : List ℕ) → IsSameOutside at n xs xs
same_outside at n xs = record { length = refl; others = λ i out. refl }

-- the image with what a read gave in place of what was written
before_write : (s : DiskState) (at : ℕ) (bytes now image : List ℕ) → at + length bytes ≤ length s.bytes
    → IsSameOutside at (length bytes) s.bytes now
    → IsImage (record { bytes = now; unsynced = (at, length bytes) ∷ s.unsynced }) image
    → (before : List ℕ) × IsImage s before × IsSameOutside at (length bytes) before image
before_write s at bytes now image fits outside h =
    let n = length bytes in
    let mid = take n (drop at s.bytes) in
    let len : length mid ≡ n = length-take-le n (drop at s.bytes) (omega (arith, length-drop at s.bytes)) in
    let before = overwrite image at mid in
    let room : at + length mid ≤ length image = omega (arith, h.length, outside.length) in
    let long = length-overwrite image at mid room in
    let kept : (i : ℕ) → (i < at) ⊎ (at + length mid ≤ i) → slice_index before i ≡ slice_index image i = λ i out. slice_index-overwrite_outside image at mid i room out in
    let far : (i : ℕ) → (i < at) ⊎ (at + n ≤ i) → (i < at) ⊎ (at + length mid ≤ i) = λ i out. rw len out in
    let synced_outside : (i : ℕ) → (i < at) ⊎ (at + n ≤ i) → IsUnsynced s.unsynced i ⊎ (slice_index before i ≡ slice_index s.bytes i) = λ i out.
    elim (h.synced i) [
      | inl unsynced ↦ elim unsynced [
        | inl here ↦ absurd (elim out [ inl below ↦ omega arith | inr above ↦ omega arith ])
        | inr there ↦ inl there
      ]
      | inr same ↦ inr (kept i (far i out) ∙ same ∙ outside.others i out)
    ] in
    let synced_inside : (i : ℕ) → at ≤ i → i < at + n → slice_index before i ≡ slice_index s.bytes i = λ i low high.
    let back : at + (i - at) ≡ i = omega arith in
    slice_index-overwrite_inside image at mid i (omega arith) low (omega arith)
    ∙ get_or-take n (drop at s.bytes) (i - at) 0 (omega arith) ∙ get_or-drop at s.bytes (i - at) 0
    ∙ ap (slice_index s.bytes) back in (
      before,
      record {
        length = long ∙ h.length ∙ outside.length;
        synced = λ i. elim (cases_lt i at) [
          | inl below ↦ synced_outside i (inl below)
          | inr low ↦ elim (cases_lt i (at + n)) [ inl high ↦ inr (synced_inside i low high) | inr above ↦ synced_outside i (inr above) ]
        ];
      },
      record { length = sym long; others = λ i out. sym (kept i (far i out)) },
    )

steps_write : (s : DiskState) (at : ℕ) (bytes : List ℕ) → at + length bytes ≤ length s.bytes → (done : Bool)
    → Steps after_request IsImage s (Write at bytes) done (IsSameOutside at (length bytes))
steps_write s at bytes fits true image h = before_write s at bytes (overwrite s.bytes at bytes) image fits (overwrite_outside s.bytes at bytes fits) h
steps_write s at bytes fits false image h = before_write s at bytes s.bytes image fits (same_outside at (length bytes) s.bytes) h

pub passes_write : {T E : Type 0} (old : MemoryDiskModel) (first : List ℕ) (log new : List (Call DiskRequest)) (calls : CallsModel) (at : ℕ) (bytes kept : List ℕ)
    (r : Result T E) → ◌≡◌ {A = MemoryDiskModel} (record { first = first; log = log; calls = calls }) old → kept ≡ bytes
    → LogsCall log new (Write at kept) r → at + length bytes ≤ length (bytes_of old)
    → CrashStep (length old.log) (length new) (images_of old) (images_in after_request IsImage first new) (IsSameOutside at (length bytes))
passes_write old first log new calls at bytes kept r is same logs fits =
    let here : at + length bytes ≤ length (state_after first log).bytes =
    subst (λ (d : MemoryDiskModel). at + length bytes ≤ length (bytes_of d)) (sym is) fits in
    let this : LogsCall log new (Write at bytes) r = subst (λ (b : List ℕ). LogsCall log new (Write at b) r) same logs in
    rw (← is) (passes after_request IsImage first log new (Write at bytes) r (IsSameOutside at (length bytes)) this
    (same_outside at (length bytes)) (steps_write (state_after first log) at bytes here))

-- what a read gives after a write that succeeded, and after one that failed
pub bytes_written : (first : List ℕ) (log new : List (Call DiskRequest)) (at : ℕ) (bytes kept : List ℕ) → kept ≡ bytes
    → new ≡ log ++ record { request = Write at kept; done = true } ∷ [] → (state_after first new).bytes ≡ overwrite (state_after first log).bytes at bytes
bytes_written first log new at bytes kept same more =
    bytes_done after_request IsImage first log new (Write at kept) more ∙ ap (overwrite (state_after first log).bytes at) same

pub bytes_unwritten : (first : List ℕ) (log new : List (Call DiskRequest)) (at : ℕ) (kept : List ℕ) → IsFailedCall log new (Write at kept)
    → (state_after first new).bytes ≡ (state_after first log).bytes
bytes_unwritten first log new at kept logs = bytes_failed after_request IsImage first log new (Write at kept) refl logs

pub others_write : (old : MemoryDiskModel) (first : List ℕ) (log new : List (Call DiskRequest)) (calls : CallsModel) (at : ℕ) (bytes kept : List ℕ)
    → ◌≡◌ {A = MemoryDiskModel} (record { first = first; log = log; calls = calls }) old → kept ≡ bytes
    → new ≡ log ++ record { request = Write at kept; done = true } ∷ [] → at + length bytes ≤ length (bytes_of old)
    → IsSameOutside at (length bytes) (bytes_of old) (state_after first new).bytes
others_write old first log new calls at bytes kept is same more fits =
    let P : MemoryDiskModel → Type 0 = λ d. at + length bytes ≤ length (bytes_of d)
    → IsSameOutside at (length bytes) (bytes_of d) (state_after first new).bytes in
    subst P is (λ here. rw (bytes_written first log new at bytes kept same more) (overwrite_outside (state_after first log).bytes at bytes here)) fits

pub others_unwritten : (at n : ℕ) (old new : List ℕ) → new ≡ old → IsSameOutside at n old new
others_unwritten at n old new same = rw same (same_outside at n old)
