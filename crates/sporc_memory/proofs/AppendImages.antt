-- What a crash of a file in memory that is appended to may leave, over one call.
use Rattle.std.proofs.Common.{◌≡◌, ℕ, inl, inr, Bool, true, false, List, [], ◌++◌, length, take, Some, refl, ap, sym, subst, ◌∙◌, arith, append-nil}
use Rattle.sporc_memory.proofs.Common.{Result, Ok, Err, OnOk, OnErr, take_all, CallsModel, IsSame, CrashStep, Call, AppendState, IsImage}
use Rattle.sporc_outside.specs.AppendFile.{GrowsBy, MayBeCut}
use Rattle.sporc_memory.specs.Logged.{LogsCall}
use Rattle.sporc_memory.specs.declared.requests.AppendRequest.{AppendRequest}
use Rattle.sporc_memory.specs.declared.requests.AppendRequest.TheVariants.{Read, Append, Cut, Sync}
use Rattle.sporc_memory.specs.MemoryAppendFile.{IsWrite, MemoryAppendFileModel, after_request, bytes_of, images_of, state_after}
use Rattle.sporc_memory.proofs.LoggedImages.{IsFailedCall, Steps, bytes_failed, bytes_quiet, durable, images_in, passes, passes_none}

-- ---- what each request does to the images

abbrev pub StepsAt : AppendState → AppendRequest → (List ℕ → List ℕ → Type 0) → Type 0
StepsAt s request step = (done : Bool) → Steps after_request IsImage s request done step

stays_grown : (more image : List ℕ) → GrowsBy more image image
stays_grown more image = (0, sym (append-nil image))

steps_append : (s : AppendState) (more : List ℕ) → StepsAt s (Append more) (GrowsBy more)
steps_append s more true image (inl is) =
    (s.bytes, inl refl, (length more, is ∙ ap (λ (l : List ℕ). s.bytes ++ l) (sym (take_all (length more) more (omega arith)))))
steps_append s more false image (inl is) = (s.bytes, inl refl, (0, is ∙ sym (append-nil s.bytes)))
steps_append s more done image (inr (inl part)) = (s.bytes, inl refl, part)
steps_append s more done image (inr (inr others)) = (image, inr others, stays_grown more image)

take_none : (n : ℕ) → ◌≡◌ {A = List ℕ} (take n []) []
take_none n = take_all n [] (omega arith)

unlonged : (bytes image : List ℕ) (n : ℕ) → image ≡ bytes ++ take n [] → image ≡ bytes
unlonged bytes image n is = is ∙ ap (λ (l : List ℕ). bytes ++ l) (take_none n) ∙ append-nil bytes

steps_cut : (s : AppendState) (len : ℕ) → StepsAt s (Cut len) (MayBeCut len)
steps_cut s len true image (inl is) = (s.bytes, inl refl, inr is)
steps_cut s len false image (inl is) = (s.bytes, inl refl, inl is)
steps_cut s len done image (inr (inl part)) = (s.bytes, inl refl, inl (unlonged s.bytes image part.0 part.1))
steps_cut s len done image (inr (inr (inl part))) = (s.bytes, inl refl, inr (unlonged (take len s.bytes) image part.0 part.1))
steps_cut s len done image (inr (inr (inr others))) = (image, inr others, inl refl)

steps_same : (s : AppendState) (request : AppendRequest) → (IsWrite request → ⊥) → StepsAt s request IsSame
steps_same s Sync quiet true image (inl is) = (image, inl is, refl)
steps_same s Sync quiet true image (inr none) = absurd none
steps_same s (Append more) quiet done image h = absurd (quiet _)
steps_same s (Cut len) quiet done image h = absurd (quiet _)
steps_same s request quiet _ image h = (image, h, refl)

-- ---- the call in the log, by what the file holds: its name, its first bytes, its log and its calls

images_logged : {T E : Type 0} (old : MemoryAppendFileModel) (name first : List ℕ) (log new : List (Call AppendRequest)) (calls : CallsModel)
    (request : AppendRequest) (r : Result T E) (step : List ℕ → List ℕ → Type 0)
    → ◌≡◌ {A = MemoryAppendFileModel} (record { name = name; first = first; log = log; calls = calls }) old
    → LogsCall log new request r → ((image : List ℕ) → step image image) → StepsAt (state_after first log) request step
    → CrashStep (length old.log) (length new) (images_of old) (images_in after_request IsImage first new) step
images_logged old name first log new calls request r step is logs stays steps =
    rw (← is) (passes after_request IsImage first log new request r step logs stays steps)

pub append_images : {T E : Type 0} (old : MemoryAppendFileModel) (name first : List ℕ) (log new : List (Call AppendRequest)) (calls : CallsModel)
    (more kept : List ℕ) (r : Result T E) → ◌≡◌ {A = MemoryAppendFileModel} (record { name = name; first = first; log = log; calls = calls }) old
    → kept ≡ more → LogsCall log new (Append kept) r
    → CrashStep (length old.log) (length new) (images_of old) (images_in after_request IsImage first new) (GrowsBy more)
append_images old name first log new calls more kept r is same logs =
    subst (λ (m : List ℕ). CrashStep (length old.log) (length new) (images_of old) (images_in after_request IsImage first new) (GrowsBy m)) same
    (images_logged old name first log new calls (Append kept) r (GrowsBy kept) is logs (stays_grown kept) (steps_append (state_after first log) kept))

pub append_unlogged : (old : MemoryAppendFileModel) (name first : List ℕ) (log : List (Call AppendRequest)) (calls : CallsModel) (more : List ℕ)
    → ◌≡◌ {A = MemoryAppendFileModel} (record { name = name; first = first; log = log; calls = calls }) old
    → CrashStep (length old.log) (length log) (images_of old) (images_in after_request IsImage first log) (GrowsBy more)
append_unlogged old name first log calls more is = rw (← is) (passes_none after_request IsImage first log (GrowsBy more) (stays_grown more))

pub cut_images : {T E : Type 0} (old : MemoryAppendFileModel) (name first : List ℕ) (log new : List (Call AppendRequest)) (calls : CallsModel)
    (len : ℕ) (r : Result T E) → ◌≡◌ {A = MemoryAppendFileModel} (record { name = name; first = first; log = log; calls = calls }) old
    → LogsCall log new (Cut len) r
    → CrashStep (length old.log) (length new) (images_of old) (images_in after_request IsImage first new) (MayBeCut len)
cut_images old name first log new calls len r is logs =
    images_logged old name first log new calls (Cut len) r (MayBeCut len) is logs (λ image. inl refl) (steps_cut (state_after first log) len)

pub same_images : {T E : Type 0} (old : MemoryAppendFileModel) (name first : List ℕ) (log new : List (Call AppendRequest)) (calls : CallsModel)
    (request : AppendRequest) (r : Result T E) → ◌≡◌ {A = MemoryAppendFileModel} (record { name = name; first = first; log = log; calls = calls }) old
    → (IsWrite request → ⊥) → LogsCall log new request r
    → CrashStep (length old.log) (length new) (images_of old) (images_in after_request IsImage first new) IsSame
same_images old name first log new calls request r is quiet logs =
    images_logged old name first log new calls request r IsSame is logs (λ image. refl) (steps_same (state_after first log) request quiet)

-- ---- what a read gives then

bytes_left : (s : AppendState) (request : AppendRequest) → (after_request s false request).bytes ≡ s.bytes
bytes_left s Read = refl
bytes_left s _ = refl

bytes_same : (s : AppendState) (request : AppendRequest) → (IsWrite request → ⊥) → (done : Bool) → (after_request s done request).bytes ≡ s.bytes
bytes_same s (Append more) quiet done = absurd (quiet _)
bytes_same s (Cut len) quiet done = absurd (quiet _)
bytes_same s request quiet done = refl

pub same_bytes : {T E : Type 0} (first : List ℕ) (log new : List (Call AppendRequest)) (request : AppendRequest) (r : Result T E) → (IsWrite request → ⊥)
    → LogsCall log new request r → (state_after first new).bytes ≡ (state_after first log).bytes
same_bytes first log new request r quiet logs =
    bytes_quiet after_request IsImage first log new request r (bytes_same (state_after first log) request quiet) logs

-- after a sync that succeeded an image is what a read gives
pub synced_images : {T E : Type 0} (old new : MemoryAppendFileModel) (r : Result T E) → LogsCall old.log new.log Sync r
    → OnOk r ((image : List ℕ) → images_of new (length new.log) image → Some (bytes_of new) ≡ Some image)
synced_images old new r logs = durable after_request IsImage new.first old.log new.log Sync r refl only logs
  where
    only : (bytes image : List ℕ) → IsImage (record { bytes = bytes; unsynced = [] }) image → image ≡ bytes
    only bytes image (inl is) = is
    only bytes image (inr none) = absurd none

-- ---- after a call that failed

bytes_stay : (old : MemoryAppendFileModel) (name first : List ℕ) (log new : List (Call AppendRequest)) (calls : CallsModel) (request : AppendRequest)
    → ◌≡◌ {A = MemoryAppendFileModel} (record { name = name; first = first; log = log; calls = calls }) old → IsFailedCall log new request
    → (state_after first new).bytes ≡ bytes_of old
bytes_stay old name first log new calls request is logs =
    bytes_failed after_request IsImage first log new request (bytes_left (state_after first log) request) logs ∙ ap bytes_of is

-- what holds holds where the call failed
on_err : {T E P : Type 0} (result : Result T E) → P → OnErr result P
on_err (Ok x) p = tt
on_err (Err e) p = p

pub prefix_failed : {T E : Type 0} (old : MemoryAppendFileModel) (name first : List ℕ) (log new : List (Call AppendRequest)) (calls : CallsModel) (request : AppendRequest) (more : List ℕ)
    (result : Result T E) → ◌≡◌ {A = MemoryAppendFileModel} (record { name = name; first = first; log = log; calls = calls }) old → IsFailedCall log new request
    → OnErr result (GrowsBy more (bytes_of old) (state_after first new).bytes)
prefix_failed old name first log new calls request more result is logs =
    on_err result (0, bytes_stay old name first log new calls request is logs ∙ sym (append-nil (bytes_of old)))

pub cut_failed : {T E : Type 0} (old : MemoryAppendFileModel) (name first : List ℕ) (log new : List (Call AppendRequest)) (calls : CallsModel) (len : ℕ) (result : Result T E)
    → ◌≡◌ {A = MemoryAppendFileModel} (record { name = name; first = first; log = log; calls = calls }) old → IsFailedCall log new (Cut len)
    → OnErr result (MayBeCut len (bytes_of old) (state_after first new).bytes)
cut_failed old name first log new calls len result is logs = on_err result (inl (bytes_stay old name first log new calls (Cut len) is logs))
