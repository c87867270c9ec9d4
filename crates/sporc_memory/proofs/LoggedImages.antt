-- What a crash may leave of what a log of calls tells, and what a read gives, over one call.
use Rattle.std.proofs.Common.{◌≡◌, ◌⊎◌, ℕ, ◌+◌, ◌≤◌, inl, inr, Bool, true, false, List, [], ◌∷◌, ◌++◌, length, take, Some, ap, subst, sym, ◌∙◌, arith, length-append}
use Rattle.sporc_memory.proofs.Common.{Result, Ok, Err, OnOk, take-append-le, take_all, fold-append, eq-or-lt_of_le, Call, CrashStep}
use Rattle.sporc_memory.specs.Logged.{LogsCall, State, after_call, after_calls, images_after}

abbrev pub call_of : {R : Type 0} → R → Bool → Call R
call_of request done = record { request = request; done = done }

-- a call that failed, in the log or missing there
abbrev pub IsFailedCall : {R : Type 0} → List (Call R) → List (Call R) → R → Type 0
IsFailedCall log new request = (new ≡ log ++ call_of request false ∷ []) ⊎ (new ≡ log)

module _ {R U : Type 0} (after_request : State U → Bool → R → State U) (IsImage : State U → List ℕ → Type 0) where
  -- what a crash after the first m of these calls may leave
  abbrev pub images_in : List ℕ → List (Call R) → ℕ → List ℕ → Type 0
  images_in first log m image = images_after after_request IsImage first log m image

  -- what each image that a call may leave was before it
  abbrev pub Steps : State U → R → Bool → (List ℕ → List ℕ → Type 0) → Type 0
  Steps s request done step =
      (image : List ℕ) → IsImage (after_request s done request) image → (before : List ℕ) × IsImage s before × step before image

  calls-more : (first : List ℕ) (log : List (Call R)) (request : R) (done : Bool)
      → after_calls after_request first (log ++ call_of request done ∷ []) ≡ after_request (after_calls after_request first log) done request
  calls-more first log request done =
      fold-append (after_call after_request) (record { bytes = first; unsynced = [] }) log (call_of request done ∷ [])

  -- no call more
  pub passes_none : (first : List ℕ) (log : List (Call R)) (step : List ℕ → List ℕ → Type 0) → ((image : List ℕ) → step image image)
      → CrashStep (length log) (length log) (images_in first log) (images_in first log) step
  passes_none first log step stays = record {
    later = omega arith;
    earlier = λ m image le. (λ h. h, λ h. h);
    during = λ m image low high h.
        let now : m ≡ length log = omega arith in
        (image, subst (λ (n : ℕ). images_in first log n image) now h, stays image);
  }

  -- one call more
  passes_one : (first : List ℕ) (log : List (Call R)) (request : R) (done : Bool) (step : List ℕ → List ℕ → Type 0) → ((image : List ℕ) → step image image)
      → Steps (after_calls after_request first log) request done step
      → CrashStep (length log) (length (log ++ call_of request done ∷ [])) (images_in first log) (images_in first (log ++ call_of request done ∷ [])) step
  passes_one first log request done step stays steps =
      let all = log ++ call_of request done ∷ [] in
      let len : length all ≡ length log + 1 = length-append log (call_of request done ∷ []) in
      let kept : (m : ℕ) → m ≤ length log → take m all ≡ take m log = λ m le. take-append-le m log (call_of request done ∷ []) le in
      record {
        later = omega arith;
        earlier = λ m image le. rw (kept m le) (λ h. h, λ h. h);
        during = λ m image low high h.
            elim (eq-or-lt_of_le low) [
              | inl now ↦ (image, subst (λ (n : ℕ). images_in first log n image) (sym now) (rw (kept m (omega arith)) at h), stays image)
              | inr later ↦
                  let whole : length all ≤ m = omega arith in
                  let got = steps image (rw (take_all m all whole, calls-more first log request done) at h) in
                  (got.0, rw (take_all (length log) log (omega arith)) got.1, got.2)
            ];
      }

  -- a call that returned this
  pub passes : {T E : Type 0} (first : List ℕ) (log new : List (Call R)) (request : R) (r : Result T E) (step : List ℕ → List ℕ → Type 0)
      → LogsCall log new request r → ((image : List ℕ) → step image image)
      → ((done : Bool) → Steps (after_calls after_request first log) request done step)
      → CrashStep (length log) (length new) (images_in first log) (images_in first new) step
  passes first log new request (Ok _) step more stays steps = rw more (passes_one first log request true step stays (steps true))
  passes first log new request (Err _) step (inl more) stays steps = rw more (passes_one first log request false step stays (steps false))
  passes first log new request (Err _) step (inr same) stays steps = rw same (passes_none first log step stays)

  -- ---- what a read gives then

  bytes_logged : (first : List ℕ) (log new : List (Call R)) (request : R) (done : Bool) → new ≡ log ++ call_of request done ∷ []
      → (after_calls after_request first new).bytes ≡ (after_request (after_calls after_request first log) done request).bytes
  bytes_logged first log new request done more =
      ap (λ (l : List (Call R)). (after_calls after_request first l).bytes) more ∙ ap (λ (s : State U). s.bytes) (calls-more first log request done)

  pub bytes_done : (first : List ℕ) (log new : List (Call R)) (request : R) → new ≡ log ++ call_of request true ∷ []
      → (after_calls after_request first new).bytes ≡ (after_request (after_calls after_request first log) true request).bytes
  bytes_done first log new request more = bytes_logged first log new request true more

  -- if a call that failed leaves them
  pub bytes_failed : (first : List ℕ) (log new : List (Call R)) (request : R)
      → (after_request (after_calls after_request first log) false request).bytes ≡ (after_calls after_request first log).bytes
      → IsFailedCall log new request → (after_calls after_request first new).bytes ≡ (after_calls after_request first log).bytes
  bytes_failed first log new request left (inl more) = bytes_logged first log new request false more ∙ left
  bytes_failed first log new request left (inr same) = ap (λ (l : List (Call R)). (after_calls after_request first l).bytes) same

  -- if no such call changes them
  pub bytes_quiet : {T E : Type 0} (first : List ℕ) (log new : List (Call R)) (request : R) (r : Result T E)
      → ((done : Bool) → (after_request (after_calls after_request first log) done request).bytes ≡ (after_calls after_request first log).bytes)
      → LogsCall log new request r → (after_calls after_request first new).bytes ≡ (after_calls after_request first log).bytes
  bytes_quiet first log new request (Ok _) quiet more = bytes_done first log new request more ∙ quiet true
  bytes_quiet first log new request (Err _) quiet logs = bytes_failed first log new request (quiet false) logs

  -- after a sync that succeeded an image is what a read gives
  pub durable : {T E : Type 0} (first : List ℕ) (log new : List (Call R)) (request : R) (r : Result T E)
      → after_request (after_calls after_request first log) true request ≡ record { bytes = (after_calls after_request first log).bytes; unsynced = [] }
      → ((bytes image : List ℕ) → IsImage (record { bytes = bytes; unsynced = [] }) image → image ≡ bytes) → LogsCall log new request r
      → OnOk r ((image : List ℕ) → images_in first new (length new) image → Some (after_calls after_request first new).bytes ≡ Some image)
  durable first log new request (Ok _) syncs only more = λ image h.
      let state : after_calls after_request first new ≡ record { bytes = (after_calls after_request first log).bytes; unsynced = [] } =
      ap (after_calls after_request first) more ∙ calls-more first log request true ∙ syncs in
      let got = rw (take_all (length new) new (omega arith), state) at h in
      rw state (ap Some (sym (only (after_calls after_request first log).bytes image got)))
  durable first log new request (Err _) syncs only logs = _
