-- A log of calls on bytes: what a read gives and what a crash may leave after any of them, of a
-- disk and of a file that is appended to.
use Rattle.std.specs.Prelude.{◌≡◌, ◌⊎◌, ℕ, Bool, true, false, List, [], ◌∷◌, ◌++◌, length, take}
use Rattle.std.specs.Prelude.{fold, Result, Ok, Err}
use Rattle.std.proofs.Common.{subst, sym}
use Rattle.std.proofs.Math.Seq.{take-length}
use Rattle.sporc_memory.specs.declared.logged.Call.{Call}

-- the log after a call that returned this; a call that failed may be missing in it
abbrev pub LogsCall : {R T E : Type 0} → List (Call R) → List (Call R) → R → Result T E → Type 0
LogsCall old new request (Ok _) = new ≡ old ++ record { request = request; done = true } ∷ []
LogsCall old new request (Err _) =
    (new ≡ old ++ record { request = request; done = false } ∷ []) ⊎ (new ≡ old)

-- what a read gives, and what was written since the last sync that succeeded
pub record State (U : Type 0) : Type 0 where
  pub bytes : List ℕ
  pub unsynced : List U

-- by what a request that succeeded or failed makes of a state
module _ {R U : Type 0} (after_request : State U → Bool → R → State U) where
  abbrev pub after_call : State U → Call R → State U
  after_call s call = after_request s call.done call.request

  -- the state after these calls on these bytes, which are all synced
  abbrev pub after_calls : List ℕ → List (Call R) → State U
  after_calls first log = fold after_call (record { bytes = first; unsynced = [] }) log

  -- what a crash after the first m of these calls may leave
  abbrev pub images_after : (State U → List ℕ → Type 0) → List ℕ → List (Call R) → ℕ → List ℕ
      → Type 0
  images_after IsImage first log m image = IsImage (after_calls first (take m log)) image

  -- what a read gives is an image
  pub bytes_are_image : (IsImage : State U → List ℕ → Type 0) → ((s : State U) → IsImage s s.bytes)
      → (first : List ℕ) (log : List (Call R))
      → images_after IsImage first log (length log) (after_calls first log).bytes
  bytes_are_image IsImage itself first log =
      let P : List (Call R) → Type 0 =
      λ calls. IsImage (after_calls first calls) (after_calls first log).bytes in
      subst P (sym (take-length log)) (itself (after_calls first log))
