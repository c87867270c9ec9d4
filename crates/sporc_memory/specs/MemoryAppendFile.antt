-- A file that is appended to, in memory, as its log tells it: what a read gives and what a crash
-- may leave, after any of its calls.
use Rattle.std.specs.Prelude.{◌≡◌, ◌⊎◌, ℕ, Bool, List, [], ◌∷◌, ◌++◌, ◌/◌, length, take, Some, refl}
use Rattle.std.specs.Prelude.{Result, OnOk, if◌then◌else◌}
use Rattle.std.proofs.Common.{inl}
use Rattle.sporc_outside.specs.AppendFile.{AppendTold}
use Rattle.sporc_memory.specs.CallsModel.{CallsModel, calls_failing}
use Rattle.sporc_memory.specs.Logged as logged
use Rattle.sporc_memory.specs.Logged.{State, after_calls, images_after}
use Rattle.sporc_memory.specs.declared.logged.Call.{Call}
use Rattle.sporc_memory.specs.declared.requests.AppendRequest.{AppendRequest}
use Rattle.sporc_memory.specs.declared.requests.AppendRequest.TheVariants.{Read, Append, Cut, Sync}

-- its name, what it held at first, its calls since, and which of them are to fail
pub record MemoryAppendFileModel : Type 0 where
  pub name : List ℕ
  pub first : List ℕ
  pub log : List (Call AppendRequest)
  pub calls : CallsModel

-- a file of this name with these bytes, of which these calls are to fail
abbrev pub file_over : List ℕ → List ℕ → List ℕ → MemoryAppendFileModel
file_over name bytes failing =
    record { name = name; first = bytes; log = []; calls = calls_failing failing }

-- bytes, and those of which any prefix may stand behind them
pub record Loose : Type 0 where
  pub bytes : List ℕ
  pub behind : List ℕ

abbrev pub loose : List ℕ → List ℕ → Loose
loose bytes behind = record { bytes = bytes; behind = behind }

-- of which parts are not synced, each with what a crash may leave of it
abbrev pub AppendState : Type 0
AppendState = State Loose

-- the state after a request that succeeded or failed; an append or a cut that failed leaves what a
-- read gives
abbrev pub after_request : AppendState → Bool → AppendRequest → AppendState
after_request s done (Append more) = record {
  bytes = if done then s.bytes ++ more else s.bytes;
  unsynced = loose s.bytes more ∷ s.unsynced;
}
after_request s done (Cut len) = record {
  bytes = if done then take len s.bytes else s.bytes;
  unsynced = loose s.bytes [] ∷ loose (take len s.bytes) [] ∷ s.unsynced;
}
after_request s done Sync = record s { unsynced = if done then [] else s.unsynced }
after_request s done Read = s

-- a request that writes
abbrev pub IsWrite : AppendRequest → Type 0
IsWrite (Append bytes) = Unit {0}
IsWrite (Cut len) = Unit {0}
IsWrite Read = ⊥
IsWrite Sync = ⊥

-- the state after these calls on a file of these bytes
abbrev pub state_after : List ℕ → List (Call AppendRequest) → AppendState
state_after first log = after_calls after_request first log

-- what a read of the file gives
abbrev pub bytes_of : MemoryAppendFileModel → List ℕ
bytes_of file = (state_after file.first file.log).bytes

-- one of these, with a prefix of what may stand behind it
abbrev pub IsLoose : List Loose → List ℕ → Type 0
IsLoose [] image = ⊥
IsLoose (part ∷ parts) image =
    ((n : ℕ) × (image ≡ part.bytes ++ take n part.behind)) ⊎ IsLoose parts image

-- what a crash in this state may leave
abbrev pub IsImage : AppendState → List ℕ → Type 0
IsImage s image = (image ≡ s.bytes) ⊎ IsLoose s.unsynced image

-- what a crash after the first m calls may leave
abbrev pub images_of : MemoryAppendFileModel → ℕ → List ℕ → Type 0
images_of file m image = images_after after_request IsImage file.first file.log m image

abbrev pub file_told : MemoryAppendFileModel → AppendTold
file_told file = record {
  name = Some file.name;
  stored = Some (bytes_of file);
  moment = length file.log;
  images = images_of file;
  faults = file.calls.faults;
}

-- three of what a part may leave: with nothing behind it, with half of what may stand there, and
-- with all of that
abbrev pub three_of : Loose → List (List ℕ)
three_of part = part.bytes ∷ (part.bytes ++ take (length part.behind / 2) part.behind)
    ∷ (part.bytes ++ part.behind) ∷ []

-- three for each part, those of the first part last
abbrev pub listed_of : List Loose → List (List ℕ)
listed_of [] = []
listed_of (part ∷ parts) = listed_of parts ++ three_of part

-- a call on a file of these bytes is listed: of whatever state `old` was listed, `new` is listed of
-- the state after the call
abbrev pub ListsCall : {E : Type 0} → List ℕ → Call AppendRequest → List (List ℕ) → List (List ℕ)
    → Result (Unit {0}) E → Type 0
ListsCall bytes call old new result = (s : AppendState) → s.bytes ≡ bytes
    → old ≡ listed_of s.unsynced
    → OnOk result (new ≡ listed_of (after_request s call.done call.request).unsynced)

-- some of the images: three for each part since the last sync that succeeded, and last of them what
-- a read gives
abbrev pub some_images : AppendState → List (List ℕ)
some_images s = listed_of s.unsynced ++ s.bytes ∷ []

-- what a read gives is an image
pub bytes_are_image : (file : MemoryAppendFileModel)
    → images_of file (length file.log) (bytes_of file)
bytes_are_image file =
    logged.bytes_are_image after_request IsImage (λ s. inl refl) file.first file.log
