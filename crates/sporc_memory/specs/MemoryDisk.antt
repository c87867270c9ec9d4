-- A disk in memory as its log tells it: what a read gives and what a crash may leave, after any of
-- its calls.
use Rattle.std.specs.Prelude.{◌≡◌, ◌⊎◌, ℕ, ◌+◌, ◌<◌, ◌≤◌, Bool, List, [], ◌∷◌, ◌++◌}
use Rattle.std.specs.Prelude.{length, slice_index, if◌then◌else◌, Some, refl}
use Rattle.std.proofs.Common.{inr}
use Rattle.sporc_memory.specs.CallsModel.{CallsModel, calls_failing}
use Rattle.sporc_memory.specs.Logged as logged
use Rattle.sporc_memory.specs.Logged.{State, after_calls, images_after}
use Rattle.sporc_outside.specs.LeafDisk.{DiskTold, overwrite}
use Rattle.sporc_memory.specs.declared.logged.Call.{Call}
use Rattle.sporc_memory.specs.declared.requests.DiskRequest.{DiskRequest}
use Rattle.sporc_memory.specs.declared.requests.DiskRequest.TheVariants.{Len, Read, Write, Sync}

-- what it held at first, its calls since, and which of them are to fail
pub record MemoryDiskModel : Type 0 where
  pub first : List ℕ
  pub log : List (Call DiskRequest)
  pub calls : CallsModel

-- a disk with these bytes, all of them synced, of which these calls are to fail
abbrev pub disk_over : List ℕ → List ℕ → MemoryDiskModel
disk_over bytes failing = record { first = bytes; log = []; calls = calls_failing failing }

-- of which the ranges (from, length) are not synced
abbrev pub DiskState : Type 0
DiskState = State (ℕ × ℕ)

-- the state after a request that succeeded or failed; a write that failed leaves what a read gives
abbrev pub after_request : DiskState → Bool → DiskRequest → DiskState
after_request s done (Write at bytes) = record {
  bytes = if done then overwrite s.bytes at bytes else s.bytes;
  unsynced = (at, length bytes) ∷ s.unsynced;
}
after_request s done Sync = record s { unsynced = if done then [] else s.unsynced }
after_request s done Len = s
after_request s done (Read at len) = s

-- a request that writes
abbrev pub IsWrite : DiskRequest → Type 0
IsWrite (Write at bytes) = Unit {0}
IsWrite Len = ⊥
IsWrite (Read at len) = ⊥
IsWrite Sync = ⊥

-- the state after these calls on a disk of these bytes
abbrev pub state_after : List ℕ → List (Call DiskRequest) → DiskState
state_after first log = after_calls after_request first log

-- what a read of the disk gives
abbrev pub bytes_of : MemoryDiskModel → List ℕ
bytes_of disk = (state_after disk.first disk.log).bytes

-- the place is in one of the ranges
abbrev pub IsUnsynced : List (ℕ × ℕ) → ℕ → Type 0
IsUnsynced [] i = ⊥
IsUnsynced (range ∷ ranges) i = ((range.0 ≤ i) × (i < range.0 + range.1)) ⊎ IsUnsynced ranges i

-- what a crash in this state may leave: anything in the unsynced ranges, and elsewhere what a read
-- gives
pub record IsImage (s : DiskState) (image : List ℕ) : Type 0 where
  pub length : length image ≡ length s.bytes
  pub synced : (i : ℕ) → IsUnsynced s.unsynced i ⊎ (slice_index image i ≡ slice_index s.bytes i)

-- what a read gives, with this byte at each place in the unsynced ranges
pub record IsSpoilt (s : DiskState) (byte : ℕ) (image : List ℕ) : Type 0 where
  pub as_long : length image ≡ length s.bytes
  pub spoilt : (i : ℕ) → i < length s.bytes → IsUnsynced s.unsynced i → slice_index image i ≡ byte
  pub others : (i : ℕ) → (IsUnsynced s.unsynced i → ⊥) → slice_index image i ≡ slice_index s.bytes i

-- these images, and behind them what a read gives with this byte in the unsynced ranges
pub record AddsSpoilt (s : DiskState) (byte : ℕ) (images more : List (List ℕ)) : Type 0 where
  pub image : List ℕ
  pub behind : more ≡ images ++ image ∷ []
  pub spoilt : IsSpoilt s byte image

-- four of the images: what a read gives, and that with the unsynced bytes as 0, as 1 and as 255
abbrev pub AreListed : DiskState → List (List ℕ) → Type 0
AreListed s (same ∷ zeros ∷ ones ∷ highest ∷ []) =
    (same ≡ s.bytes) × IsSpoilt s 0 zeros × IsSpoilt s 1 ones × IsSpoilt s 255 highest
AreListed s others = ⊥

-- what a crash after the first m calls may leave
abbrev pub images_of : MemoryDiskModel → ℕ → List ℕ → Type 0
images_of disk m image = images_after after_request IsImage disk.first disk.log m image

abbrev pub disk_told : MemoryDiskModel → DiskTold
disk_told disk = record {
  stored = Some (bytes_of disk);
  moment = length disk.log;
  images = images_of disk;
  faults = disk.calls.faults;
}

-- what a read gives is an image
pub bytes_are_image : (disk : MemoryDiskModel) → images_of disk (length disk.log) (bytes_of disk)
bytes_are_image disk =
    logged.bytes_are_image after_request IsImage
    (λ s. record { length = refl; synced = λ i. inr refl }) disk.first disk.log
