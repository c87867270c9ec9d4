-- What was read of a tail's file, whether the file tells its bytes or not.
use Rattle.std.specs.Prelude.{◌≡◌, ◌<◌, ◌≤◌, ℕ, List, length, Option}
use Rattle.sporc_entry.specs.declared.genesis.Genesis.{Genesis}
use Rattle.sporc_outside.specs.Counts.{Rose}
use Rattle.sporc_outside.specs.Told.{IfBoth, IfTold}
use Rattle.sporc_outside.specs.declared.file_fault.TheConstants.{MAX_FILE}
use Rattle.sporc_store.specs.declared.tail_fault.TailFault.{TailFault}
use Rattle.sporc_store.specs.declared.tail_fault.TailFault.TheVariants.{Failed, TooLong, Malformed}
use Rattle.sporc_store.specs.declared.tail_fault.TailFault.TheVariants.{Refused, Memory}
use Rattle.sporc_store.specs.TailBytes.{GivesSame, tail_behind}
use Rattle.sporc_store.specs.TailFiles.{IsTakingFault, TakesTail}

-- these are the bytes that a file tells, if it tells any
abbrev pub AreTold : Option (List ℕ) → List ℕ → Type 0
AreTold stored bytes = IfTold stored (λ told. told ≡ bytes)

-- an order's entries, once it took those that its log lacks of the bytes that were read
pub record TakesRead (genesis : Genesis) (log : List (List ℕ)) (stored : Option (List ℕ))
    (entries : List (List ℕ)) : Type 0 where
  pub bytes : List ℕ
  pub told : AreTold stored bytes
  pub within : length bytes ≤ MAX_FILE
  pub takes : TakesTail genesis log bytes entries

-- why no bytes were read, where the file's count of faults went from `before` to `after`
abbrev pub IsReadingFault : Option (List ℕ) → ℕ → ℕ → TailFault → Type 0
IsReadingFault stored before after Failed = Rose before after
IsReadingFault stored before after (TooLong len) =
    (bytes : List ℕ) × AreTold stored bytes × (MAX_FILE < length bytes)
IsReadingFault stored before after Memory = Unit {0}
IsReadingFault stored before after fault = ⊥

-- why it took none of the bytes that were read, or why none were read, where the file's count of
-- faults went from `before` to `after`
abbrev pub IsFaultOfRead : Genesis → List (List ℕ) → Option (List ℕ) → ℕ → ℕ → TailFault → Type 0
IsFaultOfRead genesis log stored before after (Malformed at) =
    (bytes : List ℕ) × AreTold stored bytes × (length bytes ≤ MAX_FILE)
    × IsTakingFault genesis log (tail_behind log genesis.document bytes) (Malformed at)
IsFaultOfRead genesis log stored before after (Refused position refusal) =
    (bytes : List ℕ) × AreTold stored bytes × (length bytes ≤ MAX_FILE)
    × IsTakingFault genesis log (tail_behind log genesis.document bytes) (Refused position refusal)
IsFaultOfRead genesis log stored before after fault = IsReadingFault stored before after fault

-- what told bytes gave behind a log is given by those that are told afterwards
abbrev pub StaysTold : List (List ℕ) → List ℕ → Option (List ℕ) → Option (List ℕ) → Type 0
StaysTold log document stored after = IfBoth stored after (GivesSame log document)
