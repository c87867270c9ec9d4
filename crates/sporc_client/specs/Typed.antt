-- Moves whose values are such as the code's types have: bytes below 256, keys of epochs of 32
-- bytes, numbers of members and of devices, and public keys, of the sizes of their fields.
use Rattle.std.specs.Prelude.{◌≡◌, ℕ, ◌<◌, ◌^◌, List, length, IfSome, ⊤}
use Rattle.std.specs.FinMap.{get}
use Rattle.std.specs.List.{AllByRecursion}
use Rattle.sporc_base.specs.Bytes.{IsBytes}
use Rattle.sporc_delta.specs.Typed.{IsTypedDelta}
use Rattle.sporc_member.specs.declared.change.Change.{Change as MemberChange}
use Rattle.sporc_entry.specs.ChangeBody.{ChangeWith, IsKey}
use Rattle.sporc_epoch.specs.Keys.{Keys}
use Rattle.sporc_client.specs.Log.{Logged, Edit, Change, Submit, Dropped, Accept, Discard}
use Rattle.sporc_client.specs.Run.{Setup, Move, Open, Happen, Give, Restart, IsRun, start}
use Rattle.sporc_client.specs.WellFormed.{IsWellFormed}

abbrev pub IsTypedChange : MemberChange → Type 0
IsTypedChange change =
    ChangeWith (λ member. member < 2 ^ 16) (λ device. device < 2 ^ 8) IsKey change

abbrev pub IsTypedEvent : Logged → Type 0
IsTypedEvent (Edit by seen marks) = IsTypedDelta marks
IsTypedEvent (Change by change) = IsTypedChange change
IsTypedEvent (Submit by bytes) = IsBytes bytes
IsTypedEvent (Dropped by fault) = ⊤
IsTypedEvent (Accept by bytes) = IsBytes bytes
IsTypedEvent (Discard by) = ⊤

abbrev pub AreEpochKeys : Keys → Type 0
AreEpochKeys ring = (epoch : ℕ) → IfSome (get ring epoch) (λ key. length key ≡ 32)

abbrev pub IsTypedMove : Move → Type 0
IsTypedMove (Open who ring) = AreEpochKeys ring
IsTypedMove (Happen who event) = IsTypedEvent event
IsTypedMove (Give who position bytes) = IsBytes bytes
IsTypedMove (Restart who k) = ⊤

-- a run of such moves
pub record IsTypedRun (s : Setup) (moves : List Move) : Type 0 where
  pub setup : IsWellFormed s
  pub typed : AllByRecursion IsTypedMove moves
  pub run : IsRun s start moves
