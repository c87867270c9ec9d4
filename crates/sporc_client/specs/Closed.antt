-- Runs in which a server hands out only what clients of the run signed.
use Rattle.std.specs.Prelude.{◌≡◌, ℕ, List, [], ◌∷◌, Contains, ⊤}
use Rattle.std.specs.List.{AllByRecursion}
use Rattle.sporc_member.specs.declared.change.Change.{Change as MemberChange}
use Rattle.sporc_member.specs.declared.change.Change.TheVariants.{Add, Remove, SetRole, AddDevice}
use Rattle.sporc_member.specs.declared.change.Change.TheVariants.{DropDevice, Upgrade}
use Rattle.sporc_member.specs.declared.device.Device.{Device}
use Rattle.sporc_member.specs.declared.founder.Founder.{Founder}
use Rattle.sporc_member.specs.Device.{first_device}
use Rattle.sporc_client.specs.Log.{Change, Accept}
use Rattle.sporc_client.specs.Run.{Setup, Signing, World, Move, Open, Happen, Give, Restart, after}
use Rattle.sporc_client.specs.Run.{key_of_device, start}

-- a key is a device's own, if it is a device of the run
abbrev pub IsItsKey : Setup → Device → List ℕ → Type 0
IsItsKey s device key = Contains s.devices device → key ≡ key_of_device s device

-- a founder has its own key, if its first device is one of the run
abbrev pub HasItsKey : Setup → Founder → Type 0
HasItsKey s founder = IsItsKey s (first_device founder.member) founder.key

-- a change adds a device of the run under its own key
abbrev pub AddsItsKey : Setup → MemberChange → Type 0
AddsItsKey s (Add member role key) = IsItsKey s (first_device member) key
AddsItsKey s (Remove member) = ⊤
AddsItsKey s (SetRole member role) = ⊤
AddsItsKey s (AddDevice member device key) =
    IsItsKey s (record { member = member; number = device }) key
AddsItsKey s (DropDevice member device) = ⊤
AddsItsKey s Upgrade = ⊤

-- a client of the run signed the bytes
abbrev pub IsSigned : World → List ℕ → Type 0
IsSigned w bytes = (signing : Signing) × Contains w.signed signing × (signing.entry ≡ bytes)

-- what comes in was signed by a client of the run, and a change that a client makes adds a device
-- under its own key
abbrev pub IsClosedMove : Setup → World → Move → Type 0
IsClosedMove s w (Open who ring) = ⊤
IsClosedMove s w (Happen who (Change by change)) = AddsItsKey s change
IsClosedMove s w (Happen who (Accept by bytes)) = IsSigned w bytes
IsClosedMove s w (Happen who event) = ⊤
IsClosedMove s w (Give who position bytes) = IsSigned w bytes
IsClosedMove s w (Restart who k) = ⊤

abbrev pub AreClosed : Setup → World → List Move → Type 0
AreClosed s w [] = ⊤
AreClosed s w (move ∷ moves) = IsClosedMove s w move × AreClosed s (after s w move) moves

pub record IsClosed (s : Setup) (moves : List Move) : Type 0 where
  pub founders : AllByRecursion (HasItsKey s) s.genesis.founders
  pub closed : AreClosed s start moves
