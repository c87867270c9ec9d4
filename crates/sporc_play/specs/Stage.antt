-- How the state that the code keeps stands for a scene.
use Rattle.std.specs.Prelude.{◌≡◌, ℕ, ◌+◌, ◌≤◌, ◌<◌, ◌^◌, true, List, ◌++◌, map, Option, None, Some}
use Rattle.std.specs.Prelude.{Contains, IfSome, IsSome, ⊤, get_or, length}
use Rattle.std.specs.List.{All, AllByRecursion, IsDistinct}
use Rattle.lms_sign.specs.Signer.{SignerModel}
use Rattle.lms_tree.specs.LmsPrivate.{LmsPrivate}
use Rattle.sporc_member.specs.declared.device.Device.{Device}
use Rattle.sporc_member.specs.Device.{first_device, same_device}
use Rattle.sporc_entry.specs.Genesis.{IsGenesis}
use Rattle.sporc_epoch.specs.Keys.{Keys}
use Rattle.sporc_client.specs.ClientModel.{ClientModel}
use Rattle.sporc_client.specs.Run.{Setup, key_of_device, opening_of}
use Rattle.sporc_script.specs.declared.command.Command.{Command}
use Rattle.sporc_script.specs.declared.command.Command.TheVariants as commands
use Rattle.sporc_script.specs.declared.play_line.PlayLine.{PlayLine}
use Rattle.sporc_play.specs.declared.cast.Cast.{Cast}
use Rattle.sporc_play.specs.declared.seat.Rogue.{Rogue}
use Rattle.sporc_play.specs.declared.seat.Seat.{Seat}
use Rattle.sporc_play.specs.declared.state.PlayState.{PlayState}
use Rattle.sporc_play.specs.declared.playing.TheConstants.{MAX_SCRIPT}
use Rattle.sporc_play.specs.Cast.{has_admin, pairs_among, private_of, rogues_of, setup_of}
use Rattle.sporc_play.specs.Lines.{AppendsLine}
use Rattle.sporc_play.specs.Scene.{Scene, after, scene_opened, text_size}
pub use Rattle.sporc_play.specs.Seats.{AreDrawn}
use Rattle.sporc_play.specs.Seats.{IsReady, plain_in, rogue_devices, seated}

-- ---- who takes part

-- who takes part, as the code keeps it: the keys of those who are declared, and what each shares
-- with the others
pub record IsCastOf (s : Setup) (cast : Cast) : Type 0 where
  pub keys : All (λ d. d.key ≡ key_of_device s (first_device d.member)) cast.declared.items
  pub founders : cast.founders.items ≡ s.genesis.founders
  pub trees : (who : Device) → s.private who ≡ private_of cast.tree who
  pub pairs : (who : Device)
      → pairs_among (map (λ d. d.member) cast.declared.items) cast.unpaired.items who.member
      ≡ s.pairs who

-- whatever a play is set up with, if this cast takes part in it and a rogue has this key
abbrev pub ForRogue : LmsPrivate → ℕ → Cast → (Setup → Type 0) → Type 0
ForRogue key member cast P =
    (s : Setup) → key ≡ s.private (first_device member) → IsCastOf s cast → P s

-- what the grammar says of the declarations: no two devices are one, and the founders can begin a
-- document if one is an admin
pub record AreDeclared (script : List PlayLine) : Type 0 where
  pub distinct : IsDistinct same_device ((setup_of script).devices ++ rogues_of script)
  pub genesis : has_admin script ≡ true → IsGenesis (setup_of script).genesis

-- ---- seats

-- a client is that of a device in a scene
pub record IsClientOf {D : Type 0} (s : Setup) (scene : Scene) (who : Device)
    (c : ClientModel D) : Type 0 where
  pub ring : Keys
  pub opening : c.opening ≡ opening_of s who ring
  pub log : scene.logs who ≡ c.log
  pub ready : IsReady (s.private who) (scene.leaves who) c

-- a signer is that of a device
pub record IsSignerOf {D : Type 0} (s : Setup) (scene : Scene) (who : Device)
    (signer : SignerModel D) : Type 0 where
  pub key : signer.key ≡ s.private who
  pub leaves : AreDrawn (s.private who) (scene.leaves who) signer.leaves

-- a signer until the client opens, and the client from then on
abbrev pub Holds : {D : Type 0} → Setup → Scene → Device → Option (SignerModel D)
    → Option (ClientModel D) → Type 0
Holds s scene who signer (Some c) = IsClientOf s scene who c
Holds s scene who (Some signer) None = IsSignerOf s scene who signer
Holds s scene who None None = ⊥

pub record IsSeatOf (s : Setup) (scene : Scene) (seat : Seat) : Type 0 where
  pub asked : seat.asked ≡ scene.asked seat.device
  pub last : seat.last ≡ scene.last seat.device
  pub client : scene.world.clients seat.device ≡ plain_in seat
  pub holds : Holds s scene seat.device seat.signer seat.client

pub record IsRogueOf (s : Setup) (scene : Scene) (rogue : Rogue) : Type 0 where
  pub asked : rogue.asked ≡ scene.asked rogue.device
  pub signer : IsSignerOf s scene rogue.device rogue.signer

-- ---- the state

-- a state stands for a scene of the members that a script declares
pub record StandsFor (script : List PlayLine) (scene : Scene) (state : PlayState) : Type 0 where
  pub genesis : state.genesis ≡ (setup_of script).genesis
  pub cast : IsCastOf (setup_of script) state.cast
  pub seats : AllByRecursion (IsSeatOf (setup_of script) scene) state.seats.items
  pub rogues : AllByRecursion (IsRogueOf (setup_of script) scene) state.rogues.items
  pub seated : seated state.seats.items ≡ (setup_of script).devices
  pub rogue_devices : rogue_devices state.rogues.items ≡ rogues_of script
  pub declared : AreDeclared script
  pub made : map (λ bytes. bytes.items) state.made.items ≡ scene.made

-- whichever line of a script a declaration is: if its founders before it have clients in one state,
-- it has one in the other, too, if it declares a founder's device
abbrev pub OpensBy : PlayLine → PlayState → PlayState → Type 0
OpensBy line old new = (script : List PlayLine) (i : ℕ) → i < length script
    → line ≡ get_or script i line → StandsFor script (scene_opened script i) old
    → StandsFor script (scene_opened script (i + 1)) new

-- all but the entries that were made is as it was
pub record HasSameMembers (old new : PlayState) : Type 0 where
  pub genesis : new.genesis ≡ old.genesis
  pub cast : new.cast ≡ old.cast
  pub seats : new.seats.items ≡ old.seats.items
  pub rogues : new.rogues.items ≡ old.rogues.items

-- ---- commands

-- those whom a command names take part
abbrev pub TakePart : PlayState → Command → Type 0
TakePart state (commands.Edit e) = Contains (seated state.seats.items) e.device
TakePart state (commands.Change e) = Contains (seated state.seats.items) e.device
TakePart state (commands.Discard who) = Contains (seated state.seats.items) who
TakePart state (commands.Submit who) = Contains (seated state.seats.items) who
TakePart state (commands.Give g) = Contains (seated state.seats.items) g.device
TakePart state (commands.Restart r) = Contains (seated state.seats.items) r.device
TakePart state (commands.Join j) =
    Contains (seated state.seats.items) j.device × IsGenesis state.genesis
TakePart state (commands.Show who) = Contains (seated state.seats.items) who
TakePart state (commands.Members who) = Contains (seated state.seats.items) who
TakePart state (commands.Hash who) = Contains (seated state.seats.items) who
TakePart state (commands.Journal who) = Contains (seated state.seats.items) who
TakePart state (commands.Compare p) =
    Contains (seated state.seats.items) p.first × Contains (seated state.seats.items) p.second
TakePart state (commands.Sign f) =
    Contains (rogue_devices state.rogues.items) (first_device f.member)
    × Contains (seated state.seats.items) f.from
TakePart state command = ⊤

-- a seat is ready for any call: its count has room, and its client can sign, or else its signer may
-- open one
pub record IsReadySeat (seat : Seat) : Type 0 where
  pub asked : seat.asked + 1 < 2 ^ 24
  pub signer : seat.client ≡ None → IsSome seat.signer
  pub ready : IfSome seat.client (λ c. IsReady c.opening.key c.leaves.next c)

pub record IsReadyRogue (rogue : Rogue) : Type 0 where
  pub asked : rogue.asked + 1 < 2 ^ 24
  pub leaves : AreDrawn rogue.signer.key rogue.signer.leaves.next rogue.signer.leaves

-- all clients are of the document that the state was begun with
abbrev pub AreOfOneDocument : PlayState → Type 0
AreOfOneDocument state = AllByRecursion
    (λ seat. IfSome seat.client (λ c. c.opening.genesis ≡ state.genesis)) state.seats.items

-- a state can perform a command
pub record CanPerform (state : PlayState) (command : Command) : Type 0 where
  pub named : TakePart state command
  pub seats : AllByRecursion IsReadySeat state.seats.items
  pub rogues : AllByRecursion IsReadyRogue state.rogues.items
  pub one_document : AreOfOneDocument state
  pub short : text_size command ≤ MAX_SCRIPT

-- whatever scene a state stands for, this one stands for the scene after a command
abbrev pub Becomes : PlayState → Command → PlayState → Type 0
Becomes old command new = (script : List PlayLine) (scene : Scene) → StandsFor script scene old
    → StandsFor script (after (setup_of script) scene command) new

-- whatever scene a state stands for, the line of a command in it follows the bytes
abbrev pub AppendsLineOf : PlayState → Command → List ℕ → List ℕ → Type 0
AppendsLineOf state command old new = (script : List PlayLine) (scene : Scene)
    → StandsFor script scene state → AppendsLine (setup_of script) scene command old new
