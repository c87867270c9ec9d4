-- What the declarations of a script make, line by line: who takes part, and the founders' clients.
use Rattle.std.specs.Prelude.{◌≡◌, ℕ, List, [], ◌∷◌, ◌++◌, filter_map, map, Option, None, Some}
use Rattle.std.specs.List.{AllByRecursion}
use Rattle.lms_sign.specs.Signer.{SignerModel}
use Rattle.sporc_member.specs.declared.device.Device.{Device}
use Rattle.sporc_member.specs.Device.{first_device}
use Rattle.sporc_script.specs.declared.command.Tree.{Tree}
use Rattle.sporc_script.specs.declared.play_line.PlayLine.{PlayLine}
use Rattle.sporc_play.specs.declared.cast.Cast.{Cast}
use Rattle.sporc_play.specs.declared.seat.Rogue.{Rogue}
use Rattle.sporc_play.specs.declared.seat.Seat.{Seat}
use Rattle.sporc_play.specs.Cast.{declared_member, device_by, founders_by, private_of, public_of}
use Rattle.sporc_play.specs.Cast.{rogue_by, unpaired_by}
use Rattle.sporc_play.specs.Seats.{AreDrawn, rogue_devices, seated}

-- a signer of a device with a blank leaf file
pub record IsBlank {D : Type 0} (tree : Tree) (who : Device) (signer : SignerModel D) : Type 0 where
  pub key : signer.key ≡ private_of tree who
  pub leaves : AreDrawn (private_of tree who) 0 signer.leaves

abbrev pub HasBlank : {D : Type 0} → Tree → Device → Option (SignerModel D) → Type 0
HasBlank tree who None = ⊥
HasBlank tree who (Some signer) = IsBlank tree who signer

-- a seat that nothing has happened to
pub record IsFresh (tree : Tree) (seat : Seat) : Type 0 where
  pub asked : seat.asked ≡ 0
  pub last : seat.last ≡ 0
  pub closed : seat.client ≡ None
  pub signer : HasBlank tree seat.device seat.signer

pub record IsFreshRogue (tree : Tree) (rogue : Rogue) : Type 0 where
  pub asked : rogue.asked ≡ 0
  pub signer : IsBlank tree rogue.device rogue.signer

-- who takes part by these lines
pub record HasDeclared (tree : Tree) (lines : List PlayLine) (cast : Cast) : Type 0 where
  pub tree_is : cast.tree ≡ tree
  pub declared : map (λ d. d.member) cast.declared.items
      ≡ filter_map (λ l. declared_member l.command) lines
  pub keys : AllByRecursion
      (λ d. d.key ≡ public_of tree (first_device d.member)) cast.declared.items
  pub unpaired : cast.unpaired.items ≡ filter_map (λ l. unpaired_by l.command) lines
  pub founders : cast.founders.items ≡ founders_by tree lines

-- their seats
pub record HaveSeats (tree : Tree) (lines : List PlayLine) (seats : List Seat) : Type 0 where
  pub fresh : AllByRecursion (IsFresh tree) seats
  pub seated_are : seated seats ≡ filter_map (λ l. device_by l.command) lines

-- their rogues
pub record HaveRogues (tree : Tree) (lines : List PlayLine) (rogues : List Rogue) : Type 0 where
  pub fresh : AllByRecursion (IsFreshRogue tree) rogues
  pub devices_are : rogue_devices rogues ≡ filter_map (λ l. rogue_by l.command) lines

-- what these lines have declared is there
pub record HaveDeclared (tree : Tree) (lines : List PlayLine) (cast : Cast) (seats : List Seat)
    (rogues : List Rogue) : Type 0 where
  pub cast_is : HasDeclared tree lines cast
  pub seats_are : HaveSeats tree lines seats
  pub rogues_are : HaveRogues tree lines rogues

-- a seat for a device is the last now
pub record HasSat (tree : Tree) (who : Device) (old new : List Seat) : Type 0 where
  pub seat : Seat
  pub own : seat.device ≡ who
  pub fresh : IsFresh tree seat
  pub pushed : new ≡ old ++ seat ∷ []

pub record HasRogue (tree : Tree) (who : Device) (old new : List Rogue) : Type 0 where
  pub rogue : Rogue
  pub own : rogue.device ≡ who
  pub fresh : IsFreshRogue tree rogue
  pub pushed : new ≡ old ++ rogue ∷ []

-- a member is declared with this key, and all else is as it was
pub record IsNamed (member : ℕ) (key : List ℕ) (old new : Cast) : Type 0 where
  pub tree : new.tree ≡ old.tree
  pub declared : new.declared.items
      ≡ old.declared.items ++ record { member = member; key = key } ∷ []
  pub unpaired : new.unpaired.items ≡ old.unpaired.items
  pub founders : new.founders.items ≡ old.founders.items
