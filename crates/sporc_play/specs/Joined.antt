-- The seat of one who joins.
use Rattle.std.specs.Prelude.{ℕ, List, [], map, Option, None, Some, Result, Ok, Err}
use Rattle.lms_sign.specs.Signer.{SignerModel}
use Rattle.sporc_member.specs.declared.device.Device.{Device}
use Rattle.sporc_epoch.specs.Keys.{Keys}
use Rattle.sporc_line.specs.Kit.{kit_of}
use Rattle.sporc_memory.specs.MemoryDisk.{MemoryDiskModel}
use Rattle.sporc_client.specs.ClientModel.{ClientModel}
use Rattle.sporc_client.specs.Run.{Setup}
use Rattle.sporc_script.specs.declared.command.Join.{Join}
use Rattle.sporc_play.specs.declared.made.Found.{Found}
use Rattle.sporc_play.specs.declared.made.Found.TheVariants.{Entries, Missing}
use Rattle.sporc_play.specs.declared.seat.Seat.{Seat}
use Rattle.sporc_play.specs.Scene.{Joining, Opens, entries_at, joining_of}
use Rattle.sporc_play.specs.Seats.{plain_in}

-- entries by their numbers, or the first number that none has
abbrev pub entries_found : Found → Result (List (List ℕ)) ℕ
entries_found (Entries entries) = Ok (map (λ v. v.items) entries.items)
entries_found (Missing number) = Err number

-- the client of a device that opens with this ring
abbrev pub client_with : {D : Type 0} → Setup → Device → Keys → SignerModel D → ClientModel D
client_with s who ring signer = record {
  opening = record { genesis = s.genesis; kit = kit_of who ring (s.pairs who); key = signer.key };
  log = [];
  leaves = signer.leaves;
  ticket = None;
}

-- a seat whose client opens with this ring
abbrev pub seat_open : Setup → Keys → Seat → Option (SignerModel MemoryDiskModel) → Seat
seat_open s ring seat None = seat
seat_open s ring seat (Some signer) =
    record seat { signer = None; client = Some (client_with s seat.device ring signer) }

-- a seat whose device joined
abbrev pub seat_joined : Setup → Seat → Joining → Seat
seat_joined s seat (Opens ring) = seat_open s ring seat seat.signer
seat_joined s seat joining = seat

-- what becomes of the device of a seat that joins by some of these entries
abbrev pub seat_joining : Setup → List (List ℕ) → Join → Seat → Joining
seat_joining s made j seat = joining_of s seat.device (entries_at made j.entries) (plain_in seat)
