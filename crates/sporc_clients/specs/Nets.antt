-- A session over a link that a net hands out and takes back.
use Rattle.std.specs.Prelude.{◌≡◌, ℕ, List, Result, ⊤}
use Rattle.sporc_outside.specs.Counts.{Rose}
use Rattle.sporc_files.specs.declared.fault.Fault.{Fault}
use Rattle.sporc_files.specs.declared.fault.Fault.TheVariants as faults
use Rattle.sporc_outside.specs.Chances.{ChanceTold}
use Rattle.sporc_outside.specs.Uses.{Use}
use Rattle.sporc_outside.specs.Nets.{NetTold}
use Rattle.sporc_outside.specs.Streams.{StreamTold}
use Rattle.sporc_shared.specs.Items.{Past}
use Rattle.sporc_session.specs.declared.fault.SessionFault.{SessionFault}
use Rattle.sporc_clients.specs.declared.session.Wanted.{Wanted}
use Rattle.sporc_exchange.specs.Wires.{link_told}
use Rattle.sporc_device.specs.Links.{MakesNoLink, UsesLink}
use Rattle.sporc_clients.specs.Sessions.{IsSessionOf}

-- the net handed out a link to an address and took it back, shut and unused
pub record ShutsUnused (net : Use NetTold) (address : List ℕ) : Type 0 where
  pub first : StreamTold
  pub last : StreamTold
  pub uses : UsesLink net address first last
  pub unused : link_told last ≡ link_told first

-- Why no session began over a link to an address: no link was made, and the net's count of faults
-- rose above `low`, or memory ran out once it was
pub data NotBegun (address : List ℕ) (net : Use NetTold) (low : ℕ) (fault : Fault) : Type 0 where
  unreached : MakesNoLink net address → Rose low net.after.faults → fault ≡ faults.Outside
      → NotBegun address net low fault
  out_of_memory : ShutsUnused net address → fault ≡ faults.Memory → NotBegun address net low fault

-- a session over a link to an address
pub record IsWork (wanted : Wanted) (address : List ℕ) (before after : Past) (net : Use NetTold)
    (chance : Use ChanceTold) (result : Result ⊤ SessionFault) : Type 0 where
  pub first : StreamTold
  pub last : StreamTold
  pub uses : UsesLink net address first last
  pub session : IsSessionOf wanted before after
      (record { before = link_told first; after = link_told last }) chance result
