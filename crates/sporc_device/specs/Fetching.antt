-- The entries that a joiner's hints are taken from, fetched from a server.
use Rattle.std.specs.Prelude.{◌≡◌, ℕ, List, Result, Err}
use Rattle.sporc_outside.specs.Counts.{Rose}
use Rattle.sporc_outside.specs.Nets.{NetTold}
use Rattle.sporc_outside.specs.Streams.{StreamTold}
use Rattle.sporc_outside.specs.Uses.{Use}
use Rattle.sporc_files.specs.declared.fault.Fault.{Fault}
use Rattle.sporc_files.specs.declared.fault.Fault.TheVariants as faults
use Rattle.sporc_session.specs.declared.fault.SessionFault.{SessionFault}
use Rattle.sporc_session.specs.Fetches.{IsFetch}
use Rattle.sporc_exchange.specs.Wires.{InboxModel, empty_inbox, link_at}
use Rattle.sporc_device.specs.Causes.{fault_of_session}
use Rattle.sporc_device.specs.Links.{MakesNoLink, UsesLink}

module _ (address document : List ℕ) (member : ℕ) (net : Use NetTold) where
  -- all entries of a server were fetched over a link to an address, or a fault came
  pub record IsFetchAt (fetched : Result (List (List ℕ)) SessionFault) : Type 0 where
    pub first : StreamTold
    pub last : StreamTold
    pub uses : UsesLink net address first last
    pub inbox : InboxModel
    pub fetch : IsFetch (link_at first empty_inbox) (link_at last inbox) document member fetched

  -- why they were not: no link was made, and the net's count of faults rose, or a fault came over
  -- it
  pub data NotFetched (fault : Fault) : Type 0 where
    unreached : MakesNoLink net address → Rose net.before.faults net.after.faults
        → fault ≡ faults.Outside → NotFetched fault
    broken : {cause : SessionFault} → IsFetchAt (Err cause) → fault ≡ fault_of_session cause
        → NotFetched fault
