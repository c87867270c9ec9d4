-- What a fault of a session is for the program.
use Rattle.lms_leaf.specs.declared.faults.LeafFault.TheVariants as leaves
use Rattle.sporc_session.specs.declared.fault.SessionFault.{SessionFault}
use Rattle.sporc_session.specs.declared.fault.SessionFault.TheVariants as sessions
use Rattle.sporc_files.specs.declared.fault.Fault.{Fault}
use Rattle.sporc_files.specs.declared.fault.Fault.TheVariants as faults

abbrev pub fault_of_session : SessionFault → Fault
fault_of_session sessions.LinkFault = faults.Outside
fault_of_session (sessions.Refused position refusal) = faults.Refused position refusal
fault_of_session (sessions.NotSettled pending position) =
    faults.Unsettled pending position
fault_of_session (sessions.BadMessage place) = faults.Message place
fault_of_session (sessions.Leaf (leaves.Exhausted next)) = faults.Leaf next
fault_of_session (sessions.Leaf leaves.DiskFault) = faults.Outside
fault_of_session sessions.HistoryFull = faults.FullHistory
fault_of_session (sessions.ServerRejected refusal) = faults.Rejected refusal
fault_of_session sessions.JournalFull = faults.FullJournal
fault_of_session (sessions.EditRefused editor line fault) = faults.Edit editor line fault
fault_of_session (sessions.Worn ticket) = faults.Worn
fault_of_session sessions.ChanceFault = faults.Outside
fault_of_session (sessions.LinkEnded taken) = faults.LinkEnded taken
fault_of_session sessions.Memory = faults.Memory
