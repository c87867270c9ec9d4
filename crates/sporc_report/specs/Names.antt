-- The names of faults in a report. The variant `Memory` of each has none.
use Rattle.std.specs.Prelude.{ℕ, List, [], ◌++◌, codes}
use Rattle.std.specs.Fmt.{decimal}
use Rattle.sporc_client.specs.declared.fault.AcceptFault.{AcceptFault}
use Rattle.sporc_client.specs.declared.fault.AcceptFault.TheVariants as accepts
use Rattle.sporc_client.specs.declared.fault.EditFault.{EditFault}
use Rattle.sporc_client.specs.declared.fault.EditFault.TheVariants as edits
use Rattle.sporc_client.specs.declared.fault.SubmitFault.{SubmitFault}
use Rattle.sporc_client.specs.declared.fault.SubmitFault.TheVariants as submits
use Rattle.sporc_epoch.specs.declared.fault.HintFault.{HintFault}
use Rattle.sporc_epoch.specs.declared.fault.HintFault.TheVariants as hints
use Rattle.sporc_head.specs.Refusal.{refusal_name}
use Rattle.sporc_line.specs.declared.fault.LineOpenFault.{LineOpenFault}
use Rattle.sporc_line.specs.declared.fault.LineOpenFault.TheVariants as opens

abbrev pub edit_fault_name : EditFault → List ℕ
edit_fault_name edits.Removed = codes "removed"
edit_fault_name edits.NoRight = codes "no-right"
edit_fault_name (edits.SeenAhead events) = codes "seen-ahead"
edit_fault_name edits.WrongLength = codes "wrong-length"
edit_fault_name (edits.TooLong bytes) = codes "too-long"
edit_fault_name edits.PendingFull = codes "pending-full"
edit_fault_name edits.JournalFull = codes "journal-full"
edit_fault_name edits.Memory = []

abbrev pub submit_fault_name : SubmitFault → List ℕ
submit_fault_name submits.Removed = codes "removed"
submit_fault_name submits.NoRight = codes "no-right"
submit_fault_name submits.HistoryFull = codes "history-full"
submit_fault_name submits.JournalFull = codes "journal-full"
submit_fault_name (submits.HeadTooLong bytes) = codes "head-too-long " ++ decimal bytes
submit_fault_name (submits.NoPairKey member) = codes "no-pair-key " ++ decimal member
submit_fault_name (submits.Exhausted next) = codes "exhausted"
submit_fault_name submits.LeafFault = codes "leaf-fault"
submit_fault_name submits.Memory = []

abbrev pub accept_fault_name : AcceptFault → List ℕ
accept_fault_name (accepts.Refused refusal) = refusal_name refusal
accept_fault_name accepts.JournalFull = codes "journal-full"
accept_fault_name accepts.Memory = []

abbrev pub hint_fault_name : HintFault → List ℕ
hint_fault_name hints.NotAdded = codes "not-added"
hint_fault_name (hints.NoPairKey member) = codes "no-pair-key " ++ decimal member
hint_fault_name (hints.WrongKey epoch) = codes "wrong-key"
hint_fault_name hints.Memory = []

abbrev pub open_fault_name : LineOpenFault → List ℕ
open_fault_name opens.NoKey = codes "no-key"
open_fault_name opens.WrongKey = codes "wrong-key"
open_fault_name opens.Memory = []
