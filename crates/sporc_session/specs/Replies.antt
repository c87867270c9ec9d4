-- The replies of a shared client, and the faults of a session that they come to.
use Rattle.std.specs.Prelude.{◌≢◌, ℕ, List, Bool, true, false, Option, None, Some, Result, Ok, Err}
use Rattle.std.specs.Prelude.{⊤}
use Rattle.lms_leaf.specs.declared.faults.LeafFault.TheVariants as leaves
use Rattle.sporc_head.specs.declared.refusal.Refusal.{Refusal}
use Rattle.sporc_turn.specs.declared.pass.Pass.{Pass}
use Rattle.sporc_turn.specs.declared.turn.Worn.{Worn}
use Rattle.sporc_turn.specs.Passes.{IsWorn, watermark_of}
use Rattle.sporc_client.specs.declared.fault.AcceptFault.{AcceptFault}
use Rattle.sporc_client.specs.declared.fault.AcceptFault.TheVariants as accepts
use Rattle.sporc_client.specs.declared.fault.EditFault.{EditFault}
use Rattle.sporc_client.specs.declared.fault.EditFault.TheVariants as edits
use Rattle.sporc_client.specs.declared.fault.SubmitFault.{SubmitFault}
use Rattle.sporc_client.specs.declared.fault.SubmitFault.TheVariants as submits
use Rattle.sporc_client.specs.declared.submitted.Submitted.{Submitted}
use Rattle.sporc_client.specs.declared.submitted.Submitted.TheVariants as submitted
use Rattle.sporc_shared.specs.declared.answered.Answered.{Answered}
use Rattle.sporc_shared.specs.Items.{Item}
use Rattle.sporc_session.specs.declared.fault.SessionFault.{SessionFault}
use Rattle.sporc_session.specs.declared.fault.SessionFault.TheVariants as faults

-- the answer of a reply, or that no ticket was left, and the pass
abbrev pub plain_of : {A : Type 0} → Result (Answered A) (Pass Item × Worn)
    → Result A SessionFault × Pass Item
plain_of (Ok r) = (Ok r.answer, r.pass)
plain_of (Err e) = (Err (faults.Worn e.1.0), e.0)

-- the fault of a session in which an entry isn't accepted
abbrev pub taken_of : ℕ → Result ℕ AcceptFault → Result ⊤ SessionFault
taken_of position (Ok n) = Ok tt
taken_of position (Err (accepts.Refused refusal)) = Err (faults.Refused position refusal)
taken_of position (Err accepts.JournalFull) = Err faults.JournalFull
taken_of position (Err accepts.Memory) = Err faults.Memory

-- the entry that a submission made, or the fault of a session
abbrev pub made_of : Result Submitted SubmitFault → Result (Option (List ℕ)) SessionFault
made_of (Ok (submitted.Entry entry)) = Ok (Some entry)
made_of (Ok submitted.Waiting) = Ok None
made_of (Ok submitted.Nothing) = Ok None
made_of (Ok (submitted.Dropped fault)) = Ok None
made_of (Err submits.Removed) = Ok None
made_of (Err submits.NoRight) = Ok None
made_of (Err (submits.HeadTooLong len)) = Ok None
made_of (Err (submits.NoPairKey member)) = Ok None
made_of (Err submits.HistoryFull) = Err faults.HistoryFull
made_of (Err submits.JournalFull) = Err faults.JournalFull
made_of (Err (submits.Exhausted next)) = Err (faults.Leaf (leaves.Exhausted next))
made_of (Err submits.LeafFault) = Err (faults.Leaf leaves.DiskFault)
made_of (Err submits.Memory) = Err faults.Memory

-- the fault if an entry that was rejected is still on its way
abbrev pub checked_of : Refusal → Bool → Result ⊤ SessionFault
checked_of refusal true = Err (faults.ServerRejected refusal)
checked_of refusal false = Ok tt

-- the fault of a session in which an editor's line isn't done
abbrev pub edited_of : ℕ → ℕ → Result ℕ EditFault → Result ⊤ SessionFault
edited_of editor line (Ok n) = Ok tt
edited_of editor line (Err edits.JournalFull) = Err faults.JournalFull
edited_of editor line (Err edits.Memory) = Err faults.Memory
edited_of editor line (Err fault) = Err (faults.EditRefused editor line fault)

-- what the pass of a session that ended by this fault has read: that no ticket is left, or that the
-- disk of the leaves counted a fault
abbrev pub HasReadFor : Pass Item → SessionFault → Type 0
HasReadFor pass (faults.Worn ticket) = IsWorn pass
HasReadFor pass (faults.Leaf leaves.DiskFault) = watermark_of pass ≢ 0
HasReadFor pass _ = ⊤
