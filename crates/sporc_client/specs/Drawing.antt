-- The leaf of a submission: that of the ticket that is kept, or else one that is drawn.
use Rattle.std.specs.Prelude.{◌≡◌, ℕ, ◌^◌, ◌<◌, ◌==◌, Bool, true, false, ◌&&◌, is_none, ◌++◌}
use Rattle.std.specs.Prelude.{if◌then◌else◌, Option, None, Some, Result, Ok, Err, ⊤}
use Rattle.sporc_outside.specs.LeafDisk.{DiskTold}
use Rattle.lms_tree.specs.LmsType.{height_of}
use Rattle.lms_leaf.specs.Leaves.{DrawFaults, Draws, LeavesModel}
use Rattle.lms_leaf.specs.declared.faults.LeafFault.{LeafFault}
use Rattle.lms_leaf.specs.declared.faults.LeafFault.TheVariants.{Exhausted, DiskFault}
use Rattle.sporc_client.specs.declared.fault.SubmitFault.{SubmitFault}
use Rattle.sporc_client.specs.declared.submitted.Submitted.{Submitted}
use Rattle.sporc_client.specs.declared.submitted.Submitted.TheVariants as submitted
use Rattle.sporc_client.specs.ClientModel.{ClientModel, state_of}
use Rattle.sporc_client.specs.PlainClient.{PlainClient}
use Rattle.sporc_client.specs.Submissions.{due, is_signing, submission_added}

-- what a draw answered, by the leaf numbers before and after it
abbrev pub drawn : {D : Type 0} → LeavesModel D → LeavesModel D → Result ℕ LeafFault
drawn old new =
    if old.next == old.leaf_count then Err (Exhausted old.next)
    else if new.faulty then Err DiskFault
    else Ok old.next

-- what the drawing of a leaf may answer a client: a leaf of its key, or that all of them are drawn,
-- with their number
abbrev pub MayDraw : PlainClient → Result ℕ LeafFault → Type 0
MayDraw c (Ok leaf) = leaf < 2 ^ height_of c.opening.key.lms
MayDraw c (Err (Exhausted next)) = next ≡ 2 ^ height_of c.opening.key.lms
MayDraw c (Err DiskFault) = ⊤

-- a draw made these of the leaf numbers
pub record IsDraw {D : Type 0} (disk_told : D → DiskTold)
    (old new : LeavesModel D) : Type 0 where
  pub leaf : Draws disk_told old (drawn old new) new
  pub fault : DrawFaults disk_told old (drawn old new) new

-- the leaf for a submission: the kept ticket's, or what a draw answered
abbrev pub leaf_for : {D : Type 0} → Option ℕ → LeavesModel D → LeavesModel D → Result ℕ LeafFault
leaf_for (Some leaf) old new = Ok leaf
leaf_for None old new = drawn old new

-- the leaf at hand: the kept ticket's, or one that was drawn
abbrev pub at_hand : {D : Type 0} → Option ℕ → LeavesModel D → LeavesModel D → Option ℕ
at_hand (Some leaf) old new = Some leaf
at_hand None old new = if new.next == old.next then None else Some old.next

-- the leaf that is kept afterwards: an entry spends it
abbrev pub kept_after : {D : Type 0} → Option ℕ → LeavesModel D → LeavesModel D → Bool → Option ℕ
kept_after ticket old new true = None
kept_after ticket old new false = at_hand ticket old new

-- whether a submission gave an entry
abbrev pub gives_entry : Result Submitted SubmitFault → Bool
gives_entry (Ok submitted.Waiting) = false
gives_entry (Ok submitted.Nothing) = false
gives_entry (Ok (submitted.Dropped fault)) = false
gives_entry (Ok (submitted.Entry entry)) = true
gives_entry (Err fault) = false

-- whether a submission asks for a draw: an entry is to be signed, and no ticket is kept
abbrev pub asks_draw : {D : Type 0} → ClientModel D → Bool
asks_draw c = is_none c.ticket && is_signing (due (state_of c))

-- a client after a submission with this answer, which left these leaves
abbrev pub submitted_with : {D : Type 0} → ClientModel D → ℕ → Result Submitted SubmitFault
    → LeavesModel D → ClientModel D
submitted_with c by result leaves = record c {
  log = c.log ++ submission_added by result;
  leaves = leaves;
  ticket = kept_after c.ticket c.leaves leaves (gives_entry result);
}
