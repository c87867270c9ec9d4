-- What a signed summary is, and what the drawing of its leaf did.
use Rattle.std.specs.Prelude.{ℕ, List, Result, Ok, Err}
use Rattle.sporc_outside.specs.LeafDisk.{DiskTold}
use Rattle.lms_tree.specs.LmsPrivate.{LmsPrivate}
use Rattle.lms_tree.specs.Signatures.{lms_signature_of}
use Rattle.lms_leaf.specs.Leaves.{DrawFaults, Draws, LeavesModel}
use Rattle.lms_leaf.specs.declared.faults.LeafFault.{LeafFault as DrawFault}
use Rattle.lms_leaf.specs.declared.faults.LeafFault.TheVariants as leaf_faults
use Rattle.sporc_evidence.specs.declared.fault.SummaryFault.{SummaryFault}
use Rattle.sporc_evidence.specs.declared.fault.SummaryFault.TheVariants.{Exhausted, LeafFault}
use Rattle.sporc_evidence.specs.declared.fault.SummaryFault.TheVariants.{Memory}
use Rattle.sporc_evidence.specs.Summary.{SummaryModel}
use Rattle.sporc_evidence.specs.SummaryBytes.{signed_string, summary_file}

-- the file of a summary that a leaf signed, with 32 random bytes
abbrev pub signed_by : LmsPrivate → ℕ → List ℕ → SummaryModel → List ℕ
signed_by key leaf c x = summary_file x (lms_signature_of key leaf c (signed_string x))

-- the fault of a call whose draw had this one
abbrev pub draw_fault : DrawFault → SummaryFault
draw_fault (leaf_faults.Exhausted next) = Exhausted next
draw_fault leaf_faults.DiskFault = LeafFault

-- what the draw of a call answered, where it drew: the next leaf, also if the call ran out of
-- memory after it
abbrev pub draw_of : {X : Type 0} → ℕ → Result X SummaryFault → Result ℕ DrawFault
draw_of next (Ok file) = Ok next
draw_of next (Err (Exhausted count)) = Err (leaf_faults.Exhausted count)
draw_of next (Err LeafFault) = Err leaf_faults.DiskFault
draw_of next (Err Memory) = Ok next

-- a call with this answer drew one leaf
pub record DrewOnce {D X : Type 0} (disk_told : D → DiskTold) (old : LeavesModel D)
    (result : Result X SummaryFault) (new : LeavesModel D) : Type 0 where
  pub draw : Draws disk_told old (draw_of old.next result) new
  pub fault : DrawFaults disk_told old (draw_of old.next result) new
