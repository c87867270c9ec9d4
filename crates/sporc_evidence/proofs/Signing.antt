-- A summary that is signed: the draw behind it, and its file.
use Rattle.std.proofs.Common.{◌≡◌, ℕ, ◌^◌, ◌<◌, ◌≤◌, List, ◌++◌, Result, Ok, Err, refl, sym, ap, subst, ◌∙◌, arith}
use Rattle.std.specs.Prelude.{IfErr, IfOk}
use Rattle.lms_ots.specs.declared.ots_type.OtsType.{OtsType}
use Rattle.lms_ots.specs.declared.ots_type.OtsType.TheVariants.{W1}
use Rattle.lms_ots.specs.OtsType.{ots_signature_len_of}
use Rattle.lms_tree.specs.declared.public_key.LmsPublic.{LmsPublic}
use Rattle.lms_tree.specs.LmsPrivate.{LmsPrivate}
use Rattle.lms_tree.specs.Signatures.{lms_signature_of}
use Rattle.lms_tree.specs.Verification.{lms_signature_len_of}
use Rattle.lms_tree.proofs.SignatureLemmas.{height_fits}
use Rattle.lms_leaf.specs.Leaves.{DrawFaults, Draws, LeavesModel}
use Rattle.lms_leaf.specs.declared.faults.LeafFault.{LeafFault as DrawFault}
use Rattle.lms_leaf.specs.declared.faults.LeafFault.TheVariants as leaf_faults
use Rattle.sporc_bytes.specs.Fields.{counted}
use Rattle.sporc_outside.specs.LeafDisk.{DiskTold}
use Rattle.sporc_evidence.specs.declared.fault.SummaryFault.{SummaryFault}
use Rattle.sporc_evidence.specs.declared.fault.SummaryFault.TheVariants.{Exhausted, LeafFault, Memory}
use Rattle.sporc_evidence.specs.Summary.{SummaryModel}
use Rattle.sporc_evidence.specs.SummaryBytes.{signed_string, summary_bytes}
use Rattle.sporc_evidence.specs.Summarizing.{DrewOnce, draw_fault, draw_of, signed_by}

-- ---- the draw

pub drew_once : {D X : Type 0} (told : D → DiskTold) (old : LeavesModel D) (answer : Result ℕ DrawFault) (r : Result X SummaryFault) (new : LeavesModel D) → draw_of old.next r ≡ answer
    → Draws told old answer new → DrawFaults told old answer new → DrewOnce told old r new
drew_once told old answer r new e draw fault = record {
  draw = subst (λ (a : Result ℕ DrawFault). Draws told old a new) (sym e) draw;
  fault = subst (λ (a : Result ℕ DrawFault). DrawFaults told old a new) (sym e) fault;
}

abbrev undrawn : (X : Type 0) → DrawFault → Result X SummaryFault
undrawn X fault = Err (draw_fault fault)

pub fault_is : {X : Type 0} (next : ℕ) (fault : DrawFault) (r : Result X SummaryFault) → r ≡ undrawn X fault → draw_of next r ≡ Err fault
fault_is next (leaf_faults.Exhausted count) r e = rw e refl
fault_is next leaf_faults.DiskFault r e = rw e refl

pub leaf_is : {X : Type 0} (next leaf : ℕ) (r : Result X SummaryFault) → leaf ≡ next → IfErr r (λ fault. fault ≡ Memory) → draw_of next r ≡ Ok leaf
leaf_is next leaf (Ok file) e h = ap (λ (n : ℕ). Ok n) (sym e)
leaf_is next leaf (Err Memory) e h = ap (λ (n : ℕ). Ok n) (sym e)
leaf_is next leaf (Err (Exhausted count)) e h = absurd cc
leaf_is next leaf (Err LeafFault) e h = absurd cc

-- ---- the file

-- what a leaf that was drawn signed so is the file of a summary
pub signed_is : {X : Type 0} (r : Result X SummaryFault) (items : X → List ℕ) (key now : LmsPrivate) (next leaf : ℕ) (c message file : List ℕ) (x : SummaryModel) → now ≡ key → leaf ≡ next → message ≡ signed_string x → file ≡ summary_bytes x
    → IfOk r (λ made. items made ≡ file ++ counted (lms_signature_of now leaf c message)) → IfOk r (λ made. items made ≡ signed_by key next c x)
signed_is (Ok made) items key now next leaf c message file x one two three four h =
    let e : file ++ counted (lms_signature_of now leaf c message) ≡ signed_by key next c x = rw (one, two, three, four) refl in
    h ∙ e
signed_is (Err fault) items key now next leaf c message file x one two three four h = tt

-- ---- how long a signature is

most_parts : (t : OtsType) → ots_signature_len_of t ≤ 8516
most_parts W1 = omega arith
most_parts t = omega arith

pub signature_fits : (key : LmsPublic) (n : ℕ) → n ≡ lms_signature_len_of key → n < 2 ^ 32
signature_fits key n e = omega (arith, e, most_parts key.ots, height_fits key.lms)
