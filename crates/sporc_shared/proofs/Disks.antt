-- The count of the disk of a client's leaves, over a submission.
use Rattle.std.proofs.Common.{◌≡◌, ◌≢◌, ◌≤◌, ℕ, Bool, true, false, List, Option, None, Some, refl, sym, ap, ◌∙◌, subst, inl, inr, Result, Ok, Err, arith}
use Rattle.sporc_shared.proofs.Common.{ClientModel, state_of, PlainClient}
use Rattle.std.specs.Prelude.{◌⊎◌, ◌&&◌, is_none}
use Rattle.lms_leaf.specs.Leaves.{LeavesModel}
use Rattle.lms_leaf.specs.declared.faults.LeafFault.{LeafFault}
use Rattle.lms_leaf.specs.declared.faults.LeafFault.TheVariants as leaves
use Rattle.sporc_base.specs.Outcome.{GivesUnless}
use Rattle.sporc_outside.specs.LeafDisk.{DiskTold}
use Rattle.sporc_client.specs.declared.fault.SubmitFault.{SubmitFault}
use Rattle.sporc_client.specs.declared.fault.SubmitFault.TheVariants as submits
use Rattle.sporc_client.specs.declared.pending.Pending.{Pending}
use Rattle.sporc_client.specs.declared.submitted.Submitted.{Submitted}
use Rattle.sporc_client.specs.Drawing.{IsDraw, asks_draw, leaf_for}
use Rattle.sporc_client.specs.Submissions.{Due, Refuse, Sign, answered, due, is_signing, signed, submission}
use Rattle.sporc_shared.specs.Items.{disk_faults}

-- no check before the draw says that the disk failed
not_before : (c : PlainClient) → due c ≢ Refuse submits.LeafFault
unfolding due
not_before c is = grind arith

-- a submission answers so only if the draw of its leaf did
failed_draw : (c : PlainClient) (random : List ℕ) (leaf : Result ℕ LeafFault) → submission c random leaf ≡ Err submits.LeafFault → (is_signing (due c) ≡ true) × (leaf ≡ Err leaves.DiskFault)
unfolding submission
failed_draw c random leaf is = go (due c) refl is
  where
    by_leaf : (item : Pending) (leaf : Result ℕ LeafFault) → signed c random item leaf ≡ Err submits.LeafFault → leaf ≡ Err leaves.DiskFault
    by_leaf item (Ok n) is = absurd cc
    by_leaf item (Err (leaves.Exhausted n)) is = absurd cc
    by_leaf item (Err leaves.DiskFault) is = refl

    go : (d : Due) → due c ≡ d → answered c random leaf d ≡ Err submits.LeafFault → (is_signing (due c) ≡ true) × (leaf ≡ Err leaves.DiskFault)
    go (Refuse fault) of is = let same : fault ≡ submits.LeafFault = cc in absurd (not_before c (of ∙ ap Refuse same))
    go (Sign item) of is = (ap is_signing of, by_leaf item leaf is)
    go d of is = absurd cc

module _ {D : Type 0} (disk_told : D → DiskTold) (old new : ClientModel D) (result : Result Submitted SubmitFault)
    (drew : asks_draw old ≡ true → ((result ≡ Err submits.Memory) × (new.leaves ≡ old.leaves)) ⊎ IsDraw disk_told old.leaves new.leaves) where
  pub disk_kept : (asks_draw old ≡ false → new.leaves ≡ old.leaves) → disk_faults disk_told old ≤ disk_faults disk_told new
  disk_kept undrawn = go (asks_draw old) refl
    where
      same : new.leaves ≡ old.leaves → disk_faults disk_told old ≤ disk_faults disk_told new
      same is = omega (arith, ap (λ (l : LeavesModel D). (disk_told l.disk).faults) is)

      go : (b : Bool) → asks_draw old ≡ b → disk_faults disk_told old ≤ disk_faults disk_told new
      go false is = same (undrawn is)
      go true is = elim (drew is) [ inl p ↦ same p.1 | inr p ↦ p.fault.count ]

  -- the disk counted the fault that was answered
  pub disk_counted : (random : List ℕ) → GivesUnless submits.Memory (λ (s : Submitted). s) result (submission (state_of old) random (leaf_for old.ticket old.leaves new.leaves))
      → result ≡ Err submits.LeafFault → disk_faults disk_told new ≢ 0
  disk_counted random gives is none =
      let given = subst (λ (r : Result Submitted SubmitFault). GivesUnless submits.Memory (λ (s : Submitted). s) r (submission (state_of old) random (leaf_for old.ticket old.leaves new.leaves))) is gives in
      let failed = failed_draw (state_of old) random (leaf_for old.ticket old.leaves new.leaves) (given (λ e. absurd cc)) in
      go old.ticket refl failed.0 failed.1
    where
      go : (ticket : Option ℕ) → old.ticket ≡ ticket → is_signing (due (state_of old)) ≡ true → leaf_for ticket old.leaves new.leaves ≡ Err leaves.DiskFault → ⊥
      go (Some leaf) at signs broken = absurd cc
      go None at signs broken = elim (drew (ap (λ (t : Option ℕ). is_none t && is_signing (due (state_of old))) at ∙ signs)) [
        | inl p ↦ (let no = sym is ∙ p.0 in absurd cc)
        | inr p ↦ (let rose = p.fault.since_open broken in omega (arith, rose, none))
      ]
