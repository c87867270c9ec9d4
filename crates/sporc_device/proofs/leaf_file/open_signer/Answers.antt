use Rattle.std.proofs.Common.{◌≢◌, ℕ, ap, ◌∙◌, refl, subst}
use Rattle.sporc_device.proofs.Common.{block_count}
use Rattle.lms_tree.specs.declared.public_key.LmsPublic.{LmsPublic}
use Rattle.lms_tree.specs.LmsType.{height_of}
use Rattle.sporc_device.proofs.LeafFiles.{keeps_passed, kept_to}
use Rattle.sporc_device.proofs.leaf_file.open_signer.Goals as goal

pub returns-in-Err-BadLength-default-clause-err : goal.returns-in-Err-BadLength-default-clause-err
returns-in-Err-BadLength-default-clause-err g c =
    let len = c.in-Err-BadLength-default.len in
    let wrong = c.in-Err-BadLength-default.ensures.err.bad_length len c.in-Err-BadLength-default.field-0-0-is in
    (refl, subst (λ (h : ℕ). len ≢ block_count h) (c.height-height.ensures.value ∙ ap (λ (p : LmsPublic). height_of p.lms) c.public.ensures.value) wrong.0, wrong.1)

pub returns-in-Ok-clause-passed : goal.returns-in-Ok-clause-passed
returns-in-Ok-clause-passed g c =
    kept_to _ g.D.LeafDisk.told _ _ (ap (λ s. s.leaves.disk) c.open-in-Ok.ensures.value) (keeps_passed g.D.LeafDisk.told _ _ c.in-Ok.ensures.opens.stable)

pub returns-in-Err-BadLength-default-clause-kept_back : goal.returns-in-Err-BadLength-default-clause-kept_back
returns-in-Err-BadLength-default-clause-kept_back g c = keeps_passed g.D.LeafDisk.told _ _ c.in-Err-BadLength-default.ensures.opens.stable
