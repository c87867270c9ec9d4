use Rattle.std.proofs.Common.{length, ap, ◌∙◌}
use Rattle.lms_tree.specs.LmsPrivate.{lms_public_of}
use Rattle.sporc_evidence.proofs.Signing.{signature_fits}
use Rattle.sporc_evidence.proofs.summarizing.sign_draft.Goals as goal

pub put_counted-requires : goal.put_counted-requires
put_counted-requires g c = signature_fits (lms_public_of c.args.signer.now.key) _ (ap length c.as_slice-in-Ok.ensures.value ∙ c.in-Ok.ensures.verifies.form.size)
