use Rattle.lms_tree.proofs.VerificationLemmas.{verifies_decides}
use Rattle.lms_tree.proofs.laws.verification_computes.Goals as goal

pub returns : goal.returns
returns c = verifies_decides
