use Rattle.std.proofs.Common.{rules}
use Rattle.lms_tree.proofs.VerificationLemmas.{verifies_is}
use Rattle.lms_tree.proofs.verification.verify_parts.Goals as goal

pub returns-then-has_form-clause-value : goal.returns-then-has_form-clause-value
returns-then-has_form-clause-value c = verifies_is _ _ _ _ (search rules)

pub returns-else-has_form-clause-value : goal.returns-else-has_form-clause-value
returns-else-has_form-clause-value c = verifies_is _ _ _ _ (search rules)
