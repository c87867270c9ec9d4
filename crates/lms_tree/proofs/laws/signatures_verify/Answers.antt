use Rattle.lms_tree.proofs.SignatureLemmas as lemmas
use Rattle.lms_tree.proofs.laws.signatures_verify.Goals as goal

pub returns : goal.returns
returns c = lemmas.signatures_verify
