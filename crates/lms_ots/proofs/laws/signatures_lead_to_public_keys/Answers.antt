use Rattle.lms_ots.proofs.SignatureLemmas.{signatures_lead}
use Rattle.lms_ots.proofs.laws.signatures_lead_to_public_keys.Goals as goal

pub returns : goal.returns
returns c = signatures_lead
