use Rattle.sporc_client.proofs.SubmitEntries.{can_make, made_allowed}
use Rattle.sporc_client.proofs.laws.allowed_submissions_can_be_made.Goals as goal

pub returns : goal.returns
returns c = record { made = λ s moves n by who c entry run at typed. (can_make s moves n by who c entry run at typed, made_allowed s moves n by who c entry run at) }
