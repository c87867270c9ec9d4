use Rattle.std.proofs.Common.{arith}
use Rattle.std.proofs.lemmas.Grind.{common_steps}
use Rattle.lms_tree.specs.Verification.{root_in}
use Rattle.lms_tree.proofs.verification.root_in.Goals as goal

pub returns : goal.returns
unfolding root_in
returns c = grind (arith, common_steps)
