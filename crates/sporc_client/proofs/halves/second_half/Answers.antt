use Rattle.std.proofs.Common.{drop, arith, ◌∙◌}
use Rattle.sporc_client.proofs.Common.{length-drop, take_all}
use Rattle.sporc_client.proofs.halves.second_half.Goals as goal

pub returns : goal.returns
returns c = record { value = c.copy_from_slice.ensures.after ∙ take_all 32 (drop 32 c.args.random.now) (omega (arith, length-drop 32 c.args.random.now, c.told-random)) }
