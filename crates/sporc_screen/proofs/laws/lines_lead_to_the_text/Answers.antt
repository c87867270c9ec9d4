use Rattle.sporc_screen.proofs.Agreeing.{agree}
use Rattle.sporc_screen.proofs.laws.lines_lead_to_the_text.Goals as goal

pub returns : goal.returns
returns c = agree
