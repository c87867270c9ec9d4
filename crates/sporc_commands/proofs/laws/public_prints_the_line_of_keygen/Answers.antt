use Rattle.sporc_commands.proofs.Showing.{one_line}
use Rattle.sporc_commands.proofs.laws.public_prints_the_line_of_keygen.Goals as goal

pub returns : goal.returns
returns c = record { line = one_line }
