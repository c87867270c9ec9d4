use Rattle.sporc_words.proofs.HelpLines.{work_is_asked}
use Rattle.sporc_words.proofs.laws.help_takes_no_line_of_a_command.Goals as goal

pub returns : goal.returns
returns c = record { asked = λ words asked is. work_is_asked words asked is }
