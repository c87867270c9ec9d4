use Rattle.std.proofs.Common.{◌∙◌}
use Rattle.sporc_words.proofs.Common.{found_of, first_value-rows}
use Rattle.sporc_words.proofs.matches.value.Goals as goal

pub returns : goal.returns
returns c = record { value = c.get_str.ensures ∙ first_value-rows (found_of c.args.matches.now) c.args.id.now }
