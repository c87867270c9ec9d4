use Rattle.std.proofs.Common.{◌∙◌}
use Rattle.sporc_words.proofs.Common.{found_of, raw_values-rows}
use Rattle.sporc_words.proofs.matches.values.Goals as goal

pub returns : goal.returns
returns c = record { value = c.get_strs.ensures ∙ raw_values-rows (found_of c.args.matches.now) c.args.id.now }
