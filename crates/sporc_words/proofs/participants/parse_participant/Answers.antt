use Rattle.std.proofs.Common.{◌∙◌}
use Rattle.sporc_words.proofs.NamedLemmas.{at_none, at_some}
use Rattle.sporc_words.proofs.participants.parse_participant.Goals as goal

pub returns-in-Some : goal.returns-in-Some
returns-in-Some c =
    record { value = c.parse_parts.ensures.value ∙ at_some c.args.word.now c.split_once.result c.in-Some.number c.in-Some.name c.split_once.ensures.cases c.in-Some.is }

pub returns-in-None : goal.returns-in-None
returns-in-None c = record { value = at_none c.args.word.now c.split_once.result c.split_once.ensures.cases c.in-None.is }
