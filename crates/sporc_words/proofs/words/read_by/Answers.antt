use Rattle.sporc_words.proofs.Simple.{simple}
use Rattle.sporc_words.proofs.words.read_by.Goals as goal

pub read_matches-requires : goal.read_matches-requires
read_matches-requires c = simple c.args.verb _ c.in_ok-command.ensures.ok
