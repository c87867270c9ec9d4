use Rattle.sporc_words.proofs.Added.{added}
use Rattle.sporc_words.proofs.arguments.with_argument.Goals as goal

pub returns : goal.returns
returns c = record { ok = added _ _ _ _ c.in_ok-command.ensures c.argument.ensures.local c.argument.ensures.rule }
