use Rattle.sporc_words.proofs.Common.{grammar_of, rule_for}
use Rattle.sporc_words.proofs.Added.{all_more, all_there}
use Rattle.sporc_words.proofs.arguments.command_with.Goals as goal

pub loop-argument-preserved : goal.loop-argument-preserved
loop-argument-preserved c =
    all_more (λ a. rule_for a.0 a.1.now) c.args.arguments.now c.loop-argument.argument-index _ (grammar_of c.loop-argument.command) (grammar_of c.in_ok-command.command)
    _ c.loop-argument-test.true c.in_ok-command.ensures.ok c.loop-argument.invariant

pub returns : goal.returns
returns c = record {
  ok = all_there (λ a. rule_for a.0 a.1.now) c.args.arguments.now c.loop-argument.argument-index (grammar_of c.loop-argument.command) _ c.loop-argument-test.false c.loop-argument.invariant;
}
