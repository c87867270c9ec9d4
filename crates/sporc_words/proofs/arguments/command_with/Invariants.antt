use Rattle.std.proofs.Common.{◌≡◌, drop, map}
use Rattle.sporc_words.proofs.Common.{grammar_of, named, rule_for, with_all}
use Rattle.sporc_words.proofs.arguments.command_with.Given as goal

abbrev pub invariant-loop-argument : goal.invariant-loop-argument
invariant-loop-argument l =
    with_all (grammar_of l.command) (map (λ a. rule_for a.0 a.1.now) (drop l.argument-index l.arguments)) ≡ with_all (named l.name) (map (λ a. rule_for a.0 a.1.now) l.arguments)
