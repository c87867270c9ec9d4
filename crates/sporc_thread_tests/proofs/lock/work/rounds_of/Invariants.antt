use Rattle.std.proofs.Common.{◌≡◌}
use Rattle.sporc_turn.specs.Passes.{IsPassOf, known_of}
use Rattle.sporc_thread_tests.proofs.lock.work.rounds_of.Given as goal

abbrev pub invariant-rounds : goal.invariant-rounds
invariant-rounds g l = IsPassOf l.turn l.mine × ((known_of l.mine).number ≡ (known_of l.initial.mine).number)
