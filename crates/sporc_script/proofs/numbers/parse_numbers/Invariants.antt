use Rattle.std.proofs.Common.{length}
use Rattle.sporc_script.proofs.NumberReaders.{Follows}
use Rattle.sporc_script.proofs.numbers.parse_numbers.Given as goal

abbrev pub invariant-loop-word : goal.invariant-loop-word
invariant-loop-word l = Follows l.words l.numbers.items l.rest

abbrev pub decreases-loop-word : goal.decreases-loop-word
decreases-loop-word l = length l.rest
