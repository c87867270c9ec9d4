use Rattle.std.proofs.Common.{◌≡◌, length}
use Rattle.sporc_words.proofs.Common.{has_twice}
use Rattle.sporc_words.proofs.participants.has_twice.Given as goal

abbrev pub invariant-loop-first : goal.invariant-loop-first
invariant-loop-first l = has_twice l.participants ≡ has_twice l.rest

abbrev pub decreases-loop-first : goal.decreases-loop-first
decreases-loop-first l = length l.rest
