use Rattle.std.specs.Str.Iter.{chars_rest}
use Rattle.sporc_delta.proofs.Counted.{Walked}
use Rattle.sporc_delta.proofs.text.place_of.Given as goal

abbrev pub invariant-loop : goal.invariant-loop
invariant-loop l = Walked l.text (chars_rest l.rest) l.counter
