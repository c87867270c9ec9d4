use Rattle.std.proofs.Common.{◌≡◌, length, drop}
use Rattle.sporc_delta.proofs.Common.{same_parts}
use Rattle.sporc_delta.proofs.part.are_same_parts.Given as goal

abbrev pub invariant-loop-i : goal.invariant-loop-i
invariant-loop-i l = record {
  lengths : length l.a ≡ length l.b;
  rest : same_parts (drop l.i l.a) (drop l.i l.b) ≡ same_parts l.a l.b;
}
