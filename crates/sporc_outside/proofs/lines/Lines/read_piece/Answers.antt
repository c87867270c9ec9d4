use Rattle.std.proofs.Common.{arith}
use Rattle.sporc_outside.proofs.LineLemmas.{known_behind}
use Rattle.sporc_outside.proofs.lines.Lines.read_piece.Goals as goal

pub invariant_of-self-2 : goal.invariant_of-self-2
invariant_of-self-2 g c = record {
  in_bounds = omega arith;
  known = known_behind _ _ _ _ c.self.invariant.known c.drop_front.ensures c.in_ok-n.ensures.ok.1;
  fits = c.self.invariant.fits;
}
