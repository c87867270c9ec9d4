use Rattle.std.proofs.Common.{◌≡◌}
use Rattle.lms_ots.specs.OtsType.{width_of}
use Rattle.lms_ots.specs.Coefficients.{shortfall}
use Rattle.lms_ots.proofs.coefficients.checksum.Given as goal

abbrev pub invariant-coefficients : goal.invariant-coefficients
invariant-coefficients l = l.sum ≡ shortfall l.q (width_of l.t) l.i
