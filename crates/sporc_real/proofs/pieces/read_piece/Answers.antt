use Rattle.std.proofs.KnownBytes.{Keeps-refl, Keeps-trans}
use Rattle.sporc_real.proofs.Retries.{read_later}
use Rattle.sporc_real.proofs.pieces.read_piece.Goals as goal

pub loop-init : goal.loop-init
loop-init g c = Keeps-refl _

pub returns-in_default-clause-bytes : goal.returns-in_default-clause-bytes
returns-in_default-clause-bytes g c = Keeps-trans _ _ _ c.loop.invariant c.in-Err.ensures.bytes

pub returns-in_default-2-clause-bytes : goal.returns-in_default-2-clause-bytes
returns-in_default-2-clause-bytes g c = read_later _ _ _ _ _ c.loop.invariant c.read.ensures.bytes

pub loop-preserved : goal.loop-preserved
loop-preserved g c = Keeps-trans _ _ _ c.loop.invariant c.in-Err.ensures.bytes
