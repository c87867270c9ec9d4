use Rattle.std.proofs.Common.{arith}
use Rattle.std.proofs.KnownBytes.{Consumes-trans}
use Rattle.std.proofs.lemmas.Grind.{common_steps}
use Rattle.sporc_outside.proofs.reading.read_all.Goals as goal

pub returns-in_err-extend_from_slice-clause-taken : goal.returns-in_err-extend_from_slice-clause-taken
returns-in_err-extend_from_slice-clause-taken g c =
    (_, grind (arith, common_steps), Consumes-trans _ _ _ _ _ c.loop-buf.invariant.taken c.in_ok-n.ensures.did.bytes.0)
