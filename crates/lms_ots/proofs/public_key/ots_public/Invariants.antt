use Rattle.std.proofs.Common.{◌++◌}
use Rattle.sha2.specs.Hashers.{Holds256}
use Rattle.lms_ots.specs.Chains.{concatenated}
use Rattle.lms_ots.specs.Signatures.{public_prefix, public_part}
use Rattle.lms_ots.proofs.public_key.ots_public.Given as goal

abbrev pub invariant-parts : goal.invariant-parts
invariant-parts l = Holds256 l.hasher (public_prefix l.id l.q ++ concatenated (public_part l.fn.t l.id l.q l.seed) l.i)
