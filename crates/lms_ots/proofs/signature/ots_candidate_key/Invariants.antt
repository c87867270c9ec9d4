use Rattle.std.proofs.Common.{◌++◌}
use Rattle.sha2.specs.Hashers.{Holds256}
use Rattle.lms_ots.specs.Chains.{concatenated}
use Rattle.lms_ots.specs.Signatures.{public_prefix, ended_part}
use Rattle.lms_ots.proofs.signature.ots_candidate_key.Given as goal

abbrev pub invariant-parts : goal.invariant-parts
invariant-parts l = Holds256 l.hasher (public_prefix l.id l.q ++ concatenated (ended_part l.fn.t l.id l.q l.string l.signature) l.i)
