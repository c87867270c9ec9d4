use Rattle.std.proofs.Common.{◌≡◌, ◌++◌, w32}
use Rattle.std.specs.Int.{to_be_bytes}
use Rattle.lms_ots.specs.OtsType.{ots_code_of}
use Rattle.lms_ots.specs.Chains.{concatenated}
use Rattle.lms_ots.specs.Signatures.{signed_part}
use Rattle.lms_ots.proofs.signature.ots_sign.Given as goal

abbrev pub invariant-parts : goal.invariant-parts
invariant-parts l = l.signature.items ≡ to_be_bytes w32 (ots_code_of l.fn.t) ++ l.c ++ concatenated (signed_part l.fn.t l.id l.q l.seed l.string) l.i
