use Rattle.std.proofs.Common.{arith}
use Rattle.std.proofs.lemmas.Nat.{be_bytes_8}
use Rattle.sporc_bytes.proofs.cursor.number_of.Goals as goal

pub returns-clause-spelled : goal.returns-clause-spelled
returns-clause-spelled c = be_bytes_8 c.args.bytes.now _ c.requires (λ i. omega (arith, c.type_inv.bytes i)) c.from_be_bytes.ensures
