use Rattle.std.proofs.Common.{arith}
use Rattle.sporc_keys.proofs.KeyFileLaws.{key_file_takes}
use Rattle.sporc_keys.proofs.key_file.key_of_device.Goals as goal

pub returns-in-Ok-clause-found : goal.returns-in-Ok-clause-found
returns-in-Ok-clause-found c =
    key_file_takes c.args.device c.args.bytes.now c.in-Ok.file (λ i. omega (arith, c.type_inv.bytes i)) c.in-Ok.ensures
