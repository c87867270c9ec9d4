use Rattle.std.proofs.Common.{arith}
use Rattle.sporc_keys.proofs.RingFileLaws.{ring_file_found}
use Rattle.sporc_keys.proofs.ring_reading.read_ring_file.Goals as goal

pub returns-clause-found : goal.returns-clause-found
returns-clause-found c = ring_file_found c.args.bytes.now c.read_all.result (λ i. omega (arith, c.type_inv.bytes i)) c.read_all.ensures
