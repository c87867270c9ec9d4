use Rattle.std.proofs.Common.{arith}
use Rattle.sporc_entry.proofs.GenesisLaws.{genesis_found, genesis_only}
use Rattle.sporc_entry.proofs.genesis.read_genesis.Goals as goal

pub returns-clause-found : goal.returns-clause-found
returns-clause-found c = genesis_found c.args.bytes.now c.read_tested.result (λ i. omega (arith, c.type_inv.bytes i)) c.read_tested.ensures

pub returns-clause-only : goal.returns-clause-only
returns-clause-only c = genesis_only c.args.bytes.now c.read_tested.result c.read_tested.ensures
