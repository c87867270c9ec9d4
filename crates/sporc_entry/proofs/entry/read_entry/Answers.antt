use Rattle.std.proofs.Common.{arith}
use Rattle.sporc_entry.proofs.EntryLaws.{entry_found, entry_sized, entry_only}
use Rattle.sporc_entry.proofs.entry.read_entry.Goals as goal

pub returns-clause-found : goal.returns-clause-found
returns-clause-found c = entry_found c.args.bytes.now c.read_copied.result (λ i. omega (arith, c.type_inv.bytes i)) c.read_copied.ensures

pub returns-clause-within : goal.returns-clause-within
returns-clause-within c = entry_sized c.args.bytes.now c.read_copied.result (entry_found c.args.bytes.now c.read_copied.result (λ i. omega (arith, c.type_inv.bytes i)) c.read_copied.ensures)

pub returns-clause-only : goal.returns-clause-only
returns-clause-only c = entry_only c.args.bytes.now c.read_copied.result c.read_copied.ensures
