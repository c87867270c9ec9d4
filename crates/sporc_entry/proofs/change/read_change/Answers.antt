use Rattle.std.proofs.Common.{arith}
use Rattle.sporc_entry.proofs.ChangeLaws.{change_found, change_only}
use Rattle.sporc_entry.proofs.change.read_change.Goals as goal

pub returns-clause-found : goal.returns-clause-found
returns-clause-found c = change_found c.args.version c.args.body.now c.read_body.result (λ i. omega (arith, c.type_inv.body i)) c.read_body.ensures

pub returns-clause-only : goal.returns-clause-only
returns-clause-only c = change_only c.args.version c.args.body.now c.read_body.result c.read_body.ensures
