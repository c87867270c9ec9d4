use Rattle.std.proofs.Common.{Err}
use Rattle.sporc_serve.specs.declared.fault.ServeFault.TheVariants as faults
use Rattle.sporc_docs.proofs.Served.{serves_none}
use Rattle.sporc_docs.proofs.server.unserved.Goals as goal

pub returns-in-Ok-clause-served : goal.returns-in-Ok-clause-served
returns-in-Ok-clause-served g c os sessions =
    serves_none (g.N.Links.told c.args.net.now)
    (g.N.Links.told c.listen.new.self) sessions (Err faults.Memory) os
    c.listen.ensures.coming c.listen.ensures.returned tt

pub returns-in-Err-clause-served : goal.returns-in-Err-clause-served
returns-in-Err-clause-served g c os sessions =
    serves_none (g.N.Links.told c.args.net.now)
    (g.N.Links.told c.listen.new.self) sessions (Err faults.ListenFault) os
    c.listen.ensures.coming c.listen.ensures.returned c.in-Err.ensures.count.failed
