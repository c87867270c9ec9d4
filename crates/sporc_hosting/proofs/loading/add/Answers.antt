use Rattle.std.proofs.Common.{arith}
use Rattle.sporc_hosting.proofs.Loaded.{not_added}
use Rattle.sporc_hosting.proofs.loading.add.Goals as goal

pub returns-in-Err-clause-value : goal.returns-in-Err-clause-value
returns-in-Err-clause-value g c =
    not_added c.args.number c.args.held.now.docs c.args.opened.kept.order c.in-Err.fault c.fault_of.result
    (λ same. let full = (c.in-Err.ensures.full same).1 in omega (arith, full, c.requires.limit)) c.in-Err.ensures.exists c.fault_of.ensures.exists c.fault_of.ensures.memory

pub returns-in-Err-clause-kept : goal.returns-in-Err-clause-kept
returns-in-Err-clause-kept g c = omega (arith, c.faults-faults.ensures.value, g.met.F.Folder.faults_are_told c.args.files.now, c.take_file.ensures.kept)
