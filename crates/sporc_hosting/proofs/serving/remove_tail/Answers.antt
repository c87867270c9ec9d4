use Rattle.std.proofs.Common.{arith}
use Rattle.sporc_hosting.proofs.serving.remove_tail.Goals as goal

pub returns-in-Ok-clause-kept : goal.returns-in-Ok-clause-kept
returns-in-Ok-clause-kept g c = omega (arith, c.faults-faults.ensures.value, g.met.F.Folder.faults_are_told c.args.files.now, c.remove.ensures.count.kept)

pub returns-in-Err-clause-kept : goal.returns-in-Err-clause-kept
returns-in-Err-clause-kept g c = omega (arith, c.faults-faults.ensures.value, g.met.F.Folder.faults_are_told c.args.files.now, c.remove.ensures.count.kept)
