use Rattle.std.proofs.Common.{ap}
use Rattle.sporc_clients.proofs.LeavesTaken.{leaves_are_taken}
use Rattle.sporc_clients.proofs.concluding.conclude.Goals as goal

pub returns-clause-taken : goal.returns-clause-taken
returns-clause-taken g c =
    leaves_are_taken g.D.LeafDisk.told c.args.ended.client c.close.result.leaves c.close-disk.result (ap (λ s. s.leaves) c.close.ensures.value) c.close-disk.ensures.value
    c.close.ensures.drawn c.close.ensures.since_open c.close.ensures.taken c.close.ensures.passed
