use Rattle.lms_leaf.proofs.SyncFirst.{synced_first}
use Rattle.lms_leaf.proofs.leaves.find_next.Goals as goal

pub returns-clause-synced_first : goal.returns-clause-synced_first
returns-clause-synced_first g c =
    synced_first g.D.LeafDisk.told c.args.disk.now c.sync.new.self c.len.new.self c.read.new.self
    c.in_ok-sync.ensures.stored c.in_ok-sync.ensures.images.later c.in_ok-sync.ensures.durable
    c.in_ok-len.ensures.stored c.in_ok-len.ensures.time c.in_ok-len.ensures.images
    c.in_ok-read.ensures.time c.in_ok-read.ensures.images
