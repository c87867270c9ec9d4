use Rattle.sporc_store.proofs.TailWrites.{writes_then}
use Rattle.sporc_store.proofs.tail_file.append_synced.Goals as goal

pub returns-clause-writes : goal.returns-clause-writes
returns-clause-writes g c =
    writes_then g.A.AppendFile.told g.met.A.AppendFile.stored_is_image c.args.file.now c.append.new.self c.sync.new.self
    c.sync.ensures.stored c.sync.ensures.images c.args.bytes.now c.sync.result c.append.ensures.images c.in_ok-append.ensures.appended c.sync.ensures.durable
