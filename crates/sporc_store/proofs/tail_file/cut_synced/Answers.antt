use Rattle.sporc_store.proofs.TailWrites.{cuts_then}
use Rattle.sporc_store.proofs.tail_file.cut_synced.Goals as goal

pub returns-clause-cuts : goal.returns-clause-cuts
returns-clause-cuts g c =
    cuts_then g.A.AppendFile.told g.met.A.AppendFile.stored_is_image c.args.file.now c.cut.new.self c.sync.new.self
    c.sync.ensures.stored c.sync.ensures.images c.args.len c.sync.result c.cut.ensures.images c.in_ok-cut.ensures.cut c.sync.ensures.durable
