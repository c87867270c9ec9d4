use Rattle.sporc_text.proofs.ChunkLemmas.{behind_at}
use Rattle.sporc_text.proofs.edit.from_place.Goals as goal

pub returns : goal.returns
returns c =
    let found = behind_at c.args.chunks.now c.split_at.result.1.now c.args.place c.find-i.result.0 c.find-i.result.1 c.find-i.ensures c.split_at.ensures.back in
    record { behind = found.behind; len = found.len; within = found.within }
