use Rattle.std.proofs.Common.{◌≡◌, Err, ℕ, Ok, length, rules, subst}
use Rattle.sporc_store.proofs.Common.{taken_to, Cuts, Writes, head_behind}
use Rattle.sporc_outside.specs.declared.counted.Failed.{Failed}
use Rattle.sporc_store.proofs.TailSettles.{settled, uncut}
use Rattle.sporc_store.proofs.tail_file.settle.Goals as goal

pub returns-in-Ok-clause-settles : goal.returns-in-Ok-clause-settles
returns-in-Ok-clause-settles g c = λ log bytes fits small few synced reads.
    let is16 : length c.args.document.now ≡ 16 = search rules in
    let cuts = subst (λ (kept : ℕ). Cuts g.A.AppendFile.told {E = Failed} kept c.args.file.now c.cut_synced.new.file (Ok tt)) c.counting-kept.ensures
    c.in-Ok.ensures.cuts in
    let writes = subst (λ (kept : ℕ). Writes g.A.AppendFile.told {E = Failed} (head_behind c.args.document.now kept) c.cut_synced.new.file
    c.head_written.new.file c.head_written.result) c.counting-kept.ensures c.head_written.ensures.writes in
    settled log c.args.document.now bytes is16 few small fits g.A.AppendFile.told (taken_to c.args.tail.now.entries.items c.args.tail.now.whole)
    c.args.file.now c.cut_synced.new.file c.head_written.new.file c.head_written.result reads synced tt cuts writes

pub returns-in-Err-clause-settles : goal.returns-in-Err-clause-settles
returns-in-Err-clause-settles g c = λ log bytes fits small few synced reads.
    let is16 : length c.args.document.now ≡ 16 = search rules in
    let cuts = subst (λ (kept : ℕ). Cuts g.A.AppendFile.told {E = Failed} kept c.args.file.now c.cut_synced.new.file (Err c.in-Err.failed))
    c.counting-kept.ensures c.in-Err.ensures.cuts in
    uncut log c.args.document.now bytes is16 few small fits g.A.AppendFile.told (taken_to c.args.tail.now.entries.items c.args.tail.now.whole)
    c.args.file.now c.cut_synced.new.file c.in-Err.failed reads synced cuts
