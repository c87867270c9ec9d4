use Rattle.std.proofs.Common.{ap, subst}
use Rattle.sporc_hosting.proofs.Common.{LogTailModel}
use Rattle.sporc_store.specs.TailFiles.{Puts}
use Rattle.sporc_hosting.proofs.Tails.{put_keeps, put_leaves}
use Rattle.sporc_hosting.proofs.tail.LogTailTail.put.Goals as goal

pub returns-clause-ok : goal.returns-clause-ok
returns-clause-ok g c =
    let new : LogTailModel g.row.A.Denot = record { tail = c.put.new.self; document = c.self.inside.document; logged = c.self.inside.logged } in
    put_keeps g.A.AppendFile.told c.args.self.now new c.args.position c.args.entry.now
    (ap (λ (t : LogTailModel g.row.A.Denot). t.document) c.self.view_is) (ap (λ (t : LogTailModel g.row.A.Denot). t.logged) c.self.view_is) c.put.result
    (subst (λ (t : LogTailModel g.row.A.Denot). Puts g.A.AppendFile.told t.tail c.args.position c.args.entry.now c.put.result c.put.new.self) c.self.view_is
    c.put.ensures.puts)

pub returns-clause-err : goal.returns-clause-err
returns-clause-err g c =
    let new : LogTailModel g.row.A.Denot = record { tail = c.put.new.self; document = c.self.inside.document; logged = c.self.inside.logged } in
    put_leaves g.A.AppendFile.told c.args.self.now new c.args.position c.args.entry.now
    (ap (λ (t : LogTailModel g.row.A.Denot). t.document) c.self.view_is) (ap (λ (t : LogTailModel g.row.A.Denot). t.logged) c.self.view_is) c.put.result
    (subst (λ (t : LogTailModel g.row.A.Denot). Puts g.A.AppendFile.told t.tail c.args.position c.args.entry.now c.put.result c.put.new.self) c.self.view_is
    c.put.ensures.puts)
