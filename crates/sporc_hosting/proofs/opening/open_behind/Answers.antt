use Rattle.sporc_hosting.proofs.Common.{LoggedOrder, use_of}
use Rattle.sporc_hosting.proofs.Opened.{behind_fails, behind_log}
use Rattle.sporc_hosting.proofs.opening.open_behind.Goals as goal

pub returns-in-Ok-clause-found : goal.returns-in-Ok-clause-found
returns-in-Ok-clause-found g c =
    let (log, at, tells) = c.in-Ok.ensures.found in
    behind_log (λ (it : LoggedOrder g.row.F-Appended.Denot). it.kept.order) (λ (it : LoggedOrder g.row.F-Appended.Denot). it.logged) (use_of g.F.Folder.told c.args.files.now c.read_log.new.files) _ _ g.F.Appended.AppendFile.told
    c.args.genesis log at c.in-Ok.order c.open_tail.result tells c.open_tail.ensures.found c.open_tail.ensures.logged

pub returns-in-Err-clause-found : goal.returns-in-Err-clause-found
returns-in-Err-clause-found g c =
    let (log, at, tells) = c.in-Err.ensures.found in
    behind_fails (λ (it : LoggedOrder g.row.F-Appended.Denot). it.kept.order) (λ (it : LoggedOrder g.row.F-Appended.Denot). it.logged) (use_of g.F.Folder.told c.args.files.now c.read_log.new.files) _ _ g.F.Appended.AppendFile.told
    c.args.genesis log at c.in-Err.fault c.args.file c.requires.limit tells

pub returns-in-Ok-clause-reads : goal.returns-in-Ok-clause-reads
returns-in-Ok-clause-reads g c = c.read_log.ensures.reads

pub returns-in-Err-clause-reads : goal.returns-in-Err-clause-reads
returns-in-Err-clause-reads g c = c.read_log.ensures.reads
