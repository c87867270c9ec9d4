use Rattle.std.proofs.Common.{◌∙◌, subst, sym}
use Rattle.sporc_hosting.proofs.Common.{LoggedOrder, KeepsBehind, LogTailModel}
use Rattle.sporc_hosting.proofs.Opened.{tail_fails, tail_taken}
use Rattle.sporc_hosting.proofs.Tails.{opened_keeps}
use Rattle.sporc_hosting.proofs.opening.open_tail.Goals as goal

pub returns-in-Ok-clause-found : goal.returns-in-Ok-clause-found
returns-in-Ok-clause-found g c =
    tail_taken (λ (it : LoggedOrder g.row.A.Denot). it.kept.order) _ g.A.AppendFile.told c.args.order
    (record { kept = record { order = c.open.new.order; tail = c.new-tail.result }; logged = c.len-logged.result }) c.in-Ok.ensures.read c.open.ensures.genesis

pub returns-in-Err-clause-found : goal.returns-in-Err-clause-found
returns-in-Err-clause-found g c =
    tail_fails (λ (it : LoggedOrder g.row.A.Denot). it.kept.order) _ g.A.AppendFile.told c.args.order _ c.in-Err.fault _ c.in-Err.file c.fault_of_tail.ensures c.in-Err.ensures.err

pub returns-in-Ok-clause-tail : goal.returns-in-Ok-clause-tail
returns-in-Ok-clause-tail g c =
    subst (λ (t : LogTailModel g.row.A.Denot). KeepsBehind g.A.AppendFile.told t c.open.new.order.entries) (sym c.new-tail.ensures)
    (opened_keeps g.A.AppendFile.told c.in-Ok.tail _ _ c.args.order.entries _ (c.in-Ok.ensures.fresh.0 ∙ sym c.document-document.ensures.value)
    c.len-logged.ensures.value c.in-Ok.ensures.keeps)
