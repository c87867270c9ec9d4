use Rattle.std.proofs.Common.{◌≡◌, List, ℕ, sym, subst, ap, ◌∙◌}
use Rattle.sporc_store.proofs.Common.{IfOk, Taken, read_to}
use Rattle.sporc_store.proofs.Taking.{is_opened, is_stopped}
use Rattle.sporc_store.proofs.reading.saved_entries.Goals as goal

pub returns-in-Ok-clause-ok : goal.returns-in-Ok-clause-ok
returns-in-Ok-clause-ok c =
    let is = is_opened c.args.document.now c.args.bytes.now (c.in-Ok.count, c.in-Ok.cursor) c.in-Ok.ensures.value in
    let P : Taken → Type 0 = λ saved. IfOk c.counted_entries.result (λ read. read_to read.0.items read.1 ≡ saved) in
    subst P (sym is) c.counted_entries.ensures.ok

pub returns-in-Err-clause-ok : goal.returns-in-Err-clause-ok
returns-in-Err-clause-ok c =
    ap (λ (es : List (List ℕ)). read_to es c.in-Err.stop) c.new.ensures.items
    ∙ is_stopped c.args.document.now c.args.bytes.now c.in-Err.stop c.in-Err.ensures.value
