use Rattle.std.proofs.Common.{sym, subst, ◌∙◌}
use Rattle.sporc_store.proofs.Common.{IsUnchecked}
use Rattle.sporc_store.proofs.Taking.{saved_unchecked, stop_opened, stop_unopened}
use Rattle.sporc_store.proofs.loading.saved_stop.Goals as goal

pub returns-in-Ok-clause-value : goal.returns-in-Ok-clause-value
returns-in-Ok-clause-value c = c.stop_of_entries.ensures.value ∙ sym (stop_opened c.args.document.now c.args.bytes.now _ _ c.in-Ok.ensures.value)

pub returns-in-Err-clause-value : goal.returns-in-Err-clause-value
returns-in-Err-clause-value c = sym (stop_unopened c.args.document.now c.args.bytes.now c.in-Err.stop c.in-Err.ensures.value)

pub returns-in-Err-clause-unchecked : goal.returns-in-Err-clause-unchecked
returns-in-Err-clause-unchecked c =
    subst IsUnchecked (stop_unopened c.args.document.now c.args.bytes.now c.in-Err.stop c.in-Err.ensures.value) (saved_unchecked c.args.document.now c.args.bytes.now)
