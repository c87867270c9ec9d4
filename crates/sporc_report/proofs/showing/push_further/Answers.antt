use Rattle.std.proofs.Common.{string_bytes}
use Rattle.sporc_report.proofs.Parts.{begins_in_err}
use Rattle.sporc_report.proofs.showing.push_further.Goals as goal

pub returns-in_err-push_counted-clause-memory : goal.returns-in_err-push_counted-clause-memory
returns-in_err-push_counted-clause-memory c =
    begins_in_err c.from_residual.result (string_bytes c.args.out.now) (string_bytes c.loop-number.out) (string_bytes c.push_counted.new.out) _ c.loop-number.invariant c.in_err-push_counted.ensures.memory
