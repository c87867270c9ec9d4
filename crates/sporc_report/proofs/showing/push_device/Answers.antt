use Rattle.std.proofs.Common.{string_bytes}
use Rattle.sporc_report.proofs.Beginnings.{begins_last}
use Rattle.sporc_report.proofs.showing.push_device.Goals as goal

pub returns-clause-memory : goal.returns-clause-memory
returns-clause-memory c =
    begins_last _ _ c.push_counted.result (string_bytes c.args.out.now) (string_bytes c.push_decimal.new.out) (string_bytes c.push_counted.new.out) _
    c.in_ok-push_decimal.ensures.ok c.push_counted.ensures.memory
