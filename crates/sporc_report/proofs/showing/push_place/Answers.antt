use Rattle.std.proofs.Common.{string_bytes}
use Rattle.sporc_report.proofs.Beginnings.{begins_last}
use Rattle.sporc_report.proofs.Parts.{begins_in_err}
use Rattle.sporc_report.proofs.showing.push_place.Goals as goal

pub returns-in_err-push_counted-clause-memory : goal.returns-in_err-push_counted-clause-memory
returns-in_err-push_counted-clause-memory g c =
    begins_in_err c.from_residual-in_err-push_counted.result (string_bytes c.args.out.now) (string_bytes c.push_device.new.out) (string_bytes c.push_counted.new.out) _ c.in_ok-push_device.ensures.ok c.in_err-push_counted.ensures.memory

pub returns-clause-memory : goal.returns-clause-memory
returns-clause-memory g c =
    let new = string_bytes c.push_counted-2.new.out in
    let end = begins_last _ _ c.push_counted-2.result (string_bytes c.push_device.new.out) (string_bytes c.push_counted.new.out) new _ c.in_ok-push_counted.ensures.ok c.push_counted-2.ensures.memory in
    begins_last _ _ c.push_counted-2.result (string_bytes c.args.out.now) (string_bytes c.push_device.new.out) new _ c.in_ok-push_device.ensures.ok end
