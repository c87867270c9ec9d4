use Rattle.std.proofs.Common.{arith, ap, sym}
use Rattle.sporc_entry.proofs.Common.{Malformed, change_body_from, fault_as_ok}
use Rattle.std.specs.Result.{result_ok}
use Rattle.sporc_entry.proofs.ViewLaws.{change_anywhere}
use Rattle.sporc_entry.proofs.view.read_kind.Goals as goal

pub returns-clause-change : goal.returns-clause-change
returns-clause-change c = λ _. sym (ap result_ok (change_anywhere c.args.header.now.version c.body_at.result c.args.body.now c.in_ok-change.change (λ i. omega (arith, c.type_inv.body i))
    (fault_as_ok Malformed (change_body_from c.args.header.now.version c.body_at.result c.args.body.now) c.in_ok-change.change c.in_ok-change.ensures)))
