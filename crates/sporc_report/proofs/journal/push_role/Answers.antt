use Rattle.std.proofs.Common.{string_bytes, codes}
use Rattle.std.specs.Fmt.{decimal}
use Rattle.sporc_member.specs.Role.{role_name}
use Rattle.sporc_report.proofs.Beginnings.{begins_last}
use Rattle.sporc_report.proofs.Parts.{told_behind}
use Rattle.sporc_report.proofs.journal.push_role.Goals as goal

pub returns-clause-ok : goal.returns-clause-ok
returns-clause-ok c =
    let begun = rw c.from.ensures at c.in_ok-push_between.ensures.ok in
    told_behind c.push_role_name.result (string_bytes c.args.out.now) _ _ c.args.word.now (decimal c.args.member) (codes " ") (role_name c.args.role)
    begun c.push_role_name.ensures.ok

pub returns-clause-memory : goal.returns-clause-memory
returns-clause-memory c =
    begins_last _ _ c.push_role_name.result (string_bytes c.args.out.now) (string_bytes c.push_between.new.out) (string_bytes c.push_role_name.new.out) _
    c.in_ok-push_between.ensures.ok c.push_role_name.ensures.memory
