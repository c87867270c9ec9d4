use Rattle.std.proofs.Common.{ap, subst, ◌∙◌}
use Rattle.sporc_client.proofs.Common.{version_of, roster_of, IsChangeBody, change_body_bytes}
use Rattle.sporc_client.proofs.client.submitting.unsigned.change_body.Goals as goal

pub returns-clause-value : goal.returns-clause-value
returns-clause-value c = c.new.ensures.value ∙ c.in_ok-bytes.ensures.ok ∙ ap change_body_bytes c.in_ok-body.ensures.value

pub returns-clause-spelled : goal.returns-clause-spelled
returns-clause-spelled c = subst (IsChangeBody (version_of (roster_of c.args.line.now.genesis c.args.line.now.entries).upgraded)) c.in_ok-body.ensures.value c.in_ok-body.ensures.spelled
