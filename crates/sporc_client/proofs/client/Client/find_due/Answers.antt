use Rattle.std.proofs.Common.{subst, sym}
use Rattle.sporc_client.proofs.Common.{PlainClient}
use Rattle.sporc_client.specs.Submissions.{due}
use Rattle.sporc_client.proofs.Events.{state_is}
use Rattle.sporc_client.proofs.Submitting.{Finds}
use Rattle.sporc_client.proofs.client.Client.find_due.Goals as goal

pub returns : goal.returns
unfolding due
returns g c = subst (λ (p : PlainClient). Finds c.find_due.result (due p)) (sym (state_is c.self.invariant c.self.view_is)) c.find_due.ensures.value
