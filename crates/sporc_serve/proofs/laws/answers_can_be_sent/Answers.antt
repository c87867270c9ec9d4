use Rattle.sporc_serve.proofs.Sendable.{answer_sendable}
use Rattle.sporc_serve.proofs.laws.answers_can_be_sent.Goals as goal

pub returns : goal.returns
returns c o greeted m room framed = answer_sendable o greeted m room framed
