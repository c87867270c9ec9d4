use Rattle.std.proofs.Common.{refl}
use Rattle.sporc_exchange.proofs.Linking.{ask_ends}
use Rattle.sporc_exchange.proofs.exchange.ask.Goals as goal

pub returns-clause-answered : goal.returns-clause-answered
returns-clause-answered g c = ask_ends c.in_ok-send.ensures.sent.ok c.receive.ensures.received refl
