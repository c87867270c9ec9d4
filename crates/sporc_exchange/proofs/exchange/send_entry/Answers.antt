use Rattle.sporc_exchange.proofs.Linking.{submit_ends}
use Rattle.sporc_exchange.proofs.exchange.send_entry.Goals as goal

pub returns-clause-answered : goal.returns-clause-answered
returns-clause-answered g c = submit_ends _ _ c.args.entry.now c.at-place.result c.reply_of.result c.ask-answer.result c.reply_of.ensures c.at-place.ensures.value c.ask-answer.ensures.answered
