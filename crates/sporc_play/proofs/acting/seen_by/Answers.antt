use Rattle.sporc_play.proofs.ShortTexts.{journal_count}
use Rattle.sporc_play.proofs.acting.seen_by.Goals as goal

pub returns-in-None : goal.returns-in-None
returns-in-None c =
    rw c.in-None.is (journal_count c.args.client.now.opening c.args.client.now.log c.journal.result.now c.journal.ensures.value)
