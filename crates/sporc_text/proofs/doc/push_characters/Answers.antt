use Rattle.sporc_text.proofs.Spelled.{spelled_more}
use Rattle.sporc_text.proofs.doc.push_characters.Goals as goal

pub loop-c-preserved : goal.loop-c-preserved
loop-c-preserved c = spelled_more _ _ _ _ _ _ c.loop-c.invariant c.c-item.is c.loop-c-test.true c.in_ok-push.ensures.bytes
