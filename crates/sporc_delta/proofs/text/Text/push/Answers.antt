use Rattle.sporc_delta.proofs.Counted.{chars_joined, TextInvariant-append}
use Rattle.sporc_delta.proofs.text.Text.push.Goals as goal

pub invariant_of-self-2 : goal.invariant_of-self-2
invariant_of-self-2 c = TextInvariant-append _ _ _ _ _ c.self.invariant c.more.invariant c.in_ok-push_str.ensures.bytes

pub returns-clause-ok : goal.returns-clause-ok
returns-clause-ok c = rw (← c.self.view_is, ← c.more.view_is) (chars_joined _ _ _ _ c.self.invariant c.in_ok-push_str.ensures.bytes)
