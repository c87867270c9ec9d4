use Rattle.sporc_screen.proofs.Keeping.{opened_keeps}
use Rattle.sporc_screen.proofs.screen.Screen.open.Goals as goal

pub invariant_of-result : goal.invariant_of-result
invariant_of-result c = rw (c.in_ok-draft.ensures, c.new.ensures.items) (opened_keeps c.args.len c.requires)
