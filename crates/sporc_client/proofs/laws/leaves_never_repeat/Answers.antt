use Rattle.sporc_client.proofs.Leaves.{unused, uses_once}
use Rattle.sporc_client.proofs.laws.leaves_never_repeat.Goals as goal

pub returns : goal.returns
returns c = record {
  once = uses_once;
  others = λ s. unused s.ticket s.next;
}
