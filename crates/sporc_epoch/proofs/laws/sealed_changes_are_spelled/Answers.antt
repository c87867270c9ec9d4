use Rattle.sporc_epoch.proofs.SpelledBodies.{body_spelled}
use Rattle.sporc_epoch.proofs.laws.sealed_changes_are_spelled.Goals as goal

pub returns : goal.returns
returns c = record {
  spelled = λ version s pairs body h is. body_spelled version s pairs body h is.kind is.change is.old is.new is.members is.count;
}
