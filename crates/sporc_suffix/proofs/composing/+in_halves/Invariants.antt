use Rattle.std.proofs.Common.{length}
use Rattle.sporc_suffix.proofs.composing.+in_halves.Given as goal

abbrev pub decreases-in_halves : goal.decreases-in_halves
decreases-in_halves l = length l.forms.now
