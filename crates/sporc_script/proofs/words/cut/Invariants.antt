use Rattle.std.proofs.Common.{◌≡◌, take, drop, option_map}
use Rattle.sporc_script.proofs.Common.{cut, cut_at}
use Rattle.sporc_script.proofs.Cuts.{behind}
use Rattle.sporc_script.proofs.words.cut.Given as goal

abbrev pub invariant-loop-i : goal.invariant-loop-i
invariant-loop-i l = cut l.line ≡ option_map (behind (take l.i l.line)) (cut_at l.place (drop l.i l.line))
