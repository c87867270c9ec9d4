use Rattle.std.proofs.Common.{◌≡◌, fold, map, take}
use Rattle.sporc_play.proofs.Common.{empty, pairs_in, with_pair}
use Rattle.sporc_play.proofs.cast.Cast.pairs_of.Given as goal

abbrev pub invariant-loop-other : goal.invariant-loop-other
invariant-loop-other l = pairs_in l.pairs ≡ fold (with_pair l.self.unpaired.items l.member) empty (map (λ d. d.member) (take l.other-index l.self.declared.items))
