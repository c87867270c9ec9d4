use Rattle.std.proofs.Common.{◌≡◌, drop, map}
use Rattle.sporc_play.proofs.Common.{entries_at}
use Rattle.sporc_play.proofs.Found.{behind}
use Rattle.sporc_play.proofs.made.entries_at.Given as goal

abbrev pub invariant-loop-number : goal.invariant-loop-number
invariant-loop-number l =
    entries_at (map (λ v. v.items) l.made) l.numbers ≡ behind (map (λ v. v.items) l.entries.items) (entries_at (map (λ v. v.items) l.made) (drop l.number-index l.numbers))
