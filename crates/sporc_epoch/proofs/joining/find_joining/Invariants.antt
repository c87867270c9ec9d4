use Rattle.std.proofs.Common.{take, map}
use Rattle.sporc_epoch.proofs.Joinings.{Scanned}
use Rattle.sporc_epoch.proofs.joining.find_joining.Given as goal

abbrev pub invariant-loop-bytes : goal.invariant-loop-bytes
invariant-loop-bytes l = Scanned l.me (map (λ e. e.items) (take l.bytes-index l.entries)) l.starts.items
