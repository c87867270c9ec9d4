use Rattle.std.proofs.Common.{◌≤◌}
use Rattle.sporc_keys.proofs.Drawing.{Rows}
use Rattle.sporc_keys.proofs.draw.draw_pairs.Given as goal

abbrev pub invariant-loop-i : goal.invariant-loop-i
invariant-loop-i g l = record {
  drawn : Rows (g.C.Chance.told l.fn.chance).given (g.C.Chance.told l.chance).given l.numbers l.i l.shared.items;
  kept : (g.C.Chance.told l.fn.chance).faults ≤ (g.C.Chance.told l.chance).faults;
}
