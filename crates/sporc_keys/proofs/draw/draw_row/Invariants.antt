use Rattle.std.proofs.Common.{◌≤◌, take}
use Rattle.sporc_keys.proofs.Common.{SharesMore, row}
use Rattle.sporc_keys.proofs.draw.draw_row.Given as goal

abbrev pub invariant-loop-second : goal.invariant-loop-second
invariant-loop-second g l = record {
  drawn : SharesMore (g.C.Chance.told l.initial.chance).given (g.C.Chance.told l.chance).given (row l.first (take l.second-index l.numbers)) l.initial.shared.items l.shared.items;
  kept : (g.C.Chance.told l.initial.chance).faults ≤ (g.C.Chance.told l.chance).faults;
}
