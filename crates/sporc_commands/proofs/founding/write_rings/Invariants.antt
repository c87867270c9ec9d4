use Rattle.std.proofs.Common.{◌≡◌, ◌≤◌, map, take}
use Rattle.sporc_commands.proofs.Common.{AsksOnly, Stores, names_in, ring_of_founding}
use Rattle.sporc_commands.proofs.founding.write_rings.Given as goal

abbrev pub invariant-loop-ring : goal.invariant-loop-ring
invariant-loop-ring g l = record {
  stored : Stores (map (ring_of_founding l.names) (take l.ring-index l.rings)) (g.F.Folder.told l.initial.files).files (g.F.Folder.told l.files).files;
  asked : AsksOnly (names_in (map (ring_of_founding l.names) l.rings)) (g.F.Folder.told l.initial.files).asked (g.F.Folder.told l.files).asked;
  lent : (g.F.Folder.told l.files).lent ≡ (g.F.Folder.told l.initial.files).lent;
  kept : (g.F.Folder.told l.initial.files).faults ≤ (g.F.Folder.told l.files).faults;
}
