use Rattle.std.proofs.Common.{◌≡◌, take}
use Rattle.sporc_client.proofs.client.restarting.first_entries.Given as goal

abbrev pub invariant-loop-i : goal.invariant-loop-i
invariant-loop-i l = record {
  genesis : l.first.genesis ≡ l.line.genesis;
  kit : l.first.kit ≡ l.line.kit;
  entries : l.first.entries ≡ take l.i l.line.entries;
}
