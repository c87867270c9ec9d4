use Rattle.std.proofs.Common.{◌≡◌, take}
use Rattle.sporc_keys.proofs.Common.{AllByRecursion, IsKnownKey, founders_in}
use Rattle.sporc_keys.proofs.founders.founders_of.Given as goal

abbrev pub invariant-loop-one : goal.invariant-loop-one
invariant-loop-one l = record {
  value : l.founders.items ≡ founders_in (take l.one-index l.named);
  keys : AllByRecursion IsKnownKey l.founders.items;
}
