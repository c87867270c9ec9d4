use Rattle.std.proofs.Common.{◌≡◌, drop, fold}
use Rattle.sporc_client.proofs.Common.{after_pending, AreStated}
use Rattle.sporc_client.proofs.rebasing.apply_all.Given as goal

abbrev pub invariant-loop-item : goal.invariant-loop-item
invariant-loop-item l = record {
  stated : AreStated l.text (drop l.item-index l.items);
  text : fold after_pending l.text (drop l.item-index l.items) ≡ fold after_pending l.initial.text l.items;
}
