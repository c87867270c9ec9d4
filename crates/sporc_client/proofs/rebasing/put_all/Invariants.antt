use Rattle.std.proofs.Common.{◌≡◌, vec_len}
use Rattle.sporc_client.proofs.Common.{CanAllBecome, all_became}
use Rattle.sporc_client.proofs.rebasing.put_all.Given as goal

abbrev pub invariant-items : goal.invariant-items
invariant-items l = record {
  can : CanAllBecome l.left.items l.items.items;
  same : all_became l.left.items l.items.items ≡ all_became l.fn.passed.items l.fn.items.items;
}

abbrev pub decreases-items : goal.decreases-items
decreases-items l = vec_len l.left
