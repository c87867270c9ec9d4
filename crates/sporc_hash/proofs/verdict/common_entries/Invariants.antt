use Rattle.std.proofs.Common.{◌≡◌, ◌≢◌, ◌<◌, ◌-◌, length, slice_get}
use Rattle.sporc_hash.proofs.verdict.common_entries.Given as goal

abbrev pub invariant-loop-different : goal.invariant-loop-different
invariant-loop-different l = record {
  below : l.agreed < l.different;
  in_a : l.different < length l.a;
  in_b : l.different < length l.b;
  one_value : slice_get l.a l.agreed ≡ slice_get l.b l.agreed;
  two_values : slice_get l.a l.different ≢ slice_get l.b l.different;
}

abbrev pub decreases-loop-different : goal.decreases-loop-different
decreases-loop-different l = l.different - l.agreed
