use Rattle.std.proofs.Common.{◌≡◌, ◌≤◌, length, vec_len}
use Rattle.std.specs.Vec.{vec_capacity}
use Rattle.sporc_client.proofs.Rebased.{PassedSome}
use Rattle.sporc_client.proofs.rebasing.pass_items.Given as goal

abbrev pub invariant-loop-item : goal.invariant-loop-item
invariant-loop-item l = record {
  some : PassedSome l.fn.form l.items l.after l.passed.items l.item-index;
  count : vec_len l.passed ≡ l.item-index;
  room : length l.items ≤ vec_capacity l.passed;
}
