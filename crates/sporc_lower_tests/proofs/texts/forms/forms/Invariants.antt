use Rattle.std.proofs.Common.{◌≡◌, ◌*◌, ◌≤◌, length}
use Rattle.sporc_suffix.specs.Forms.{Follow, all_inserted, reached}
use Rattle.sporc_lower_tests.proofs.texts.forms.forms.Given as goal

abbrev pub invariant-loop : goal.invariant-loop
invariant-loop g l = record {
  base : l.blocks.base ≡ 3;
  count : length l.blocks.forms ≡ l.counter;
  len : l.len ≡ reached l.blocks.base l.blocks.forms;
  follow : Follow l.blocks.base l.blocks.forms;
  inserted : all_inserted l.blocks.forms ≤ 10000 * length l.blocks.forms;
}
