use Rattle.std.proofs.Common.{◌≡◌, ◌+◌, ◌≤◌, length}
use Rattle.sporc_suffix.proofs.Common.{forms_in, runs_of}
use Rattle.sporc_suffix.proofs.Kept.{Ended}
use Rattle.sporc_suffix.proofs.runs.runs_ended.Given as goal

abbrev pub invariant-levels : goal.invariant-levels
invariant-levels l = record {
  ended : Ended (forms_in l.forms) l.form l.runs.items;
  count : l.count ≡ length (runs_of (length l.runs.items) (forms_in l.forms));
  few : length l.runs.items + l.count ≤ length l.forms;
}

abbrev pub decreases-levels : goal.decreases-levels
decreases-levels l = l.count
