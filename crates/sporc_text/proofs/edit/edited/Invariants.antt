use Rattle.std.proofs.Common.{◌≤◌, ◌++◌, drop, length}
use Rattle.sporc_text.proofs.Common.{concat, apply, marks_of}
use Rattle.sporc_delta.specs.declared.limits.TheConstants.{MAX_TEXT_LEN}
use Rattle.sporc_text.proofs.EditLemmas.{IsEditedTo}
use Rattle.sporc_text.proofs.edit.edited.Given as goal

abbrev pub invariant-loop-part : goal.invariant-loop-part
invariant-loop-part l = record {
  edited : IsEditedTo l.parts l.part-index (concat l.rest) l.at l.out.items (l.initial.out.items ++ apply (marks_of l.parts) (drop l.initial.at (concat l.initial.rest)));
  limit : length (concat l.rest) ≤ MAX_TEXT_LEN;
}
