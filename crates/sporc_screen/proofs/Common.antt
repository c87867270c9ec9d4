-- The names of this crate and of those below that many of its proofs cite, passed on from one place.
pub use Rattle.std.specs.List.{flat_map}
pub use Rattle.std.specs.Prelude.{fold, replicate, nat_lt, nat_le}
pub use Rattle.sporc_delta.proofs.Lengths.{base_len-append, base_len-insert_marks, base_len-keep_marks, base_len-remove_marks, inserted_len-append, inserted_len-insert_marks, inserted_len-keep_marks, out_len-append, out_len-insert_marks, out_len-keep_marks}
pub use Rattle.sporc_delta.specs.Marks.{Insert, Keep, Mark, Remove, apply, base_len, inserted_len, keep_marks, out_len, remove_marks, insert_marks}
pub use Rattle.sporc_delta.specs.Transforms.{Both, Earlier, Later, Step, compose, earlier, earlier_step, later, later_step, steps}
pub use Rattle.sporc_delta.specs.declared.limits.TheConstants.{MAX_COUNT, MAX_TEXT_LEN}
pub use Rattle.sporc_xform.proofs.InTurn.{apply-compose}
pub use Rattle.sporc_xform.proofs.LawLemmas.{composes, earlier_merges, later_merges}
pub use Rattle.sporc_xform.proofs.LengthLemmas.{base_len-earlier, base_len-later, inserted_len-later, inserted_len_le}
pub use Rattle.sporc_screen.specs.Edits.{bounds_checks, draft_with, edit_marks, is_in_bounds, leading, line_with, seen_len, typed_len}
pub use Rattle.sporc_screen.specs.Lines.{LeadTo, composed, first_joined, knows_line, last_of, len_before, place_of, with_line}
pub use Rattle.sporc_screen.specs.Screens.{ScreenInvariant, ScreenModel, came, edited, knows, last_line, lines_behind, opened, refused, renewed, taken}
pub use Rattle.sporc_screen.specs.declared.edit.Edit.{Edit}
pub use Rattle.sporc_screen.specs.declared.limits.TheConstants.{MAX_NAMED}
