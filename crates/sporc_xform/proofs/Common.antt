-- The names of this crate and of those below that many of its proofs cite, passed on from one place.
pub use Rattle.std.proofs.lemmas.Bool.{eqb-false, eqb-true, ltb-false, ltb-true}
pub use Rattle.std.proofs.lemmas.List.{length-append, length-map, length-replicate, length-take, map-append, replicate-append-replicate, take-append-drop, take_all}
pub use Rattle.std.specs.List.{flat_map}
pub use Rattle.std.specs.Prelude.{IfNone, nat_lt, replicate, ◌↔◌}
pub use Rattle.sporc_delta.proofs.Lengths.{base_len-append, base_len-insert_marks, base_len-keep_marks, base_len-remove_marks, out_len-append, out_len-insert_marks, out_len-keep_marks}
pub use Rattle.sporc_delta.proofs.Lengths.{out_len-remove_marks}
pub use Rattle.sporc_delta.specs.Marks.{Insert, Keep, Mark, Remove, apply, base_len, insert_marks, inserted_len, keep_marks, out_len, remove_marks}
pub use Rattle.sporc_delta.specs.Parts.{AreRuns, marks_of, owned, part_marks, runs}
pub use Rattle.sporc_delta.specs.Shifts.{count_of, kept_first, kept_last, kept_there, shifted}
pub use Rattle.sporc_delta.specs.Transforms.{Both, Earlier, Later, Step, compose, earlier, earlier_step, last_steps, later, later_step, merge, merged_steps, steps, steps_to}
pub use Rattle.sporc_delta.specs.declared.limits.TheConstants.{MAX_TEXT_LEN}
pub use Rattle.sporc_xform.specs.Left.{InARowInvariant, NoneEmpty, cut, first_inserts, first_len, first_removes, first_text, without}
pub use Rattle.sporc_xform.specs.Restating.{IsMoved, Meet, ShiftsEarlier, ShiftsLater}
pub use Rattle.sporc_xform.specs.Runs.{base_mark, base_marks, run_steps}
