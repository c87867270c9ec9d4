-- The names of this crate and of those below that many of its proofs cite, passed on from one place.
pub use Rattle.std.proofs.lemmas.Bool.{cases_lt, eq-eqb, eqb-false, false≢true, ne_eqb}
pub use Rattle.std.proofs.lemmas.List.{drop-append-le, drop-drop, get_or_default, length-take, length-take-le, take-append-drop, take-append-le, take_all, take_more}
pub use Rattle.std.specs.List.{concat}
pub use Rattle.std.specs.Vec.Iter.{into_iter_items}
pub use Rattle.sporc_delta.specs.Marks.{Insert, Keep, Mark, Remove, apply, base_len, insert_marks, keep_marks, out_len, remove_marks}
pub use Rattle.sporc_delta.specs.Parts.{marks_of, part_marks}
pub use Rattle.sporc_text.specs.Chunks.{AreChunks, IsAt, IsWithin, Joins}
pub use Rattle.sporc_text.specs.ReadyTextModel.{ReadyTextModel, replaced}
pub use Rattle.sporc_text.specs.declared.limits.TheConstants.{MAX_CHUNK, MAX_JOINED, MEAN_CHUNK}
