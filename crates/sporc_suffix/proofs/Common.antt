-- The names of this crate and of those below that many of its proofs cite, passed on from one place.
pub use Rattle.std.proofs.lemmas.List.{drop-drop, drop_all, get_or_append_left, get_or_push, length-append, length-drop, length-map, map-append, nil_from_length, take-append-drop, take_all}
pub use Rattle.std.specs.List.{slice_get}
pub use Rattle.sporc_delta.specs.Marks.{Insert, Keep, Mark, Remove, base_len, inserted_len, keep_marks, out_len}
pub use Rattle.sporc_delta.specs.Transforms.{compose, later}
pub use Rattle.sporc_suffix.specs.Compositions.{composed}
pub use Rattle.sporc_suffix.specs.Forms.{BlocksModel, Fits, Follow, TwoADigit, all_inserted, later_over, reached}
pub use Rattle.sporc_suffix.specs.Runs.{BlocksInvariant, EndWith, IsReadyAt, Joined, KeepRuns, ReadyModel, forms_in, last_of, pairs, runs_of}
