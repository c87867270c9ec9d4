-- The names of this crate and of those below that many of its proofs cite, passed on from one place.
pub use Rattle.std.proofs.lemmas.Bool.{and_parts, eqb-false, eqb-true, le-ltb, ltb-false, ne_eqb, or_parts}
pub use Rattle.std.proofs.lemmas.List.{append-nil, drop_all, drop_at, length-append, length-drop, length-replicate, length-take, map-append, replicate-append-replicate, take-append-drop, take_all}
pub use Rattle.std.proofs.lemmas.List.{take_at, take_more}
pub use Rattle.std.proofs.lemmas.Str.{IsCharBoundary-at_seam, IsUtf8-append, IsUtf8-from_is_utf8, IsUtf8-past_char, IsUtf8-string_bytes, chars-append, chars-encodes, chars-nil, chars_from_encodes}
pub use Rattle.std.proofs.lemmas.Str.{chars_past_char, encodes-append, encodes-chars, is_utf8-from_IsUtf8, len_utf8_bounds, length-encode, length-le-encodes, scalars-chars}
pub use Rattle.std.specs.Int.{from_be_bytes, to_be_bytes, w64}
pub use Rattle.std.specs.List.{AllByRecursion}
pub use Rattle.std.specs.Prelude.{IsTrue, MatchOption, OnOk, slice_get, slice_index, ◌↔◌}
pub use Rattle.std.specs.Str.{IsCharBoundary, IsUtf8, all_scalars, chars, encode_utf8_all, is_utf8}
pub use Rattle.sporc_delta.specs.Format.{HasSpelling, HaveSpellings, Spells, delta_bytes, kind_byte, part_bytes, parts_bytes}
pub use Rattle.sporc_delta.specs.Marks.{Insert, Keep, Mark, base_len, insert_marks, keep_marks, out_len, remove_marks}
pub use Rattle.sporc_delta.specs.Parts.{Appends, AreRuns, BeginsUnlike, DeltaInvariant, inserted_by, kept_at_end, kept_by, kind_of, marks_of, owned, part_len, part_marks, removed_at_end, removed_by}
pub use Rattle.sporc_delta.specs.Parts.{runs, same_kind, text_at_end, with_mark}
pub use Rattle.sporc_delta.specs.Reading.{body_at, count_at, is_kind, kind_at, parts_at, read_delta}
pub use Rattle.sporc_delta.specs.Same.{same_delta, same_part, same_parts}
pub use Rattle.sporc_delta.specs.Shifts.{CanShift, Shifts, count_of, kept_at_start, kept_first, kept_last, kept_there, shifted}
pub use Rattle.sporc_delta.specs.Typed.{IsTypedDelta, IsTypedPart}
pub use Rattle.sporc_delta.specs.declared.limits.TheConstants.{MAX_COUNT, MAX_TEXT_LEN}
pub use Rattle.sporc_delta.specs.declared.part.Part.{Part}
pub use Rattle.sporc_delta.specs.declared.part.Part.TheVariants.{Insert as InsertText, Keep as KeepRun, Remove, Remove as RemoveRun}
pub use Rattle.sporc_delta.specs.declared.shift.Shift.TheVariants.{First, Last}
