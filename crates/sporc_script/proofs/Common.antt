-- The names of this crate and of those below that many of its proofs cite, passed on from one place.
pub use Rattle.hex.specs.Hex.{encode_lower}
pub use Rattle.std.proofs.lemmas.Bool.{and_from, and_parts, cases_lt, eqb-true}
pub use Rattle.std.proofs.lemmas.Bool.Decides.{Decides-eqb, Decides-ltb, eqb_tells, nat_tests}
pub use Rattle.std.proofs.lemmas.Fmt.{IsAscii-decimal, decimal-digits_value, decimal_digit, decimal_is_IsNumeral, decimal_nonempty, first_decimal, parse-decimal}
pub use Rattle.std.proofs.lemmas.List.{append-nil, append_cancel_right, drop_all, nil_from_length, take_all, take_more}
pub use Rattle.std.proofs.lemmas.Option.{cond_some, same_Some}
pub use Rattle.std.proofs.lemmas.Slice.Eq.{bytes_eq-Decides, strip_prefix_is, strip_suffix_is}
pub use Rattle.std.proofs.lemmas.Str.{IsUtf8-from_ascii, IsUtf8-string_bytes, chars-encodes, encode_ascii, encodes-chars, inside_one, scalars-chars}
pub use Rattle.std.proofs.lemmas.Str.Parse.{IsNumeralModel, digit_from_value, numerals_by_value, parse_plain, tells_digits}
pub use Rattle.std.specs.Fmt.{decimal}
pub use Rattle.std.specs.List.{AllByRecursion, list_all}
pub use Rattle.std.specs.Option.{option_to_list}
pub use Rattle.std.specs.Prelude.{IsSomeAnd, MatchOption, codes, if◌then◌else◌, nat_lt, slice_index, ◌%◌, ◌/◌, ◌==◌, ◌^◌, ◌≢◌}
pub use Rattle.std.specs.Str.{IsUtf8, all_scalars, bytes_eq, chars, encode_utf8_all}
pub use Rattle.std.specs.Str.Parse.{AllDigits, ParsesUnsigned, digits_value}
pub use Rattle.sporc_member.specs.Device.{IsMember, first_device}
pub use Rattle.sporc_member.specs.Role.{role_name}
pub use Rattle.sporc_member.specs.declared.device.Device.{Device}
pub use Rattle.sporc_member.specs.declared.role.Role.{Role}
pub use Rattle.sporc_member.specs.declared.role.Role.TheVariants.{Admin, Editor, Reader}
pub use Rattle.sporc_script.specs.Commands.{InRange, Spells, command_of, spelling}
pub use Rattle.sporc_script.specs.Declarations.{Declared, declared_after, declared_by, may_follow, none_declared}
pub use Rattle.sporc_script.specs.EditorLines.{editor_spelling}
pub use Rattle.sporc_script.specs.Edits.{edit_of, insertion_of, removal_of, roster_edit_of}
pub use Rattle.sporc_script.specs.Grammar.{IsNext, editor_line, play_line}
pub use Rattle.sporc_script.specs.Hex.{hex_kept, hex_of, is_hex}
pub use Rattle.sporc_script.specs.Lines.{IsFirstBad, IsSkipped, ReadsAs, lines_of}
pub use Rattle.sporc_script.specs.Numbers.{join_of, join_spelling}
pub use Rattle.sporc_script.specs.Plain.{flip_of, further_device_of, give_of, keyword_of, member_device_of, member_role_of, restart_of, role_of, tree_of, two_devices_of, two_members_of}
pub use Rattle.sporc_script.specs.Quoted.{escape, quoted}
pub use Rattle.sporc_script.specs.Readers.{behind_of, device_number_of, device_of, device_with, fits_u32, fits_u8, further_number_of, is_further, is_member, keyed_of, lone_or, member_of, named_of}
pub use Rattle.sporc_script.specs.Readers.{pair_of, passing, then_read, u32_of, with_more}
pub use Rattle.sporc_script.specs.Reading.{ReadsEditorLine, ReadsLine, declared_with}
pub use Rattle.sporc_script.specs.Signs.{IsPayload, forgery_of, forgery_spelling}
pub use Rattle.sporc_script.specs.Spelling.{DeviceInRange, DevicePairInRange, EditInRange, FlipInRange, FurtherInRange, GiveInRange, IsDeviceNumber, IsFurtherNumber, IsU64, PairInRange}
pub use Rattle.sporc_script.specs.Spelling.{RestartInRange, RosterChangeInRange, RosterEditInRange, SeenInRange, TextEditInRange, device_pair_spelling, device_text, edit_spelling, flip_spelling}
pub use Rattle.sporc_script.specs.Spelling.{give_spelling, height_name, keyword_name, member_device_spelling, member_role_spelling, pair_spelling, restart_spelling, roster_change_spelling}
pub use Rattle.sporc_script.specs.Spelling.{roster_edit_spelling, roster_word_name, stated_spelling, text_edit_spelling, text_word_name, tree_spelling, width_name}
pub use Rattle.sporc_script.specs.Texts.{inner, is_text, text_of}
pub use Rattle.sporc_script.specs.Unescape.{resume, step_of, unescape}
pub use Rattle.sporc_script.specs.Words.{IsPlain, Lacks, Splits, cut, cut_at, is_number, number_of, split_at}
pub use Rattle.sporc_script.specs.declared.command.Command.{Command}
pub use Rattle.sporc_script.specs.declared.command.DevicePair.{DevicePair}
pub use Rattle.sporc_script.specs.declared.command.Edit.{Edit}
pub use Rattle.sporc_script.specs.declared.command.Flip.{Flip}
pub use Rattle.sporc_script.specs.declared.command.Give.{Give}
pub use Rattle.sporc_script.specs.declared.command.Join.{Join}
pub use Rattle.sporc_script.specs.declared.command.Keyword.{Keyword}
pub use Rattle.sporc_script.specs.declared.command.Pair.{Pair}
pub use Rattle.sporc_script.specs.declared.command.Restart.{Restart}
pub use Rattle.sporc_script.specs.declared.command.RosterEdit.{RosterEdit}
pub use Rattle.sporc_script.specs.declared.command.Tree.{Tree}
pub use Rattle.sporc_script.specs.declared.editor_line.EditorCommand.{EditorCommand}
pub use Rattle.sporc_script.specs.declared.editor_line.EditorLine.{EditorLine}
pub use Rattle.sporc_script.specs.declared.member_role.MemberRole.{MemberRole}
pub use Rattle.sporc_script.specs.declared.play_line.PlayLine.{PlayLine}
pub use Rattle.sporc_script.specs.declared.sign.Forgery.{Forgery}
pub use Rattle.sporc_script.specs.declared.text_edit.Insertion.{Insertion}
pub use Rattle.sporc_script.specs.declared.text_edit.Removal.{Removal}
