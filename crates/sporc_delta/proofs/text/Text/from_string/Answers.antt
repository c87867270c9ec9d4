use Rattle.std.proofs.Common.{rules}
use Rattle.sporc_delta.proofs.Common.{chars_from_encodes, is_utf8-from_IsUtf8, IsUtf8-string_bytes}
use Rattle.sporc_delta.proofs.text.Text.from_string.Goals as goal

pub invariant_of-result : goal.invariant_of-result
invariant_of-result c = record { utf8 = is_utf8-from_IsUtf8 _ (IsUtf8-string_bytes c.args.string); count_is = search (rules, chars_from_encodes) }
