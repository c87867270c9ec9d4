use Rattle.std.proofs.Common.{rules}
use Rattle.sporc_delta.proofs.Common.{chars_from_encodes, is_utf8-from_IsUtf8}
use Rattle.sporc_delta.proofs.Counted.{length-chars}
use Rattle.sporc_delta.proofs.text.TextSlice.new.Goals as goal

pub invariant_of-result : goal.invariant_of-result
invariant_of-result c = record { utf8 = is_utf8-from_IsUtf8 _ c.utf8.text; count_is = search (rules, chars_from_encodes) }

pub returns-clause-within : goal.returns-clause-within
returns-clause-within c = length-chars _ c.utf8.text
