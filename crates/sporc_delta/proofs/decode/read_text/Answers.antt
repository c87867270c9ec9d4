use Rattle.std.proofs.Common.{refl}
use Rattle.sporc_delta.proofs.Common.{is_utf8-from_IsUtf8}
use Rattle.sporc_delta.specs.Reading.{text_at}
use Rattle.sporc_delta.proofs.Counted.{is_utf8-false}
use Rattle.sporc_delta.proofs.decode.read_text.Goals as goal

pub returns-in-Ok-clause-ok : goal.returns-in-Ok-clause-ok
unfolding text_at
returns-in-Ok-clause-ok c = rw (c.in_ok-text.ensures.ok, is_utf8-from_IsUtf8 _ c.in-Ok.ensures.cases.1, ← c.in-Ok.ensures.cases.0, ← c.new.ensures.characters) refl

pub returns-in-Err-clause-err : goal.returns-in-Err-clause-err
unfolding text_at
returns-in-Err-clause-err c = rw (c.in_ok-text.ensures.ok, is_utf8-false _ c.in-Err.ensures.cases.0) refl
