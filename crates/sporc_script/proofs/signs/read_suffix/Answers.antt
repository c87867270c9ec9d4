use Rattle.std.proofs.Common.{◌∙◌}
use Rattle.sporc_script.proofs.SignReaders.{suffix_read}
use Rattle.sporc_script.proofs.signs.read_suffix.Goals as goal

pub returns : goal.returns
returns c =
    c.read_suffix_number.ensures
    ∙ suffix_read c.args.words.now c.in_ok-rest.rest.now c.in-Some.first.now c.in-Some.last.now c.in_ok-word.word c.in_ok-rest.ensures c.in-Some.ensures.value c.in_ok-word.ensures.value
