use Rattle.sporc_xform.proofs.Associative.{compose-keep_after, compose-keep_before}
use Rattle.sporc_xform.proofs.laws.a_kept_text_adds_nothing.Goals as goal

pub returns : goal.returns
returns c = record { before = compose-keep_before; after = compose-keep_after }
