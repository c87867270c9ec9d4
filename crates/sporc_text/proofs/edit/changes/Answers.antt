use Rattle.sporc_text.proofs.Common.{marks_of}
use Rattle.sporc_text.proofs.EditLemmas.{between}
use Rattle.sporc_text.proofs.edit.changes.Goals as goal

pub returns : goal.returns
returns c =
    between c.args.delta.now (marks_of c.parts.result.now) (marks_of c.without_keep-kept.result.1.now) (marks_of c.without_last_keep-left.result.0.now) c.without_keep-kept.result.0 c.without_last_keep-left.result.1
    c.parts.ensures.marks c.without_keep-kept.ensures.marks c.without_last_keep-left.ensures.marks
