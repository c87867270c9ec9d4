use Rattle.std.proofs.Common.{[], ◌∷◌, ◌++◌, ap, ◌∙◌}
use Rattle.sporc_text.proofs.Common.{marks_of}
use Rattle.sporc_delta.specs.declared.part.Part.{Part}
use Rattle.sporc_delta.proofs.Appended.{marks_of-last}
use Rattle.sporc_text.proofs.edit.without_last_keep.Goals as goal

pub returns-in-Some-Keep-default : goal.returns-in-Some-Keep-default
returns-in-Some-Keep-default c =
    let others = c.in-Some-Keep-default.others.now in
    let is = c.in-Some-Keep-default.ensures.cases.0 ∙ ap (λ (p : Part). others ++ p ∷ []) c.in-Some-Keep-default.field-0-0-is in
    record { marks = ap marks_of is ∙ marks_of-last others _ }
