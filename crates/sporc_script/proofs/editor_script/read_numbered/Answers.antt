use Rattle.std.proofs.Common.{◌≡◌, true, false, refl, sym, ◌∙◌}
use Rattle.sporc_script.proofs.EditorReaders.{editor_missing, editor_spelled}
use Rattle.sporc_script.proofs.editor_script.read_numbered.Goals as goal

pub returns-in-Some-clause-ok : goal.returns-in-Some-clause-ok
returns-in-Some-clause-ok c = (refl, editor_spelled c.args.line.now c.in-Some.command (rw c.in-Some.is at c.in_ok-command.ensures.ok))

pub returns-in-None-clause-err : goal.returns-in-None-clause-err
returns-in-None-clause-err c = λ k is.
    let same : c.args.number ≡ k = cc in (
      sym same,
      λ skipped. (let no : true ≡ false = sym (c.is_skipped.ensures.value.1 skipped) ∙ c.if-is_skipped.false in cc),
      editor_missing c.args.line.now (rw c.in-None.is at c.in_ok-command.ensures.ok),
    )
