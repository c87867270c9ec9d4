use Rattle.std.proofs.Common.{sym, ◌∙◌}
use Rattle.sporc_script.proofs.Common.{editor_line}
use Rattle.sporc_script.proofs.EditorReaders.{IsEditorNext, editor_part}
use Rattle.sporc_script.proofs.ScriptLines.{all_read, line_read, none_read}
use Rattle.sporc_script.proofs.Sizes.{editor_sizes}
use Rattle.sporc_script.proofs.editor_script.read_editor.Goals as goal

pub loop-rest-init : goal.loop-rest-init
loop-rest-init c = rw c.new-lines.ensures.items (none_read editor_line IsEditorNext c.args.text.now)

pub loop-rest-preserved : goal.loop-rest-preserved
loop-rest-preserved c =
    let line = c.next_line.result.0.now in
    let found = c.in_ok-read.read in
    let part = editor_part c.loop-rest.lines.items c.loop-rest.number line found c.in_ok-read.ensures.ok in
    line_read line c.next_line.result.1.now found c.keep.new.lines.items c.next_line.ensures.lines c.next_line.ensures.shorter c.in_ok-keep.ensures part c.loop-rest.invariant

pub returns-clause-ok : goal.returns-clause-ok
returns-clause-ok c = all_read (sym c.is_empty.ensures ∙ c.loop-rest-test.false) c.loop-rest.invariant

pub invariant_of-result : goal.invariant_of-result
invariant_of-result c =
    editor_sizes c.args.text.now c.loop-rest.lines.items (all_read (sym c.is_empty.ensures ∙ c.loop-rest-test.false) c.loop-rest.invariant) c.requires.limit
