use Rattle.std.proofs.Common.{ap, sym, ◌∙◌}
use Rattle.sporc_script.proofs.Common.{declared_by, IsNext, play_line}
use Rattle.sporc_script.proofs.PlayLines.{declared_kept, part_of}
use Rattle.sporc_script.proofs.ScriptLines.{all_read, line_read, none_read}
use Rattle.sporc_script.proofs.play_script.read_play.Goals as goal

pub loop-rest-init : goal.loop-rest-init
loop-rest-init c = record {
  so_far = rw c.new-lines.ensures.items (none_read play_line IsNext c.args.text.now);
  declared = c.new-declared.ensures.value ∙ ap declared_by (sym c.new-lines.ensures.items);
}

pub loop-rest-preserved : goal.loop-rest-preserved
loop-rest-preserved c =
    let before = c.loop-rest.lines.items in
    let found = c.in_ok-read.read in
    let line = c.next_line.result.0.now in
    let part = part_of before c.loop-rest.declared c.loop-rest.number line found c.loop-rest.invariant.declared c.in_ok-read.ensures.ok in
    record {
      so_far = line_read line c.next_line.result.1.now found c.keep.new.lines.items c.next_line.ensures.lines c.next_line.ensures.shorter c.in_ok-keep.ensures part c.loop-rest.invariant.so_far;
      declared = rw c.in_ok-keep.ensures (c.in_ok-declare.ensures ∙ declared_kept before c.loop-rest.declared found c.loop-rest.invariant.declared);
    }

pub returns-clause-ok : goal.returns-clause-ok
returns-clause-ok c = all_read (sym c.is_empty.ensures ∙ c.loop-rest-test.false) c.loop-rest.invariant.so_far
