use Rattle.std.proofs.Common.{List, take}
use Rattle.sporc_session.proofs.Common.{known_of, Item, IsPassOf, CountsSame, LinesDone}
use Rattle.sporc_session.proofs.editor.do_lines.Given as goal

abbrev pub invariant-loop-line : goal.invariant-loop-line
invariant-loop-line g l = record {
  lock : IsPassOf l.context.shared.now l.mine;
  counts : CountsSame (known_of l.initial.mine) (known_of l.mine);
  done : (items : List Item) × LinesDone (known_of l.initial.mine) (known_of l.mine) (take l.line-index l.lines) items;
}
