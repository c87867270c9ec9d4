use Rattle.std.proofs.Common.{arith}
use Rattle.sporc_keys.proofs.Common.{err_from_is_err_and}
use Rattle.sporc_keys.proofs.Drawing.{no_rows, rows_more, rows_up_to, all_rows}
use Rattle.sporc_keys.proofs.draw.draw_pairs.Goals as goal

pub loop-i-init : goal.loop-i-init
loop-i-init g c = record { drawn = rw c.new-shared.ensures.items (no_rows (g.C.Chance.told c.args.chance.now).given c.args.numbers.now); kept = omega arith }

pub loop-i-preserved : goal.loop-i-preserved
loop-i-preserved g c = record {
  drawn = rows_more (g.C.Chance.told c.args.chance.now).given (g.C.Chance.told c.loop-i.chance).given (g.C.Chance.told c.draw_row.new.chance).given c.args.numbers.now c.loop-i.i c.number_at-first.result c.loop-i.shared.items c.draw_row.new.shared.items
      c.loop-i-test.true c.number_at-first.ensures c.loop-i.invariant.drawn c.in_ok-draw_row.ensures.ok;
  kept = omega (arith, c.loop-i.invariant.kept, c.in_ok-draw_row.ensures.kept);
}

pub returns-clause-ok : goal.returns-clause-ok
returns-clause-ok g c = all_rows (g.C.Chance.told c.args.chance.now).given (g.C.Chance.told c.loop-i.chance).given c.args.numbers.now c.loop-i.i c.loop-i.shared.items c.loop-i-test.false c.loop-i.invariant.drawn

pub returns-in_err-draw_row-clause-drawn : goal.returns-in_err-draw_row-clause-drawn
returns-in_err-draw_row-clause-drawn g c =
    let p = err_from_is_err_and c.from_residual.result c.from_residual.ensures.1 in
    rw p.1 (rows_up_to (g.C.Chance.told c.args.chance.now).given (g.C.Chance.told c.loop-i.chance).given (g.C.Chance.told c.draw_row.new.chance).given c.args.numbers.now c.loop-i.i c.loop-i.shared.items
    c.loop-i-test.true c.loop-i.invariant.drawn c.in_err-draw_row.ensures.drawn)
