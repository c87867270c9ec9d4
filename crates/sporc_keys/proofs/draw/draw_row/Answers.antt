use Rattle.std.proofs.Common.{◌≡◌, [], ◌∷◌, length, arith}
use Rattle.sporc_keys.proofs.Common.{err_from_is_err_and}
use Rattle.sporc_keys.proofs.Drawing.{draws_nothing, draws_one, row_more, row_up_to, row_whole}
use Rattle.sporc_keys.proofs.draw.draw_row.Goals as goal

pub returns-in_err-key-clause-drawn : goal.returns-in_err-key-clause-drawn
returns-in_err-key-clause-drawn g c =
    let p = err_from_is_err_and c.from_residual.result c.from_residual.ensures.1 in
    rw (p.1, c.in_err-key.ensures.err) (row_up_to 0 (g.C.Chance.told c.args.chance.now).given (g.C.Chance.told c.loop-second.chance).given (g.C.Chance.told c.loop-second.chance).given c.args.first c.args.numbers.now c.loop-second.second-index
    c.args.shared.now.items c.loop-second.shared.items (omega (arith, c.loop-second-test.true)) c.loop-second.invariant.drawn ([], omega arith, draws_nothing (g.C.Chance.told c.loop-second.chance).given))

pub returns-in_err-push-clause-drawn : goal.returns-in_err-push-clause-drawn
returns-in_err-push-clause-drawn g c =
    let len : length c.in_ok-key.key ≡ 32 = omega arith in
    let p = err_from_is_err_and c.from_residual-in_err-push.result c.from_residual-in_err-push.ensures.1 in
    rw p.1 (row_up_to 1 (g.C.Chance.told c.args.chance.now).given (g.C.Chance.told c.loop-second.chance).given (g.C.Chance.told c.fill32.new.self).given c.args.first c.args.numbers.now c.loop-second.second-index
    c.args.shared.now.items c.loop-second.shared.items (omega (arith, c.loop-second-test.true)) c.loop-second.invariant.drawn
    (c.in_ok-key.key ∷ [], omega arith, draws_one (g.C.Chance.told c.loop-second.chance).given (g.C.Chance.told c.fill32.new.self).given c.in_ok-key.key len c.in_ok-key.ensures.ok))

pub loop-second-preserved : goal.loop-second-preserved
loop-second-preserved g c = record {
  drawn = row_more (g.C.Chance.told c.args.chance.now).given (g.C.Chance.told c.loop-second.chance).given (g.C.Chance.told c.fill32.new.self).given c.args.first c.args.numbers.now c.loop-second.second-index
      c.in_ok-key.key c.args.shared.now.items c.loop-second.shared.items c.push.new.self.items c.loop-second-test.true (omega arith) c.in_ok-key.ensures.ok c.in_ok-push.ensures.items c.loop-second.invariant.drawn;
  kept = omega (arith, c.loop-second.invariant.kept, c.in_ok-key.ensures.count.kept);
}

pub returns-clause-ok : goal.returns-clause-ok
returns-clause-ok g c =
    row_whole (g.C.Chance.told c.args.chance.now).given (g.C.Chance.told c.loop-second.chance).given c.args.first c.args.numbers.now c.loop-second.second-index c.args.shared.now.items
    c.loop-second.shared.items c.loop-second-test.false c.loop-second.invariant.drawn
