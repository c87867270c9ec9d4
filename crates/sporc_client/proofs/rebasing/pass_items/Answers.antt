use Rattle.std.proofs.Common.{arith}
use Rattle.sporc_client.proofs.Rebased.{passed_one}
use Rattle.sporc_client.proofs.rebasing.pass_items.Goals as goal

pub loop-item-preserved : goal.loop-item-preserved
loop-item-preserved c =
    let loop = c.loop-item in
    let one = c.in_ok-one.ensures in
    record {
      some =
          passed_one c.args.form.now c.args.items.now loop.after c.pass_one.new.form loop.passed.items c.push_reserved.new.self.items c.in_ok-one.one loop.item-index c.item-item.result c.loop-item-test.true c.item-item.is
          c.push_reserved.ensures.items one.item one.fits one.form loop.invariant.some;
      count = omega (arith, c.push_reserved.ensures.len, loop.invariant.count);
      room = omega (arith, c.push_reserved.ensures.capacity, loop.invariant.room);
    }
