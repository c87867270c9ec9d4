use Rattle.std.proofs.Common.{rules, arith}
use Rattle.sporc_hosting.proofs.Common.{KeepsBehind}
use Rattle.sporc_hosting.proofs.Back.{front_left, last_keeps, one_left, others_keep}
use Rattle.sporc_hosting.proofs.Rooms.{numbers_left}
use Rattle.sporc_hosting.proofs.Saved.{as_many_left}
use Rattle.sporc_hosting.proofs.giving.+give_back_all.Goals as goal

pub give_back_all-others-requires : goal.give_back_all-others-requires
give_back_all-others-requires g t c κs within =
    let each = as_many_left c.args.logs.now c.in-Some.more_logs.now c.args.orders.now c.in-Some-split_first.more_orders.now c.in-Some.log.now c.in-Some-split_first.order.now
    c.in-Some.ensures.cases.0 c.in-Some-split_first.ensures.cases.0 c.requires.one_length in
    let tails = others_keep (KeepsBehind g.F.Appended.AppendFile.told) c.args.tails.now.items c.args.orders.now c.in-Some-split_first.order.now
    c.in-Some-split_first.more_orders.now c.in-Some-split_first.ensures.cases.0 c.requires.tails in
    let numbers = numbers_left c.args.logs.now c.in-Some.log.now c.in-Some.more_logs.now c.in-Some.ensures.cases.0 _ _ c.requires.numbers_limit in
    (search rules, (within.0, (within.1.0, (within.1.1, (each, (numbers, tails))))))

pub returns-in_default-pop-clause-gives : goal.returns-in_default-pop-clause-gives
returns-in_default-pop-clause-gives g t c =
    absurd (one_left (KeepsBehind g.F.Appended.AppendFile.told) c.args.tails.now.items c.args.orders.now c.in-Some-split_first.order.now c.in-Some-split_first.more_orders.now c.in-Some-split_first.ensures.cases.0
    c.give_back_all-others.new.tails.items c.pop.new.self.items c.give_back_all-others.ensures.tails (omega (arith, c.give_back_all-others.new.tails.ok.0, c.in_default-pop.ensures.cases.0)) c.requires.tails)

pub returns-in_default-pop-clause-tails : goal.returns-in_default-pop-clause-tails
returns-in_default-pop-clause-tails g t c =
    absurd (one_left (KeepsBehind g.F.Appended.AppendFile.told) c.args.tails.now.items c.args.orders.now c.in-Some-split_first.order.now c.in-Some-split_first.more_orders.now c.in-Some-split_first.ensures.cases.0
    c.give_back_all-others.new.tails.items c.pop.new.self.items c.give_back_all-others.ensures.tails (omega (arith, c.give_back_all-others.new.tails.ok.0, c.in_default-pop.ensures.cases.0)) c.requires.tails)

pub give_back-one-requires : goal.give_back-one-requires
give_back-one-requires g t c = record {
  tail = last_keeps (KeepsBehind g.F.Appended.AppendFile.told) c.args.tails.now.items c.args.orders.now c.in-Some-split_first.order.now c.in-Some-split_first.more_orders.now c.in-Some-split_first.ensures.cases.0
      c.give_back_all-others.new.tails.items c.pop.new.self.items c.give_back_all-others.ensures.tails c.in-Some-pop.tail c.in-Some-pop.ensures.items c.requires.tails;
}

pub returns-clause-tails : goal.returns-clause-tails
returns-clause-tails g t c =
    front_left (KeepsBehind g.F.Appended.AppendFile.told) c.args.tails.now.items c.args.orders.now c.in-Some-split_first.order.now c.in-Some-split_first.more_orders.now c.in-Some-split_first.ensures.cases.0
    c.give_back_all-others.new.tails.items c.pop.new.self.items c.give_back_all-others.ensures.tails c.in-Some-pop.tail c.in-Some-pop.ensures.items
