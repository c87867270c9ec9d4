use Rattle.std.proofs.Common.{List, sym, subst}
use Rattle.sporc_docs.proofs.Common.{Hand, JoinsAt, column, pass_at}
use Rattle.sporc_docs.proofs.Passes.{joins_then}
use Rattle.sporc_docs.proofs.hands.+join_hands.Goals as goal

pub returns-clause-joins : goal.returns-clause-joins
returns-clause-joins g t c i =
    let first = c.args.firsts.now in
    let mid = c.join.new.firsts in
    let last = c.join_hands.new.firsts in
    subst (λ (hs : List Hand). JoinsAt (pass_at i first) (column i hs) (pass_at i last)) (sym c.in-Some.ensures.cases.0)
    (joins_then (pass_at i first) (pass_at i mid) (pass_at i last) (pass_at i c.in-Some.hand.now.passes.items) (column i c.in-Some.others.now) (c.join.ensures.joins i)
    (c.join_hands.ensures.joins i))
