use Rattle.std.proofs.Common.{arith}
use Rattle.sporc_docs.proofs.Ending.{ending}
use Rattle.sporc_docs.proofs.serving.serve_hands.Goals as goal

pub returns-clause-ending : goal.returns-clause-ending
returns-clause-ending g c orders apart documents known =
    let same = c.split_hands.auto.hands in
    ending c.args.docs.now.turns.now c.args.docs.now.documents.now orders apart documents
    c.requires.one_length c.split_hands.new.hands c.crowd-answer.new.hands c.args.firsts.now c.split_hands.new.firsts c.join_hands.new.firsts known
    c.split_hands.ensures.hands c.join_hands.ensures.firsts c.split_hands.ensures.splits c.join_hands.ensures.joins
    (g.N.Links.told c.args.net.now)
    (g.N.Links.told c.crowd-answer.new.net) _
    c.crowd-answer.result (omega (arith, same)) c.crowd-answer.ensures.crowd
