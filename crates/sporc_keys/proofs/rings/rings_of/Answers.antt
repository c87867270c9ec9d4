use Rattle.sporc_keys.proofs.Common.{ring_of}
use Rattle.sporc_keys.proofs.Naming.{made_more, made_all}
use Rattle.sporc_keys.proofs.rings.rings_of.Goals as goal

pub loop-one-preserved : goal.loop-one-preserved
loop-one-preserved c =
    made_more (ring_of c.args.key.now c.args.shared.now) c.args.named.now c.loop-one.one-index _ c.loop-one.rings.items c.push.new.self.items c.in_ok-ring.ring
    c.loop-one-test.true c.in_ok-ring.ensures c.loop-one.invariant c.in_ok-push.ensures.items

pub returns : goal.returns
returns c = made_all (ring_of c.args.key.now c.args.shared.now) c.args.named.now c.loop-one.one-index c.loop-one.rings.items c.loop-one-test.false c.loop-one.invariant
