use Rattle.std.proofs.Common.{Result, IsOkUnless, subst}
use Rattle.sporc_serve.proofs.Common.{FrameFault}
use Rattle.sporc_wire.specs.declared.fault.FrameFault.TheVariants as faults
use Rattle.sporc_serve.proofs.Stepping.{fed_unless}
use Rattle.sporc_serve.proofs.session.take_piece.Goals as goal

pub unreachable-requires : goal.unreachable-requires
unreachable-requires g c =
    let is = subst (λ (r : Result (Unit {0}) FrameFault). IsOkUnless r faults.Memory) c.in-Err-BadMessage.is (fed_unless c.args.frames.now c.feed.result c.requires c.feed.ensures.fault) in
    absurd cc

pub unreachable-requires-in-Err-TooLong : goal.unreachable-requires-in-Err-TooLong
unreachable-requires-in-Err-TooLong g c =
    let is = subst (λ (r : Result (Unit {0}) FrameFault). IsOkUnless r faults.Memory) c.in-Err-TooLong.is (fed_unless c.args.frames.now c.feed.result c.requires c.feed.ensures.fault) in
    absurd cc
