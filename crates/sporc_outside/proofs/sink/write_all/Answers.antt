use Rattle.std.proofs.Common.{◌∙◌, arith}
use Rattle.std.proofs.KnownBytes.{Appends-trans}
use Rattle.sporc_outside.proofs.Known.{take-front, front_fits}
use Rattle.sporc_outside.proofs.sink.write_all.Goals as goal

pub loop-at-preserved : goal.loop-at-preserved
loop-at-preserved g c = record {
  within = front_fits c.args.bytes.now c.loop-at.at c.in_ok-at.field-0 c.loop-at.invariant.within c.in_ok-at.ensures.within;
  written = rw take-front (Appends-trans _ _ _ _ _ c.loop-at.invariant.written c.in_ok-at.ensures.did.written);
  left = c.in_ok-at.ensures.did.left ∙ c.loop-at.invariant.left;
  shut = c.in_ok-at.ensures.did.is_shut ∙ c.loop-at.invariant.shut;
  kept = omega (arith, c.in_ok-at.ensures.did.count.kept);
}
