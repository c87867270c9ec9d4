use Rattle.std.proofs.Common.{ap, ◌∙◌, arith}
use Rattle.sporc_keys.proofs.Common.{take_all, founders_in, filter_map-append}
use Rattle.std.proofs.lemmas.Grind.{common_steps}
use Rattle.sporc_keys.proofs.founders.founders_of.Goals as goal

pub loop-one-preserved : goal.loop-one-preserved
loop-one-preserved c = record {
  value = grind (arith, common_steps, filter_map-append, c.in_ok-put_founder.ensures.value, c.loop-one.invariant.value);
  keys = c.in_ok-put_founder.ensures.keys c.loop-one.invariant.keys;
}

pub returns-clause-value : goal.returns-clause-value
returns-clause-value c = c.loop-one.invariant.value ∙ ap founders_in (take_all c.loop-one.one-index c.args.named.now c.loop-one-test.false)
