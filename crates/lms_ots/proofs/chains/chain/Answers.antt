use Rattle.std.proofs.Common.{◌∙◌, arith}
use Rattle.lms_ots.proofs.ChainLemmas.{chain_none, chain_more}
use Rattle.lms_ots.proofs.chains.chain.Goals as goal

pub steps-init : goal.steps-init
steps-init c = (c.chain_string-string.ensures, chain_none _ _ _ _ _ _ (omega arith))

pub steps-preserved : goal.steps-preserved
steps-preserved c =
    let step = rw c.steps.invariant.0 at c.step-value.ensures.value in (
      c.step-value.ensures.front ∙ c.steps.invariant.0,
      chain_more _ _ _ _ c.steps.j _ _ _ (omega arith) c.steps.invariant.1 step,
    )
