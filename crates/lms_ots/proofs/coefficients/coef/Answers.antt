use Rattle.lms_ots.proofs.CoefficientLemmas.{coef_is, coef_below}
use Rattle.lms_ots.proofs.coefficients.coef.Goals as goal

pub returns-clause-value : goal.returns-clause-value
returns-clause-value c = coef_is c.args.s.now c.args.i c.args.w c.requires.width

pub returns-clause-within : goal.returns-clause-within
returns-clause-within c = rw (coef_is c.args.s.now c.args.i c.args.w c.requires.width) (coef_below _ _ c.args.w)
