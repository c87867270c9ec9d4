use Rattle.std.proofs.Common.{◌≤◌, ap, arith, length, subst}
use Rattle.sporc_line.proofs.Common.{text_of, LineModel, MAX_COMMITTED_LEN}
use Rattle.sporc_line.proofs.LineKeeps.{text_small}
use Rattle.sporc_line.proofs.line.Line.text.Goals as goal

pub returns-clause-within : goal.returns-clause-within
returns-clause-within c =
    subst (λ (m : LineModel). length (text_of m.genesis m.kit m.entries) ≤ MAX_COMMITTED_LEN) c.self.view_is
    (omega (arith, text_small c.self.invariant, ap length c.self.invariant.text_is))
