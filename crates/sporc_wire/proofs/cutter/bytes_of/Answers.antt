use Rattle.std.proofs.Common.{◌<◌, List, ℕ, rules, subst}
use Rattle.sporc_wire.proofs.Common.{slice_index}
use Rattle.sporc_wire.proofs.cutter.bytes_of.Goals as goal

pub returns-clause-fits : goal.returns-clause-fits
returns-clause-fits c = λ i. subst (λ (xs : List ℕ). slice_index xs i < 256) c.as_slice-bytes.ensures (search rules)
