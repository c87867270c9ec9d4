use Rattle.std.proofs.Common.{Some, List, ℕ, ap, sym, ◌∙◌}
use Rattle.sporc_play.proofs.Common.{ltb-true}
use Rattle.sporc_play.proofs.Found.{entry_there}
use Rattle.sporc_play.proofs.made.entry_at.Goals as goal

pub returns : goal.returns
returns c =
    let found = c.in_ok-entry.ensures.lookup in
    record {
      value = ap (λ (bytes : List ℕ). Some bytes) c.as_slice.ensures.value
          ∙ entry_there c.args.made.now c.args.number c.in_ok-entry.entry.now c.if-number-eq0.false
          (ltb-true _ _ (sym found.0)) found.1;
    }
