use Rattle.std.proofs.Common.{◌∷◌, List, ℕ, take, ap, ◌∙◌, arith}
use Rattle.std.proofs.lemmas.List.{length-take}
use Rattle.sporc_evidence.proofs.FormatLaws.{taken_are}
use Rattle.sporc_evidence.proofs.evidence.read_signed.Goals as goal

pub slice_bounds-message-end : goal.slice_bounds-message-end
slice_bounds-message-end c =
    let taken = taken_are c.args.bytes.now c.new-cursor.result (c.in_ok-summary.summary, c.read_fields.new.cursor) (λ i. omega (arith, c.type_inv.bytes i)) c.new-cursor.ensures.rest c.new-cursor.ensures.at c.in_ok-summary.ensures in
    omega (arith, c.at.ensures.value, taken.0, length-take c.at.result c.args.bytes.now)

pub returns-clause-message : goal.returns-clause-message
returns-clause-message c =
    let taken = taken_are c.args.bytes.now c.new-cursor.result (c.in_ok-summary.summary, c.read_fields.new.cursor) (λ i. omega (arith, c.type_inv.bytes i)) c.new-cursor.ensures.rest c.new-cursor.ensures.at c.in_ok-summary.ensures in
    ap (λ (bs : List ℕ). 6 ∷ bs) (ap (λ (n : ℕ). take n c.args.bytes.now) c.at.ensures.value ∙ taken.1)
