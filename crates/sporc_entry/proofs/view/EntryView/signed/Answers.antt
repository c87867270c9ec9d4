use Rattle.std.proofs.Common.{arith, ℕ, ◌+◌, ◌∷◌, length, take, ap, ◌∙◌}
use Rattle.sporc_entry.proofs.Common.{length-take, signed_string}
use Rattle.sporc_entry.specs.EntryView.{EntryViewModel, parts_entry}
use Rattle.sporc_entry.proofs.ViewLaws.{view_bound, view_signed}
use Rattle.sporc_entry.proofs.view.EntryView.signed.Goals as goal

pub slice_bounds-result-end : goal.slice_bounds-result-end
slice_bounds-result-end c =
    let i = c.self.inside in
    let bound = view_bound (parts_entry i.parts.header i.parts.body.now i.parts.signature.now) i.bytes.now c.self.invariant.entry c.self.invariant.spelled in
    omega (arith, bound, c.body_at.ensures.value, length-take (c.body_at.result + length i.parts.body.now) i.bytes.now)

pub returns : goal.returns
returns c =
    let i = c.self.inside in
    record {
      value = ap (λ (k : ℕ). 3 ∷ take (k + length i.parts.body.now) i.bytes.now) c.body_at.ensures.value
          ∙ view_signed (parts_entry i.parts.header i.parts.body.now i.parts.signature.now) i.bytes.now c.self.invariant.entry c.self.invariant.spelled
          ∙ ap (λ (m : EntryViewModel). signed_string m.entry) c.self.view_is;
    }
