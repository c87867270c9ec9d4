use Rattle.std.proofs.Common.{◌∙◌, ap, arith, refl}
use Rattle.sporc_delta.proofs.Common.{kept_there}
use Rattle.sporc_delta.proofs.Shifted.{DeltaInvariant-shifted, fits_shift}
use Rattle.sporc_delta.proofs.delta.Delta.shift.Goals as goal

pub shift_parts-requires-clause-kept_positive : goal.shift_parts-requires-clause-kept_positive
shift_parts-requires-clause-kept_positive c =
    (fits_shift c.args.shift c.self.inside.parts.items c.self.inside.base c.self.inside.out c.args.self.now c.self.invariant c.self.view_is c.requires).kept

pub overflow_sub-self : goal.overflow_sub-self
overflow_sub-self c =
    let fits = fits_shift c.args.shift c.self.inside.parts.items c.self.inside.base c.self.inside.out c.args.self.now c.self.invariant c.self.view_is c.requires in
    omega (arith, fits.in_base, c.kept_there-kept.ensures.value, ap (kept_there c.args.shift) c.as_slice.ensures.value)

pub overflow_add-self : goal.overflow_add-self
overflow_add-self c =
    let fits = fits_shift c.args.shift c.self.inside.parts.items c.self.inside.base c.self.inside.out c.args.self.now c.self.invariant c.self.view_is c.requires in
    omega (arith, fits.base_limit, c.kept_there-kept.ensures.value, ap (kept_there c.args.shift) c.as_slice.ensures.value, c.count-count.ensures.value)

pub overflow_sub-self-2 : goal.overflow_sub-self-2
overflow_sub-self-2 c =
    let fits = fits_shift c.args.shift c.self.inside.parts.items c.self.inside.base c.self.inside.out c.args.self.now c.self.invariant c.self.view_is c.requires in
    omega (arith, fits.in_out, c.kept_there-kept.ensures.value, ap (kept_there c.args.shift) c.as_slice.ensures.value)

pub overflow_add-self-2 : goal.overflow_add-self-2
overflow_add-self-2 c =
    let fits = fits_shift c.args.shift c.self.inside.parts.items c.self.inside.base c.self.inside.out c.args.self.now c.self.invariant c.self.view_is c.requires in
    omega (arith, fits.out_limit, c.kept_there-kept.ensures.value, ap (kept_there c.args.shift) c.as_slice.ensures.value, c.count-count.ensures.value)

pub invariant_of-self : goal.invariant_of-self
invariant_of-self c =
    let kept = c.kept_there-kept.ensures.value ∙ ap (kept_there c.args.shift) c.as_slice.ensures.value in
    DeltaInvariant-shifted c.args.shift c.self.inside.parts.items c.shift_parts.new.parts.items c.self.inside.base c.self.inside.out _ _ c.args.self.now c.self.invariant c.self.view_is c.requires
    c.shift_parts.ensures.shifts
    (rw (kept, c.count-count.ensures.value) refl)
    (rw (kept, c.count-count.ensures.value) refl)
