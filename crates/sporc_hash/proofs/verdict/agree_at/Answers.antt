use Rattle.std.proofs.Common.{◌≡◌, ◌<◌, ◌↔◌, Bool, ℕ, List, [], length, get_or, slice_get, IsTrue, Some, ap, sym, ◌∙◌}
use Rattle.std.specs.Bool.{Decides}
use Rattle.std.proofs.lemmas.Bool.Decides.{Decides-eqb}
use Rattle.std.proofs.lemmas.Option.{slice_get-get_or}
use Rattle.std.proofs.lemmas.Slice.Eq.{slice_eq-Decides}
use Rattle.sporc_hash.proofs.verdict.agree_at.Goals as goal

-- a test of the values at a place tells whether both lists have one value there
tells : (a b : List (List ℕ)) (at : ℕ) (r : Bool) → at < length a → at < length b → Decides r (get_or a at [] ≡ get_or b at []) → IsTrue r ↔ (slice_get a at ≡ slice_get b at)
tells a b at r in_a in_b d =
    let x = slice_get-get_or a at [] in_a in
    let y = slice_get-get_or b at [] in_b in
    ((λ t. x ∙ ap Some (d.0 t) ∙ sym y), (λ e. d.1 (let i : Some (get_or a at []) ≡ Some (get_or b at []) = sym x ∙ e ∙ y in cc)))

pub returns : goal.returns
returns c = tells _ _ c.args.at _ c.requires.a_in_bounds c.requires.b_in_bounds (slice_eq-Decides Decides-eqb _ _ _ c.eq.ensures)
