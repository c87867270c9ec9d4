-- The tests of sameness tell whether two deltas are the same.
use Rattle.std.proofs.Common.{◌≡◌, List, refl, ap, sym, ◌∙◌}
use Rattle.sporc_delta.proofs.Common.{Part, Remove, Mark, marks_of, runs, same_part, same_delta}
use Rattle.std.specs.Bool.{Decides}
use Rattle.std.proofs.lemmas.Bool.Decides.{Decides-eqb}
use Rattle.std.proofs.lemmas.Slice.Eq.{slice_eq-Decides, bytes_eq-Decides}
use Rattle.sporc_delta.specs.declared.part.Part.TheVariants.{Keep, Insert}
use Rattle.sporc_delta.proofs.Runs.{marks_of-runs}

pub same_part-Decides : (p q : Part) → Decides (same_part p q) (p ≡ q)
same_part-Decides (Keep m) (Keep n) = (λ t. ap Keep ((Decides-eqb m n).0 t), λ e. (Decides-eqb m n).1 cc)
same_part-Decides (Insert s) (Insert t) = (λ h. ap Insert ((bytes_eq-Decides s t).0 h), λ e. (bytes_eq-Decides s t).1 cc)
same_part-Decides (Remove m) (Remove n) = (λ t. ap Remove ((Decides-eqb m n).0 t), λ e. (Decides-eqb m n).1 cc)
same_part-Decides p q = (λ t. absurd cc, λ e. absurd cc)

pub same_delta-Decides : (ms ns : List Mark) → Decides (same_delta ms ns) (ms ≡ ns)
same_delta-Decides ms ns =
    let d = slice_eq-Decides same_part-Decides (runs ms) (runs ns) (same_delta ms ns) refl in
    (λ t. sym (marks_of-runs ms) ∙ ap marks_of (d.0 t) ∙ marks_of-runs ns, λ e. d.1 (ap runs e))

pub ruleset sameness = (same_delta-Decides)
