use Rattle.std.proofs.Common.{◌≡◌, ℕ, List, ◌∷◌, Vec, Global, map, ap, sym, ◌∙◌, subst}
use Rattle.sporc_round.specs.Taking.{TakesAll}
use Rattle.sporc_round.proofs.Taken.{first_then}
use Rattle.sporc_round.proofs.taking.+take_all.Goals as goal

abbrev bytes_of : List (Vec ℕ Global) → List (List ℕ)
bytes_of entries = map (λ v. v.items) entries

pub returns : goal.returns
returns g t c =
    let split : bytes_of c.args.entries.now ≡ c.as_slice.result.now ∷ bytes_of c.in-Some.more.now =
    ap bytes_of c.in-Some.ensures.cases.0 ∙ ap (λ (e : List ℕ). e ∷ bytes_of c.in-Some.more.now) (sym c.as_slice.ensures.value) in
    record {
      takes = subst (λ (es : List (List ℕ)). TakesAll c.args.client.now c.take_all.new.client es c.take_all.result) (sym split)
          (first_then c.args.client.now c.take_one.new.client c.take_all.new.client c.as_slice.result.now (bytes_of c.in-Some.more.now) c.take_all.result
          (sym c.removed.ensures.value ∙ c.if-removed.false) c.in_ok-take_one.ensures.takes c.take_all.ensures.takes);
    }
