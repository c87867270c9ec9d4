use Rattle.std.proofs.Common.{◌≡◌, ◌∷◌, [], Option, Some, refl, subst₂}
use Rattle.sporc_docs.proofs.Common.{Pass, Item, JoinsAt}
use Rattle.sporc_docs.proofs.hands.join_at.Goals as goal

pub returns-clause-joins : goal.returns-clause-joins
returns-clause-joins g c =
    let taken = c.take-2.ensures.value in
    let some = c.unwrap-pass.ensures in
    let taken' = c.take.ensures.value in
    let some' = c.unwrap-other.ensures in
    let first : Some c.unwrap-pass.result ≡ c.args.first.now = cc in
    let place : Some c.unwrap-other.result ≡ c.args.place.now = cc in
    subst₂ (λ (f q : Option (Pass Item)). JoinsAt f (q ∷ []) (Some c.join.result)) first place (
      c.join.result,
      record { known_is = c.join.ensures.known; read_is = c.join.ensures.read; first = c.join.ensures.first; other = c.join.ensures.other },
      refl,
    )
