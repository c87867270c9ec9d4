-- Rounds of a server, one behind another.
use Rattle.std.proofs.Common.{◌≡◌, ◌≤◌, ◌+◌, ℕ, List, [], ◌∷◌, ◌++◌, length, Ok, Err, refl, sym, subst, ◌∙◌, arith}
use Rattle.sporc_hosting.proofs.Common.{length-append, Fault}
use Rattle.sporc_hosting.specs.Rounds.{GoRounds, GoWell, Round, Standing}

module _ {X : Type 0} (IsRound : Standing X → Round X → Type 0) where
  -- one more that ended well
  pub well_more : (a b : Standing X) (rs : List (Round X)) (r : Round X) → GoWell IsRound a rs b → IsRound b r → r.answer ≡ Ok tt → GoWell IsRound a (rs ++ r ∷ []) r.after
  well_more a b [] r is one good = (subst (λ (s : Standing X). IsRound s r) is one, good, refl)
  well_more a b (q ∷ rs) r (first, fine, others) one good = (first, fine, well_more q.after b rs r others one good)

  -- rounds so far, of which the last is this one, whatever its end
  abbrev pub RoundsSoFar : Standing X → Round X → ℕ → Type 0
  RoundsSoFar a last done = (rs : List (Round X)) × (b : Standing X) × GoWell IsRound a rs b × IsRound b last × (length rs + 1 ≡ done)

  pub first_round : (a : Standing X) (r : Round X) → IsRound a r → RoundsSoFar a r 1
  first_round a r is = ([], a, refl, is, refl)

  pub next_round : (a : Standing X) (r next : Round X) (done : ℕ) → RoundsSoFar a r done → r.answer ≡ Ok tt → IsRound r.after next → RoundsSoFar a next (done + 1)
  next_round a r next done (rs, b, well, is, size) good then =
      (rs ++ r ∷ [], r.after, well_more a b rs r well is good, then, omega (arith, size, length-append rs (r ∷ [])))

  -- they are over
  pub all_rounds : (a : Standing X) (last : Round X) (done times : ℕ) → RoundsSoFar a last done → done ≤ times → (last.answer ≡ Ok tt → done ≡ times) → GoRounds IsRound times a last
  all_rounds a last done times (rs, b, well, is, size) within all = record {
    rounds = rs;
    before = b;
    well = well;
    last_is = is;
    within = omega (arith, size, within);
    all = λ good. size ∙ all good;
  }

  -- one did not end well
  pub ended_early : (a : Standing X) (last : Round X) (done times : ℕ) (fault : Fault) → RoundsSoFar a last done → done ≤ times → last.answer ≡ Err fault → GoRounds IsRound times a last
  ended_early a last done times fault so_far within is =
      all_rounds a last done times so_far within (λ good. let clash : Ok tt ≡ Err fault = sym good ∙ is in absurd cc)
