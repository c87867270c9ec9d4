-- Views read by place, where one of them changes.
use Rattle.std.proofs.Common.{◌≡◌, ◌≢◌, ℕ, true, false, List, map, set, sym, refl, ap, ◌∙◌, subst, ⊎_elim}
use Rattle.sporc_turn.proofs.Common.{some, dite, ℕ_discrete, get_elem?, map-set, at_set, at_map, set_else, set_again, View, Known, known, HoldsAt}
use Rattle.sporc_turn.proofs.Lists.{set_at, same_at}

pub is_live : {E : Type 0} (k : Known E) → (k.spent ≡ true → ⊥) → k.spent ≡ false
is_live k never = elim k.spent as (λ b. (b ≡ k.spent) → b ≡ false) [ true ↦ λ e. absurd (never (sym e)) | false ↦ λ e. refl ] refl

module _ {E : Type 0} where
  -- a fact of each view, after one has changed
  pub each_set : (P Q : ℕ → View E → Type 0) (views : List (View E)) (id : ℕ) (w : View E) → ((j : ℕ) (v : View E) → get_elem? views j ≡ some v → P j v)
      → ((j : ℕ) (v : View E) → j ≢ id → get_elem? views j ≡ some v → P j v → Q j v) → Q id w → (j : ℕ) (v : View E) → get_elem? (set views id w) j ≡ some v → Q j v
  each_set P Q views id w all others mine j v e =
      ⊎_elim
      (λ (x : (j ≡ id) × (w ≡ v)). subst (λ (y : ℕ × View E). Q y.0 y.1) (λ i. (sym x.0 i, x.1 i)) mine)
      (λ (x : (j ≢ id) × (get_elem? views j ≡ some v)). others j v x.0 x.1 (all j v x.1))
      (at_set views id j w v e)

  -- a view that is there, after one has changed
  pub holds_at_set : (Q R : View E → Type 0) (views : List (View E)) (id k : ℕ) (v w : View E) → get_elem? views id ≡ some v → HoldsAt Q views k → ((u : View E) → k ≢ id → Q u → R u) → (k ≡ id → Q v → R w) → HoldsAt R (set views id w) k
  holds_at_set Q R views id k v w at t others mine =
      dite (ℕ_discrete k id)
      (λ (e : k ≡ id). (w, ap (λ n. get_elem? (set views id w) n) e ∙ set_at views id w v at, mine e (subst Q (same_at views k id t.0 v e t.1 at) t.2)))
      (λ (ne : k ≢ id). (t.0, set_else views id k w ne ∙ t.1, others t.0 ne t.2))

  -- a view of which the rule on the log says nothing new
  pub same_known : (views : List (View E)) (id : ℕ) (v w : View E) → get_elem? views id ≡ some v → w.known ≡ v.known → map known (set views id w) ≡ map known views
  same_known views id v w at same = map-set known views id w ∙ ap (λ k. set (map known views) id k) same ∙ set_again (map known views) id v.known (at_map known views id v at)
