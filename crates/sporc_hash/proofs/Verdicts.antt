-- From the values of two chains to their histories.
use Rattle.std.proofs.Common.{◌≡◌, ◌≢◌, ℕ, suc, ◌+◌, ◌-◌, ◌<◌, ◌≤◌, List, ◌++◌, length, take, ap, sym, ◌∙◌, subst, arith, Some}
use Rattle.std.proofs.lemmas.List.{take_all}
use Rattle.std.specs.List.{slice_get}
use Rattle.sporc_hash.specs.Chain.{chain, genesis_value, last_value}
use Rattle.sporc_hash.specs.Strings.{CollisionFree, chain_strings}
use Rattle.sporc_hash.proofs.ChainLemmas.{length-chain_after}
use Rattle.sporc_hash.proofs.Prefixes.{slice_get-chain, one_value_one_prefix}
use Rattle.sporc_hash.specs.Verdict.{SameTip, TipIsIn, DivergesAfter}

module _ (genesis : List ℕ) (x y : List (List ℕ)) (a b : List (List ℕ)) (of_x : a ≡ chain genesis x) (of_y : b ≡ chain genesis y) where
  -- a chain has one value more than its history has entries
  long_x : length a ≡ suc (length x)
  long_x = ap length of_x ∙ length-chain_after (genesis_value genesis) x

  long_y : length b ≡ suc (length y)
  long_y = ap length of_y ∙ length-chain_after (genesis_value genesis) y

  at_x : (i : ℕ) → i ≤ length x → slice_get a i ≡ Some (last_value genesis (take i x))
  at_x i h = ap (λ l. slice_get l i) of_x ∙ slice_get-chain genesis x i h

  at_y : (i : ℕ) → i ≤ length y → slice_get b i ≡ Some (last_value genesis (take i y))
  at_y i h = ap (λ l. slice_get l i) of_y ∙ slice_get-chain genesis y i h

  module _ (free : CollisionFree (chain_strings genesis x ++ chain_strings genesis y)) where
    -- one value after i entries means that these are the same
    one_prefix : (i : ℕ) → i ≤ length x → i ≤ length y → slice_get a i ≡ slice_get b i → take i x ≡ take i y
    one_prefix i h k e =
        let v : Some (last_value genesis (take i x)) ≡ Some (last_value genesis (take i y)) = sym (at_x i h) ∙ e ∙ at_y i k in
        let w : last_value genesis (take i x) ≡ last_value genesis (take i y) = cc in
        one_value_one_prefix genesis x y i i free w

    pub same_histories : SameTip a b → x ≡ y
    same_histories (l, e) =
        let m : length x ≡ length y = omega (arith, long_x, long_y) in
        let n : length a - 1 ≡ length x = omega (arith, long_x) in
        let f : slice_get a (length x) ≡ slice_get b (length x) = subst (λ i. slice_get a i ≡ slice_get b i) n e in
        sym (take_all (length x) x (omega arith)) ∙ one_prefix (length x) (omega arith) (omega arith) f ∙ take_all (length x) y (omega arith)

    pub within_history : TipIsIn a b → (length x < length y) × (x ≡ take (length x) y)
    within_history (l, e) =
        let n : length a - 1 ≡ length x = omega (arith, long_x) in
        let f : slice_get a (length x) ≡ slice_get b (length x) = subst (λ i. slice_get a i ≡ slice_get b i) n e in
        (omega (arith, long_x, long_y), sym (take_all (length x) x (omega arith)) ∙ one_prefix (length x) (omega arith) (omega (arith, long_x, long_y)) f)

    pub beyond_history : TipIsIn b a → (length y < length x) × (y ≡ take (length y) x)
    beyond_history (l, e) =
        let n : length b - 1 ≡ length y = omega (arith, long_y) in
        let f : slice_get a (length y) ≡ slice_get b (length y) = sym (subst (λ i. slice_get b i ≡ slice_get a i) n e) in
        (omega (arith, long_x, long_y), sym (take_all (length y) y (omega arith)) ∙ sym (one_prefix (length y) (omega (arith, long_x, long_y)) (omega arith) f))

    pub forked_histories : (k : ℕ) → DivergesAfter a b k → (k < length x) × (k < length y) × (take k x ≡ take k y) × (take (k + 1) x ≢ take (k + 1) y)
    forked_histories k (in_a, in_b, e, ne) = (
      omega (arith, long_x),
      omega (arith, long_y),
      one_prefix k (omega (arith, long_x)) (omega (arith, long_y)) e,
      λ t. ne (at_x (k + 1) (omega (arith, long_x)) ∙ ap (λ l. Some (last_value genesis l)) t ∙ sym (at_y (k + 1) (omega (arith, long_y)))),
    )
