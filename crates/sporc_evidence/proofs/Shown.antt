-- From a judgment on two lists of values to the histories of which they are the chains.
use Rattle.std.proofs.Common.{◌≡◌, ◌≢◌, ℕ, suc, ◌+◌, ◌-◌, ◌<◌, ◌≤◌, Bool, true, false, cond, ltb, List, [], ◌∷◌, ◌++◌, length, take, get_or, slice_get, Option, None, Some, refl, sym, ap, subst, ◌∙◌, arith}
use Rattle.std.proofs.lemmas.Bool.{ltb-false, ltb-true}
use Rattle.std.proofs.lemmas.Option.{slice_get-get_or, slice_get_within}
use Rattle.sporc_hash.specs.Chain.{chain, chain_after, genesis_value}
use Rattle.sporc_hash.specs.Strings.{CollisionFree, chain_strings}
use Rattle.sporc_hash.specs.Verdict.{DivergesAfter, IsVerdictOn, SameTip, TipIsIn}
use Rattle.sporc_hash.specs.declared.verdict.Verdict.{Verdict}
use Rattle.sporc_hash.specs.declared.verdict.Verdict.TheVariants.{Longer, Prefix, Same}
use Rattle.sporc_hash.proofs.ChainLemmas.{length-chain_after}
use Rattle.sporc_hash.proofs.Verdicts.{beyond_history, forked_histories, same_histories, within_history}
use Rattle.sporc_line.proofs.Lists.{slice_get-take, take_slice_get_more}
use Rattle.sporc_evidence.specs.declared.judging.Difference.{Difference}
use Rattle.sporc_evidence.specs.declared.judging.Judged.TheVariants.{Consistent, Forked}
use Rattle.sporc_evidence.specs.Forks.{PartAfter}
use Rattle.sporc_evidence.specs.Judging.{IsFirstDifference, by_length, first_difference, judged, judged_by}
use Rattle.sporc_evidence.proofs.Differences.{agree, behind_first, found}

-- ---- what a judgment says of the lists

-- a fork is the first difference
record IsFork (a b : List (List ℕ)) (after : ℕ) : Type 0 where
  first : Difference
  is : IsFirstDifference a b first
  after_is : first.at - 1 ≡ after

fork_is : (a b : List (List ℕ)) (after : ℕ) (left right : List ℕ) → judged a b ≡ Forked after left right → IsFork a b after
fork_is a b after left right e = go (first_difference a b) refl e
  where
    go : (d : Option Difference) → first_difference a b ≡ d → judged_by a b d ≡ Forked after left right → IsFork a b after
    go None is e = absurd cc
    go (Some d) is e = record { first = d; is = found a b d is; after_is = cc }

-- ---- a fork is of no one history

at_prefix : (whole a : List (List ℕ)) (at : ℕ) (value : List ℕ) → take (length a) whole ≡ a → slice_get a at ≡ Some value → slice_get whole at ≡ Some value
at_prefix whole a at value e in_a = (slice_get-take whole (length a) at value (ap (λ (l : List (List ℕ)). slice_get l at) e ∙ in_a)).1

pub no_history : (whole a b : List (List ℕ)) (after : ℕ) (left right : List ℕ) → judged a b ≡ Forked after left right → take (length a) whole ≡ a → take (length b) whole ≡ b → ⊥
no_history whole a b after left right e of_a of_b =
    let f = fork_is a b after left right e in
    let d = f.first in
    let one : Some d.left ≡ Some d.right = sym (at_prefix whole a d.at d.left of_a f.is.in_a) ∙ at_prefix whole b d.at d.right of_b f.is.in_b in
    f.is.differ cc

-- ---- the chains of two histories

-- one entry more of two histories that have one entry there
one_more : (k : ℕ) (x y : List (List ℕ)) → take k x ≡ take k y → k < length x → slice_get x k ≡ slice_get y k → take (k + 1) x ≡ take (k + 1) y
one_more k x y same in_x e =
    let next : k + 1 ≡ suc k = omega arith in
    let here = slice_get-get_or x k [] in_x in
    let more_x = take_slice_get_more x k (get_or x k []) here in
    let more_y = take_slice_get_more y k (get_or x k []) (sym e ∙ here) in
    ap (λ (n : ℕ). take n x) next ∙ more_x ∙ ap (λ (l : List (List ℕ)). l ++ get_or x k [] ∷ []) same ∙ sym more_y ∙ ap (λ (n : ℕ). take n y) (sym next)

starts : (genesis : List ℕ) (es : List (List ℕ)) → slice_get (chain genesis es) 0 ≡ Some (genesis_value genesis)
unfolding chain_after
starts genesis [] = refl
starts genesis (e ∷ es) = refl

module _ (genesis : List ℕ) (x y a b : List (List ℕ)) (of_x : a ≡ chain genesis x) (of_y : b ≡ chain genesis y) (free : CollisionFree (chain_strings genesis x ++ chain_strings genesis y)) where
  one_genesis : slice_get a 0 ≡ slice_get b 0
  one_genesis = ap (λ (l : List (List ℕ)). slice_get l 0) of_x ∙ starts genesis x ∙ sym (ap (λ (l : List (List ℕ)). slice_get l 0) of_y ∙ starts genesis y)

  -- ---- forked

  diverges : (d : Difference) → IsFirstDifference a b d → DivergesAfter a b (d.at - 1)
  diverges d is =
      let pos = behind_first a b d one_genesis is in
      let n : d.at - 1 + 1 ≡ d.at = omega (arith, pos) in
      let in_a = slice_get_within a d.at d.left is.in_a in
      let in_b = slice_get_within b d.at d.right is.in_b in
      let differ : slice_get a d.at ≢ slice_get b d.at = λ e. is.differ (let one : Some d.left ≡ Some d.right = sym is.in_a ∙ e ∙ is.in_b in cc) in (
        omega (arith, n, in_a),
        omega (arith, n, in_b),
        is.before (d.at - 1) (omega (arith, pos)),
        subst (λ (k : ℕ). slice_get a k ≢ slice_get b k) (sym n) differ,
      )

  pub part : (after : ℕ) (left right : List ℕ) → judged a b ≡ Forked after left right → PartAfter after x y
  part after left right e =
      let f = fork_is a b after left right e in
      let k = f.first.at - 1 in
      let h = forked_histories genesis x y a b of_x of_y free k (diverges f.first f.is) in
      let made : PartAfter k x y = record {
        common = h.2;
        first = h.0;
        second = h.1;
        differ = λ e. h.3 (one_more k x y h.2 h.0 e);
      } in
      subst (λ (n : ℕ). PartAfter n x y) f.after_is made

  -- ---- consistent

  -- lists that differ nowhere have one value at the end of the shorter
  long : length a ≡ suc (length x)
  long = ap length of_x ∙ length-chain_after (genesis_value genesis) x

  stands : first_difference a b ≡ None → IsVerdictOn x y (by_length (length a) (length b))
  stands none = go (ltb (length a) (length b)) refl
    where
      long_y : length b ≡ suc (length y)
      long_y = ap length of_y ∙ length-chain_after (genesis_value genesis) y

      at_same : length a ≡ length b → SameTip a b
      at_same l = (l, agree a b none (length a - 1) (omega (arith, long)) (omega (arith, l, long)))

      at_less : length a < length b → TipIsIn a b
      at_less l = (l, agree a b none (length a - 1) (omega (arith, long)) (omega (arith, l, long)))

      at_more : length b < length a → TipIsIn b a
      at_more l = (l, sym (agree a b none (length b - 1) (omega (arith, l, long_y)) (omega (arith, long_y))))

      last : (t : Bool) → ltb (length b) (length a) ≡ t → length b ≤ length a → IsVerdictOn x y (cond t Longer Same)
      last true t le = beyond_history genesis x y a b of_x of_y free (at_more (ltb-true (length b) (length a) t))
      last false t le = same_histories genesis x y a b of_x of_y free (at_same (omega (arith, le, ltb-false (length b) (length a) t)))

      go : (t : Bool) → ltb (length a) (length b) ≡ t → IsVerdictOn x y (cond t Prefix (cond (ltb (length b) (length a)) Longer Same))
      go true t = within_history genesis x y a b of_x of_y free (at_less (ltb-true (length a) (length b) t))
      go false t = last (ltb (length b) (length a)) refl (ltb-false (length a) (length b) t)

  pub consistent : (verdict : Verdict) → judged a b ≡ Consistent verdict → IsVerdictOn x y verdict
  consistent verdict e = go (first_difference a b) refl e
    where
      go : (d : Option Difference) → first_difference a b ≡ d → judged_by a b d ≡ Consistent verdict → IsVerdictOn x y verdict
      go None none e = let is : by_length (length a) (length b) ≡ verdict = cc in subst (IsVerdictOn x y) is (stands none)
      go (Some d) is e = absurd cc
