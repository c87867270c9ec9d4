-- A batch is the longest prefix within its limits.
use Rattle.std.proofs.Common.{◌≡◌, ℕ, zero, suc, ◌+◌, ◌-◌, ◌≤◌, Bool, true, false, cond, leb, List, [], ◌∷◌, length, take, refl, ap, arith, flat_map, length-append}
use Rattle.sporc_order.proofs.Common.{leb-false, counted, longest_batch}
use Rattle.sporc_order.proofs.Sizes.{counted_len}

prefix_by : (t : Bool) (e : List ℕ) (more es : List (List ℕ)) → more ≡ take (length more) es → cond t (e ∷ more) [] ≡ take (length (cond t (e ∷ more) [])) (e ∷ es)
prefix_by true e more es is = ap (λ (l : List (List ℕ)). e ∷ l) is
prefix_by false e more es is = refl

pub is_prefix : (k room : ℕ) (es : List (List ℕ)) → longest_batch k room es ≡ take (length (longest_batch k room es)) es
is_prefix (suc k) room (e ∷ es) =
    prefix_by (leb (length e + 4) room) e (longest_batch k (room - (length e + 4)) es) es (is_prefix k (room - (length e + 4)) es)
is_prefix k room es = refl

longest_by : (t : Bool) (e : List ℕ) (more : List (List ℕ)) (n room : ℕ) → leb (length e + 4) room ≡ t → length e + 4 ≤ room → n ≤ length more → suc n ≤ length (cond t (e ∷ more) [])
longest_by true e more n room is fits le = omega (arith, le)
longest_by false e more n room is fits le = absurd (omega (arith, fits, leb-false (length e + 4) room is))

pub longest : (k room : ℕ) (es : List (List ℕ)) (n : ℕ) → n ≤ length es → n ≤ k → length (flat_map counted (take n es)) ≤ room → n ≤ length (longest_batch k room es)
longest k room es zero within few small = omega arith
longest zero room es (suc n) within few small = absurd (omega (arith, few))
longest (suc k) room [] (suc n) within few small = absurd (omega (arith, within))
longest (suc k) room (e ∷ es) (suc n) within few small =
    let whole : length (flat_map counted (e ∷ take n es)) ≡ length e + 4 + length (flat_map counted (take n es)) =
    omega (arith, length-append (counted e) (flat_map counted (take n es)), counted_len e) in
    longest_by (leb (length e + 4) room) e (longest_batch k (room - (length e + 4)) es) n room refl (omega (arith, small, whole))
    (longest k (room - (length e + 4)) es n (omega (arith, within)) (omega (arith, few)) (omega (arith, small, whole)))
