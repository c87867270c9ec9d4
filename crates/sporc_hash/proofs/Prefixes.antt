-- What a chain says of the prefixes of its history.
use Rattle.std.proofs.Common.{◌≡◌, ℕ, suc, zero, ◌≤◌, List, [], ◌∷◌, ◌++◌, length, take, drop, refl, ap, sym, ◌∙◌, subst, arith, Some}
use Rattle.std.specs.List.{slice_get, Contains}
use Rattle.std.proofs.lemmas.List.{take-append-drop}
use Rattle.std.proofs.lemmas.List.Elements.{Contains-append_left, Contains-append_right}
use Rattle.sporc_hash.specs.Chain.{genesis_string, genesis_value, entry_string, link_string, next_value, chain_after, value_after, last_value, chain}
use Rattle.sporc_hash.specs.Strings.{entry_strings, chain_strings, CollisionFree}
use Rattle.sporc_hash.proofs.Lists.{Contains-first, Contains-rest}
use Rattle.sporc_hash.proofs.SameHistory.{same_histories}

-- the i-th value of a chain is the last one of the first i entries' chain
pub slice_get-chain_after : (value : List ℕ) (es : List (List ℕ)) (i : ℕ) → i ≤ length es → slice_get (chain_after value es) i ≡ Some (value_after value (take i es))
unfolding chain_after value_after
slice_get-chain_after value [] zero h = refl
slice_get-chain_after value [] (suc i) h = absurd (omega arith)
slice_get-chain_after value (e ∷ es) zero h = refl
slice_get-chain_after value (e ∷ es) (suc i) h = slice_get-chain_after (next_value value e) es i (omega arith)

pub slice_get-chain : (genesis : List ℕ) (es : List (List ℕ)) (i : ℕ) → i ≤ length es → slice_get (chain genesis es) i ≡ Some (last_value genesis (take i es))
slice_get-chain genesis es i h = slice_get-chain_after (genesis_value genesis) es i h

entry_strings-append : (value : List ℕ) (xs ys : List (List ℕ)) → entry_strings value (xs ++ ys) ≡ entry_strings value xs ++ entry_strings (value_after value xs) ys
unfolding value_after
entry_strings-append value [] ys = refl
entry_strings-append value (x ∷ xs) ys = ap (λ l. entry_string x ∷ link_string value x ∷ l) (entry_strings-append (next_value value x) xs ys)

-- what is hashed for a prefix is hashed for the whole
prefix_strings : (value : List ℕ) (es : List (List ℕ)) (n : ℕ) (x : List ℕ) → Contains (entry_strings value (take n es)) x → Contains (entry_strings value es) x
prefix_strings value es n x h =
    let split : entry_strings value (take n es) ++ entry_strings (value_after value (take n es)) (drop n es) ≡ entry_strings value es
    = sym (entry_strings-append value (take n es) (drop n es)) ∙ ap (entry_strings value) (take-append-drop n es) in
    subst (λ l. Contains l x) split (Contains-append_left _ _ x h)

-- two prefixes of histories whose chains end in one value are one, if the strings of both histories have no collision
pub one_value_one_prefix : (genesis : List ℕ) (a b : List (List ℕ)) (m n : ℕ) → CollisionFree (chain_strings genesis a ++ chain_strings genesis b)
    → last_value genesis (take m a) ≡ last_value genesis (take n b) → take m a ≡ take n b
one_value_one_prefix genesis a b m n free h =
    let all = chain_strings genesis a ++ chain_strings genesis b in
    let of_a = λ (x : List ℕ) (c : Contains (chain_strings genesis a) x). Contains-append_left (chain_strings genesis a) (chain_strings genesis b) x c in
    same_histories (Contains all) free genesis
    (of_a _ (Contains-first (genesis_string genesis) (entry_strings (genesis_value genesis) a)))
    (take m a) (take n b)
    (λ x c. of_a x (Contains-rest (genesis_string genesis) x (entry_strings (genesis_value genesis) a) (prefix_strings (genesis_value genesis) a m x c)))
    (λ x c. Contains-append_right (chain_strings genesis a) (chain_strings genesis b) x (Contains-rest (genesis_string genesis) x (entry_strings (genesis_value genesis) b) (prefix_strings (genesis_value genesis) b n x c)))
    h
