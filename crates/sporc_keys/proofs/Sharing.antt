-- The keys that two share.
use Rattle.std.proofs.Common.{◌≡◌, ℕ, zero, suc, ◌+◌, ◌<◌, ◌≤◌, Bool, true, false, cond, eqb, List, [], ◌∷◌, ◌++◌, length, Option, Some, None, refl, sym, ap, ap₂, ◌∙◌, arith, map}
use Rattle.sporc_keys.proofs.Common.{◌||◌, Contains, filter_map, find, option_map, cons_option, list_any, zip, IsStrictlyIncreasing, nat_tests, append-nil, SharedKey, PairKey, numbers_in}
use Rattle.sporc_keys.proofs.Common.{pair_keys_of, pairs_of, shared_by, shared_keys, members_of, Ascends, increasing_from_zero, filter_map-append}
use Rattle.sporc_keys.specs.Founding.{key_with, row}

-- ---- both have it

-- what a member has of a key under the number of the other
abbrev mine : SharedKey → PairKey
mine s = record { member = s.second; key = s.key }

abbrev theirs : SharedKey → PairKey
theirs s = record { member = s.first; key = s.key }

key_head : (n : ℕ) (p : PairKey) (ps : List PairKey) → key_with n (p ∷ ps) ≡ cond (eqb p.member n) (Some p.key) (key_with n ps)
key_head n p ps = go (eqb p.member n)
  where
    go : (b : Bool) → option_map (λ q. q.key) (cond b (Some p) (find (λ q. eqb q.member n) ps)) ≡ cond b (Some p.key) (key_with n ps)
    go true = refl
    go false = refl

key_step : (n m : ℕ) (s : SharedKey) (ss : List SharedKey) → key_with n (pair_keys_of m (s ∷ ss))
    ≡ cond (eqb s.first m) (cond (eqb s.second n) (Some s.key) (key_with n (pair_keys_of m ss)))
    (cond (eqb s.second m) (cond (eqb s.first n) (Some s.key) (key_with n (pair_keys_of m ss))) (key_with n (pair_keys_of m ss)))
key_step n m s ss = go (eqb s.first m) (eqb s.second m)
  where
    later : Option (List ℕ)
    later = key_with n (pair_keys_of m ss)

    go : (a b : Bool) → key_with n (cons_option (cond a (Some (mine s)) (cond b (Some (theirs s)) None)) (pair_keys_of m ss))
        ≡ cond a (cond (eqb s.second n) (Some s.key) (key_with n (pair_keys_of m ss))) (cond b (cond (eqb s.first n) (Some s.key) (key_with n (pair_keys_of m ss))) (key_with n (pair_keys_of m ss)))
    go true b = key_head n (mine s) (pair_keys_of m ss)
    go false true = key_head n (theirs s) (pair_keys_of m ss)
    go false false = refl

-- the tests are: the first is the one, the second is; the first is the other, the second is
agree : (x y one other : ℕ) (key : List ℕ) (l r : Option (List ℕ)) → l ≡ r → (a b c d : Bool) → eqb x one ≡ a → eqb y one ≡ b → eqb x other ≡ c → eqb y other ≡ d
    → cond a (cond d (Some key) l) (cond b (cond c (Some key) l) l) ≡ cond c (cond b (Some key) r) (cond d (cond a (Some key) r) r)
agree x y one other key l r h true true true true ea eb ec ed = refl
agree x y one other key l r h true false true true ea eb ec ed = absurd (grind (arith, nat_tests))
agree x y one other key l r h true true true false ea eb ec ed = absurd (grind (arith, nat_tests))
agree x y one other key l r h true b false true ea eb ec ed = refl
agree x y one other key l r h false true true d ea eb ec ed = refl
agree x y one other key l r h true false true false ea eb ec ed = h
agree x y one other key l r h true b false false ea eb ec ed = h
agree x y one other key l r h false true false true ea eb ec ed = h
agree x y one other key l r h false true false false ea eb ec ed = h
agree x y one other key l r h false false true d ea eb ec ed = h
agree x y one other key l r h false false false true ea eb ec ed = h
agree x y one other key l r h false false false false ea eb ec ed = h

pub two_share : (one other : ℕ) (shared : List SharedKey) → key_with other (pair_keys_of one shared) ≡ key_with one (pair_keys_of other shared)
two_share one other [] = refl
two_share one other (s ∷ ss) =
    key_step other one s ss
    ∙ agree s.first s.second one other s.key (key_with other (pair_keys_of one ss)) (key_with one (pair_keys_of other ss)) (two_share one other ss) (eqb s.first one) (eqb s.second one) (eqb s.first other) (eqb s.second other) refl refl refl refl
    ∙ sym (key_step one other s ss)

-- ---- whom a ring names

-- the other of a pair, if this is one of the two
abbrev other_of : ℕ → ℕ × ℕ → Option ℕ
other_of m p = cond (eqb p.0 m) (Some p.1) (cond (eqb p.1 m) (Some p.0) None)

-- the members that keys are shared with, by the pairs alone
members_by_pairs : (m : ℕ) (shared : List SharedKey) → members_of (pair_keys_of m shared) ≡ filter_map (other_of m) (map numbers_in shared)
members_by_pairs m [] = refl
members_by_pairs m (s ∷ ss) = go (eqb s.first m) (eqb s.second m) (members_by_pairs m ss)
  where
    go : (a b : Bool) → members_of (pair_keys_of m ss) ≡ filter_map (other_of m) (map numbers_in ss)
        → members_of (cons_option (cond a (Some (mine s)) (cond b (Some (theirs s)) None)) (pair_keys_of m ss))
        ≡ cons_option (cond a (Some s.second) (cond b (Some s.first) None)) (filter_map (other_of m) (map numbers_in ss))
    go true b h = ap (λ (l : List ℕ). s.second ∷ l) h
    go false true h = ap (λ (l : List ℕ). s.first ∷ l) h
    go false false h = h

-- the pairs of keys that are made of words
pairs_made : (ps : List (ℕ × ℕ)) (ws : List (List ℕ)) → length ws ≡ length ps → map numbers_in (map shared_by (zip ps ws)) ≡ ps
pairs_made [] ws h = refl
pairs_made (p ∷ ps) [] h = absurd (omega (arith, h))
pairs_made (p ∷ ps) (w ∷ ws) h = ap (λ (qs : List (ℕ × ℕ)). p ∷ qs) (pairs_made ps ws (omega (arith, h)))

-- keys are made of their pairs and their words
pub made_again : (shared : List SharedKey) → map shared_by (zip (map numbers_in shared) (map (λ s. s.key) shared)) ≡ shared
made_again [] = refl
made_again (s ∷ ss) = ap (λ (l : List SharedKey). s ∷ l) (made_again ss)

-- whether a number is among others
abbrev pub is_among : ℕ → List ℕ → Bool
is_among m ns = list_any (λ n. eqb n m) ns

below : (least m : ℕ) (ks : List ℕ) → Ascends least ks → m < least → is_among m ks ≡ false
below least m [] is lt = refl
below least m (k ∷ ks) is lt =
    let le : least ≤ k = is.0 in
    let apart : eqb k m ≡ false = grind (arith, nat_tests) in
    rw apart (below (k + 1) m ks is.1 (omega (arith, le, lt)))

-- in the row of its own it meets each
row_of_its_own : (n m : ℕ) (ks : List ℕ) → eqb n m ≡ true → filter_map (other_of m) (row n ks) ≡ ks
unfolding row
row_of_its_own n m [] e = refl
row_of_its_own n m (k ∷ ks) e = rw e (ap (λ (l : List ℕ). k ∷ l) (row_of_its_own n m ks e))

-- in the row of another it meets that one, if it is there
row_without : (n m : ℕ) (ks : List ℕ) → eqb n m ≡ false → is_among m ks ≡ false → filter_map (other_of m) (row n ks) ≡ []
unfolding row
row_without n m [] e none = refl
row_without n m (k ∷ ks) e none = go (eqb k m) none (row_without n m ks e)
  where
    go : (b : Bool) → (b || is_among m ks) ≡ false → (is_among m ks ≡ false → filter_map (other_of m) (row n ks) ≡ []) → cons_option (cond (eqb n m) (Some k) (cond b (Some n) None)) (filter_map (other_of m) (row n ks)) ≡ []
    go true none later = absurd cc
    go false none later = rw e (later none)

row_with : (least n m : ℕ) (ks : List ℕ) → eqb n m ≡ false → Ascends least ks → is_among m ks ≡ true → filter_map (other_of m) (row n ks) ≡ n ∷ []
unfolding row
row_with least n m [] e is among = absurd cc
row_with least n m (k ∷ ks) e is among = go (eqb k m) refl among (row_with (k + 1) n m ks e is.1)
  where
    go : (b : Bool) → eqb k m ≡ b → (b || is_among m ks) ≡ true → (is_among m ks ≡ true → filter_map (other_of m) (row n ks) ≡ n ∷ []) → cons_option (cond (eqb n m) (Some k) (cond b (Some n) None)) (filter_map (other_of m) (row n ks)) ≡ n ∷ []
    go true here among later =
        let lt : m < k + 1 = grind (arith, nat_tests) in
        rw e (ap (λ (l : List ℕ). n ∷ l) (row_without n m ks e (below (k + 1) m ks is.1 lt)))
    go false here among later = rw e (later among)

-- in the row of another it doesn't meet that one with itself
row_skips : (n m : ℕ) (ks : List ℕ) → eqb n m ≡ false → filter_map (other_of m) (row n (n ∷ ks)) ≡ filter_map (other_of m) (row n ks)
unfolding row
row_skips n m ks e = rw e refl

-- among greater numbers it meets nobody
none_above : (least m : ℕ) (ns : List ℕ) → Ascends least ns → m < least → filter_map (other_of m) (pairs_of ns) ≡ []
none_above least m [] is lt = refl
none_above least m (n ∷ ns) is lt =
    let le : least ≤ n = is.0 in
    let apart : eqb n m ≡ false = grind (arith, nat_tests) in
    filter_map-append (other_of m) (row n (n ∷ ns)) (pairs_of ns)
    ∙ ap₂ (λ (a b : List ℕ). a ++ b) (row_without n m (n ∷ ns) apart (below least m (n ∷ ns) is lt)) (none_above (n + 1) m ns is.1 (omega (arith, le, lt)))

-- it meets each of those that it is among
meets_each : (least m : ℕ) (ns : List ℕ) → Ascends least ns → is_among m ns ≡ true → filter_map (other_of m) (pairs_of ns) ≡ ns
meets_each least m [] is among = absurd cc
meets_each least m (n ∷ ns) is among = filter_map-append (other_of m) (row n (n ∷ ns)) (pairs_of ns) ∙ go (eqb n m) refl among (meets_each (n + 1) m ns is.1)
  where
    go : (b : Bool) → eqb n m ≡ b → (b || is_among m ns) ≡ true → (is_among m ns ≡ true → filter_map (other_of m) (pairs_of ns) ≡ ns) → filter_map (other_of m) (row n (n ∷ ns)) ++ filter_map (other_of m) (pairs_of ns) ≡ n ∷ ns
    go true here among later =
        let lt : m < n + 1 = grind (arith, nat_tests) in
        ap₂ (λ (a b : List ℕ). a ++ b) (row_of_its_own n m (n ∷ ns) here) (none_above (n + 1) m ns is.1 lt) ∙ append-nil (n ∷ ns)
    go false here among later =
        ap₂ (λ (a b : List ℕ). a ++ b) (row_skips n m ns here ∙ row_with (n + 1) n m ns here is.1 among) (later among)

-- whom the keys of a member name
pub named_members : (numbers : List ℕ) (words : List (List ℕ)) (m : ℕ) → IsStrictlyIncreasing numbers → length words ≡ length (pairs_of numbers) → is_among m numbers ≡ true
    → members_of (pair_keys_of m (shared_keys numbers words)) ≡ numbers
named_members numbers words m rises len among =
    members_by_pairs m (shared_keys numbers words) ∙ ap (filter_map (other_of m)) (pairs_made (pairs_of numbers) words len)
    ∙ meets_each 0 m numbers (increasing_from_zero numbers rises) among

-- a member of a list is among it
pub contained : (ns : List ℕ) (m : ℕ) → Contains ns m → is_among m ns ≡ true
contained [] m (k, lt, at) = absurd (omega (arith, lt))
contained (n ∷ ns) m (zero, lt, at) = let same : eqb n m ≡ true = grind (arith, nat_tests, at) in rw same refl
contained (n ∷ ns) m (suc k, lt, at) = go (eqb n m) (contained ns m (k, omega (arith, lt), at))
  where
    go : (b : Bool) → is_among m ns ≡ true → (b || is_among m ns) ≡ true
    go true later = refl
    go false later = later
