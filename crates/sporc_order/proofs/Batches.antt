-- The entries that one answer holds, taken one by one.
use Rattle.std.proofs.Common.{◌≡◌, ℕ, zero, suc, ◌+◌, ◌-◌, ◌<◌, ◌≤◌, Bool, true, false, cond, leb, ltb, List, [], ◌∷◌, ◌++◌, length, get_or, take, drop, map, refl, ap, sym, ◌∙◌, subst, append_assoc, arith, inl, inr, min}
use Rattle.sporc_order.proofs.Common.{◌&&◌, ◌↔◌, Vec, ltb-true, ltb-false, leb-true, leb-false, cases_lt, append-nil, take_all, drop_all, length-drop, length-map, All, MAX_ENTRY, MAX_PULLED}
use Rattle.sporc_order.proofs.Common.{MAX_PULLED_BYTES, longest_batch, batch_after}
use Rattle.std.proofs.lemmas.List.Elements.{All-head, All-drop}

abbrev pub bytes_of : Vec ℕ → List ℕ
bytes_of v = v.items

-- the element at a place is the first of those from there on
pub from_place : (vs : List (Vec ℕ)) (i : ℕ) (v : Vec ℕ) → i < length vs → v ≡ get_or vs i v → drop i (map bytes_of vs) ≡ v.items ∷ drop (i + 1) (map bytes_of vs)
from_place [] i v h e = absurd (omega arith)
from_place (w ∷ ws) zero v h e = ap (λ (x : Vec ℕ). x.items ∷ map bytes_of ws) (sym e)
from_place (w ∷ ws) (suc i) v h e =
    let more : suc i + 1 ≡ suc (i + 1) = omega arith in
    from_place ws i v (omega arith) e ∙ ap (λ (k : ℕ). v.items ∷ drop k (map bytes_of (w ∷ ws))) (sym more)

pub take_next : (L : List (List ℕ)) (i : ℕ) (x : List ℕ) (rest : List (List ℕ)) → drop i L ≡ x ∷ rest → take (i + 1) L ≡ take i L ++ x ∷ []
take_next [] zero x rest h = absurd cc
take_next [] (suc i) x rest h = absurd cc
take_next (y ∷ L) zero x rest h = let e : y ≡ x = cc in ap (λ (z : List ℕ). z ∷ []) e
take_next (y ∷ L) (suc i) x rest h =
    let more : suc i + 1 ≡ suc (i + 1) = omega arith in
    ap (λ (k : ℕ). take k (y ∷ L)) more ∙ ap (λ (l : List (List ℕ)). y ∷ l) (take_next L i x rest h)

-- an entry that has room is taken
pub goes_on : (L : List (List ℕ)) (i room : ℕ) (x : List ℕ) (whole : List (List ℕ)) → drop i L ≡ x ∷ drop (i + 1) L → (ltb i MAX_PULLED && leb (length x + 4) room) ≡ true
    → whole ≡ take i L ++ longest_batch (MAX_PULLED - i) room (drop i L) → whole ≡ take (i + 1) L ++ longest_batch (MAX_PULLED - (i + 1)) (room - (length x + 4)) (drop (i + 1) L)
goes_on L i room x whole at has so_far = so_far ∙ step (ltb i MAX_PULLED) (leb (length x + 4) room) refl refl has
  where
    step : (a b : Bool) → ltb i MAX_PULLED ≡ a → leb (length x + 4) room ≡ b → (a && b) ≡ true
        → take i L ++ longest_batch (MAX_PULLED - i) room (drop i L) ≡ take (i + 1) L ++ longest_batch (MAX_PULLED - (i + 1)) (room - (length x + 4)) (drop (i + 1) L)
    step true true p q h =
        let lt : i < MAX_PULLED = ltb-true i MAX_PULLED p in
        let k : MAX_PULLED - i ≡ suc (MAX_PULLED - (i + 1)) = omega arith in
        rw (k, at, q, take_next L i x (drop (i + 1) L) at) (sym (append_assoc (take i L) (x ∷ []) (longest_batch (MAX_PULLED - (i + 1)) (room - (length x + 4)) (drop (i + 1) L))))
    step true false p q h = absurd cc
    step false b p q h = absurd cc

-- one that has none ends the batch
pub ends : (L : List (List ℕ)) (i room : ℕ) (x : List ℕ) (whole : List (List ℕ)) → drop i L ≡ x ∷ drop (i + 1) L → i ≤ MAX_PULLED → (ltb i MAX_PULLED && leb (length x + 4) room) ≡ false
    → whole ≡ take i L ++ longest_batch (MAX_PULLED - i) room (drop i L) → take i L ≡ whole
ends L i room x whole at le none so_far = sym (so_far ∙ step (ltb i MAX_PULLED) (leb (length x + 4) room) refl refl none ∙ append-nil (take i L))
  where
    step : (a b : Bool) → ltb i MAX_PULLED ≡ a → leb (length x + 4) room ≡ b → (a && b) ≡ false → take i L ++ longest_batch (MAX_PULLED - i) room (drop i L) ≡ take i L ++ []
    step true true p q h = absurd cc
    step true false p q h =
        let lt : i < MAX_PULLED = ltb-true i MAX_PULLED p in
        let k : MAX_PULLED - i ≡ suc (MAX_PULLED - (i + 1)) = omega arith in
        rw (k, at, q) refl
    step false b p q h =
        let ge : MAX_PULLED ≤ i = ltb-false i MAX_PULLED p in
        let k : MAX_PULLED - i ≡ 0 = omega arith in
        rw k refl

-- an entry with room leaves as much as it does not need
pub has_room : (i room len : ℕ) → (ltb i MAX_PULLED && leb (len + 4) room) ≡ true → (i < MAX_PULLED) × (len + 4 ≤ room)
has_room i room len h = go (ltb i MAX_PULLED) (leb (len + 4) room) refl refl h
  where
    go : (a b : Bool) → ltb i MAX_PULLED ≡ a → leb (len + 4) room ≡ b → (a && b) ≡ true → (i < MAX_PULLED) × (len + 4 ≤ room)
    go true true p q h = (ltb-true i MAX_PULLED p, leb-true (len + 4) room q)
    go true false p q h = absurd cc
    go false b p q h = absurd cc

-- ---- the entries after some

map_take : (n : ℕ) (vs : List (Vec ℕ)) → map bytes_of (take n vs) ≡ take n (map bytes_of vs)
map_take (suc n) (v ∷ vs) = ap (λ (l : List (List ℕ)). v.items ∷ l) (map_take n vs)
map_take n vs = refl

map_drop : (n : ℕ) (vs : List (Vec ℕ)) → map bytes_of (drop n vs) ≡ drop n (map bytes_of vs)
map_drop (suc n) (v ∷ vs) = map_drop n vs
map_drop n vs = refl

drop_min : {X : Type 0} (L : List X) (from k : ℕ) → k ≡ min from (length L) → drop k L ≡ drop from L
drop_min L from k e = elim (cases_lt from (length L)) [
  | inl lt ↦ let same : k ≡ from = omega (arith, e) in ap (λ (n : ℕ). drop n L) same
  | inr le ↦ let all : k ≡ length L = omega (arith, e) in let past : length L ≤ k = omega (arith, all) in drop_all k L past ∙ sym (drop_all from L le)
]

-- the entries of an answer are those of the batch behind the first `from`
pub is_batch : (vs : List (Vec ℕ)) (entries : List (List ℕ)) (from k n : ℕ) → map bytes_of vs ≡ entries → k ≡ min from (length vs)
    → take n (map bytes_of (take (length vs - k) (drop k vs))) ≡ longest_batch MAX_PULLED MAX_PULLED_BYTES (map bytes_of (take (length vs - k) (drop k vs)))
    → map bytes_of (take n (take (length vs - k) (drop k vs))) ≡ batch_after entries from
is_batch vs entries from k n is e run =
    let rest : length (drop k vs) ≤ length vs - k = omega (arith, length-drop k vs) in
    map_take n (take (length vs - k) (drop k vs)) ∙ run
    ∙ ap (λ (l : List (Vec ℕ)). longest_batch MAX_PULLED MAX_PULLED_BYTES (map bytes_of l)) (take_all (length vs - k) (drop k vs) rest ∙ drop_min vs from k e)
    ∙ ap (longest_batch MAX_PULLED MAX_PULLED_BYTES) (map_drop from vs ∙ ap (drop from) is)

-- ---- an answer without entries

-- where there is an entry, the answer begins with it
begins : (entries : List (List ℕ)) → All (λ b. length b ≤ MAX_ENTRY) entries → longest_batch MAX_PULLED MAX_PULLED_BYTES entries ≡ [] → length entries ≡ 0
begins [] sized none = refl
begins (b ∷ entries) sized none = go (leb (length b + 4) MAX_PULLED_BYTES) refl
  where
    size : length b ≤ MAX_ENTRY
    size = All-head (λ e. length e ≤ MAX_ENTRY) b entries sized

    go : (t : Bool) → leb (length b + 4) MAX_PULLED_BYTES ≡ t → length (b ∷ entries) ≡ 0
    go true p = absurd (let taken : b ∷ longest_batch (MAX_PULLED - 1) (MAX_PULLED_BYTES - (length b + 4)) entries ≡ [] = subst (λ (t : Bool). cond t (b ∷ longest_batch (MAX_PULLED - 1) (MAX_PULLED_BYTES - (length b + 4)) entries) [] ≡ []) p none in cc)
    go false p = absurd (omega (arith, leb-false (length b + 4) MAX_PULLED_BYTES p, size))

-- an answer has no entries exactly if there are no more
pub is_empty : (vs : List (Vec ℕ)) (entries : List (List ℕ)) (from : ℕ) → All (λ b. length b ≤ MAX_ENTRY) entries → map bytes_of vs ≡ batch_after entries from → length vs ≡ 0 ↔ length entries ≤ from
is_empty vs entries from sized is = (
  λ none. omega (arith, length-drop from entries, begins (drop from entries) (All-drop (λ e. length e ≤ MAX_ENTRY) from entries sized) (sym is ∙ no_entries vs none)),
  λ le. omega (arith, length-map vs bytes_of, ap length is, ap (λ (l : List (List ℕ)). length (longest_batch MAX_PULLED MAX_PULLED_BYTES l)) (drop_all from entries le)),
)
  where
    no_entries : (vs : List (Vec ℕ)) → length vs ≡ 0 → map bytes_of vs ≡ []
    no_entries [] none = refl
    no_entries (v ∷ vs) none = absurd (omega arith)
