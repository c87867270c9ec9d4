-- Keys that are drawn one word after another.
use Rattle.std.proofs.Common.{◌≡◌, ℕ, suc, ◌+◌, ◌-◌, ◌<◌, ◌≤◌, List, [], ◌∷◌, ◌++◌, length, get_or, take, drop, Option, Result, Ok, Err, refl, sym, ap, subst, ◌∙◌, append_assoc, add-one, arith, drop-cons, map}
use Rattle.sporc_keys.proofs.Common.{append-nil, drop_all, length-append, length-drop, length-map, length-take, map-append, map_more, take_all, SharedKey, SharesMore, numbers_in, pairs_of, all_append}
use Rattle.sporc_keys.proofs.Common.{AppendsItem, DrawsWords, DrawsWordsUpTo}
use Rattle.sporc_outside.proofs.Growing.{word_drawn, words_none, words_then}
use Rattle.sporc_keys.specs.Founding.{row}

-- what was made shows no fault
pub made_not_failed : {A E P : Type 0} {x : A} {e : E} → ◌≡◌ {A = Result A E} (Ok x) (Err e) → P
made_not_failed is = absurd cc

pub draws_nothing : (a : Option (List (List ℕ))) → DrawsWords a a []
draws_nothing a = record { sized = tt; told = words_none a }

pub draws_one : (a b : Option (List (List ℕ))) (word : List ℕ) → length word ≡ 32 → AppendsItem a b word → DrawsWords a b (word ∷ [])
draws_one a b word len p = record { sized = (len, tt); told = word_drawn a b word p }

pub draws_then : (a b c : Option (List (List ℕ))) (xs ys : List (List ℕ)) → DrawsWords a b xs → DrawsWords b c ys → DrawsWords a c (xs ++ ys)
draws_then a b c xs ys p q = record { sized = all_append (λ word. length word ≡ 32) xs ys p.sized q.sized; told = words_then a b c xs ys p.told q.told }

pub draws_two : (a b c : Option (List (List ℕ))) (first second : List ℕ) → length first ≡ 32 → length second ≡ 32 → AppendsItem a b first → AppendsItem b c second → DrawsWords a c (first ∷ second ∷ [])
draws_two a b c first second len_first len_second told_first told_second =
    draws_then a b c (first ∷ []) (second ∷ []) (draws_one a b first len_first told_first) (draws_one b c second len_second told_second)

-- these words, and then at most so many
pub up_to_then : (n most : ℕ) (a b c : Option (List (List ℕ))) (xs : List (List ℕ)) → length xs + n ≤ most → DrawsWords a b xs → DrawsWordsUpTo n b c → DrawsWordsUpTo most a c
up_to_then n most a b c xs few drawn more =
    (xs ++ more.0, omega (arith, few, more.1, length-append xs more.0), draws_then a b c xs more.0 drawn more.2)

pub shares_nothing : (a : Option (List (List ℕ))) (old : List SharedKey) → SharesMore a a [] old old
shares_nothing a old = ([], sym (append-nil old), refl, draws_nothing a)

pub shares_then : (a b c : Option (List (List ℕ))) (ps qs : List (ℕ × ℕ)) (old mid new : List SharedKey) → SharesMore a b ps old mid → SharesMore b c qs mid new → SharesMore a c (ps ++ qs) old new
shares_then a b c ps qs old mid new p q =
    let keys : map (λ s. s.key) (p.0 ++ q.0) ≡ map (λ s. s.key) p.0 ++ map (λ s. s.key) q.0 = map-append (λ s. s.key) p.0 q.0 in
    let D : List (List ℕ) → Type 0 = λ words. DrawsWords a c words in (
      p.0 ++ q.0,
      q.1 ∙ ap (λ (t : List SharedKey). t ++ q.0) p.1 ∙ append_assoc old p.0 q.0,
      map-append numbers_in p.0 q.0 ∙ ap (λ (t : List (ℕ × ℕ)). t ++ map numbers_in q.0) p.2 ∙ ap (λ (t : List (ℕ × ℕ)). ps ++ t) q.2,
      subst D (sym keys) (draws_then a b c (map (λ s. s.key) p.0) (map (λ s. s.key) q.0) p.3 q.3),
    )

-- keys for these pairs, and then at most so many words
shares_up_to : (n most : ℕ) (a b c : Option (List (List ℕ))) (ps : List (ℕ × ℕ)) (old new : List SharedKey) → length ps + n ≤ most → SharesMore a b ps old new → DrawsWordsUpTo n b c
    → DrawsWordsUpTo most a c
shares_up_to n most a b c ps old new few drawn more =
    let keys : length (map (λ s. s.key) drawn.0) ≡ length drawn.0 = length-map drawn.0 (λ s. s.key) in
    let pairs : length drawn.0 ≡ length ps = sym (length-map drawn.0 numbers_in) ∙ ap length drawn.2 in
    up_to_then n most a b c (map (λ s. s.key) drawn.0) (omega (arith, few, keys, pairs)) drawn.3 more

-- ---- rows

length_row : (first : ℕ) (numbers : List ℕ) → length (row first numbers) ≡ length numbers
unfolding row
length_row first numbers = length-map numbers (λ m. (first, m))

-- a part of a row, and then at most so many words
pub row_up_to : (n : ℕ) (a b c : Option (List (List ℕ))) (first : ℕ) (numbers : List ℕ) (i : ℕ) (old new : List SharedKey) → i + n ≤ length numbers
    → SharesMore a b (row first (take i numbers)) old new → DrawsWordsUpTo n b c → DrawsWordsUpTo (length numbers) a c
row_up_to n a b c first numbers i old new few drawn more =
    shares_up_to n (length numbers) a b c (row first (take i numbers)) old new (omega (arith, few, length_row first (take i numbers), length-take i numbers)) drawn more

-- one more of a row, and then the whole row
pub row_more : (a b c : Option (List (List ℕ))) (first : ℕ) (numbers : List ℕ) (i : ℕ) (key : List ℕ) (old mid new : List SharedKey) → i < length numbers
    → length key ≡ 32 → AppendsItem b c key → new ≡ mid ++ record { first = first; second = get_or numbers i 0; key = key } ∷ []
    → SharesMore a b (row first (take i numbers)) old mid → SharesMore a c (row first (take (i + 1) numbers)) old new
unfolding row
row_more a b c first numbers i key old mid new within len told more before =
    let one : SharedKey = record { first = first; second = get_or numbers i 0; key = key } in
    let pair : ℕ → ℕ × ℕ = λ m. (first, m) in
    let P : List (ℕ × ℕ) → Type 0 = λ pairs. SharesMore a c pairs old new in
    subst P (sym (map_more pair numbers i 0 within))
    (shares_then a b c (map pair (take i numbers)) (pair (get_or numbers i 0) ∷ []) old mid new before (one ∷ [], more, refl, draws_one b c key len told))

pub row_whole : (a b : Option (List (List ℕ))) (first : ℕ) (numbers : List ℕ) (i : ℕ) (old new : List SharedKey) → length numbers ≤ i
    → SharesMore a b (row first (take i numbers)) old new → SharesMore a b (row first numbers) old new
row_whole a b first numbers i old new end drawn =
    let P : List ℕ → Type 0 = λ ns. SharesMore a b (row first ns) old new in
    subst P (take_all i numbers end) drawn

-- the pairs of the rows so far, and those of the numbers that are left
pub record Rows (a b : Option (List (List ℕ))) (numbers : List ℕ) (i : ℕ) (new : List SharedKey) : Type 0 where
  pub front : List (ℕ × ℕ)
  pub drawn : SharesMore a b front [] new
  pub whole : front ++ pairs_of (drop i numbers) ≡ pairs_of numbers

pub no_rows : (a : Option (List (List ℕ))) (numbers : List ℕ) → Rows a a numbers 0 []
no_rows a numbers = record { front = []; drawn = shares_nothing a []; whole = refl }

pub rows_more : (a b c : Option (List (List ℕ))) (numbers : List ℕ) (i first : ℕ) (mid new : List SharedKey) → i < length numbers → first ≡ get_or numbers i 0
    → Rows a b numbers i mid → SharesMore b c (row first (take (length numbers - i) (drop i numbers))) mid new → Rows a c numbers (i + 1) new
rows_more a b c numbers i first mid new lt is so_far taken =
    let all_left : take (length numbers - i) (drop i numbers) ≡ drop i numbers = take_all (length numbers - i) (drop i numbers) (omega (arith, length-drop i numbers)) in
    let more : SharesMore b c (row first (drop i numbers)) mid new = subst (λ (ns : List ℕ). SharesMore b c (row first ns) mid new) all_left taken in
    let cut : drop i numbers ≡ first ∷ drop (i + 1) numbers = rw add-one (drop-cons numbers i 0 lt ∙ ap (λ (n : ℕ). n ∷ drop (suc i) numbers) (sym is)) in
    let both : row first (drop i numbers) ++ pairs_of (drop (i + 1) numbers) ≡ pairs_of (drop i numbers) =
    ap (λ (ns : List ℕ). row first ns ++ pairs_of (drop (i + 1) numbers)) cut ∙ ap pairs_of (sym cut) in
    record {
      front = so_far.front ++ row first (drop i numbers);
      drawn = shares_then a b c so_far.front (row first (drop i numbers)) [] mid new so_far.drawn more;
      whole = append_assoc so_far.front (row first (drop i numbers)) (pairs_of (drop (i + 1) numbers)) ∙ ap (λ (t : List (ℕ × ℕ)). so_far.front ++ t) both ∙ so_far.whole;
    }

pub all_rows : (a b : Option (List (List ℕ))) (numbers : List ℕ) (i : ℕ) (new : List SharedKey) → length numbers ≤ i → Rows a b numbers i new → SharesMore a b (pairs_of numbers) [] new
all_rows a b numbers i new le rows =
    let nothing : drop i numbers ≡ [] = drop_all i numbers le in
    let whole : rows.front ≡ pairs_of numbers = sym (append-nil rows.front) ∙ ap (λ (ns : List ℕ). rows.front ++ pairs_of ns) (sym nothing) ∙ rows.whole in
    let P : List (ℕ × ℕ) → Type 0 = λ ps. SharesMore a b ps [] new in
    subst P whole rows.drawn

-- whole rows, and then a part of the next
pub rows_up_to : (a b c : Option (List (List ℕ))) (numbers : List ℕ) (i : ℕ) (mid : List SharedKey) → i < length numbers
    → Rows a b numbers i mid → DrawsWordsUpTo (length (take (length numbers - i) (drop i numbers))) b c → DrawsWordsUpTo (length (pairs_of numbers)) a c
rows_up_to a b c numbers i mid lt so_far more =
    let all_left : take (length numbers - i) (drop i numbers) ≡ drop i numbers = take_all (length numbers - i) (drop i numbers) (omega (arith, length-drop i numbers)) in
    let cut : drop i numbers ≡ get_or numbers i 0 ∷ drop (suc i) numbers = drop-cons numbers i 0 lt in
    let left : length (pairs_of (drop i numbers)) ≡ length (drop i numbers) + length (pairs_of (drop (suc i) numbers)) =
    ap (λ (ns : List ℕ). length (pairs_of ns)) cut ∙ length-append (row (get_or numbers i 0) (get_or numbers i 0 ∷ drop (suc i) numbers)) (pairs_of (drop (suc i) numbers))
    ∙ ap (λ (n : ℕ). n + length (pairs_of (drop (suc i) numbers))) (length_row (get_or numbers i 0) (get_or numbers i 0 ∷ drop (suc i) numbers) ∙ ap length (sym cut)) in
    let all : length so_far.front + length (pairs_of (drop i numbers)) ≡ length (pairs_of numbers) = sym (length-append so_far.front (pairs_of (drop i numbers))) ∙ ap length so_far.whole in
    shares_up_to (length (take (length numbers - i) (drop i numbers))) (length (pairs_of numbers)) a b c so_far.front [] mid (omega (arith, ap length all_left, left, all)) so_far.drawn more
