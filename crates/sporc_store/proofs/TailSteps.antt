-- Records of a tail, taken one after another as a loop does.
use Rattle.std.proofs.Common.{◌≡◌, ℕ, suc, ◌+◌, ◌-◌, ◌<◌, ◌≤◌, List, [], ◌++◌, length, take, drop, Bool, true, false, cond, ltb, leb, Result, Ok, Err, refl, sym, ap, ◌∙◌, subst, arith, append-nil}
use Rattle.sporc_store.proofs.Common.{le-leb, ltb-false, length-drop, take_all, w32, from_be_bytes, Reading, bind_ok, ok_is, TailFault, HEAD_LEN, GoesOn, TailTaken, behind_head, taken_from}
use Rattle.sporc_store.proofs.Common.{records_of, taken_to}
use Rattle.sporc_bytes.specs.Fields.{bytes_at, number_at, past}
use Rattle.sporc_store.specs.TailBytes.{records_behind}

-- ---- the loop

-- so many are left before a step
pub one_left : (front ahead : List (List ℕ)) (count i first position : ℕ) (r : Reading) (total : Result TailTaken TailFault) → i < count → position ≡ first + i
    → taken_from front ahead (first + i) r (count - i) ≡ total → taken_from front ahead position r (suc (count - (i + 1))) ≡ total
one_left front ahead count i first position r total lt at so_far =
    let left : suc (count - (i + 1)) ≡ count - i = omega arith in
    (λ j. taken_from front ahead (at j) r (left j)) ∙ so_far

-- and one fewer behind it
pub goes_on : (front more ahead later : List (List ℕ)) (count i first position : ℕ) (r after : Reading) (taken : TailTaken) (goes : Bool) (total : Result TailTaken TailFault)
    → i < count → position ≡ first + i → taken_from front ahead (first + i) r (count - i) ≡ total → goes ≡ true
    → GoesOn (taken_from front ahead position r (suc (count - (i + 1)))) (taken_from more later (position + 1) after (count - (i + 1))) taken (Ok goes)
    → taken_from more later (first + (i + 1)) after (count - (i + 1)) ≡ total
goes_on front more ahead later count i first position r after taken true total lt at so_far is step =
    let next : first + (i + 1) ≡ position + 1 = omega (arith, at) in
    ap (λ (n : ℕ). taken_from more later n after (count - (i + 1))) next ∙ sym step ∙ one_left front ahead count i first position r total lt at so_far
goes_on front more ahead later count i first position r after taken false total lt at so_far is step = absurd cc

pub stops : (front ahead : List (List ℕ)) (count i first position : ℕ) (r : Reading) (after : Result TailTaken TailFault) (taken : TailTaken) (goes : Bool) (total : Result TailTaken TailFault)
    → i < count → position ≡ first + i → taken_from front ahead (first + i) r (count - i) ≡ total → goes ≡ false
    → GoesOn (taken_from front ahead position r (suc (count - (i + 1)))) after taken (Ok goes) → total ≡ Ok taken
stops front ahead count i first position r after taken true total lt at so_far is step = absurd cc
stops front ahead count i first position r after taken false total lt at so_far is step = sym (one_left front ahead count i first position r total lt at so_far) ∙ step

pub ends : (front ahead : List (List ℕ)) (count i position : ℕ) (r : Reading) (whole : ℕ) (total : Result TailTaken TailFault) → count ≤ i → whole ≡ r.at
    → taken_from front ahead position r (count - i) ≡ total → total ≡ Ok (taken_to front whole)
unfolding records_behind
ends front ahead count i position r whole total le at so_far =
    let left : count - i ≡ 0 = omega arith in
    let none : taken_from front ahead position r (count - i) ≡ Ok (taken_to (front ++ []) r.at) = rw left refl in
    sym so_far ∙ none ∙ (λ j. Ok (taken_to (append-nil front j) (sym at j)))

-- ---- the first position

-- what stands from a place on
pub slice_from : {A : Type 0} (k : ℕ) (xs : List A) → take (length xs - k) (drop k xs) ≡ drop k xs
slice_from k xs = take_all (length xs - k) (drop k xs) (omega (arith, length-drop k xs))

pub begins_at : (log ahead : List (List ℕ)) (bytes : List ℕ) (start cursor after : Reading) (first : ℕ) → start.rest ≡ drop HEAD_LEN bytes → start.at ≡ HEAD_LEN
    → cursor.rest ≡ drop HEAD_LEN bytes → cursor.at ≡ HEAD_LEN → number_at w32 start ≡ Ok (first, after) → ahead ≡ drop (first - 1) log → 1 ≤ first → first ≤ length log + 1
    → records_behind (length cursor.rest) ahead first cursor ≡ records_of log (behind_head bytes) (number_at w32 (behind_head bytes))
begins_at log ahead bytes start cursor after first start_rest start_at rest at number is low high =
    let started : start ≡ behind_head bytes = λ i. record { rest = start_rest i; at = start_at i } in
    let here : cursor ≡ behind_head bytes = λ i. record { rest = rest i; at = at i } in
    let found : number_at w32 (behind_head bytes) ≡ Ok (first, after) = ap (number_at w32) (sym started) ∙ number in
    let answer : records_of log (behind_head bytes) (Ok (first, after)) ≡ records_behind (length (behind_head bytes).rest) (drop (first - 1) log) first (behind_head bytes) =
    rw (le-leb 1 first low, le-leb first (length log + 1) high) refl in
    (λ i. records_behind (length (here i).rest) (is i) first (here i)) ∙ sym answer ∙ ap (records_of log (behind_head bytes)) (sym found)

-- ---- where a field ends

-- a field was read: it ends so much later, and the end of all is where it was
abbrev pub EndsAt : Reading → ℕ → Reading → Type 0
EndsAt r n after = (after.at ≡ r.at + n) × (after.at + length after.rest ≡ r.at + length r.rest)

pub bytes_end : (n : ℕ) (r : Reading) (x : List ℕ × Reading) → bytes_at n r ≡ Ok x → EndsAt r n x.1
unfolding bytes_at
bytes_end n r x e =
    let g = read (ltb (length r.rest) n) e in
    let long : n ≤ length r.rest = ltb-false _ _ g.0 in
    subst (λ (y : List ℕ × Reading). EndsAt r n y.1) g.1 (refl, omega (arith, length-drop n r.rest, long))
  where
    read : (b : Bool) → cond b (Err r.at) (Ok (take n r.rest, past n r)) ≡ Ok x → (b ≡ false) × ((take n r.rest, past n r) ≡ x)
    read true e = absurd cc
    read false e = (refl, ok_is (take n r.rest, past n r) x e)

pub number_end : (r : Reading) (x : ℕ × Reading) → number_at w32 r ≡ Ok x → EndsAt r 4 x.1
unfolding number_at
number_end r x e =
    let b = bind_ok (bytes_at 4 r) (λ bytes. Ok (from_be_bytes w32 bytes.0, bytes.1)) x e in
    subst (λ (y : ℕ × Reading). EndsAt r 4 y.1) (ok_is (from_be_bytes w32 b.0.0, b.0.1) x b.2) (bytes_end 4 r b.0 b.1)
