-- Values read one after another, as a loop reads them.
use Rattle.std.proofs.Common.{◌≡◌, ℕ, suc, ◌-◌, ◌+◌, ◌≤◌, ◌<◌, List, [], ◌∷◌, ◌++◌, Result, Ok, Err, refl, sym, ap, ◌∙◌, append_assoc, arith}
use Rattle.std.proofs.lemmas.List.{append-nil}
use Rattle.sporc_bytes.specs.Fields.{Reading, ◌>>=◌, ascending_at, next_of, values_at}

-- the values read before, and those that are read from here on
abbrev pub with_front : {A S : Type 0} → List A → Result (List A × S) ℕ → Result (List A × S) ℕ
with_front front read = read >>= λ x. Ok (front ++ x.0, x.1)

regroup : {A S : Type 0} (front : List A) (a : A) (read : Result (List A × S) ℕ) → with_front front (read >>= λ x. Ok (a ∷ x.0, x.1)) ≡ with_front (front ++ a ∷ []) read
regroup {A} {S} front a (Ok x) = let made : List A → Result (List A × S) ℕ = λ xs. Ok (xs, x.1) in ap made (sym (append_assoc front (a ∷ []) x.0))
regroup front a (Err at) = refl

pub goes_on : {A S : Type 0} (read : S → Result (A × S) ℕ) (front : List A) (count i : ℕ) (s : S) (a : A) (after : S) (total : Result (List A × S) ℕ) → i < count → read s ≡ Ok (a, after)
    → with_front front (values_at read (count - i) s) ≡ total → with_front (front ++ a ∷ []) (values_at read (count - (i + 1)) after) ≡ total
unfolding values_at
goes_on read front count i s a after total lt h so_far =
    let k : count - i ≡ suc (count - (i + 1)) = omega arith in
    let one : with_front front (values_at read (count - i) s) ≡ with_front (front ++ a ∷ []) (values_at read (count - (i + 1)) after) = rw (k, h) (regroup front a (values_at read (count - (i + 1)) after)) in
    sym one ∙ so_far

pub ends : {A S : Type 0} (read : S → Result (A × S) ℕ) (front : List A) (count i : ℕ) (s : S) (at : ℕ) (total : Result (List A × S) ℕ) → i < count → read s ≡ Err at
    → with_front front (values_at read (count - i) s) ≡ total → total ≡ Err at
unfolding values_at
ends read front count i s at total lt h so_far =
    let k : count - i ≡ suc (count - (i + 1)) = omega arith in
    let one : with_front front (values_at read (count - i) s) ≡ Err at = rw (k, h) refl in
    sym so_far ∙ one

pub is_done : {A S : Type 0} (read : S → Result (A × S) ℕ) (front : List A) (count i : ℕ) (s : S) (total : Result (List A × S) ℕ) → count ≤ i → with_front front (values_at read (count - i) s) ≡ total → total ≡ Ok (front, s)
unfolding values_at
is_done {A} {S} read front count i s total le so_far =
    let k : count - i ≡ 0 = omega arith in
    let made : List A → Result (List A × S) ℕ = λ xs. Ok (xs, s) in
    let one : with_front front (values_at read (count - i) s) ≡ Ok (front, s) = rw k (ap made (append-nil front)) in
    sym so_far ∙ one

-- ---- values in ascending order of their numbers

-- the values that were read up to a moment, and those from there on, are all of them
pub record AreSoFar {A : Type 0} (read : ℕ → Reading → Result (A × Reading) ℕ) (number : A → ℕ) (first count : ℕ) (r : Reading) (front : List A) (i least : ℕ) (now : Reading) : Type 0 where
  pub total : with_front front (values_at (next_of read number) (count - i) (least, now)) ≡ values_at (next_of read number) count (first, r)

front_none : {A S : Type 0} (read : Result (List A × S) ℕ) → with_front [] read ≡ read
front_none (Ok x) = refl
front_none (Err at) = refl

pub ascending_begins : {A : Type 0} (read : ℕ → Reading → Result (A × Reading) ℕ) (number : A → ℕ) (first count : ℕ) (r : Reading) → AreSoFar read number first count r [] 0 first r
ascending_begins read number first count r =
    let k : count - 0 ≡ count = omega arith in
    let all = values_at (next_of read number) count (first, r) in
    record { total = ap (λ (n : ℕ). with_front [] (values_at (next_of read number) n (first, r))) k ∙ front_none all }

pub ascending_goes_on : {A : Type 0} {read : ℕ → Reading → Result (A × Reading) ℕ} {number : A → ℕ} {first count : ℕ} {r : Reading} {front : List A} {i least : ℕ} {now : Reading} (a : A) (after : Reading)
    → i < count → read least now ≡ Ok (a, after) → AreSoFar read number first count r front i least now → AreSoFar read number first count r (front ++ a ∷ []) (i + 1) (number a + 1) after
unfolding next_of
ascending_goes_on {A} {read} {number} {first} {count} {r} {front} {i} {least} {now} a after lt h so_far =
    let one : next_of read number (least, now) ≡ Ok (a, (number a + 1, after)) = rw h refl in
    record { total = goes_on (next_of read number) front count i (least, now) a (number a + 1, after) (values_at (next_of read number) count (first, r)) lt one so_far.total }

pub ascending_ends : {A : Type 0} {read : ℕ → Reading → Result (A × Reading) ℕ} {number : A → ℕ} {first count : ℕ} {r : Reading} {front : List A} {i least : ℕ} {now : Reading} (at : ℕ)
    → i < count → read least now ≡ Err at → AreSoFar read number first count r front i least now → ascending_at read number first count r ≡ Err at
unfolding ascending_at next_of
ascending_ends {A} {read} {number} {first} {count} {r} {front} {i} {least} {now} at lt h so_far =
    let one : next_of read number (least, now) ≡ Err at = rw h refl in
    let all = ends (next_of read number) front count i (least, now) at (values_at (next_of read number) count (first, r)) lt one so_far.total in
    rw all refl

pub ascending_is_done : {A : Type 0} {read : ℕ → Reading → Result (A × Reading) ℕ} {number : A → ℕ} {first count : ℕ} {r : Reading} {front : List A} {i least : ℕ} {now : Reading}
    → count ≤ i → AreSoFar read number first count r front i least now → ascending_at read number first count r ≡ Ok (front, now)
unfolding ascending_at
ascending_is_done {A} {read} {number} {first} {count} {r} {front} {i} {least} {now} le so_far =
    let all = is_done (next_of read number) front count i (least, now) (values_at (next_of read number) count (first, r)) le so_far.total in
    rw all refl
