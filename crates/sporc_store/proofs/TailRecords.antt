-- Records that are written are read again, also where the last one is cut, and those that are read were written so.
use Rattle.std.proofs.Common.{◌≡◌, ℕ, zero, suc, ◌+◌, ◌-◌, ◌^◌, ◌<◌, ◌≤◌, ◌⊎◌, inl, inr, Bool, true, false, cond, leb, eqb, List, [], ◌∷◌, ◌++◌, length, take, drop, Result, Ok, Err, refl, sym, ap, ◌∙◌, subst, arith, append-nil, append_assoc}
use Rattle.sporc_store.proofs.Common.{le-leb, leb-true, lt-ltb, eq-eqb, eqb-true, cases_lt, length-append, length-take, All-head, All-tail, All-cons, All-nil, bytes_eq-Decides, take-append-add, All}
use Rattle.sporc_store.proofs.Common.{w32, to_be_bytes, IsBytes, Reading, ◌>>=◌, fault_as, only_if, counted, bind_ok, fault_as_ok, ok_is, only_if_ok, Takes, Takes-then, wide32, number_takes}
use Rattle.sporc_store.proofs.Common.{u32_again, bytes_again, bytes_takes, TailFault, Malformed, Agree, FitsRecord, TailTaken, record_bytes, records_bytes, taken_to, drop-nil, MAX_ENTRY}
use Rattle.std.specs.Str.{bytes_eq}
use Rattle.sporc_bytes.specs.Fields.{bytes_at, number_at}
use Rattle.sporc_store.specs.declared.tail_reading.RecordEnd.{RecordEnd}
use Rattle.sporc_store.specs.declared.tail_reading.RecordEnd.TheVariants.{Cut, Misfit}
use Rattle.sporc_store.specs.TailBytes.{entry_and_tail, kept_and, record_and, record_at, records_behind}

abbrev pub reading : List ℕ → ℕ → Reading
reading rest at = record { rest = rest; at = at }

-- ---- one record

bytes_short : (n : ℕ) (rest : List ℕ) (at : ℕ) → length rest < n → bytes_at n (reading rest at) ≡ Err at
unfolding bytes_at
bytes_short n rest at short = rw (lt-ltb (length rest) n short) refl

pub number_short : (rest : List ℕ) (at : ℕ) → length rest < 4 → number_at w32 (reading rest at) ≡ Err at
unfolding number_at
number_short rest at short = rw (bytes_short 4 rest at short) refl

-- a record, grouped as it is read
grouped : (position : ℕ) (e rest : List ℕ) → record_bytes position e ++ rest ≡ to_be_bytes w32 position ++ (to_be_bytes w32 (length e) ++ (e ++ rest))
grouped position e rest =
    append_assoc (to_be_bytes w32 position) (counted e) rest
    ∙ ap (λ (l : List ℕ). to_be_bytes w32 position ++ l) (append_assoc (to_be_bytes w32 (length e)) e rest)

pub record_len : (position : ℕ) (e : List ℕ) → length (record_bytes position e) ≡ 8 + length e
record_len position e =
    let first : length (to_be_bytes w32 position) ≡ 4 = refl in
    let second : length (to_be_bytes w32 (length e)) ≡ 4 = refl in
    omega (arith, length-append (to_be_bytes w32 position) (counted e), length-append (to_be_bytes w32 (length e)) e, first, second)

pub record_again : (position at : ℕ) (e rest : List ℕ) → position < 2 ^ 32 → FitsRecord e
    → record_at position (reading (record_bytes position e ++ rest) at) ≡ Ok (e, reading rest (at + 4 + 4 + length e))
unfolding record_at
record_again position at e rest below fits =
    ap (λ (bs : List ℕ). record_at position (reading bs at)) (grouped position e rest)
    ∙ rw (
      u32_again position at (to_be_bytes w32 (length e) ++ (e ++ rest)) below,
      eq-eqb position position refl,
      u32_again (length e) (at + 4) (e ++ rest) (omega (arith, fits)),
      le-leb (length e) MAX_ENTRY fits,
      bytes_again (length e) (at + 4 + 4) e rest refl,
    ) refl

-- a prefix of a record, grouped so
take_number : (k : ℕ) (n : ℕ) (rest : List ℕ) → take (4 + k) (to_be_bytes w32 n ++ rest) ≡ to_be_bytes w32 n ++ take k rest
take_number k n rest = take-append-add (to_be_bytes w32 n) rest k

cut_in_position : (position at : ℕ) (rest : List ℕ) → length rest < 4 → record_at position (reading rest at) ≡ Err Cut
unfolding record_at
cut_in_position position at rest short = rw (number_short rest at short) refl

cut_in_length : (position at : ℕ) (tail : List ℕ) → position < 2 ^ 32 → length tail < 4 → record_at position (reading (to_be_bytes w32 position ++ tail) at) ≡ Err Cut
unfolding record_at
cut_in_length position at tail below short = rw (u32_again position at tail below, eq-eqb position position refl, number_short tail (at + 4) short) refl

cut_in_entry : (position at len : ℕ) (tail : List ℕ) → position < 2 ^ 32 → len ≤ MAX_ENTRY → length tail < len
    → record_at position (reading (to_be_bytes w32 position ++ (to_be_bytes w32 len ++ tail)) at) ≡ Err Cut
unfolding record_at
cut_in_entry position at len tail below fits short =
    rw (
      u32_again position at (to_be_bytes w32 len ++ tail) below,
      eq-eqb position position refl,
      u32_again len (at + 4) tail (omega (arith, fits)),
      le-leb len MAX_ENTRY fits,
      bytes_short len tail (at + 4 + 4) short,
    ) refl

pub record_cut : (position at : ℕ) (e : List ℕ) (k : ℕ) → position < 2 ^ 32 → FitsRecord e → k < length (record_bytes position e)
    → record_at position (reading (take k (record_bytes position e)) at) ≡ Err Cut
record_cut position at e k below fits short = by (cases_lt k 4) (cases_lt k 8)
  where
    by : (k < 4) ⊎ (4 ≤ k) → (k < 8) ⊎ (8 ≤ k) → record_at position (reading (take k (record_bytes position e)) at) ≡ Err Cut
    by (inl few) more = cut_in_position position at (take k (record_bytes position e)) (omega (arith, length-take k (record_bytes position e), few))
    by (inr four) (inl less) =
        let tail = take (k - 4) (counted e) in
        let split : k ≡ 4 + (k - 4) = omega (arith, four) in
        let same : take k (record_bytes position e) ≡ to_be_bytes w32 position ++ tail =
        ap (λ (n : ℕ). take n (record_bytes position e)) split ∙ take_number (k - 4) position (counted e) in
        ap (λ (bs : List ℕ). record_at position (reading bs at)) same
        ∙ cut_in_length position at tail below (omega (arith, length-take (k - 4) (counted e), less, four))
    by (inr four) (inr eight) =
        let tail = take (k - 8) e in
        let split : k ≡ 4 + (k - 4) = omega (arith, four) in
        let deeper : k - 4 ≡ 4 + (k - 8) = omega (arith, eight) in
        let inner : take (k - 4) (counted e) ≡ to_be_bytes w32 (length e) ++ tail =
        ap (λ (n : ℕ). take n (counted e)) deeper ∙ take_number (k - 8) (length e) e in
        let same : take k (record_bytes position e) ≡ to_be_bytes w32 position ++ (to_be_bytes w32 (length e) ++ tail) =
        ap (λ (n : ℕ). take n (record_bytes position e)) split ∙ take_number (k - 4) position (counted e)
        ∙ ap (λ (l : List ℕ). to_be_bytes w32 position ++ l) inner in
        ap (λ (bs : List ℕ). record_at position (reading bs at)) same
        ∙ cut_in_entry position at (length e) tail below fits (omega (arith, length-take (k - 8) e, short, record_len position e, eight))

-- ---- records

bytes_same : (e : List ℕ) → bytes_eq e e ≡ true
bytes_same e = (bytes_eq-Decides e e).1 refl

-- one more entry, last
pub records_more : (position : ℕ) (es : List (List ℕ)) (e : List ℕ)
    → records_bytes position (es ++ e ∷ []) ≡ records_bytes position es ++ record_bytes (position + length es) e
records_more position [] e =
    let same : position ≡ position + 0 = omega arith in
    append-nil (record_bytes position e) ∙ ap (λ (n : ℕ). record_bytes n e) same
records_more position (x ∷ xs) e =
    let place : position + 1 + length xs ≡ position + suc (length xs) = omega arith in
    ap (λ (l : List ℕ). record_bytes position x ++ l) (records_more (position + 1) xs e)
    ∙ sym (append_assoc (record_bytes position x) (records_bytes (position + 1) xs) (record_bytes (position + 1 + length xs) e))
    ∙ ap (λ (n : ℕ). (record_bytes position x ++ records_bytes (position + 1) xs) ++ record_bytes n e) place

-- there are fewer records than bytes
pub records_few : (position : ℕ) (es : List (List ℕ)) → length es ≤ length (records_bytes position es)
records_few position [] = omega arith
records_few position (e ∷ es) =
    omega (arith, records_few (position + 1) es, length-append (record_bytes position e) (records_bytes (position + 1) es), record_len position e)

-- the records of these entries, and a prefix of the next
abbrev pub records_and : ℕ → List (List ℕ) → List ℕ → ℕ → List ℕ
records_and position all next k = records_bytes position all ++ take k (record_bytes (position + length all) next)

records_and-cons : (position : ℕ) (e : List ℕ) (es : List (List ℕ)) (next : List ℕ) (k : ℕ)
    → records_and position (e ∷ es) next k ≡ record_bytes position e ++ records_and (position + 1) es next k
records_and-cons position e es next k =
    let place : position + suc (length es) ≡ position + 1 + length es = omega arith in
    append_assoc (record_bytes position e) (records_bytes (position + 1) es) (take k (record_bytes (position + suc (length es)) next))
    ∙ ap (λ (n : ℕ). record_bytes position e ++ (records_bytes (position + 1) es ++ take k (record_bytes n next))) place

-- no record
ended : (ahead : List (List ℕ)) (at : ℕ) → ◌≡◌ {A = Result TailTaken TailFault} (Ok (taken_to [] at)) (Ok (taken_to (drop (length ahead) []) (at + 0)))
ended [] at = let same : at ≡ at + 0 = omega arith in ap (λ (w : ℕ). Ok (taken_to [] w)) same
ended (a ∷ others) at = let same : at ≡ at + 0 = omega arith in ap (λ (w : ℕ). Ok (taken_to [] w)) same

pub records_again : (all ahead : List (List ℕ)) (n position at : ℕ) (next : List ℕ) (k : ℕ) → Agree ahead all → All FitsRecord all → FitsRecord next
    → position + length all < 2 ^ 32 → k < length (record_bytes (position + length all) next) → length all ≤ n
    → records_behind n ahead position (reading (records_and position all next k) at)
    ≡ Ok (taken_to (drop (length ahead) all) (at + length (records_bytes position all)))
unfolding records_behind
records_again [] ahead zero position at next k agree fit next_fits below short few = ended ahead at
records_again [] ahead (suc n) position at next k agree fit next_fits below short few =
    let same : position ≡ position + 0 = omega arith in
    rw (ap (λ (p : ℕ). record_at p (reading (take k (record_bytes (position + 0) next)) at)) same
    ∙ record_cut (position + 0) at next k below next_fits short) (ended ahead at)
records_again (e ∷ es) ahead zero position at next k agree fit next_fits below short few = absurd (omega (arith, few))
records_again (e ∷ es) ahead (suc n) position at next k agree fit next_fits below short few =
    let rest = records_and (position + 1) es next k in
    let after = at + 4 + 4 + length e in
    let place : position + suc (length es) ≡ position + 1 + length es = omega arith in
    let short' : k < length (record_bytes (position + 1 + length es) next) = subst (λ (p : ℕ). k < length (record_bytes p next)) place short in
    let fit_e = All-head FitsRecord e es fit in
    let fit_es = All-tail FitsRecord e es fit in
    let whole : after + length (records_bytes (position + 1) es) ≡ at + length (record_bytes position e ++ records_bytes (position + 1) es) =
    omega (arith, length-append (record_bytes position e) (records_bytes (position + 1) es), record_len position e) in
    ap (λ (bs : List ℕ). record_and at (record_at position (reading bs at)) ahead (λ more others. records_behind n more (position + 1) others))
    (records_and-cons position e es next k)
    ∙ rw (record_again position at e rest (omega (arith, below)) fit_e)
    (by ahead agree (λ more same. records_again es more n (position + 1) after next k same fit_es next_fits (omega (arith, below)) short' (omega (arith, few))) whole)
  where
    by : (ahead : List (List ℕ)) → Agree ahead (e ∷ es)
        → ((more : List (List ℕ)) → Agree more es → records_behind n more (position + 1) (reading (records_and (position + 1) es next k) (at + 4 + 4 + length e))
        ≡ Ok (taken_to (drop (length more) es) (at + 4 + 4 + length e + length (records_bytes (position + 1) es))))
        → at + 4 + 4 + length e + length (records_bytes (position + 1) es) ≡ at + length (record_bytes position e ++ records_bytes (position + 1) es)
        → kept_and ahead e (at + 8) (λ more. records_behind n more (position + 1) (reading (records_and (position + 1) es next k) (at + 4 + 4 + length e)))
        ≡ Ok (taken_to (drop (length ahead) (e ∷ es)) (at + length (record_bytes position e ++ records_bytes (position + 1) es)))
    by [] same again whole = ap (entry_and_tail e) (again [] tt) ∙ ap (λ (w : ℕ). Ok (taken_to (e ∷ es) w)) whole
    by (a ∷ later) same again whole =
        let alike : bytes_eq a e ≡ true = ap (λ (x : List ℕ). bytes_eq x e) same.0 ∙ bytes_same e in
        rw alike (again later same.1 ∙ ap (λ (w : ℕ). Ok (taken_to (drop (length later) es) w)) whole)

-- ---- what is read was written so

pub record_takes : (position : ℕ) (r : Reading) (x : List ℕ × Reading) → IsBytes r.rest → record_at position r ≡ Ok x
    → Takes r (record_bytes position x.0) x.1 × FitsRecord x.0 × (position < 2 ^ 32)
unfolding record_at
record_takes position r x h e =
    let found = bind_ok (fault_as (λ at. Cut) (number_at w32 r)) (λ found. only_if (eqb found.0 position) (Misfit r.at) found.1 >>= λ placed.
    fault_as (λ at. Cut) (number_at w32 placed) >>= λ count. only_if (leb count.0 MAX_ENTRY) (Misfit placed.at) count.0 >>= λ len.
    fault_as (λ at. Cut) (bytes_at len count.1)) x e in
    let first = number_takes w32 (2 ^ 32) wide32 r found.0 h (fault_as_ok (λ at. Cut) (number_at w32 r) found.0 found.1) in
    let placed = bind_ok (only_if (eqb found.0.0 position) (Misfit r.at) found.0.1) (λ placed.
    fault_as (λ at. Cut) (number_at w32 placed) >>= λ count. only_if (leb count.0 MAX_ENTRY) (Misfit placed.at) count.0 >>= λ len.
    fault_as (λ at. Cut) (bytes_at len count.1)) x found.2 in
    let same = only_if_ok (eqb found.0.0 position) (Misfit r.at) found.0.1 placed.0 placed.1 in
    let count = bind_ok (fault_as (λ at. Cut) (number_at w32 placed.0)) (λ count. only_if (leb count.0 MAX_ENTRY) (Misfit placed.0.at) count.0 >>= λ len.
    fault_as (λ at. Cut) (bytes_at len count.1)) x placed.2 in
    let len = bind_ok (only_if (leb count.0.0 MAX_ENTRY) (Misfit placed.0.at) count.0.0) (λ len. fault_as (λ at. Cut) (bytes_at len count.0.1)) x count.2 in
    let allowed = only_if_ok (leb count.0.0 MAX_ENTRY) (Misfit placed.0.at) count.0.0 len.0 len.1 in
    let is : found.0.0 ≡ position = eqb-true found.0.0 position same.0 in
    let front : Takes r (to_be_bytes w32 position) placed.0 = subst (λ (q : Reading). Takes r (to_be_bytes w32 position) q) same.1
    (subst (λ (n : ℕ). Takes r (to_be_bytes w32 n) found.0.1) is first.0) in
    let second = number_takes w32 (2 ^ 32) wide32 placed.0 count.0 front.bytes (fault_as_ok (λ at. Cut) (number_at w32 placed.0) count.0 count.1) in
    let third = bytes_takes len.0 count.0.1 x second.0.bytes (fault_as_ok (λ at. Cut) (bytes_at len.0 count.0.1) x len.2) in
    let size : length x.0 ≡ count.0.0 = third.1 ∙ sym allowed.1 in
    let body : Takes placed.0 (counted x.0) x.1 = subst (λ (n : ℕ). Takes placed.0 (to_be_bytes w32 n ++ x.0) x.1) (sym size)
    (Takes-then placed.0 (to_be_bytes w32 count.0.0) count.0.1 x.0 x.1 second.0 third.0) in (
      Takes-then r (to_be_bytes w32 position) placed.0 (counted x.0) x.1 front body,
      omega (arith, size, leb-true count.0.0 MAX_ENTRY allowed.0),
      subst (λ (n : ℕ). n < 2 ^ 32) is first.1,
    )

-- the records that were read, and what is left behind them
pub record TakesRecords (ahead : List (List ℕ)) (position : ℕ) (r : Reading) (taken : TailTaken) (all : List (List ℕ)) (rest : List ℕ) : Type 0 where
  pub parts : r.rest ≡ records_bytes position all ++ rest
  pub whole : taken.whole ≡ r.at + length (records_bytes position all)
  pub lacking : taken.entries ≡ drop (length ahead) all
  pub agree : Agree ahead all
  pub fit : All FitsRecord all

abbrev pub SomeRecords : List (List ℕ) → ℕ → Reading → TailTaken → Type 0
SomeRecords ahead position r taken = (all : List (List ℕ)) × (rest : List ℕ) × TakesRecords ahead position r taken all rest

nothing_more : (ahead : List (List ℕ)) (position : ℕ) (r : Reading) (taken : TailTaken) → taken_to [] r.at ≡ taken → SomeRecords ahead position r taken
nothing_more ahead position r taken is = subst (SomeRecords ahead position r) is (
  [],
  r.rest,
  record {
    parts = refl;
    whole = omega arith;
    lacking = sym (drop-nil (length ahead));
    agree = agreed ahead;
    fit = All-nil FitsRecord;
  },
)
  where
    agreed : (ahead : List (List ℕ)) → Agree ahead []
    agreed [] = tt
    agreed (a ∷ later) = tt

-- one record before those
with_record : (ahead more : List (List ℕ)) (position : ℕ) (r : Reading) (x : List ℕ × Reading) (others taken : TailTaken) → Takes r (record_bytes position x.0) x.1
    → FitsRecord x.0 → ((es : List (List ℕ)) → Agree more es → Agree ahead (x.0 ∷ es))
    → ((es : List (List ℕ)) → others.entries ≡ drop (length more) es → taken.entries ≡ drop (length ahead) (x.0 ∷ es)) → taken.whole ≡ others.whole
    → SomeRecords more (position + 1) x.1 others → SomeRecords ahead position r taken
with_record ahead more position r x others taken takes fits agrees lacks same (all, rest, t) = (
  x.0 ∷ all,
  rest,
  record {
    parts = takes.parts ∙ ap (λ (l : List ℕ). record_bytes position x.0 ++ l) t.parts ∙ sym (append_assoc (record_bytes position x.0) (records_bytes (position + 1) all) rest);
    whole = same ∙ t.whole ∙ omega (arith, takes.at, length-append (record_bytes position x.0) (records_bytes (position + 1) all));
    lacking = lacks all t.lacking;
    agree = agrees all t.agree;
    fit = All-cons FitsRecord x.0 all fits t.fit;
  },
)

taken_is : (a b : TailTaken) → ◌≡◌ {A = Result TailTaken TailFault} (Ok a) (Ok b) → a ≡ b
taken_is a b e = ok_is a b e

pub records_take : (n : ℕ) (ahead : List (List ℕ)) (position : ℕ) (r : Reading) (taken : TailTaken) → IsBytes r.rest
    → records_behind n ahead position r ≡ Ok taken → SomeRecords ahead position r taken
unfolding records_behind
records_take zero ahead position r taken h e = nothing_more ahead position r taken (taken_is (taken_to [] r.at) taken e)
records_take (suc n) ahead position r taken h e = by (records_take n) (record_at position r) refl ahead e
  where
    Again : Type 0
    Again = (ahead : List (List ℕ)) (position : ℕ) (r : Reading) (taken : TailTaken) → IsBytes r.rest
        → records_behind n ahead position r ≡ Ok taken → SomeRecords ahead position r taken

    with_new : Again → (x : List ℕ × Reading) → Takes r (record_bytes position x.0) x.1 × FitsRecord x.0 × (position < 2 ^ 32) → (others : Result TailTaken TailFault)
        → records_behind n [] (position + 1) x.1 ≡ others → entry_and_tail x.0 others ≡ Ok taken → SomeRecords [] position r taken
    with_new again x t (Err fault) is e = absurd cc
    with_new again x t (Ok others) is e =
        let same : taken_to (x.0 ∷ others.entries) others.whole ≡ taken = taken_is (taken_to (x.0 ∷ others.entries) others.whole) taken e in
        with_record [] [] position r x others taken t.0 t.1 (λ es h. tt)
        (λ es lacking. sym (ap (λ (t : TailTaken). t.entries) same) ∙ ap (λ (l : List (List ℕ)). x.0 ∷ l) lacking)
        (sym (ap (λ (t : TailTaken). t.whole) same))
        (again [] (position + 1) x.1 others t.0.bytes is)

    with_old : Again → (x : List ℕ × Reading) (a : List ℕ) (later : List (List ℕ)) → Takes r (record_bytes position x.0) x.1 × FitsRecord x.0 × (position < 2 ^ 32) → (same : Bool)
        → bytes_eq a x.0 ≡ same → cond same (records_behind n later (position + 1) x.1) (Err (Malformed (r.at + 8))) ≡ Ok taken → SomeRecords (a ∷ later) position r taken
    with_old again x a later t false is e = absurd cc
    with_old again x a later t true is e =
        let alike : a ≡ x.0 = (bytes_eq-Decides a x.0).0 is in
        with_record (a ∷ later) later position r x taken taken t.0 t.1 (λ es h. (alike, h)) (λ es lacking. lacking) refl
        (again later (position + 1) x.1 taken t.0.bytes e)

    by : Again → (found : Result (List ℕ × Reading) RecordEnd) → record_at position r ≡ found → (ahead : List (List ℕ))
        → record_and r.at found ahead (λ more others. records_behind n more (position + 1) others) ≡ Ok taken → SomeRecords ahead position r taken
    by again (Err Cut) is ahead e = nothing_more ahead position r taken (taken_is (taken_to [] r.at) taken e)
    by again (Err (Misfit at)) is ahead e = absurd cc
    by again (Ok x) is [] e = with_new again x (record_takes position r x h is) (records_behind n [] (position + 1) x.1) refl e
    by again (Ok x) is (a ∷ later) e = with_old again x a later (record_takes position r x h is) (bytes_eq a x.0) refl e
