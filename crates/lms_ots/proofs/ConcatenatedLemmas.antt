-- Parts, one after another: built by a loop, and found again by their place.
use Rattle.std.proofs.Common.{◌≡◌, ℕ, zero, suc, ◌+◌, ◌*◌, ◌<◌, ◌≤◌, List, ◌++◌, length, take, drop, refl, sym, ap, ◌∙◌, arith, append_assoc, append-nil, inl, inr}
use Rattle.std.proofs.lemmas.List.{length-append, length-drop, take_all, take-append-le, drop-append-le}
use Rattle.std.proofs.Math.Seq.{drop-append-add}
use Rattle.std.proofs.lemmas.Bool.{cases_lt}
use Rattle.sha2.specs.Hashers.{Holds256}
use Rattle.sha2.specs.declared.Sha256.{Sha256}
use Rattle.lms_ots.specs.Chains.{concatenated}

-- no part after a front
pub concatenated_none : (front : List ℕ) (part : ℕ → List ℕ) → front ≡ front ++ concatenated part 0
unfolding concatenated
concatenated_none front part = sym (append-nil front)

-- one more part after a front
pub concatenated_more : (front : List ℕ) (part : ℕ → List ℕ) (i : ℕ) (items new added : List ℕ) → items ≡ front ++ concatenated part i
    → new ≡ items ++ added → added ≡ part i → new ≡ front ++ concatenated part (i + 1)
unfolding concatenated
concatenated_more front part i items new added before pushed here =
    let more : i + 1 ≡ suc i = omega arith in
    rw (pushed, before, here, more) (append_assoc front (concatenated part i) (part i))

-- a hasher that was fed no part after a front
pub fed_none : (hasher : Sha256) (front : List ℕ) (part : ℕ → List ℕ) → Holds256 hasher front → Holds256 hasher (front ++ concatenated part 0)
fed_none hasher front part held = rw (← concatenated_none front part) held

-- a hasher that was fed one more part
pub fed_more : (hasher : Sha256) (front : List ℕ) (part : ℕ → List ℕ) (i : ℕ) (fed : List ℕ) → fed ≡ part i
    → Holds256 hasher (front ++ concatenated part i ++ fed) → Holds256 hasher (front ++ concatenated part (i + 1))
fed_more hasher front part i fed e held = rw (← concatenated_more front part i _ _ fed refl refl e) held

-- parts of 32 bytes each
pub length-concatenated : (part : ℕ → List ℕ) → ((i : ℕ) → length (part i) ≡ 32) → (n : ℕ) → length (concatenated part n) ≡ 32 * n
unfolding concatenated
length-concatenated part each zero = omega arith
length-concatenated part each (suc n) = omega (arith, length-append (concatenated part n) (part n), length-concatenated part each n, each n)

-- a place in the first of two lists
pub in_front : (k n : ℕ) (xs ys : List ℕ) → k + n ≤ length xs → take n (drop k (xs ++ ys)) ≡ take n (drop k xs)
in_front k n xs ys h =
    let starts : k ≤ length xs = omega arith in
    let fits : n ≤ length (drop k xs) = omega (arith, length-drop k xs) in
    rw (drop-append-le k xs ys starts) (take-append-le n (drop k xs) ys fits)

-- a place in the second of two lists
pub in_back : (k n m : ℕ) (xs ys : List ℕ) → k ≡ length xs + m → take n (drop k (xs ++ ys)) ≡ take n (drop m ys)
in_back k n m xs ys h = rw (h, drop-append-add xs ys m) refl

-- part i among the first n
pub concatenated_part : (part : ℕ → List ℕ) → ((i : ℕ) → length (part i) ≡ 32) → (n i : ℕ) → i < n
    → take 32 (drop (32 * i) (concatenated part n)) ≡ part i
unfolding concatenated
concatenated_part part each zero i h = absurd (omega arith)
concatenated_part part each (suc n) i h =
    elim (cases_lt i n) [
      | inl below ↦
          in_front (32 * i) 32 (concatenated part n) (part n) (omega (arith, length-concatenated part each n))
          ∙ concatenated_part part each n i below
      | inr above ↦
          let same : i ≡ n = omega arith in
          let place : 32 * i ≡ length (concatenated part n) + 0 = omega (arith, length-concatenated part each n) in
          in_back (32 * i) 32 0 (concatenated part n) (part n) place ∙ take_all 32 (part n) (omega (arith, each n)) ∙ ap part (sym same)
    ]

-- equal parts make equal lists
pub concatenated_same : (f g : ℕ → List ℕ) (n : ℕ) → ((i : ℕ) → i < n → f i ≡ g i) → concatenated f n ≡ concatenated g n
unfolding concatenated
concatenated_same f g zero same = refl
concatenated_same f g (suc n) same = rw (concatenated_same f g n (λ i h. same i (omega arith)), same n (omega arith)) refl
