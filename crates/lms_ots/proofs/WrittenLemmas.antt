-- What a buffer holds once it was written to its end.
use Rattle.std.proofs.Common.{◌≡◌, ℕ, ◌+◌, ◌<◌, ◌≤◌, List, [], ◌∷◌, ◌++◌, length, take, drop, set, append_assoc, refl, sym, ap, ◌∙◌, arith, rules}
use borrow.Rule.Slice.PartMut.{put_mid}
use Rattle.std.proofs.lemmas.Slice.{take-put_mid, overwrites}
use Rattle.std.proofs.lemmas.List.{length-append, length-set, length-take, length-drop, take_all, take-append-le, take-append-drop, take_more_set}

-- the rest of a buffer, written after its first part
pub written_last : (a j : ℕ) (d z s : List ℕ) → length d ≡ a → length z ≡ j → length s ≡ j → put_mid a j (d ++ z) s ≡ d ++ s
written_last a j d z s len last two =
    let whole : length (d ++ z) ≡ a + j = omega (arith, length-append d z) in
    let size : length (put_mid a j (d ++ z) s) ≤ a + length s = length_put_mid (d ++ z) s (whole ∙ ap (λ (n : ℕ). a + n) (sym two)) two in
    let fits : a ≤ length (d ++ z) = omega arith in
    let front = take-append-le a d z (omega arith) in
    sym (take_all (a + length s) _ size) ∙ take-put_mid a j (d ++ z) s (a + length s) refl fits
    ∙ ap (λ (x : List ℕ). x ++ s) (front ∙ take_all a d (omega arith))
  where
    length_put_mid : (xs ys : List ℕ) → length xs ≡ a + length ys → length ys ≡ j → length (put_mid a j xs ys) ≤ a + length ys
    length_put_mid xs ys e f = search (rules, overwrites)

-- a buffer with a byte at place k and all after it written
pub written_from : (k n : ℕ) (buffer value : List ℕ) (j : ℕ) → length buffer ≡ k + 1 + n → length value ≡ n
    → put_mid (k + 1) n (set buffer k j) value ≡ take k buffer ++ j ∷ value
written_from k n buffer value j size all =
    let whole : length (set buffer k j) ≡ k + 1 + n = length-set buffer k j ∙ size in
    let front : length (take (k + 1) (set buffer k j)) ≡ k + 1 = omega (arith, length-take (k + 1) (set buffer k j)) in
    let back : length (drop (k + 1) (set buffer k j)) ≡ n = omega (arith, length-drop (k + 1) (set buffer k j)) in
    let inside : k < length buffer = omega arith in
    ap (λ (xs : List ℕ). put_mid (k + 1) n xs value) (sym (take-append-drop (k + 1) (set buffer k j)))
    ∙ written_last (k + 1) n _ _ value front back all
    ∙ ap (λ (xs : List ℕ). xs ++ value) (take_more_set buffer k j inside)
    ∙ append_assoc (take k buffer) (j ∷ []) value
