-- Lists cut in two.
use Rattle.std.proofs.Common.{◌≡◌, ℕ, zero, suc, ◌+◌, ◌≤◌, List, [], ◌∷◌, ◌++◌, length, take, drop, refl, ap, sym, ◌∙◌, append_assoc, arith, length-append, length-drop}
use Rattle.sporc_text.proofs.Common.{take-append-le, drop-append-le, length-take-le, replaced}
use Rattle.std.proofs.Math.Seq.{take-append-add, drop-append-add}

-- the first n, of two lists end to end, and those behind them
pub take-append : (n m : ℕ) (xs ys : List ℕ) → m + length (take n xs) ≡ n → take n (xs ++ ys) ≡ take n xs ++ take m ys
take-append (suc n) m [] ys e = let z : m ≡ suc n = omega arith in rw z refl
take-append (suc n) m (x ∷ xs) ys e = ap (λ (t : List ℕ). x ∷ t) (take-append n m xs ys (omega arith))
take-append zero m xs ys e = let z : m ≡ 0 = omega arith in rw z refl

pub drop-append : (n m : ℕ) (xs ys : List ℕ) → m + length xs ≡ n + length (drop n xs) → drop n (xs ++ ys) ≡ drop n xs ++ drop m ys
drop-append zero m xs ys e = let z : m ≡ 0 = omega arith in rw z refl
drop-append (suc n) m [] ys e = let z : m ≡ suc n = omega arith in rw z refl
drop-append (suc n) m (x ∷ xs) ys e = drop-append n m xs ys (omega arith)

-- ---- characters in place of some others

-- behind a front that is kept
pub replaced-behind : (front text middle : List ℕ) (n kept removed : ℕ) → length front + kept ≡ n → replaced n removed middle (front ++ text) ≡ front ++ replaced kept removed middle text
replaced-behind front text middle n kept removed e =
    let t : take n (front ++ text) ≡ front ++ take kept text = ap (λ (k : ℕ). take k (front ++ text)) (sym e) ∙ take-append-add front text kept in
    let d : drop (n + removed) (front ++ text) ≡ drop (kept + removed) text = ap (λ (k : ℕ). drop k (front ++ text)) (omega (arith, e)) ∙ drop-append-add front text (kept + removed) in
    ap (λ (l : List ℕ). l ++ (middle ++ drop (n + removed) (front ++ text))) t
    ∙ append_assoc front (take kept text) (middle ++ drop (n + removed) (front ++ text))
    ∙ ap (λ (l : List ℕ). front ++ (take kept text ++ (middle ++ l))) d

-- in front of an end that is kept
pub replaced-front : (text back middle : List ℕ) (kept removed : ℕ) → kept + removed ≤ length text → replaced kept removed middle (text ++ back) ≡ replaced kept removed middle text ++ back
replaced-front text back middle kept removed le =
    ap (λ (l : List ℕ). l ++ (middle ++ drop (kept + removed) (text ++ back))) (take-append-le kept text back (omega arith))
    ∙ ap (λ (l : List ℕ). take kept text ++ (middle ++ l)) (drop-append-le (kept + removed) text back le)
    ∙ ap (λ (l : List ℕ). take kept text ++ l) (sym (append_assoc middle (drop (kept + removed) text) back))
    ∙ sym (append_assoc (take kept text) (middle ++ drop (kept + removed) text) back)

pub length-replaced : (text middle : List ℕ) (kept removed : ℕ) → kept + removed ≤ length text → length (replaced kept removed middle text) + removed ≡ length text + length middle
length-replaced text middle kept removed le =
    omega (arith, length-append (take kept text) (middle ++ drop (kept + removed) text), length-append middle (drop (kept + removed) text), length-drop (kept + removed) text, length-take-le kept text (omega arith))

-- the next of some lists cut, and the same of those behind it
pub taken_of : (left skipped rest next : ℕ) (xs ys : List ℕ) → rest + length xs ≡ skipped + length (drop skipped xs) → next + length (take left (drop skipped xs)) ≡ left
    → take left (drop skipped (xs ++ ys)) ≡ take left (drop skipped xs) ++ take next (drop rest ys)
taken_of left skipped rest next xs ys r n = ap (λ (l : List ℕ). take left l) (drop-append skipped rest xs ys r) ∙ take-append left next (drop skipped xs) (drop rest ys) n
