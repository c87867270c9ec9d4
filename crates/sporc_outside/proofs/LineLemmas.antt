-- Lines of bytes that come in pieces.
use Rattle.std.proofs.Common.{◌≡◌, ◌≢◌, ◌∙◌, ℕ, zero, suc, ◌+◌, ◌-◌, ◌<◌, ◌≤◌, List, [], ◌∷◌, ◌++◌, length, take, drop, Option, None, Some, Bool, true, false, cond, eqb, not, ap, sym, subst, refl}
use Rattle.std.proofs.Common.{arith, get_or, append-nil}
use Rattle.std.specs.Io.KnownBytes.{IsAtEnd, Keeps, prepend_known}
use Rattle.std.proofs.lemmas.List.Sums.{prefix_len-le-length}
use Rattle.std.proofs.lemmas.List.Folds.{prefix_len-append}
use Rattle.std.proofs.lemmas.Bool.{ne_eqb}
use Rattle.std.proofs.lemmas.List.{drop-append-le, take-append-le}
use Rattle.sporc_outside.specs.Lines.{HasLine, TakesLine, after_line, first_line, is_no_lf, line_len, line_of}

pub line_len-le : (xs : List ℕ) → line_len xs ≤ length xs
line_len-le xs = prefix_len-le-length is_no_lf xs

-- a byte that is no LF belongs to the line
pub line_goes_on : (xs : List ℕ) (i : ℕ) → i ≤ line_len xs → i < length xs → get_or xs i 0 ≢ 10 → i + 1 ≤ line_len xs
line_goes_on [] i low in_bounds differs = absurd (omega (arith, in_bounds))
line_goes_on (x ∷ xs) zero low in_bounds differs = subst (λ (b : Bool). 1 ≤ cond (not b) (1 + line_len xs) 0) (sym (ne_eqb x 10 differs)) (omega arith)
line_goes_on (x ∷ xs) (suc i) low in_bounds differs = goes_on (eqb x 10) low (λ h. line_goes_on xs i h (omega (arith, in_bounds)) differs) where
  goes_on : (b : Bool) → suc i ≤ cond (not b) (1 + line_len xs) 0 → (i ≤ line_len xs → i + 1 ≤ line_len xs)
      → suc i + 1 ≤ cond (not b) (1 + line_len xs) 0
  goes_on true h more = absurd (omega (arith, h))
  goes_on false h more = omega (arith, more (omega (arith, h)))

-- an LF ends the line
pub line_ends : (xs : List ℕ) (i : ℕ) → i ≤ line_len xs → i < length xs → get_or xs i 0 ≡ 10 → i ≡ line_len xs
line_ends [] i low in_bounds is = absurd (omega (arith, in_bounds))
line_ends (x ∷ xs) zero low in_bounds is = subst (λ (y : ℕ). 0 ≡ cond (not (eqb y 10)) (1 + line_len xs) 0) (sym is) refl
line_ends (x ∷ xs) (suc i) low in_bounds is = ends (eqb x 10) low (λ h. line_ends xs i h (omega (arith, in_bounds)) is) where
  ends : (b : Bool) → suc i ≤ cond (not b) (1 + line_len xs) 0 → (i ≤ line_len xs → i ≡ line_len xs) → suc i ≡ cond (not b) (1 + line_len xs) 0
  ends true h same = absurd (omega (arith, h))
  ends false h same = omega (arith, same (omega (arith, h)))

-- a line that has its LF is not longer for what comes behind
pub line_len-there : (xs ys : List ℕ) → line_len xs < length xs → line_len (xs ++ ys) ≡ line_len xs
line_len-there xs ys there = prefix_len-append is_no_lf xs ys ∙ ap (λ (b : Bool). cond b (length xs + line_len ys) (line_len xs)) (ne_eqb (line_len xs) (length xs) (λ e. omega (arith, e, there)))

-- it is not shorter for what comes behind
pub line_len-more : (xs ys : List ℕ) → line_len xs ≤ line_len (xs ++ ys)
line_len-more [] ys = omega arith
line_len-more (x ∷ xs) ys = more (is_no_lf x) (line_len-more xs ys) where
  more : (b : Bool) → line_len xs ≤ line_len (xs ++ ys) → cond b (1 + line_len xs) 0 ≤ cond b (1 + line_len (xs ++ ys)) 0
  more true h = omega arith
  more false h = omega arith

-- what is known of the bytes that are held stays known behind a piece
pub known_behind : (old mid new piece : List ℕ) {n : ℕ} → n ≤ line_len old → mid ≡ old → new ≡ mid ++ piece → n ≤ line_len (drop 0 new)
known_behind old mid new piece {n} known same more =
    subst (λ (bytes : List ℕ). n ≤ line_len bytes) (sym (more ∙ ap (λ (bytes : List ℕ). bytes ++ piece) same)) (omega (arith, known, line_len-more old piece))

-- a line is taken off what is held, if its LF is there
pub takes_line : (old : Option (List ℕ)) (held : List ℕ) (left : Option (List ℕ)) → Keeps old (prepend_known held left) → HasLine held
    → TakesLine old (prepend_known (after_line held) left) (Some (first_line held))
takes_line None held left kept there = tt
takes_line (Some xs) held None kept there = absurd kept
takes_line (Some xs) [] (Some ys) kept there = absurd (omega arith)
takes_line (Some xs) (b ∷ bs) (Some ys) kept there =
    let held = b ∷ bs in
    let len : line_len (held ++ ys) ≡ line_len held = line_len-there held ys there in
    subst (λ (zs : List ℕ). TakesLine (Some zs) (Some (after_line held ++ ys)) (Some (first_line held))) kept (
      ap (λ (l : List ℕ). Some l) (sym (ap (λ (n : ℕ). take n (held ++ ys)) len ∙ take-append-le (line_len held) held ys (omega arith))),
      sym (ap (λ (n : ℕ). drop (n + 1) (held ++ ys)) len ∙ drop-append-le (line_len held + 1) held ys (omega arith)),
    )

-- all that is held is the last line, if nothing is left
pub takes_last : (old : Option (List ℕ)) (held : List ℕ) (left : Option (List ℕ)) → Keeps old (prepend_known held left) → IsAtEnd left
    → line_len held ≡ length held → TakesLine old (prepend_known (after_line held) left) (line_of held)
takes_last None held left kept end all = tt
takes_last (Some xs) held None kept end all = absurd kept
takes_last (Some xs) held (Some ys) kept end all =
    let is : xs ≡ held = sym kept ∙ ap (λ (zs : List ℕ). held ++ zs) end ∙ append-nil held in
    subst (λ (zs : List ℕ). TakesLine (Some zs) (Some (after_line held ++ ys)) (line_of held)) (sym is) (
      refl,
      ap (λ (zs : List ℕ). after_line held ++ zs) end ∙ append-nil (after_line held),
    )
