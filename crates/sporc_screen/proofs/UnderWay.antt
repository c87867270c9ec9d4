-- What is under way between an editor and a screen.
use Rattle.std.proofs.Common.{◌≡◌, ℕ, ◌+◌, ◌≤◌, ◌<◌, Bool, true, false, List, [], ◌∷◌, ◌++◌, length, refl, ap, sym, ◌∙◌, subst, arith, cond}
use Rattle.std.proofs.lemmas.Bool.{ne_eqb}
use Rattle.std.proofs.lemmas.List.Elements.{filter-append}
use Rattle.std.specs.List.{AllByRecursion, filter}
use Rattle.std.specs.Prelude.{◌==◌}
use Rattle.sporc_screen.proofs.Common.{Mark, Edit, apply, is_in_bounds}
use Rattle.sporc_screen.proofs.Following.{apply_all}
use Rattle.sporc_screen.specs.Machine.{Line, Sent, with_edit}

-- ---- edits

-- edits made one after another on a text, each of which names the same line, lead to this text
abbrev pub AreTyped : ℕ → List ℕ → List Sent → List ℕ → Type 0
AreTyped seen t [] text = t ≡ text
AreTyped seen t (e ∷ es) text = (e.seen ≡ seen) × (is_in_bounds (length t) e.edit ≡ true) × AreTyped seen (with_edit t e.edit) es text

pub typed_more : (seen : ℕ) (t : List ℕ) (es : List Sent) (text : List ℕ) (edit : Edit) → AreTyped seen t es text → is_in_bounds (length text) edit ≡ true → AreTyped seen t (es ++ record { seen = seen; edit = edit } ∷ []) (with_edit text edit)
typed_more seen t [] text edit same within =
    let P : List ℕ → Type 0 = λ t. is_in_bounds (length t) edit ≡ true in (refl, subst P (sym same) within, ap (λ (t : List ℕ). with_edit t edit) same)
typed_more seen t (e ∷ es) text edit typed within = (typed.0, typed.1, typed_more seen (with_edit t e.edit) es text edit typed.2 within)

pub some_more : (es : List Sent) (e : Sent) → es ++ e ∷ [] ≡ [] → ⊥
some_more [] e h = cc
some_more (x ∷ es) e h = cc

-- ---- lines

-- the lines that an editor will apply, which has sent so many edits
abbrev pub due : ℕ → List Line → List Line
due sent lines = filter (λ l. l.written.numbers.own == sent) lines

-- each counts at most so many edits
abbrev pub AreCounted : ℕ → List Line → Type 0
AreCounted own lines = AllByRecursion (λ l. l.written.numbers.own ≤ own) lines

-- a line of this number that counts so many edits
abbrev pub line_of : ℕ → ℕ → List Mark → List ℕ → Line
line_of number own delta shown = record { written = record { numbers = record { line = number; own = own }; delta = delta }; shown = shown }

-- lines numbered from first on, which lead on from a text
abbrev pub lines_from : ℕ → ℕ → List ℕ → List (List Mark) → List Line
lines_from first own t [] = []
lines_from first own t (x ∷ xs) = line_of first own x (apply x t) ∷ lines_from (first + 1) own (apply x t) xs

pub lines_from-append : (first own : ℕ) (t : List ℕ) (y : List (List Mark)) (x : List Mark) → lines_from first own t (y ++ x ∷ []) ≡ lines_from first own t y ++ line_of (first + length y) own x (apply x (apply_all y t)) ∷ []
lines_from-append first own t [] x =
    let zero_more : first ≡ first + 0 = omega arith in ap (λ (n : ℕ). line_of n own x (apply x t) ∷ []) zero_more
lines_from-append first own t (z ∷ zs) x =
    let one_more : first + 1 + length zs ≡ first + length (z ∷ zs) = omega arith in
    ap (λ (ls : List Line). line_of first own z (apply z t) ∷ ls)
    (lines_from-append (first + 1) own (apply z t) zs x ∙ ap (λ (n : ℕ). lines_from (first + 1) own (apply z t) zs ++ line_of n own x (apply x (apply_all zs (apply z t))) ∷ []) one_more)

pub counted_more : (own : ℕ) (lines : List Line) (l : Line) → AreCounted own lines → l.written.numbers.own ≤ own → AreCounted own (lines ++ l ∷ [])
counted_more own [] l all here = (here, tt)
counted_more own (x ∷ xs) l all here = (all.0, counted_more own xs l all.1 here)

pub counted_up : (own : ℕ) (lines : List Line) → AreCounted own lines → AreCounted (own + 1) lines
counted_up own [] all = tt
counted_up own (x ∷ xs) all = (omega (arith, all.0), counted_up own xs all.1)

-- none is due that counts fewer
pub none_due : (own sent : ℕ) (lines : List Line) → AreCounted own lines → own < sent → due sent lines ≡ []
none_due own sent [] all fewer = refl
none_due own sent (x ∷ xs) all fewer =
    let here = all.0 in
    let other : (x.written.numbers.own == sent) ≡ false = ne_eqb x.written.numbers.own sent (λ same. omega (arith, here, same, fewer)) in
    rw other (none_due own sent xs all.1 fewer)

pub due_more : (sent : ℕ) (lines : List Line) (l : Line) → (l.written.numbers.own == sent) ≡ true → due sent (lines ++ l ∷ []) ≡ due sent lines ++ l ∷ []
due_more sent lines l so = filter-append (λ (l : Line). l.written.numbers.own == sent) lines (l ∷ []) ∙ ap (λ (room : Bool). due sent lines ++ cond room (l ∷ []) []) so
