-- The lines behind one that an editor names.
use Rattle.std.proofs.Common.{◌≡◌, ℕ, ◌+◌, ◌-◌, ◌≤◌, ◌<◌, Bool, true, false, List, [], ◌∷◌, ◌++◌, length, drop, refl, ap, sym, ◌∙◌, subst, arith, cond, length-append, append_assoc, length-drop}
use Rattle.std.proofs.Math.Seq.{drop-append_seam}
use Rattle.std.proofs.lemmas.Bool.{eq-eqb, le-leb, lt-ltb, ltb-false, ne_eqb}
use Rattle.std.specs.Prelude.{◌==◌}
use Rattle.sporc_screen.proofs.Common.{Mark, first_joined, knows_line, place_of, with_line, MAX_NAMED, nat_le, nat_lt}
use Rattle.sporc_screen.proofs.Following.{length-joined}

-- behind the line of this number stand these lines: it is the base, or one of those since
pub data Names (base last : ℕ) (since : List (List Mark)) (seen : ℕ) (y : List (List Mark)) : Type 0 where
  IsBase : seen ≡ base → y ≡ since → Names base last since seen y
  IsLine : (before : List (List Mark)) → 0 < length before → before ++ y ≡ since → seen + length y ≡ last → Names base last since seen y

pub record Known (base last : ℕ) (since : List (List Mark)) (seen : ℕ) (y : List (List Mark)) : Type 0 where
  pub known : knows_line base last (length since) seen ≡ true
  pub behind : drop (place_of base last (length since) seen) since ≡ y

pub names_known : (base last : ℕ) (since : List (List Mark)) (seen : ℕ) (y : List (List Mark)) → Names base last since seen y → base + length since ≤ last → Known base last since seen y
names_known base last since seen y (IsBase same all) numbered =
    let so : (seen == base) ≡ true = eq-eqb seen base same in record { known = rw so refl; behind = rw so (sym all) }
names_known base last since seen y (IsLine before some joined at) numbered =
    let count : length before + length y ≡ length since = sym (length-append before y) ∙ ap length joined in
    let other : (seen == base) ≡ false = ne_eqb seen base (λ same. omega arith) in
    let above : nat_le seen last ≡ true = le-leb seen last (omega arith) in
    let below : nat_lt last (seen + length since) ≡ true = lt-ltb last (seen + length since) (omega arith) in
    let place : length since - (last - seen) ≡ length before = omega arith in
    let P : List (List Mark) → Type 0 = λ xs. drop (length before) xs ≡ y in
    record { known = rw (other, above, below) refl; behind = rw (other, place) (subst P joined (drop-append_seam before y)) }

-- its number is no later than the last
pub names_before : (base last : ℕ) (since : List (List Mark)) (seen : ℕ) (y : List (List Mark)) → Names base last since seen y → base + length since ≤ last → seen ≤ last
names_before base last since seen y (IsBase same all) numbered = omega (arith, same)
names_before base last since seen y (IsLine before some joined at) numbered = omega (arith, at)

-- ---- the base, where an edit names this line

pub names_base : (last : ℕ) (x : List Mark) (seen : ℕ) → Names seen last (x ∷ []) seen (x ∷ [])
names_base last x seen = IsBase refl refl

-- ---- the next line is read

pub names_next : (base last : ℕ) (since : List (List Mark)) (seen : ℕ) (x : List Mark) (y : List (List Mark)) (first : ℕ) → Names base last since seen (x ∷ y) → first + length y ≡ last → Names base last since first y
names_next base last since seen x y first (IsBase same all) at = IsLine (x ∷ []) (omega arith) all at
names_next base last since seen x y first (IsLine before some joined was) at = IsLine (before ++ x ∷ []) (omega (arith, length-append before (x ∷ []))) (append_assoc before (x ∷ []) y ∙ joined) at

-- ---- one line more is written

first_joined-append : (before y : List (List Mark)) → 2 ≤ length before → first_joined (before ++ y) ≡ first_joined before ++ y
first_joined-append (a ∷ b ∷ rest) y many = refl
first_joined-append (a ∷ []) y many = absurd (omega arith)
first_joined-append [] y many = absurd (omega arith)

-- the lines since, with one more
abbrev pub more : Bool → List (List Mark) → List Mark → List (List Mark)
more room since x = cond room (since ++ x ∷ []) (first_joined since ++ x ∷ [])

pub length-more : (room : Bool) (since : List (List Mark)) (x : List Mark) → nat_lt (length since) MAX_NAMED ≡ room → length (more room since x) ≤ length since + 1
length-more true since x is = omega (arith, length-append since (x ∷ []))
length-more false since x is = omega (arith, ltb-false (length since) MAX_NAMED is, length-joined since (omega (arith, ltb-false (length since) MAX_NAMED is)), length-append (first_joined since) (x ∷ []))

-- fewer lines than may be named stand behind it
abbrev pub Near : ℕ → ℕ → List (List Mark) → ℕ → Type 0
Near base last since seen = length (drop (place_of base last (length since) seen) since) < MAX_NAMED

names_more_in : (room : Bool) (base last : ℕ) (since : List (List Mark)) (seen : ℕ) (y : List (List Mark)) (x : List Mark) → nat_lt (length since) MAX_NAMED ≡ room → Names base last since seen y → base + length since ≤ last
    → Near base (last + 1) (more room since x) seen → Names base (last + 1) (more room since x) seen (y ++ x ∷ [])
names_more_in true base last since seen y x is (IsBase same all) numbered near = IsBase same (ap (λ (xs : List (List Mark)). xs ++ x ∷ []) all)
names_more_in true base last since seen y x is (IsLine before some joined at) numbered near =
    IsLine before some (sym (append_assoc before y (x ∷ [])) ∙ ap (λ (xs : List (List Mark)). xs ++ x ∷ []) joined) (omega (arith, at, length-append y (x ∷ [])))
names_more_in false base last since seen y x is (IsBase same all) numbered near =
    let so : (seen == base) ≡ true = eq-eqb seen base same in
    let full = ltb-false (length since) MAX_NAMED is in
    let near' = rw so at near in
    absurd (omega (arith, near', full, length-joined since (omega (arith, full)), length-append (first_joined since) (x ∷ [])))
names_more_in false base last since seen y x is (IsLine before some joined at) numbered near =
    let full = ltb-false (length since) MAX_NAMED is in
    let count : length before + length y ≡ length since = sym (length-append before y) ∙ ap length joined in
    let other : (seen == base) ≡ false = ne_eqb seen base (λ same. omega arith) in
    let near' = rw other at near in
    let new = first_joined since ++ x ∷ [] in
    let total : length new ≡ length since = omega (arith, length-joined since (omega (arith, full)), length-append (first_joined since) (x ∷ [])) in
    let many : 2 ≤ length before = omega (arith, near', total, count, at, full, length-drop (length new - (last + 1 - seen)) new) in
    let split : first_joined before ++ y ≡ first_joined since = sym (first_joined-append before y many) ∙ ap first_joined joined in
    IsLine (first_joined before) (omega (arith, length-joined before many)) (sym (append_assoc (first_joined before) y (x ∷ [])) ∙ ap (λ (xs : List (List Mark)). xs ++ x ∷ []) split)
    (omega (arith, at, length-append y (x ∷ [])))

pub names_more : (base last : ℕ) (since : List (List Mark)) (seen : ℕ) (y : List (List Mark)) (x : List Mark) → Names base last since seen y → base + length since ≤ last
    → Near base (last + 1) (with_line since x) seen → Names base (last + 1) (with_line since x) seen (y ++ x ∷ [])
names_more base last since seen y x names numbered near = names_more_in (nat_lt (length since) MAX_NAMED) base last since seen y x refl names numbered near
