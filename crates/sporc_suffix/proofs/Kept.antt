-- The runs that end with each form.
use Rattle.std.proofs.Common.{◌≡◌, ℕ, zero, suc, ◌+◌, ◌-◌, ◌/◌, ◌%◌, ◌^◌, ◌≤◌, ◌<◌, List, [], ◌∷◌, ◌++◌, length, take, drop, get_or, refl, ap, sym, subst, ◌∙◌, arith, Some, option_map, ◌⊎◌, inl, inr}
use Rattle.std.proofs.Common.{length-append}
use Rattle.sporc_suffix.proofs.Common.{slice_get, nil_from_length, map-append, drop_all, get_or_append_left, get_or_push, take-append-drop, drop-drop, take_all, length-drop, length-map, Mark}
use Rattle.sporc_suffix.proofs.Common.{base_len, out_len, compose, Follow, Fits, TwoADigit, later_over, pairs, runs_of, last_of, EndWith, Joined, KeepRuns, ReadyModel, IsReadyAt, BlocksInvariant}
use Rattle.sporc_suffix.proofs.Common.{forms_in}
use Rattle.std.proofs.Math.Seq.{drop-cons}
use Rattle.std.proofs.lemmas.Bool.{cases_lt}
use Rattle.std.proofs.lemmas.Option.{get_or_from_slice_get, slice_get-get_or, slice_get-map, slice_get_read, slice_get_within}
use Rattle.sporc_suffix.proofs.Passing.{Follow-append}
use Rattle.sporc_suffix.proofs.Composed.{left_over, length-pairs, few_left, pairs-more_even, pairs-more_odd, Joined-runs, later_over-append, fits_front, fits_back, by_pairs, pairs-drop, left_at}

-- ---- a place in a list

pub slice_get_front : {X : Type 0} (xs ys : List X) (i : ℕ) → i < length xs → slice_get (xs ++ ys) i ≡ slice_get xs i
slice_get_front [] ys i h = absurd (omega (arith, h))
slice_get_front (x ∷ xs) ys zero h = refl
slice_get_front (x ∷ xs) ys (suc i) h = slice_get_front xs ys i (omega (arith, h))

slice_get_end : {X : Type 0} (xs : List X) (y : X) (i : ℕ) → i ≡ length xs → slice_get (xs ++ y ∷ []) i ≡ Some y
slice_get_end [] y zero h = refl
slice_get_end (x ∷ xs) y (suc i) h = slice_get_end xs y i (omega (arith, h))
slice_get_end xs y i h = absurd (omega (arith, h))

-- ---- where a run ends

pub last_of-ge : (level place : ℕ) → place ≤ last_of level place
last_of-ge zero place = omega arith
last_of-ge (suc level) place = omega (arith, last_of-ge level (suc (place + place)))

pub ends_within : (level place : ℕ) (fs : List (List Mark)) → place < length (runs_of level fs) → last_of level place < length fs
ends_within zero place fs h = h
ends_within (suc level) place fs h = ends_within level (suc (place + place)) fs (omega (arith, length-pairs (runs_of level fs), h))

-- ---- one form more

-- it ends no run of this level, or one
abbrev More : List (List Mark) → List Mark → ℕ → Type 0
More fs x level =
    (runs_of level (fs ++ x ∷ []) ≡ runs_of level fs)
    ⊎ ((y : List Mark) × (runs_of level (fs ++ x ∷ []) ≡ runs_of level fs ++ y ∷ []) × (last_of level (length (runs_of level fs)) ≡ length fs))

more : (fs : List (List Mark)) (x : List Mark) (level : ℕ) → More fs x level
more fs x zero = inr (x, refl, refl)
more fs x (suc level) = go (more fs x level)
  where
    odd : (y : List Mark) → runs_of level (fs ++ x ∷ []) ≡ runs_of level fs ++ y ∷ [] → last_of level (length (runs_of level fs)) ≡ length fs
        → (left : List (List Mark)) → left_over (runs_of level fs) ≡ left → More fs x (suc level)
    odd y e l [] h = inl (ap pairs e ∙ pairs-more_even (runs_of level fs) y h)
    odd y e l (z ∷ []) h =
        let n : length (runs_of level fs) ≡ suc (length (pairs (runs_of level fs)) + length (pairs (runs_of level fs))) = omega (arith, length-pairs (runs_of level fs), ap length h) in
        inr (compose z y, ap pairs e ∙ pairs-more_odd (runs_of level fs) y z h, ap (last_of level) (sym n) ∙ l)
    odd y e l (z ∷ w ∷ ws) h = absurd (omega (arith, few_left (runs_of level fs), ap length h))

    go : More fs x level → More fs x (suc level)
    go (inl e) = inl (ap pairs e)
    go (inr t) = odd t.0 t.1 t.2 (left_over (runs_of level fs)) refl

-- a run that ends before it stays
stays : (fs : List (List Mark)) (x : List Mark) (level place : ℕ) → place < length (runs_of level (fs ++ x ∷ [])) → last_of level place < length fs
    → (place < length (runs_of level fs)) × (slice_get (runs_of level (fs ++ x ∷ [])) place ≡ slice_get (runs_of level fs) place)
stays fs x level place within last = go (more fs x level)
  where
    before : (y : List Mark) → runs_of level (fs ++ x ∷ []) ≡ runs_of level fs ++ y ∷ [] → last_of level (length (runs_of level fs)) ≡ length fs → (place < length (runs_of level fs)) ⊎ (length (runs_of level fs) ≤ place)
        → place < length (runs_of level fs)
    before y e l (inl h) = h
    before y e l (inr h) =
        let same : place ≡ length (runs_of level fs) = omega (arith, h, within, ap length e, length-append (runs_of level fs) (y ∷ [])) in
        absurd (omega (arith, last, ap (last_of level) same, l))

    go : More fs x level → (place < length (runs_of level fs)) × (slice_get (runs_of level (fs ++ x ∷ [])) place ≡ slice_get (runs_of level fs) place)
    go (inl e) = (omega (arith, within, ap length e), ap (λ rs. slice_get rs place) e)
    go (inr t) =
        let h = before t.0 t.1 t.2 (cases_lt place (length (runs_of level fs))) in
        (h, ap (λ rs. slice_get rs place) t.1 ∙ slice_get_front (runs_of level fs) (t.0 ∷ []) place h)

pub keeps_more : (items : List ReadyModel) (r : ReadyModel) → KeepRuns items → EndWith (forms_in items ++ r.form ∷ []) (length items) r.runs → KeepRuns (items ++ r ∷ [])
keeps_more items r keeps new i item at =
    let forms : forms_in (items ++ r ∷ []) ≡ forms_in items ++ r.form ∷ [] = map-append (λ (item : ReadyModel). item.form) items (r ∷ []) in
    subst (λ (fs : List (List Mark)). EndWith fs i item.runs) (sym forms) (go (cases_lt i (length items)))
  where
    few : length (forms_in items) ≡ length items
    few = length-map items (λ (item : ReadyModel). item.form)

    go : (i < length items) ⊎ (length items ≤ i) → EndWith (forms_in items ++ r.form ∷ []) i item.runs
    go (inl h) = λ level place within last.
        let old : slice_get items i ≡ Some item = sym (slice_get_front items (r ∷ []) i h) ∙ at in
        let here = stays (forms_in items) r.form (suc level) place within (omega (arith, last, h, few)) in
        keeps i item old level place here.0 last ∙ sym here.1
    go (inr h) =
        let n : i ≡ length items = omega (arith, h, slice_get_within (items ++ r ∷ []) i item at, length-append items (r ∷ [])) in
        let item_is : r ≡ item = let e : Some r ≡ Some item = sym (slice_get_end items r i n) ∙ at in cc in
        let Q : ℕ → Type 0 = λ k. EndWith (forms_in items ++ r.form ∷ []) k r.runs in
        subst (λ (it : ReadyModel). EndWith (forms_in items ++ r.form ∷ []) i it.runs) item_is (subst Q (sym n) new)

-- ---- where a run is kept

pub form_kept : (items : List ReadyModel) (level place i : ℕ) (item : ReadyModel) → level ≡ 0 → place < length (runs_of level (forms_in items)) → i ≡ last_of level place → item ≡ get_or items i item
    → slice_get (runs_of level (forms_in items)) place ≡ Some item.form
form_kept items zero place i item none within at is =
    let there : place < length items = omega (arith, within, length-map items (λ (item : ReadyModel). item.form)) in
    let P : ℕ → Type 0 = λ k. item ≡ get_or items k item in
    slice_get-map (λ (item : ReadyModel). item.form) items place ∙ ap (option_map (λ (item : ReadyModel). item.form)) (slice_get_read items (length items) place item refl there (subst P at is))
form_kept items (suc level) place i item none within at is = absurd (omega (arith, none))

pub run_kept : (items : List ReadyModel) (level place i : ℕ) (item : ReadyModel) → KeepRuns items → 0 < level → place < length (runs_of level (forms_in items)) → i ≡ last_of level place → item ≡ get_or items i item
    → (level - 1 < length item.runs) × (slice_get item.runs (level - 1) ≡ slice_get (runs_of level (forms_in items)) place)
run_kept items zero place i item keeps some within at is = absurd (omega (arith, some))
run_kept items (suc level) place i item keeps some within at is =
    let there : i < length items = omega (arith, at, ends_within (suc level) place (forms_in items) within, length-map items (λ (item : ReadyModel). item.form)) in
    let here : slice_get item.runs level ≡ slice_get (runs_of (suc level) (forms_in items)) place = keeps i item (slice_get_read items (length items) i item refl there is) level place within (sym at) in
    let found = here ∙ slice_get-get_or (runs_of (suc level) (forms_in items)) place item.form within in
    let in_bounds : level < length item.runs = slice_get_within item.runs level (get_or (runs_of (suc level) (forms_in items)) place item.form) found in
    let same : suc level - 1 ≡ level = omega arith in
    rw same (in_bounds, here)

-- a list of one place
pub one_place : (L : List (List Mark)) (from end : ℕ) (f : List Mark) → from < end → end ≤ from + 1 → end ≤ length L → slice_get L from ≡ Some f → take (end - from) (drop from L) ≡ f ∷ []
one_place L from end f some one within at =
    let width : end - from ≡ 1 = omega (arith, some, one) in
    let first : drop from L ≡ f ∷ drop (suc from) L = drop-cons L from f (omega (arith, some, within)) ∙ ap (λ z. z ∷ drop (suc from) L) (get_or_from_slice_get L from f f at) in
    rw (width, first) refl

-- ---- the runs that a form ends, from below

-- so far: the form, and then the run of each level that it ends
pub record Ended (fs : List (List Mark)) (form : List Mark) (runs : List (List Mark)) : Type 0 where
  pub so_far : (level : ℕ) → level ≤ length runs → runs_of level (fs ++ form ∷ []) ≡ runs_of level fs ++ get_or (form ∷ runs) level form ∷ []

-- the last run of a level, if it has no neighbour
last_left : (L : List (List Mark)) (n : ℕ) (y : List Mark) → n % 2 ≡ 1 → n ≡ length L → slice_get L (n - 1) ≡ Some y → left_over L ≡ y ∷ []
last_left L n y odd is at =
    let m : n - 1 ≡ n / 2 + n / 2 = omega (arith, odd) in
    let place : slice_get L (n / 2 + n / 2) ≡ Some y = ap (slice_get L) (sym m) ∙ at in
    left_at 0 (n / 2) L (omega arith) (omega (arith, is, odd)) (omega (arith, is, odd))
    ∙ drop-cons L (n / 2 + n / 2) y (omega (arith, is, odd))
    ∙ (let one : get_or L (n / 2 + n / 2) y ≡ y = get_or_from_slice_get L (n / 2 + n / 2) y y place in
    ap (λ z. z ∷ drop (suc (n / 2 + n / 2)) L) one ∙ ap (λ zs. y ∷ zs) (drop_all (suc (n / 2 + n / 2)) L (omega (arith, is, odd))))

pub ended_more : (fs : List (List Mark)) (form : List Mark) (runs : List (List Mark)) (n : ℕ) (y c : List Mark) → Ended fs form runs → n % 2 ≡ 1 → n ≡ length (runs_of (length runs) fs) → slice_get (runs_of (length runs) fs) (n - 1) ≡ Some y
    → c ≡ compose y (get_or (form ∷ runs) (length runs) form) → Ended fs form (runs ++ c ∷ [])
ended_more fs form runs n y c ended odd is at composed = record { so_far = λ level h. go level (cases_lt (length runs) level) h }
  where
    go : (level : ℕ) → (length runs < level) ⊎ (level ≤ length runs) → level ≤ length (runs ++ c ∷ []) → runs_of level (fs ++ form ∷ []) ≡ runs_of level fs ++ get_or (form ∷ runs ++ c ∷ []) level form ∷ []
    go level (inr h) within =
        ended.so_far level h ∙ ap (λ x. runs_of level fs ++ x ∷ []) (sym (get_or_append_left (form ∷ runs) (c ∷ []) form level (omega (arith, h))))
    go level (inl h) within =
        let top : level ≡ suc (length runs) = omega (arith, h, within, length-append runs (c ∷ [])) in
        let L = runs_of (length runs) fs in
        let x = get_or (form ∷ runs) (length runs) form in
        let left = last_left (runs_of (length runs) fs) n y odd is at in
        let here : runs_of (suc (length runs)) (fs ++ form ∷ []) ≡ runs_of (suc (length runs)) fs ++ compose y (get_or (form ∷ runs) (length runs) form) ∷ [] =
        ap pairs (ended.so_far (length runs) (omega arith)) ∙ pairs-more_odd (runs_of (length runs) fs) (get_or (form ∷ runs) (length runs) form) y left in
        let new : get_or (form ∷ runs ++ c ∷ []) (suc (length runs)) form ≡ c = get_or_push runs c form (length runs) refl in
        let P : ℕ → Type 0 = λ k. runs_of k (fs ++ form ∷ []) ≡ runs_of k fs ++ get_or (form ∷ runs ++ c ∷ []) k form ∷ [] in
        subst P (sym top) (here ∙ ap (λ z. runs_of (suc (length runs)) fs ++ z ∷ []) (sym composed ∙ sym new))

-- the next two deltas to be composed follow each other
joined_last : (L : List (List Mark)) (n : ℕ) (y x : List Mark) → suc n ≡ length L → slice_get L n ≡ Some y → Joined (L ++ x ∷ []) → out_len y ≡ base_len x
joined_last (f ∷ []) zero y x is at h = let same : f ≡ y = cc in ap out_len (sym same) ∙ sym h.0
joined_last (f ∷ g ∷ fs) (suc n) y x is at h = joined_last (g ∷ fs) n y x (omega (arith, is)) at h.1
joined_last L n y x is at h = absurd (omega (arith, is))

pub next_follow : (fs : List (List Mark)) (form : List Mark) (runs : List (List Mark)) (n : ℕ) (y : List Mark) → Joined (fs ++ form ∷ []) → Ended fs form runs → 0 < n → n ≡ length (runs_of (length runs) fs)
    → slice_get (runs_of (length runs) fs) (n - 1) ≡ Some y → out_len y ≡ base_len (get_or (form ∷ runs) (length runs) form)
next_follow fs form runs n y joined ended some is at =
    let all = subst Joined (ended.so_far (length runs) (omega arith)) (Joined-runs (length runs) (fs ++ form ∷ []) joined) in
    joined_last (runs_of (length runs) fs) (n - 1) y (get_or (form ∷ runs) (length runs) form) (omega (arith, is, some)) at all

-- no run ends with the form above a level at which none does
same_above : (fs gs : List (List Mark)) (k level : ℕ) → k ≤ level → runs_of k fs ≡ runs_of k gs → runs_of level fs ≡ runs_of level gs
same_above fs gs k zero h e = let none : k ≡ 0 = omega (arith, h) in rw none at e
same_above fs gs k (suc level) h e = go (λ l. same_above fs gs k level l e) (cases_lt level k)
  where
    go : (k ≤ level → runs_of level fs ≡ runs_of level gs) → (level < k) ⊎ (k ≤ level) → runs_of (suc level) fs ≡ runs_of (suc level) gs
    go ih (inl l) = let top : k ≡ suc level = omega (arith, h, l) in rw top at e
    go ih (inr l) = ap pairs (ih l)

pub ended_all : (fs : List (List Mark)) (form : List Mark) (runs : List (List Mark)) (n at : ℕ) → Ended fs form runs → n % 2 ≡ 0 → n ≡ length (runs_of (length runs) fs) → at ≡ length fs → EndWith (fs ++ form ∷ []) at runs
ended_all fs form runs n at ended even is at_is level place within last = go (cases_lt level (length runs))
  where
    none_left : left_over (runs_of (length runs) fs) ≡ []
    none_left = nil_from_length (left_over (runs_of (length runs) fs)) (omega (arith, length-pairs (runs_of (length runs) fs), few_left (runs_of (length runs) fs), is, even))

    above : length runs ≤ level → ⊥
    above h =
        let top : runs_of (suc (length runs)) (fs ++ form ∷ []) ≡ runs_of (suc (length runs)) fs =
        ap pairs (ended.so_far (length runs) (omega arith)) ∙ pairs-more_even (runs_of (length runs) fs) (get_or (form ∷ runs) (length runs) form) none_left in
        let same = same_above (fs ++ form ∷ []) fs (suc (length runs)) (suc level) (omega (arith, h)) top in
        omega (arith, ends_within (suc level) place fs (omega (arith, within, ap length same)), last, at_is)

    newest : runs_of (suc level) (fs ++ form ∷ []) ≡ runs_of (suc level) fs ++ get_or runs level form ∷ [] → (place < length (runs_of (suc level) fs)) ⊎ (length (runs_of (suc level) fs) ≤ place) → place ≡ length (runs_of (suc level) fs)
    newest e (inl h) = absurd (omega (arith, ends_within (suc level) place fs h, last, at_is))
    newest e (inr h) = omega (arith, h, within, ap length e, length-append (runs_of (suc level) fs) (get_or runs level form ∷ []))

    go : (level < length runs) ⊎ (length runs ≤ level) → slice_get runs level ≡ slice_get (runs_of (suc level) (fs ++ form ∷ [])) place
    go (inl h) =
        let e : runs_of (suc level) (fs ++ form ∷ []) ≡ runs_of (suc level) fs ++ get_or runs level form ∷ [] = ended.so_far (suc level) (omega (arith, h)) in
        let here = newest e (cases_lt place (length (runs_of (suc level) fs))) in
        slice_get-get_or runs level form h ∙ sym (ap (λ rs. slice_get rs place) e ∙ slice_get_end (runs_of (suc level) fs) (get_or runs level form) place here)
    go (inr h) = absurd (above h)

-- ---- a delta that passes the runs of a level from a place on

pub record Halves (q : List Mark) (L : List (List Mark)) (from first last count : ℕ) : Type 0 where
  pub first_fits : Fits q (take (first - from) (drop from L))
  pub fits : Fits (later_over q (take (first - from) (drop from L))) (drop (first / 2) (pairs L))
  pub last_fits : Fits (later_over (later_over q (take (first - from) (drop from L))) (drop (first / 2) (pairs L))) (take (count - last) (drop last L))
  pub whole : later_over (later_over (later_over q (take (first - from) (drop from L))) (drop (first / 2) (pairs L))) (take (count - last) (drop last L)) ≡ later_over q (drop from L)

pub halves : (q : List Mark) (L : List (List Mark)) (from first last count : ℕ) → count ≡ length L → from < count → first ≡ from + from % 2 → last ≡ count - count % 2 → Fits q (drop from L) → Halves q L from first last count
halves q L from first last count is within f l fits =
    let n = first / 2 in
    let m = last / 2 in
    let D = drop from L in
    let A = take (first - from) (drop from L) in
    let B = drop (first / 2 + first / 2) L in
    let even : first ≡ first / 2 + first / 2 = omega (arith, f) in
    let last_even : last ≡ last / 2 + last / 2 = omega (arith, l) in
    let rest : drop (first - from) (drop from L) ≡ drop (first / 2 + first / 2) L = drop-drop (first - from) from L ∙ ap (λ (k : ℕ). drop k L) (omega (arith, f)) in
    let split : drop from L ≡ take (first - from) (drop from L) ++ drop (first / 2 + first / 2) L = sym (take-append-drop (first - from) (drop from L)) ∙ ap (λ (rs : List (List Mark)). take (first - from) (drop from L) ++ rs) rest in
    let both = subst (Fits q) split fits in
    let one = fits_front q (take (first - from) (drop from L)) (drop (first / 2 + first / 2) L) both in
    let q1 = later_over q (take (first - from) (drop from L)) in
    let two = by_pairs (later_over q (take (first - from) (drop from L))) (drop (first / 2 + first / 2) L) (fits_back q (take (first - from) (drop from L)) (drop (first / 2 + first / 2) L) both) in
    let up : pairs (drop (first / 2 + first / 2) L) ≡ drop (first / 2) (pairs L) = pairs-drop (first / 2) L in
    let tail : left_over (drop (first / 2 + first / 2) L) ≡ take (count - last) (drop last L) =
    left_at (first / 2) (last / 2) L (omega (arith, is, within, f)) (omega (arith, is, l)) (omega (arith, is, l))
    ∙ ap (λ (k : ℕ). drop k L) (sym last_even) ∙ sym (take_all (count - last) (drop last L) (omega (arith, length-drop last L, is))) in
    let Q : List (List Mark) → Type 0 = λ rs. Fits q1 rs in
    let R : List (List Mark) → List (List Mark) → Type 0 = λ rs ts. Fits (later_over q1 rs) ts in
    record {
      first_fits = one;
      fits = subst Q up two.fits;
      last_fits = subst (λ (ts : List (List Mark)). R (drop (first / 2) (pairs L)) ts) tail (subst (λ (rs : List (List Mark)). R rs (left_over (drop (first / 2 + first / 2) L))) up two.left_fits);
      whole =
          sym (ap (λ (rs : List (List Mark)). later_over (later_over q1 rs) (left_over (drop (first / 2 + first / 2) L))) up ∙ ap (λ (ts : List (List Mark)). later_over (later_over q1 (drop (first / 2) (pairs L))) ts) tail)
          ∙ two.whole ∙ sym (later_over-append q (take (first - from) (drop from L)) (drop (first / 2 + first / 2) L)) ∙ ap (later_over q) (sym split);
    }

-- ---- steps

-- two steps more, for twice as many and more
pub two_more : (n m before first then after : ℕ) → 0 < n → m + m ≤ n → first ≤ before + 1 → TwoADigit first then m → after ≤ then + 1 → TwoADigit before after n
two_more n m before first then after some half one up two zero h = absurd (omega (arith, h, some))
two_more n m before first then after some half one up two (suc b) h = omega (arith, one, two, up b (omega (arith, half, h)))

pub no_steps : (before after n : ℕ) → after ≤ before → TwoADigit before after n
no_steps before after n h b few = omega (arith, h)

-- ---- blocks

pub blocks_push : (base : ℕ) (items : List ReadyModel) (r : ReadyModel) → BlocksInvariant base items → IsReadyAt base (forms_in items) r → length items < 2 ^ 32 - 1 → BlocksInvariant base (items ++ r ∷ [])
blocks_push base items r held ready few =
    let forms : forms_in (items ++ r ∷ []) ≡ forms_in items ++ r.form ∷ [] = map-append (λ (item : ReadyModel). item.form) items (r ∷ []) in
    let Q : ℕ → Type 0 = λ n. EndWith (forms_in items ++ r.form ∷ []) n r.runs in
    record {
      follow = subst (Follow base) (sym forms) (Follow-append base (forms_in items) r.form held.follow ready.base_is);
      few = omega (arith, few, length-append items (r ∷ []));
      runs = keeps_more items r held.runs (subst Q (length-map items (λ (item : ReadyModel). item.form)) ready.runs_are);
    }
