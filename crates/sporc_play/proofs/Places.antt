-- Elements of lists at places, and numbers or devices that stand apart.
use Rattle.std.proofs.Common.{◌≡◌, ◌≢◌, ℕ, zero, suc, ◌+◌, ◌<◌, ◌≤◌, List, [], ◌∷◌, ◌++◌, length, take, get_or, map, refl, sym, ap, ◌∙◌, subst, arith, add-one, Option, None, Some, inl, inr, true}
use Rattle.std.proofs.Common.{false, Bool, cond, ltb, drop, drop-cons}
use Rattle.sporc_play.proofs.Common.{◌⊎◌, Contains, filter_map, slice_get, AllByRecursion, cons_option, take_all, ⊤, Device, same_device, one_same, same_one, set, slice_get_read, Founder, insert_by}
use Rattle.sporc_play.proofs.Common.{place_among, founder_numbers}
use Rattle.std.specs.List.{IsDistinct, insert}

-- ---- items of which no two are one, by what each differs from

abbrev pub IsNotIn : {A : Type 0} → A → List A → Type 0
IsNotIn x [] = ⊤
IsNotIn x (y ∷ ys) = (y ≢ x) × IsNotIn x ys

abbrev pub AreDistinct : {A : Type 0} → List A → Type 0
AreDistinct [] = ⊤
AreDistinct (x ∷ xs) = IsNotIn x xs × AreDistinct xs

-- ---- devices

pub same_or_not : (a b : Device) → a ≢ b → same_device a b ≡ false
same_or_not a b differs = grind (arith, same_one a b)

avoided : (d : Device) (ds : List Device) → IsNotIn d ds → AllByRecursion (λ e. same_device d e ≡ false) ds
avoided d [] h = tt
avoided d (e ∷ es) h = (same_or_not d e (λ is. h.0 (sym is)), avoided d es h.1)

pub is_distinct : (ds : List Device) → AreDistinct ds → IsDistinct same_device ds
unfolding IsDistinct
is_distinct [] h = tt
is_distinct (d ∷ ds) h = (avoided d ds h.0, is_distinct ds h.1)

pub not_same : (a b : Device) → same_device a b ≡ false → a ≢ b
not_same a b other is = let yes : same_device a b ≡ true = subst (λ (x : Device). same_device a x ≡ true) is (one_same a) in cc

not_in : (d : Device) (ds : List Device) → AllByRecursion (λ e. same_device d e ≡ false) ds → IsNotIn d ds
not_in d [] h = tt
not_in d (e ∷ es) h =
    ((λ is. not_same d e h.0 (sym is)), not_in d es h.1)

pub are_distinct : (ds : List Device) → IsDistinct same_device ds → AreDistinct ds
unfolding IsDistinct
are_distinct [] h = tt
are_distinct (d ∷ ds) h = (not_in d ds h.0, are_distinct ds h.1)

pub at_place : {X : Type 0} (P : X → Type 0) (xs : List X) (i : ℕ) (x : X) → AllByRecursion P xs → slice_get xs i ≡ Some x → P x
at_place P [] i x all at = absurd cc
at_place P (y ∷ ys) zero x all at = let same : y ≡ x = cc in subst P same all.0
at_place P (y ∷ ys) (suc i) x all at = at_place P ys i x all.1 at

pub all_each : {X : Type 0} (P Q : X → Type 0) (xs : List X) → ((x : X) → P x → Q x) → AllByRecursion P xs → AllByRecursion Q xs
all_each P Q [] then all = tt
all_each P Q (x ∷ xs) then all = (then x all.0, all_each P Q xs then all.1)

pub all_mapped : {X Y : Type 0} (P : Y → Type 0) (f : X → Y) (xs : List X) → ((x : X) → P (f x)) → AllByRecursion P (map f xs)
all_mapped P f [] each = tt
all_mapped P f (x ∷ xs) each = (each x, all_mapped P f xs each)

pub all_both : {X : Type 0} (P Q R : X → Type 0) (xs : List X) → ((x : X) → P x → Q x → R x) → AllByRecursion P xs → AllByRecursion Q xs → AllByRecursion R xs
all_both P Q R [] then ps qs = tt
all_both P Q R (x ∷ xs) then ps qs = (then x ps.0 qs.0, all_both P Q R xs then ps.1 qs.1)

-- ---- those that stand apart

pub not_in_append : {A : Type 0} (n : A) (xs ys : List A) → IsNotIn n (xs ++ ys) → IsNotIn n xs × IsNotIn n ys
not_in_append n [] ys apart = (tt, apart)
not_in_append n (x ∷ xs) ys apart = let rest = not_in_append n xs ys apart.1 in ((apart.0, rest.0), rest.1)

pub apart_front : {A : Type 0} (xs ys : List A) → AreDistinct (xs ++ ys) → AreDistinct xs
apart_front [] ys apart = tt
apart_front (x ∷ xs) ys apart = ((not_in_append x xs ys apart.0).0, apart_front xs ys apart.1)

pub apart_back : {A : Type 0} (xs ys : List A) → AreDistinct (xs ++ ys) → AreDistinct ys
apart_back [] ys apart = apart
apart_back (x ∷ xs) ys apart = apart_back xs ys apart.1

-- one that stands in a list is none of those that aren't in it
pub not_there : {X A : Type 0} (number : X → A) (n : A) (xs : List X) (i : ℕ) (x : X) → IsNotIn n (map number xs) → slice_get xs i ≡ Some x → number x ≢ n
not_there number n [] i x apart at = absurd cc
not_there {X = X} number n (y ∷ ys) zero x apart at = let same : y ≡ x = cc in subst (λ (z : X). number z ≢ n) same apart.0
not_there number n (y ∷ ys) (suc i) x apart at = not_there number n ys i x apart.1 at

-- those in the second part are not in the first
pub not_across : {X A : Type 0} (number : X → A) (ns : List A) (xs : List X) (i : ℕ) (x : X) → AreDistinct (ns ++ map number xs) → slice_get xs i ≡ Some x → IsNotIn (number x) ns
not_across number [] xs i x apart at = tt
not_across number (n ∷ ns) xs i x apart at = (
  (λ same. not_there number n xs i x (not_in_append n ns (map number xs) apart.0).1 at (sym same)),
  not_across number ns xs i x apart.1 at,
)

-- and those in the first are not in the second
pub not_behind : {X A : Type 0} (number : X → A) (xs : List X) (ns : List A) (i : ℕ) (x : X) → AreDistinct (map number xs ++ ns) → slice_get xs i ≡ Some x → IsNotIn (number x) ns
not_behind number [] ns i x apart at = absurd cc
not_behind {X = X} number (y ∷ ys) ns zero x apart at = let same : y ≡ x = cc in subst (λ (z : X). IsNotIn (number z) ns) same (not_in_append (number y) (map number ys) ns apart.0).1
not_behind number (y ∷ ys) ns (suc i) x apart at = not_behind number ys ns i x apart.1 at

-- ---- one element replaced

-- what holds of all, holds otherwise of those that have another number
pub all_others : {X A : Type 0} (number : X → A) (P Q : X → Type 0) (m : A) (xs : List X) → IsNotIn m (map number xs) → ((x : X) → number x ≢ m → P x → Q x) → AllByRecursion P xs → AllByRecursion Q xs
all_others number P Q m [] apart keep all = tt
all_others number P Q m (x ∷ xs) apart keep all = (keep x apart.0 all.0, all_others number P Q m xs apart.1 keep all.1)

pub all_set : {X A : Type 0} (number : X → A) (P Q : X → Type 0) (xs : List X) (i : ℕ) (x new : X) → AreDistinct (map number xs) → slice_get xs i ≡ Some x
    → ((y : X) → number y ≢ number x → P y → Q y) → Q new → AllByRecursion P xs → AllByRecursion Q (set xs i new)
all_set number P Q [] i x new apart at keep q all = absurd cc
all_set {X = X} number P Q (y ∷ ys) zero x new apart at keep q all =
    let same : y ≡ x = cc in
    (q, all_others number P Q (number x) ys (subst (λ (z : X). IsNotIn (number z) (map number ys)) same apart.0) keep all.1)
all_set number P Q (y ∷ ys) (suc i) x new apart at keep q all =
    (keep y (λ same. not_there number (number y) ys i x apart.0 at (sym same)) all.0, all_set number P Q ys i x new apart.1 at keep q all.1)

-- a replacement with the same number leaves the numbers
pub numbers_set : {X A : Type 0} (number : X → A) (xs : List X) (i : ℕ) (x new : X) → slice_get xs i ≡ Some x → number new ≡ number x → map number (set xs i new) ≡ map number xs
numbers_set number [] i x new at own = absurd cc
numbers_set {A = A} number (y ∷ ys) zero x new at own = let same : y ≡ x = cc in ap (λ (n : A). n ∷ map number ys) (own ∙ ap number (sym same))
numbers_set {A = A} number (y ∷ ys) (suc i) x new at own = ap (λ (ns : List A). number y ∷ ns) (numbers_set number ys i x new at own)

-- ---- where one stands

pub element : {X : Type 0} (xs : List X) (i : ℕ) (x : X) → i < length xs → x ≡ get_or xs i x → slice_get xs i ≡ Some x
element xs i x low is = slice_get_read xs (length xs) i x refl low is

pub not_in_contains : {A : Type 0} (n : A) (ns : List A) → IsNotIn n ns → Contains ns n → ⊥
not_in_contains n [] apart (k, low, at) = omega (arith, low)
not_in_contains n (m ∷ ms) apart (zero, low, at) = apart.0 at
not_in_contains n (m ∷ ms) apart (suc k, low, at) = not_in_contains n ms apart.1 (k, omega (arith, low), at)

not_in_suc : {X A : Type 0} (number : X → A) (n : A) (xs : List X) (i : ℕ) (x : X) → i < length xs → x ≡ get_or xs i x → number x ≢ n → IsNotIn n (map number (take i xs)) → IsNotIn n (map number (take (suc i) xs))
not_in_suc number n [] i x low is other apart = absurd (omega (arith, low))
not_in_suc {X = X} number n (y ∷ ys) zero x low is other apart = (subst (λ (z : X). number z ≢ n) is other, tt)
not_in_suc number n (y ∷ ys) (suc i) x low is other apart = (apart.0, not_in_suc number n ys i x (omega (arith, low)) is other apart.1)

pub not_in_more : {X A : Type 0} (number : X → A) (n : A) (xs : List X) (i : ℕ) (x : X) → i < length xs → x ≡ get_or xs i x → number x ≢ n → IsNotIn n (map number (take i xs)) → IsNotIn n (map number (take (i + 1) xs))
not_in_more number n xs i x low is other apart = rw add-one (not_in_suc number n xs i x low is other apart)

pub nowhere : {X A : Type 0} (number : X → A) (n : A) (xs : List X) (i : ℕ) → length xs ≤ i → IsNotIn n (map number (take i xs)) → Contains (map number xs) n → ⊥
nowhere {X = X} number n xs i all apart among = not_in_contains n (map number xs) (subst (λ (ys : List X). IsNotIn n (map number ys)) (take_all i xs all) apart) among

-- ---- what is read off a list

pub among_more : {A : Type 0} (n : A) (o : Option A) (ns : List A) → Contains ns n → Contains (cons_option o ns) n
among_more n None ns is = is
among_more n (Some m) ns is = (suc is.0, omega (arith, is.1), is.2)

pub among_here : {A : Type 0} (n : A) (o : Option A) (ns : List A) → o ≡ Some n → Contains (cons_option o ns) n
among_here {A = A} n o ns is = subst (λ (p : Option A). Contains (cons_option p ns) n) (sym is) (0, omega arith, refl)

pub among_cases : {A : Type 0} (n : A) (o : Option A) (ns : List A) → Contains (cons_option o ns) n → (o ≡ Some n) ⊎ Contains ns n
among_cases n None ns is = inr is
among_cases n (Some m) ns (zero, low, at) = inl (ap Some at)
among_cases n (Some m) ns (suc k, low, at) = inr (k, omega (arith, low), at)

-- what is read off the first of a list is among what is read off all
pub among_front : {X A : Type 0} (read : X → Option A) (n : A) (xs : List X) (i : ℕ) → Contains (filter_map read (take i xs)) n → Contains (filter_map read xs) n
among_front read n xs zero is = absurd (omega (arith, is.1))
among_front read n [] (suc i) is = is
among_front read n (x ∷ xs) (suc i) is = elim (among_cases n (read x) (filter_map read (take i xs)) is) [
  | inl here ↦ among_here n (read x) (filter_map read xs) here
  | inr there ↦ among_more n (read x) (filter_map read xs) (among_front read n xs i there)
]

-- ---- places among founders

pub place_step : (n : ℕ) (fs : List Founder) (i : ℕ) (f : Founder) → i < length fs → f ≡ get_or fs i f
    → place_among n (founder_numbers (drop i fs)) ≡ cond (ltb n f.member) 0 (suc (place_among n (founder_numbers (drop (i + 1) fs))))
place_step n fs i f low is =
    let cut : drop i fs ≡ f ∷ drop (i + 1) fs = rw add-one (drop-cons fs i f low ∙ ap (λ (g : Founder). g ∷ drop (suc i) fs) (sym is)) in
    ap (λ (gs : List Founder). place_among n (founder_numbers gs)) cut

pub put_in_place : (f : Founder) (fs : List Founder) → insert fs (place_among f.member (founder_numbers fs)) f ≡ insert_by (λ (g : Founder). g.member) f fs
put_in_place f [] = refl
put_in_place f (g ∷ gs) = go (ltb f.member g.member) (put_in_place f gs)
  where
    go : (b : Bool) → insert gs (place_among f.member (founder_numbers gs)) f ≡ insert_by (λ (g : Founder). g.member) f gs
        → insert (g ∷ gs) (cond b 0 (suc (place_among f.member (founder_numbers gs)))) f ≡ cond b (f ∷ g ∷ gs) (g ∷ insert_by (λ (g : Founder). g.member) f gs)
    go true rest = refl
    go false rest = ap (λ (hs : List Founder). g ∷ hs) rest
