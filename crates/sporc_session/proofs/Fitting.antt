-- Acts that fit a log fit a longer one; acts in a row.
use Rattle.std.proofs.Common.{◌≡◌, ◌≤◌, ℕ, Bool, List, [], ◌∷◌, ◌++◌, length, map, drop, refl, sym, ap, ◌∙◌, subst, append_assoc, arith}
use Rattle.sporc_session.proofs.Common.{append-nil, drop-append-le, StartsWith, submission_added, Item, Opened, Happened, Act, Ask, Look, Submit, Check, AreInOrder, Fits, FitAll, all_of, items_by}
use Rattle.sporc_session.proofs.Common.{moment_after, Mode, Leads}
use Rattle.sporc_session.proofs.Knowing.{client_later, point_later, starts_then}

pub all_of_append : {X : Type 0} (f : Act → List X) (xs ys : List Act) → all_of f (xs ++ ys) ≡ all_of f xs ++ all_of f ys
all_of_append f [] ys = refl
all_of_append f (act ∷ rest) ys = ap (λ l. f act ++ l) (all_of_append f rest ys) ∙ sym (append_assoc (f act) (all_of f rest) (all_of f ys))

module _ (log log' : List Item) (s : StartsWith log' log) (start : ℕ) where
  pub fits_later : (mine : List Item) (act : Act) → Fits log start mine act → Fits log' start mine act
  fits_later mine (Ask document member) f = (f.0, f.1, starts_then (Opened f.0 f.1 ∷ []) log log' f.2 s, f.3, f.4)
  fits_later mine (Look point at pending) f =
      (point_later log log' start 0 mine point s f.0, (f.1.0, client_later log log' point f.1.0 s f.0.within f.1.1, f.1.2))
  fits_later mine (Submit point first second answer) f =
      let added = map Happened (submission_added 0 answer) in (
        point_later log log' start 0 mine point s f.0,
        (f.1.0, f.1.1, client_later log log' point f.1.0 s f.0.within f.1.2, f.1.3, f.1.4),
        (f.2.0 ++ s.0, ap (drop point) s.1 ∙ drop-append-le point log s.0 f.0.within ∙ ap (λ l. l ++ s.0) f.2.1 ∙ append_assoc added f.2.0 s.0),
      )
  fits_later mine (Check point entry stays) f =
      (point_later log log' start 0 mine point s f.0, (f.1.0, client_later log log' point f.1.0 s f.0.within f.1.1, f.1.2))
  fits_later mine _ f = tt

  pub fit_all_later : (mine : List Item) (acts : List Act) → FitAll log start mine acts → FitAll log' start mine acts
  fit_all_later mine [] f = tt
  fit_all_later mine (act ∷ rest) f = (fits_later mine act f.0, fit_all_later (mine ++ items_by act) rest f.1)

pub fit_all_append : (log : List Item) (start : ℕ) (mine : List Item) (xs ys : List Act) → FitAll log start mine xs → FitAll log start (mine ++ all_of items_by xs) ys → FitAll log start mine (xs ++ ys)
fit_all_append log start mine [] ys f g = subst (λ l. FitAll log start l ys) (append-nil mine) g
fit_all_append log start mine (act ∷ rest) ys f g =
    (f.0, fit_all_append log start (mine ++ items_by act) rest ys f.1 (subst (λ l. FitAll log start l ys) (sym (append_assoc mine (items_by act) (all_of items_by rest))) g))

-- ---- moments that don't go back

in_order_from : (n m : ℕ) (acts : List Act) → n ≤ m → AreInOrder m acts → AreInOrder n acts
in_order_from n m [] low o = tt
in_order_from n m (Look point at pending ∷ acts) low o = (omega (arith, low, o.0), o.1)
in_order_from n m (Submit point first second answer ∷ acts) low o = (omega (arith, low, o.0), o.1)
in_order_from n m (Check point entry stays ∷ acts) low o = (omega (arith, low, o.0), o.1)
in_order_from n m (_ ∷ acts) low o = (omega arith, in_order_from n m acts low o.1)

module _ (log : List Item) (start m : ℕ) (all : length log ≤ m) where
  moment_within : (n : ℕ) (mine : List Item) (act : Act) → n ≤ m → Fits log start mine act → moment_after n act ≤ m
  moment_within n mine (Look point at pending) low f = omega (arith, all, f.0.within)
  moment_within n mine (Submit point first second answer) low f = omega (arith, all, f.0.within)
  moment_within n mine (Check point entry stays) low f = omega (arith, all, f.0.within)
  moment_within n mine _ low f = low

  -- acts that fit a log saw moments of it, so that later ones may follow
  pub in_order_append : (n : ℕ) (mine : List Item) (xs ys : List Act) → n ≤ m → FitAll log start mine xs → AreInOrder n xs → AreInOrder m ys → AreInOrder n (xs ++ ys)
  in_order_append n mine [] ys low f x y = in_order_from n m ys low y
  in_order_append n mine (act ∷ xs) ys low f x y = (x.0, in_order_append (moment_after n act) (mine ++ items_by act) xs ys (moment_within n mine act low f.0) f.1 x.1 y)

pub leads_append : (ready : ℕ → ℕ → Bool) (m k m' : Mode) (xs ys : List Act) → Leads ready m xs k → Leads ready k ys m' → Leads ready m (xs ++ ys) m'
leads_append ready m k m' [] ys f g = subst (λ x. Leads ready x ys m') (sym f) g
leads_append ready m k m' (act ∷ rest) ys f g = (f.0, f.1, leads_append ready f.0 k m' rest ys f.2 g)
