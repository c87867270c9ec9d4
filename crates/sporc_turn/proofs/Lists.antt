-- Lists read by place, prefixes of a list, and the items with one number.
use Rattle.std.proofs.Common.{◌≡◌, ◌≢◌, ◌⊎◌, ℕ, zero, suc, ◌<◌, ◌≤◌, ◌==◌, cond, leb, eq-eqb, ne_eqb, Bool, true, false, true≢false, List, [], ◌∷◌, ◌++◌, length, drop, set, sym, refl, ap, ◌∙◌, subst, inl, inr, ⊎_elim, arith, length-append, append_assoc}
use Rattle.sporc_turn.proofs.Common.{All, Contains, some, some-injective, some-ne-none, get_elem?, filter, drop-append-le, append-nil, filter-append, All-weaker, All-contains_itself}
use Rattle.sporc_turn.proofs.Common.{Contains-append_right, nil_from_length, StartsWith, longer, shorter, own}
use Rattle.std.proofs.lemmas.Bool.Decides.{leb_tells}

-- a test has one value
pub no_both : {P : Type 0} → (b : Bool) → b ≡ false → b ≡ true → P
no_both b f t = absurd (true≢false (sym t ∙ f))

module _ {A : Type 0} where
  pub set_at : (l : List A) (i : ℕ) (a b : A) → get_elem? l i ≡ some b → get_elem? (set l i a) i ≡ some a
  set_at [] i a b e = absurd (some-ne-none b (sym e))
  set_at (x ∷ xs) zero a b e = refl
  set_at (x ∷ xs) (suc i) a b e = set_at xs i a b e

  pub same_at : (l : List A) (i j : ℕ) (a b : A) → i ≡ j → get_elem? l i ≡ some a → get_elem? l j ≡ some b → a ≡ b
  same_at l i j a b is p q = some-injective a b (sym p ∙ ap (λ k. get_elem? l k) is ∙ q)

  pub at_end : (l : List A) (a b : A) (j : ℕ) → get_elem? (l ++ a ∷ []) j ≡ some b → (get_elem? l j ≡ some b) ⊎ ((j ≡ length l) × (a ≡ b))
  at_end [] a b zero e = inr (refl, some-injective a b e)
  at_end [] a b (suc j) e = absurd (some-ne-none b (sym e))
  at_end (x ∷ xs) a b zero e = inl e
  at_end (x ∷ xs) a b (suc j) e = ⊎_elim inl (λ t. inr (ap suc t.0, t.1)) (at_end xs a b j e)

  -- members of a list
  pub Contains-nil : (a : A) → Contains {X = A} [] a → ⊥
  Contains-nil a h = let low = h.1 in absurd (omega arith)

  pub Contains-head : (a : A) (xs : List A) → Contains (a ∷ xs) a
  Contains-head a xs = (0, omega arith, refl)

  pub Contains-tail : (x : A) (xs : List A) (a : A) → Contains xs a → Contains (x ∷ xs) a
  Contains-tail x xs a h = Contains-append_right (x ∷ []) xs a h

  pub Contains-cons : (x : A) (xs : List A) (a : A) → Contains (x ∷ xs) a → (x ≡ a) ⊎ Contains xs a
  Contains-cons x xs a (zero, low, e) = inl e
  Contains-cons x xs a (suc i, low, e) = inr (i, omega arith, e)

  pub All-of_each : (P : A → Type 0) (xs : List A) → ((a : A) → Contains xs a → P a) → All P xs
  All-of_each P xs each = All-weaker (Contains xs) P each xs (All-contains_itself xs)

  -- prefixes of one list
  pub starts_self : (xs : List A) → StartsWith xs xs
  starts_self xs = ([], sym (append-nil xs))

  pub starts_more : (log extra seen : List A) → StartsWith log seen → StartsWith (log ++ extra) seen
  starts_more log extra seen s = (s.0 ++ extra, ap (λ l. l ++ extra) s.1 ∙ append_assoc seen s.0 extra)

  pub starts_length : (log seen : List A) → StartsWith log seen → length seen ≤ length log
  starts_length log seen s = omega (arith, ap length s.1, length-append seen s.0)

  pub starts_shorter : (xs ys log : List A) → StartsWith log xs → StartsWith log ys → length xs ≤ length ys → StartsWith ys xs
  starts_shorter [] ys log p q le = (ys, refl)
  starts_shorter (x ∷ xs) [] log p q le = absurd (omega arith)
  starts_shorter (x ∷ xs) (y ∷ ys) [] p q le = absurd (cc (p.1))
  starts_shorter (x ∷ xs) (y ∷ ys) (z ∷ log) p q le =
      let heads : x ≡ y = cc (p.1, q.1) in
      let rest = starts_shorter xs ys log (p.0, cc (p.1)) (q.0, cc (q.1)) (omega arith) in
      (rest.0, cc (heads, rest.1))

  pub longer_starts : (xs ys log : List A) → StartsWith log xs → StartsWith log ys → StartsWith (longer xs ys) xs × StartsWith (longer xs ys) ys
  longer_starts xs ys log p q = ⊎_elim
      (λ (t : (leb (length ys) (length xs) ≡ true) × (length ys ≤ length xs)). subst (λ b. StartsWith (cond b xs ys) xs × StartsWith (cond b xs ys) ys) (sym t.0) (starts_self xs, starts_shorter ys xs log q p t.1))
      (λ (t : (leb (length ys) (length xs) ≡ false) × (length xs < length ys)). subst (λ b. StartsWith (cond b xs ys) xs × StartsWith (cond b xs ys) ys) (sym t.0) (starts_shorter xs ys log p q (omega (arith, t.1)), starts_self ys))
      (leb_tells (length ys) (length xs))

  -- a fact of both lists is one of the longer, and of the other
  pub longer_is : (P : List A → Type 0) (xs ys : List A) → P xs → P ys → P (longer xs ys)
  longer_is P xs ys p q = elim (leb (length ys) (length xs)) as (λ b. P (cond b xs ys)) [ true ↦ p | false ↦ q ]

  pub shorter_is : (P : List A → Type 0) (xs ys : List A) → P xs → P ys → P (shorter xs ys)
  shorter_is P xs ys p q = elim (leb (length ys) (length xs)) as (λ b. P (cond b ys xs)) [ true ↦ q | false ↦ p ]

  pub drop_length : (xs : List A) → drop (length xs) xs ≡ []
  drop_length [] = refl
  drop_length (x ∷ xs) = drop_length xs

  -- what comes after a prefix
  pub drop_seen : (seen more : List A) → drop (length seen) (seen ++ more) ≡ more
  drop_seen [] more = refl
  drop_seen (x ∷ xs) more = drop_seen xs more

module _ {E : Type 0} (by : E → ℕ) where
  pub filter_none : (n : ℕ) (xs : List E) → ((e : E) → Contains xs e → by e ≢ n) → filter (λ e. by e == n) xs ≡ []
  filter_none n [] none' = refl
  filter_none n (x ∷ xs) none' = let F = filter (λ e. by e == n) xs in ap (λ b. cond b (x ∷ F) F) (ne_eqb (by x) n (none' x (Contains-head x xs))) ∙ filter_none n xs (λ e h. none' e (Contains-tail x xs e h))

  pub filter_whole : (n : ℕ) (xs : List E) → ((e : E) → Contains xs e → by e ≡ n) → filter (λ e. by e == n) xs ≡ xs
  filter_whole n [] each = refl
  filter_whole n (x ∷ xs) each = let F = filter (λ e. by e == n) xs in ap (λ b. cond b (x ∷ F) F) (eq-eqb (by x) n (each x (Contains-head x xs))) ∙ ap (λ l. x ∷ l) (filter_whole n xs (λ e h. each e (Contains-tail x xs e h)))

  -- where each item's number is one of which no item is left over, there is no item
  pub filter_all : (xs : List E) → ((e : E) → Contains xs e → filter (λ x. by x == by e) xs ≡ []) → xs ≡ []
  filter_all [] none' = refl
  filter_all (x ∷ xs) none' = let F = filter (λ y. by y == by x) xs in absurd (cc (sym (ap (λ b. cond b (x ∷ F) F) (eq-eqb (by x) (by x) refl)) ∙ none' x (Contains-head x xs)))

  pub own_append : (n start : ℕ) (log extra : List E) → start ≤ length log → own by n start (log ++ extra) ≡ own by n start log ++ filter (λ e. by e == n) extra
  own_append n start log extra low = ap (filter (λ e. by e == n)) (drop-append-le start log extra low) ∙ filter-append (λ e. by e == n) (drop start log) extra

  -- items of others change nothing
  pub own_same : (n start : ℕ) (log extra : List E) → start ≤ length log → ((e : E) → Contains extra e → by e ≢ n) → own by n start (log ++ extra) ≡ own by n start log
  own_same n start log extra low none' = own_append n start log extra low ∙ (ap (λ l. own by n start log ++ l) (filter_none n extra none') ∙ append-nil (own by n start log))

  -- items of this number are added
  pub own_more : (n start : ℕ) (log extra : List E) → start ≤ length log → ((e : E) → Contains extra e → by e ≡ n) → own by n start (log ++ extra) ≡ own by n start log ++ extra
  own_more n start log extra low each = own_append n start log extra low ∙ ap (λ l. own by n start log ++ l) (filter_whole n extra each)

  -- if a prefix and the whole have the same items with a number, so has what lies between
  pub between : (n start : ℕ) (xs ys log m : List E) → StartsWith ys xs → StartsWith log ys → start ≤ length xs → own by n start xs ≡ m → own by n start log ≡ m → own by n start ys ≡ m
  between n start xs ys log m p q low a b =
      let F : List E → List E = filter (λ e. by e == n) in
      let first : own by n start ys ≡ own by n start xs ++ F p.0 = ap (own by n start) p.1 ∙ own_append n start xs p.0 low in
      let second : own by n start log ≡ own by n start ys ++ F q.0 = ap (own by n start) q.1 ∙ own_append n start ys q.0 (omega (arith, starts_length ys xs p)) in
      let none' : F p.0 ≡ [] = nil_from_length (F p.0) (omega (arith, ap length first, ap length second, ap length a, ap length b, length-append (own by n start xs) (F p.0), length-append (own by n start ys) (F q.0))) in
      first ∙ ap (λ l. own by n start xs ++ l) none' ∙ append-nil (own by n start xs) ∙ a

  -- where the whole has no more items with a number, what comes behind has none
  pub behind : (n start : ℕ) (xs rest m : List E) → start ≤ length xs → own by n start xs ≡ m → own by n start (xs ++ rest) ≡ m → filter (λ e. by e == n) rest ≡ []
  behind n start xs rest m low a b =
      let F : List E = filter (λ e. by e == n) rest in
      nil_from_length F (omega (arith, ap length (own_append n start xs rest low), ap length a, ap length b, length-append (own by n start xs) F))
