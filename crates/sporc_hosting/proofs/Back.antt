-- Tails that are given back, the last one first.
use Rattle.std.proofs.Common.{◌≡◌, ℕ, suc, List, [], ◌∷◌, ◌++◌, length, take, refl, sym, ap, ◌∙◌, subst, append_assoc, arith}
use Rattle.sporc_hosting.proofs.Common.{append_cancel_left, length-append, take_at, OrderModel, kept_length, AreKept}

-- ---- the last item of a list

same_front : {A : Type 0} (xs ys : List A) (x y : A) → xs ++ x ∷ [] ≡ ys ++ y ∷ [] → xs ≡ ys
same_front {A} xs ys x y same =
    let lengths : length (xs ++ x ∷ []) ≡ length (ys ++ y ∷ []) = ap (λ (l : List A). length l) same in
    let as_long : length xs ≡ length ys = omega (arith, lengths, length-append xs (x ∷ []), length-append ys (y ∷ [])) in
    sym (take_at xs (x ∷ []) (length xs) refl) ∙ ap (take (length xs)) same ∙ take_at ys (y ∷ []) (length xs) (sym as_long)

same_last : {A : Type 0} (xs ys : List A) (x y : A) → xs ++ x ∷ [] ≡ ys ++ y ∷ [] → x ≡ y
same_last {A} xs ys x y same =
    let one : x ∷ [] ≡ y ∷ [] = append_cancel_left ys (x ∷ []) (y ∷ []) (ap (λ (l : List A). l ++ x ∷ []) (sym (same_front xs ys x y same)) ∙ same) in
    cc

-- ---- the tails that are left

module _ {T : Type 0} (keeps : T → List (List ℕ) → Type 0) where
  -- the last of these tails keep the entries of these orders
  abbrev pub KeepLast : List T → List OrderModel → Type 0
  KeepLast tails orders = (front : List T) × (mine : List T) × (tails ≡ front ++ mine) × AreKept keeps mine orders

  module _ (tails : List T) (orders : List OrderModel) (order : OrderModel) (more : List OrderModel) (is : orders ≡ order ∷ more) where
    pub others_keep : KeepLast tails orders → KeepLast tails more
    others_keep (front, mine, parts, kept) = by mine parts (subst (λ (os : List OrderModel). AreKept keeps mine os) is kept)
      where
        by : (mine : List T) → tails ≡ front ++ mine → AreKept keeps mine (order ∷ more) → KeepLast tails more
        by [] parts kept = absurd kept
        by (t ∷ ts) parts kept = (front ++ t ∷ [], ts, parts ∙ sym (append_assoc front (t ∷ []) ts), kept.1)

    module _ (mid new : List T) (rest : (front mine : List T) → tails ≡ front ++ mine → length mine ≡ length more → mid ≡ front) where
      -- what is in front of the last one of those that are left
      pub front_left : (tail : T) → mid ≡ new ++ tail ∷ [] → (front mine : List T) → tails ≡ front ++ mine → length mine ≡ length orders → new ≡ front
      front_left tail popped front mine parts size = by mine parts (size ∙ ap (λ (os : List OrderModel). length os) is)
        where
          by : (mine : List T) → tails ≡ front ++ mine → length mine ≡ suc (length more) → new ≡ front
          by [] parts size = absurd cc
          by (t ∷ ts) parts size =
              same_front new front tail t (sym popped ∙ rest (front ++ t ∷ []) ts (parts ∙ sym (append_assoc front (t ∷ []) ts)) (omega (arith, size)))

      -- the last one keeps the entries of the first order
      pub last_keeps : (tail : T) → mid ≡ new ++ tail ∷ [] → KeepLast tails orders → ∥ keeps tail order.entries ∥₁
      last_keeps tail popped (front, mine, parts, kept) = by mine parts (subst (λ (os : List OrderModel). AreKept keeps mine os) is kept)
        where
          by : (mine : List T) → tails ≡ front ++ mine → AreKept keeps mine (order ∷ more) → ∥ keeps tail order.entries ∥₁
          by [] parts kept = absurd kept
          by (t ∷ ts) parts kept =
              let same : tail ≡ t =
              same_last new front tail t (sym popped ∙ rest (front ++ t ∷ []) ts (parts ∙ sym (append_assoc front (t ∷ []) ts)) (kept_length keeps ts more kept.1)) in
              subst (λ (u : T). ∥ keeps u order.entries ∥₁) (sym same) kept.0

      -- there is one
      pub one_left : length mid ≡ 0 → KeepLast tails orders → ⊥
      one_left none (front, mine, parts, kept) = by mine parts (subst (λ (os : List OrderModel). AreKept keeps mine os) is kept)
        where
          by : (mine : List T) → tails ≡ front ++ mine → AreKept keeps mine (order ∷ more) → ⊥
          by [] parts kept = kept
          by (t ∷ ts) parts kept =
              let mid_is : mid ≡ front ++ t ∷ [] = rest (front ++ t ∷ []) ts (parts ∙ sym (append_assoc front (t ∷ []) ts)) (kept_length keeps ts more kept.1) in
              let size : length mid ≡ length (front ++ t ∷ []) = ap (λ (l : List T). length l) mid_is in
              omega (arith, none, size, length-append front (t ∷ []))
