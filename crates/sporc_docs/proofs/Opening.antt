-- Locks, and lists with one item more or less at their ends.
use Rattle.std.proofs.Common.{◌≡◌, ◌∙◌, ℕ, List, [], ◌∷◌, ◌++◌, length, reverse, replicate, suc, Option, Some, None, refl, ap, sym, subst, subst₂, append_assoc, arith}
use Rattle.sporc_docs.proofs.Common.{reverse-append, map-append, Pass, Turn, Known, first_known, known_of, IsPassOf, OrderModel, Ghosts, Desk, Item, log_at_first, Hand, AllZip, AllHands, IsEmpty}
use Rattle.sporc_docs.proofs.Common.{HasFirst, KnowsFirst, AreOpen, AreBack, IsBack, AreKept, Locks}
use Rattle.std.specs.Prelude.{IsSome}

module _ {A B : Type 0} (R : A → B → Type 0) where
  pub both_more : (xs : List A) (ys : List B) (x : A) (y : B) → AllZip R xs ys → R x y → AllZip R (xs ++ x ∷ []) (ys ++ y ∷ [])
  both_more [] [] x y h one = (one, tt)
  both_more (x' ∷ xs) (y' ∷ ys) x y h one = (h.0, both_more xs ys x y h.1 one)
  both_more xs ys x y h one = absurd h

  no_end : (ys : List B) (y : B) → AllZip R [] (ys ++ y ∷ []) → ⊥
  no_end [] y h = h
  no_end (y' ∷ ys) y h = h

  no_end' : (xs : List A) (x : A) → AllZip R (xs ++ x ∷ []) [] → ⊥
  no_end' [] x h = h
  no_end' (x' ∷ xs) x h = h

  pub both_less : (xs : List A) (ys : List B) (x : A) (y : B) → AllZip R (xs ++ x ∷ []) (ys ++ y ∷ []) → AllZip R xs ys × R x y
  both_less [] [] x y h = (tt, h.0)
  both_less [] (y' ∷ ys) x y h = absurd (no_end ys y h.1)
  both_less (x' ∷ xs) [] x y h = absurd (no_end' xs x h.1)
  both_less (x' ∷ xs) (y' ∷ ys) x y h = let less = both_less xs ys x y h.1 in ((h.0, less.0), less.1)

  -- the last items of both
  pub last_both : (xs less : List A) (ys less' : List B) (x : A) (y : B) → AllZip R xs ys → xs ≡ less ++ x ∷ [] → ys ≡ less' ++ y ∷ [] → AllZip R less less' × R x y
  last_both xs less ys less' x y h xs_is ys_is = both_less less less' x y (subst₂ (λ (l : List A) (l' : List B). AllZip R l l') xs_is ys_is h)

  pub both_append : (xs xs' : List A) (ys ys' : List B) → AllZip R xs ys → AllZip R xs' ys' → AllZip R (xs ++ xs') (ys ++ ys')
  both_append [] xs' [] ys' h more = more
  both_append (x ∷ xs) xs' (y ∷ ys) ys' h more = (h.0, both_append xs xs' ys ys' h.1 more)
  both_append xs xs' ys ys' h more = absurd h

  pub both_reverse : (xs : List A) (ys : List B) → AllZip R xs ys → AllZip R (reverse xs) (reverse ys)
  both_reverse [] [] h = tt
  both_reverse (x ∷ xs) (y ∷ ys) h =
      subst (λ (l : List A). AllZip R l (reverse (y ∷ ys))) (sym (reverse-append (x ∷ []) xs))
      (subst (λ (l : List B). AllZip R (reverse xs ++ x ∷ []) l) (sym (reverse-append (y ∷ []) ys)) (both_more (reverse xs) (reverse ys) x y (both_reverse xs ys h.1) h.0))
  both_reverse xs ys h = absurd h

  pub both_length : (xs : List A) (ys : List B) → AllZip R xs ys → length xs ≡ length ys
  both_length [] [] h = refl
  both_length (x ∷ xs) (y ∷ ys) h = ap suc (both_length xs ys h.1)
  both_length xs ys h = absurd h

-- one item more in front of those that are reversed
pub reversed_more : {A : Type 0} (all left less : List A) (x : A) (xs : List A) → all ≡ left ++ reverse xs → left ≡ less ++ x ∷ [] → all ≡ less ++ reverse (xs ++ x ∷ [])
reversed_more {A} all left less x xs is last =
    is ∙ ap (λ (l : List A). l ++ reverse xs) last ∙ append_assoc less (x ∷ []) (reverse xs) ∙ ap (λ (l : List A). less ++ l) (sym (reverse-append xs (x ∷ [])))

-- one item more behind them
pub reversed_behind : {A : Type 0} (all before after : List A) (x : A) (xs : List A) → before ≡ all ++ reverse xs → after ≡ before ++ x ∷ [] → after ≡ all ++ reverse (x ∷ xs)
reversed_behind {A} all before after x xs is last =
    last ∙ ap (λ (l : List A). l ++ x ∷ []) is ∙ append_assoc all (reverse xs) (x ∷ []) ∙ ap (λ (l : List A). all ++ l) (sym (reverse-append (x ∷ []) xs))

-- one item more at the front
pub shifted : {A : Type 0} (all left less : List A) (x : A) (xs : List A) → all ≡ left ++ xs → left ≡ less ++ x ∷ [] → all ≡ less ++ (x ∷ xs)
shifted {A} all left less x xs is last = is ∙ ap (λ (l : List A). l ++ xs) last ∙ append_assoc less (x ∷ []) xs

-- an order and its tail more, and less
pub kept_more : {T : Type 0} (keeps : T → List (List ℕ) → Type 0) (ts ts' : List T) (os os' : List OrderModel) (t : T) (o : OrderModel) → AreKept keeps ts os
    → ∥ keeps t o.entries ∥₁ → ts' ≡ ts ++ t ∷ [] → os' ≡ os ++ o ∷ [] → AreKept keeps ts' os'
kept_more {T} keeps ts ts' os os' t o kept one ts_is os_is =
    subst₂ (λ (l : List T) (l' : List OrderModel). AreKept keeps l l') (sym ts_is) (sym os_is)
    (both_more (λ (t : T) (o : OrderModel). ∥ keeps t o.entries ∥₁) ts os t o kept one)

pub last_kept : {T : Type 0} (keeps : T → List (List ℕ) → Type 0) (ts less : List T) (os less' : List OrderModel) (t : T) (o : OrderModel) → AreKept keeps ts os
    → ts ≡ less ++ t ∷ [] → os ≡ less' ++ o ∷ [] → AreKept keeps less less' × ∥ keeps t o.entries ∥₁
last_kept {T} keeps ts less os less' t o kept ts_is os_is =
    last_both (λ (t : T) (o : OrderModel). ∥ keeps t o.entries ∥₁) ts less os less' t o kept ts_is os_is

pub kept_length : {T : Type 0} (keeps : T → List (List ℕ) → Type 0) (ts : List T) (os : List OrderModel) → AreKept keeps ts os → length ts ≡ length os
kept_length {T} keeps ts os kept = both_length (λ (t : T) (o : OrderModel). ∥ keeps t o.entries ∥₁) ts os kept

-- what keeps nothing, as many times as there are orders
pub none_kept : {T : Type 0} (ts : List T) (os : List OrderModel) → length ts ≡ length os → AreKept (λ t es. Unit {0}) ts os
none_kept [] [] size = tt
none_kept (t ∷ ts) (o ∷ os) size = (∣ tt ∣₁, none_kept ts os (omega (arith, size)))
none_kept ts os size = absurd (omega (arith, size))

-- a lock more
pub open_more : {T : Type 0} {gs : Ghosts T} (os : List OrderModel) (o : OrderModel) (locks locks' : Locks T gs) (t : Turn (Desk T gs) Item) (d : List ℕ) (p : Pass Item) → AreOpen os locks
    → locks'.turns.items ≡ locks.turns.items ++ t ∷ [] → locks'.documents.items ≡ locks.documents.items ++ d ∷ []
    → locks'.firsts.items ≡ locks.firsts.items ++ Some p ∷ [] → IsPassOf t p → d ≡ o.genesis.document → known_of p ≡ first_known (log_at_first o)
    → AreOpen (os ++ o ∷ []) locks'
open_more {T} {gs} os o locks locks' t d p are turns documents firsts pass document known =
    let more : AllZip HasFirst (locks.turns.items ++ t ∷ []) (locks.firsts.items ++ Some p ∷ []) =
    both_more HasFirst locks.turns.items locks.firsts.items t (Some p) are.firsts (pass, ap (λ (k : Known Item). k.number) known) in
    record {
      firsts = subst (λ (l : List (Turn (Desk T gs) Item)). AllZip HasFirst l locks'.firsts.items) (sym turns)
          (subst (λ (l : List (Option (Pass Item))). AllZip HasFirst (locks.turns.items ++ t ∷ []) l) (sym firsts) more);
      documents_are = documents ∙ (λ i. are.documents_are i ++ document i ∷ []) ∙ sym (map-append (λ (x : OrderModel). x.genesis.document) os (o ∷ []));
      known = subst (λ (l : List (Option (Pass Item))). AllZip KnowsFirst (os ++ o ∷ []) l) (sym firsts)
          (both_more KnowsFirst os locks.firsts.items o (Some p) are.known known);
    }

-- a lock less
pub back_less : (ps : List (Option (Pass Item))) (p : Option (Pass Item)) → AreBack (ps ++ p ∷ []) → AreBack ps × IsBack p
back_less [] p h = (tt, h.0)
back_less (q ∷ qs) p h = let less = back_less qs p h.1 in ((h.0, less.0), less.1)

-- hands without a pass
empty_each : {T : Type 0} {gs : Ghosts T} (ts : List (Turn (Desk T gs) Item)) (ps : List (Option (Pass Item))) → ps ≡ replicate (length ts) None → AllZip IsEmpty ts ps
empty_each [] [] is = tt
empty_each (t ∷ ts) (p ∷ ps) is =
    let same : (p ∷ ps) ≡ None ∷ replicate (length ts) None = is in (cc, empty_each ts ps (cc))
empty_each ts ps is = absurd cc

pub empty_all : {T : Type 0} {gs : Ghosts T} (ts : List (Turn (Desk T gs) Item)) (n : ℕ) (hs : List Hand) → length ts ≡ n → AllHands (λ ps. ps ≡ replicate n None) hs → AllHands (AllZip IsEmpty ts) hs
empty_all ts n [] size h = tt
empty_all ts n (x ∷ hs) size h =
    (empty_each ts x.passes.items (h.0 ∙ ap (λ (m : ℕ). replicate m None) (sym size)), empty_all ts n hs size h.1)

pub last_back : (ps less : List (Option (Pass Item))) (p : Option (Pass Item)) → AreBack ps → ps ≡ less ++ p ∷ [] → AreBack less × IsBack p
last_back ps less p h is = back_less less p (subst AreBack is h)

pub has_some : {T : Type 0} {gs : Ghosts T} (t : Turn (Desk T gs) Item) (q : Option (Pass Item)) → HasFirst t q → IsSome q
has_some t None h = absurd h
has_some t (Some p) h = refl
