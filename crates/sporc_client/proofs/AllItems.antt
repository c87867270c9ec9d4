-- What holds of each item of a list holds of each one of a list that is made of it.
use Rattle.std.proofs.Common.{map, take, drop, Option, None, Some, IfSome, ℕ, zero, suc, Bool, true, false, cond, List, [], ◌∷◌}
use Rattle.sporc_client.proofs.Common.{filter, nat_lt, AllByRecursion, cons_option, filter_map, insert}
use Rattle.sporc_member.specs.Lists.{insert_by}

pub all_added : {X : Type 0} (P : X → Type 0) (number : X → ℕ) (x : X) (xs : List X) → P x → AllByRecursion P xs → AllByRecursion P (insert_by number x xs)
all_added P number x [] here all = (here, tt)
all_added P number x (y ∷ xs) here all = go (nat_lt (number x) (number y)) (all_added P number x xs here all.1)
  where
    go : (before : Bool) → AllByRecursion P (insert_by number x xs) → AllByRecursion P (cond before (x ∷ y ∷ xs) (y ∷ insert_by number x xs))
    go true rest = (here, all)
    go false rest = (all.0, rest)

pub all_inserted : {X : Type 0} (P : X → Type 0) (x : X) (xs : List X) (i : ℕ) → P x → AllByRecursion P xs → AllByRecursion P (insert xs i x)
all_inserted P x xs zero here all = (here, all)
all_inserted P x [] (suc i) here all = (here, tt)
all_inserted P x (y ∷ xs) (suc i) here all = (all.0, all_inserted P x xs i here all.1)

pub all_filter : {X : Type 0} (P : X → Type 0) (p : X → Bool) (xs : List X) → AllByRecursion P xs → AllByRecursion P (filter p xs)
all_filter P p [] all = tt
all_filter P p (x ∷ xs) all = go (p x) (all_filter P p xs all.1)
  where
    go : (keep : Bool) → AllByRecursion P (filter p xs) → AllByRecursion P (cond keep (x ∷ filter p xs) (filter p xs))
    go true rest = (all.0, rest)
    go false rest = rest

pub all_take : {X : Type 0} (P : X → Type 0) (n : ℕ) (xs : List X) → AllByRecursion P xs → AllByRecursion P (take n xs)
all_take P (suc n) (x ∷ xs) all = (all.0, all_take P n xs all.1)
all_take P n xs all = tt

pub all_rest : {X : Type 0} (P : X → Type 0) (xs : List X) → AllByRecursion P xs → AllByRecursion P (drop 1 xs)
all_rest P [] all = tt
all_rest P (x ∷ xs) all = all.1

pub all_map : {X Y : Type 0} (P : X → Type 0) (Q : Y → Type 0) (f : X → Y) → ((x : X) → P x → Q (f x)) → (xs : List X) → AllByRecursion P xs → AllByRecursion Q (map f xs)
all_map P Q f each [] all = tt
all_map P Q f each (x ∷ xs) all = (each x all.0, all_map P Q f each xs all.1)

pub all_filter_map : {X Y : Type 0} (P : X → Type 0) (Q : Y → Type 0) (f : X → Option Y) → ((x : X) → P x → IfSome (f x) Q) → (xs : List X) → AllByRecursion P xs → AllByRecursion Q (filter_map f xs)
all_filter_map P Q f each [] all = tt
all_filter_map {X} {Y} P Q f each (x ∷ xs) all = go (f x) (each x all.0) (all_filter_map P Q f each xs all.1)
  where
    go : (o : Option Y) → IfSome o Q → AllByRecursion Q (filter_map f xs) → AllByRecursion Q (cons_option o (filter_map f xs))
    go None here rest = rest
    go (Some y) here rest = (here, rest)
