-- Documents that are gone through one after another: how many are left, and which names were asked for.
use Rattle.std.proofs.Common.{◌≡◌, ℕ, suc, ◌+◌, ◌≤◌, ◌<◌, List, [], ◌∷◌, ◌++◌, length, Option, Result, Ok, Err, sym, ap, subst, ◌∙◌, arith}
use Rattle.sporc_hosting.proofs.Common.{OnOk, length-append, FileNames, file_name, names_of_document, Fault, AsksOnly, AsksOnly-none, asks_first, asks_then, files_of_all, files_of_one}
use Rattle.sporc_files.specs.declared.file.File.TheVariants as files

-- what is left behind the first of these
module _ {A : Type 0} (all : List A) (first : A) (others : List A) (is : all ≡ first ∷ others) where
  longer : length all ≡ suc (length others)
  longer = ap (λ (l : List A). length l) is

  pub room_first : (held most : ℕ) → held + length all ≤ most → held < most
  room_first held most room = let size = longer in omega (arith, size, room)

  pub room_left : (held more most : ℕ) → more ≡ held + 1 → held + length all ≤ most → more + length others ≤ most
  room_left held more most one room = let size = longer in omega (arith, size, one, room)

  pub numbers_left : (number most : ℕ) → number + length all < most → number + 1 + length others < most
  numbers_left number most low = let size = longer in omega (arith, size, low)

module _ (names : List (List ℕ)) where
  -- the first name
  module _ (name : List ℕ) (others : List (List ℕ)) (is : names ≡ name ∷ others) where
    pub first_asked : (a b : Option (List (List ℕ))) → AsksOnly (files_of_one name) a b → AsksOnly (files_of_all names) a b
    first_asked a b asked =
        subst (λ (ns : List (List ℕ)). AsksOnly (files_of_all ns) a b) (sym is) (asks_first (files_of_one name) (files_of_all others) a b asked)

    pub others_asked : (a b c : Option (List (List ℕ))) → AsksOnly (files_of_one name) a b → AsksOnly (files_of_all others) b c → AsksOnly (files_of_all names) a c
    others_asked a b c first then =
        subst (λ (ns : List (List ℕ)). AsksOnly (files_of_all ns) a c) (sym is) (asks_then (files_of_one name) (files_of_all others) a b c first then)

  -- no name
  pub none_asked : (a : Option (List (List ℕ))) → AsksOnly (files_of_all names) a a
  none_asked a = AsksOnly-none (files_of_all names) a

-- one document was added
pub one_added : {A : Type 0} (r : Result (Unit {0}) Fault) (old mid new : List A) (x : A) → mid ≡ old → OnOk r (new ≡ mid ++ x ∷ []) → OnOk r (length new ≡ length old + 1)
one_added {A} (Ok done) old mid new x same is =
    ap (λ (l : List A). length l) is ∙ length-append mid (x ∷ []) ∙ ap (λ (l : List A). length l + 1) same
one_added (Err fault) old mid new x same is = tt

-- the files of a document, by its own names
pub own_asked : (name : List ℕ) (names : FileNames) (a b c : Option (List (List ℕ))) → names ≡ names_of_document name → c ≡ b
    → AsksOnly (file_name names files.Genesis ∷ file_name names files.Tail ∷ file_name names files.Log ∷ []) a b → AsksOnly (files_of_one name) a c
own_asked name names a b c same is asked =
    subst (λ (o : Option (List (List ℕ))). AsksOnly (files_of_one name) a o) (sym is)
    (subst (λ (n : FileNames). AsksOnly (file_name n files.Genesis ∷ file_name n files.Tail ∷ file_name n files.Log ∷ []) a b) same asked)
