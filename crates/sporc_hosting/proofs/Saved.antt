-- Logs that are saved one after another.
use Rattle.std.proofs.Common.{◌≡◌, ℕ, List, [], ◌∷◌, length, Option, sym, subst, suc, ap, arith}
use Rattle.sporc_hosting.proofs.Common.{file_name, names_of_document, AsksOnly, asks_then, logs_of}
pub use Rattle.sporc_docs.proofs.Opening.{both_length as as_many}
use Rattle.sporc_files.specs.declared.file.File.TheVariants as files

-- of two lists as long as each other, what is left of both behind their first items
pub as_many_left : {A B : Type 0} (xs xs' : List A) (ys ys' : List B) (x : A) (y : B) → xs ≡ x ∷ xs' → ys ≡ y ∷ ys' → length xs ≡ length ys → length xs' ≡ length ys'
as_many_left {A} {B} xs xs' ys ys' x y xs_are ys_are same =
    let left : length xs ≡ suc (length xs') = ap (λ (l : List A). length l) xs_are in
    let right : length ys ≡ suc (length ys') = ap (λ (l : List B). length l) ys_are in
    omega (arith, left, right, same)

-- the names asked for
pub logs_asked : (names : List (List ℕ)) (name : List ℕ) (more : List (List ℕ)) (a b c : Option (List (List ℕ))) → names ≡ name ∷ more
    → AsksOnly (file_name (names_of_document name) files.Log ∷ []) a b → AsksOnly (logs_of more) b c → AsksOnly (logs_of names) a c
logs_asked names name more a b c is first then =
    subst (λ (ns : List (List ℕ)). AsksOnly (logs_of ns) a c) (sym is) (asks_then (file_name (names_of_document name) files.Log ∷ []) (logs_of more) a b c first then)
