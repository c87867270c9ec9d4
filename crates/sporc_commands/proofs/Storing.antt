-- Files that are written one after another.
use Rattle.std.proofs.Common.{◌≡◌, ℕ, suc, ◌<◌, List, [], ◌∷◌, ◌++◌, length, map, take, drop, get_or, Option, Some, None, option_map, inr, refl, sym, ap, ◌∙◌, subst}
use Rattle.sporc_commands.proofs.Common.{map-append, take-append-drop, NamedFile, Stores, StoresFirst, StoresPrefix, with_files, with_one}
use Rattle.std.proofs.Math.Seq.{drop-cons, take-suc}

pub none_yet : (before : Option (List NamedFile)) → Stores [] before before
none_yet None = refl
none_yet (Some files) = refl

-- one behind the first of some
behind_first : (f : NamedFile) (fs : List NamedFile) (before between : Option (List NamedFile)) → Stores (f ∷ fs) before between → Stores fs (option_map (λ files. with_one files f) before) between
behind_first f fs None between stored = stored
behind_first f fs (Some files) between stored = stored

before_all : (before between : Option (List NamedFile)) → Stores [] before between → between ≡ before
before_all None between stored = stored
before_all (Some files) between stored = stored

-- some, and then a prefix of others
pub stored_then : (new more : List NamedFile) (before between after : Option (List NamedFile)) → Stores new before between → StoresPrefix more between after
    → StoresPrefix (new ++ more) before after
stored_then [] more before between after stored then = subst (λ (o : Option (List NamedFile)). StoresPrefix more o after) (before_all before between stored) then
stored_then (f ∷ fs) more before between after stored then =
    inr (stored_then fs more (option_map (λ files. with_one files f) before) between after (behind_first f fs before between stored) then)

-- some, and then the first of others
pub first_then : (new more : List NamedFile) (before between after : Option (List NamedFile)) → Stores new before between → StoresFirst more between after
    → StoresFirst (new ++ more) before after
first_then [] more before between after stored then = subst (λ (o : Option (List NamedFile)). StoresFirst more o after) (before_all before between stored) then
first_then (f ∷ fs) more before between after stored then =
    inr (first_then fs more (option_map (λ files. with_one files f) before) between after (behind_first f fs before between stored) then)

-- some, and then others
with_all : (new more files : List NamedFile) → with_files files (new ++ more) ≡ with_files (with_files files new) more
with_all [] more files = refl
with_all (f ∷ fs) more files = with_all fs more (with_one files f)

pub stored_all : (new more : List NamedFile) (before between after : Option (List NamedFile)) → Stores new before between → Stores more between after → Stores (new ++ more) before after
stored_all new more None between after stored then = then ∙ ap (λ (o : Option (List NamedFile)). option_map (λ files. with_files files more) o) stored
stored_all new more (Some files) between after stored then =
    then ∙ ap (λ (o : Option (List NamedFile)). option_map (λ fs. with_files fs more) o) stored ∙ sym (ap (λ (fs : List NamedFile). Some fs) (with_all new more files))

-- the first of some, and one more
pub map_more : {X : Type 0} (f : X → NamedFile) (xs : List X) (i : ℕ) (d : X) → i < length xs → map f (take (suc i) xs) ≡ map f (take i xs) ++ (f (get_or xs i d) ∷ [])
map_more f xs i d within = ap (map f) (take-suc xs i d within) ∙ map-append f (take i xs) (get_or xs i d ∷ [])

pub map_around : {X : Type 0} (f : X → NamedFile) (xs : List X) (i : ℕ) (d : X) → i < length xs
    → map f (take i xs) ++ (f (get_or xs i d) ∷ map f (drop (suc i) xs)) ≡ map f xs
map_around f xs i d within =
    sym (map-append f (take i xs) (get_or xs i d ∷ drop (suc i) xs)) ∙ ap (map f) (ap (λ ys. take i xs ++ ys) (sym (drop-cons xs i d within)) ∙ take-append-drop i xs)
