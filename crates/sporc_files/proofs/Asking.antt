-- Names and addresses asked for, one call after another.
use Rattle.std.proofs.Common.{◌≤◌, inl, inr, ℕ, ◌+◌, List, [], ◌∷◌, ◌++◌, map, Option, Some, None, refl, subst, sym, ap, ◌∙◌, append-nil, append_assoc, arith}
use Rattle.sporc_files.proofs.Common.{Contains, File, FileNames, FolderTold, Use, file_name}
use Rattle.std.proofs.lemmas.List.{map-append, replicate-append-replicate}
use Rattle.std.specs.Prelude.{replicate}
use Rattle.std.proofs.lemmas.List.Elements.{All-append, All-nil, All-weaker, Contains-append_left, Contains-append_right}
use Rattle.sporc_outside.specs.Told.{MayAppend}
use Rattle.sporc_files.specs.Uses.{AsksAtMost, AsksOnly, OnlyReads}

-- ---- names

pub AsksOnly-none : (names : List (List ℕ)) (a : Option (List (List ℕ))) → AsksOnly names a a
AsksOnly-none names None = tt
AsksOnly-none names (Some asked) = ([], sym (append-nil asked), All-nil (λ name. Contains names name))

pub AsksOnly-trans : (names : List (List ℕ)) (a b c : Option (List (List ℕ))) → AsksOnly names a b → AsksOnly names b c → AsksOnly names a c
AsksOnly-trans names None b c first then = tt
AsksOnly-trans names (Some x) None c first then = absurd first
AsksOnly-trans names (Some x) (Some y) None first then = absurd then
AsksOnly-trans names (Some x) (Some y) (Some z) (new, is, all) (more, then, rest) =
    (new ++ more, then ∙ ap (λ l. l ++ more) is ∙ append_assoc x new more, All-append (λ name. Contains names name) new more all rest)

pub AsksOnly-among : (names more : List (List ℕ)) (a b : Option (List (List ℕ))) → ((name : List ℕ) → Contains names name → Contains more name) → AsksOnly names a b → AsksOnly more a b
AsksOnly-among names more None b among asked = tt
AsksOnly-among names more (Some x) None among asked = asked
AsksOnly-among names more (Some x) (Some y) among (new, is, all) = (new, is, All-weaker (λ name. Contains names name) (λ name. Contains more name) among new all)

-- some of the first names are some of all
pub asks_first : (first rest : List (List ℕ)) (a b : Option (List (List ℕ))) → AsksOnly first a b → AsksOnly (first ++ rest) a b
asks_first first rest a b asked = AsksOnly-among first (first ++ rest) a b (λ name. Contains-append_left first rest name) asked

-- all of them, and then some of the others again
pub asks_again : (first rest : List (List ℕ)) (a b c : Option (List (List ℕ))) → AsksOnly (first ++ rest) a b → AsksOnly rest b c → AsksOnly (first ++ rest) a c
asks_again first rest a b c all then =
    AsksOnly-trans (first ++ rest) a b c all (AsksOnly-among rest (first ++ rest) b c (λ name. Contains-append_right first rest name) then)

-- some of the first names, and then some of the others
pub asks_then : (first rest : List (List ℕ)) (a b c : Option (List (List ℕ))) → AsksOnly first a b → AsksOnly rest b c → AsksOnly (first ++ rest) a c
asks_then first rest a b c one then = asks_again first rest a b c (asks_first first rest a b one) then

-- ---- files that are only read

pub reads_nothing : (names : FileNames) (read : List File) (folder : FolderTold) → OnlyReads names read (record { before = folder; after = folder })
reads_nothing names read folder = record { files = refl; lent = refl; may_ask = AsksOnly-none (map (file_name names) read) folder.asked; kept = omega arith }

module _ (names : FileNames) where
  -- the names of these files are among those of others
  abbrev pub Among : List File → List File → Type 0
  Among few all = (name : List ℕ) → Contains (map (file_name names) few) name → Contains (map (file_name names) all) name

  pub reads_among : (few all : List File) (folder : Use FolderTold) → Among few all → OnlyReads names few folder → OnlyReads names all folder
  reads_among few all folder among reads = record {
    files = reads.files;
    lent = reads.lent;
    may_ask = AsksOnly-among (map (file_name names) few) (map (file_name names) all) folder.before.asked folder.after.asked among reads.may_ask;
    kept = reads.kept;
  }

  -- all of them, and then some again
  pub reads_again : (few all : List File) (first mid last : FolderTold) → Among few all → OnlyReads names all (record { before = first; after = mid })
      → OnlyReads names few (record { before = mid; after = last }) → OnlyReads names all (record { before = first; after = last })
  reads_again few all first mid last among reads then = record {
    files = then.files ∙ reads.files;
    lent = then.lent ∙ reads.lent;
    may_ask = AsksOnly-trans (map (file_name names) all) first.asked mid.asked last.asked reads.may_ask
        (AsksOnly-among (map (file_name names) few) (map (file_name names) all) mid.asked last.asked among then.may_ask);
    kept = omega (arith, reads.kept, then.kept);
  }

  -- some of the first files are some of all
  pub reads_first : (few rest : List File) (folder : Use FolderTold) → OnlyReads names few folder → OnlyReads names (few ++ rest) folder
  reads_first few rest folder reads = reads_among few (few ++ rest) folder
      (λ name is. subst (λ (all : List (List ℕ)). Contains all name) (sym (map-append (file_name names) few rest))
      (Contains-append_left (map (file_name names) few) (map (file_name names) rest) name is)) reads

  -- some of the first files, and then some of the others
  pub reads_then : (few rest : List File) (first mid last : FolderTold) → OnlyReads names few (record { before = first; after = mid })
      → OnlyReads names rest (record { before = mid; after = last }) → OnlyReads names (few ++ rest) (record { before = first; after = last })
  reads_then few rest first mid last reads then = reads_again rest (few ++ rest) first mid last
      (λ name is. subst (λ (all : List (List ℕ)). Contains all name) (sym (map-append (file_name names) few rest))
      (Contains-append_right (map (file_name names) few) (map (file_name names) rest) name is))
      (reads_first few rest (record { before = first; after = mid }) reads) then

-- ---- an address, again and again

pub asks_never : (most : ℕ) (a : Option (List (List ℕ))) (address : List ℕ) → AsksAtMost most a a address
asks_never most None address = tt
asks_never most (Some asked) address = (0, omega arith, sym (append-nil asked))

pub asks_once : (a b : Option (List (List ℕ))) (address : List ℕ) → MayAppend a b address → AsksAtMost 1 a b address
asks_once None b address may = tt
asks_once (Some x) None address never = never
asks_once (Some x) (Some y) address (inl once) = (1, omega arith, once)
asks_once (Some x) (Some y) address (inr same) = (0, omega arith, same ∙ sym (append-nil x))

-- at most more often
pub asks_less : (few most : ℕ) (a b : Option (List (List ℕ))) (address : List ℕ) → few ≤ most → AsksAtMost few a b address → AsksAtMost most a b address
asks_less few most None b address more asks = tt
asks_less few most (Some x) None address more never = never
asks_less few most (Some x) (Some y) address more (times, within, is) = (times, omega (arith, within, more), is)

-- and once more
pub asks_more : (most : ℕ) (a b c : Option (List (List ℕ))) (address : List ℕ) → AsksAtMost most a b address → MayAppend b c address → AsksAtMost (most + 1) a c address
asks_more most None b c address first may = tt
asks_more most (Some x) None c address never may = absurd never
asks_more most (Some x) (Some y) None address first never = never
asks_more most (Some x) (Some y) (Some z) address (times, within, is) (inl once) = (
  times + 1,
  omega (arith, within),
  once ∙ ap (λ (l : List (List ℕ)). l ++ address ∷ []) is ∙ append_assoc x (replicate times address) (address ∷ [])
      ∙ ap (λ (l : List (List ℕ)). x ++ l) (replicate-append-replicate times 1 address),
)
asks_more most (Some x) (Some y) (Some z) address (times, within, is) (inr same) = (times, omega (arith, within), same ∙ is)
