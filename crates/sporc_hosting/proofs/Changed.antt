-- Which files changed: the tails of documents.
use Rattle.std.proofs.Common.{◌≡◌, ℕ, ◌+◌, List, [], ◌∷◌, ◌++◌, length, Option, Some, None, Result, Ok, Err, refl, sym, ap, ◌∙◌, subst}
use Rattle.sporc_hosting.proofs.Common.{OnErr, OnOk, option_map, NamedFile, OrderModel, AllZip, Fault, FileNames, file_name, names_of_document, KeepsTail, TakesTail}
use Rattle.sporc_hosting.proofs.Opened.{changes_back, made_other, put_other}
use Rattle.sporc_hosting.proofs.Common.{GivesAllBack, ChangesTails, IsNoTail, OpenLogModel, with_tail_made, with_tails_made, ChangesFile, TakesFile, made_in, Use}
use Rattle.sporc_outside.specs.Folders.{FolderTold}
use Rattle.sporc_files.specs.declared.fault.Fault.TheVariants as faults
use Rattle.sporc_files.specs.declared.file.File.TheVariants as files

-- ---- several tails

pub tails_same : (names : List (List ℕ)) (a b : Option (List NamedFile)) → b ≡ a → ChangesTails names a b
tails_same names None b same = tt
tails_same names (Some fs) b same = subst (λ (t : Option (List NamedFile)). ChangesTails names (Some fs) t) (sym same) (λ other apart. refl)

pub tails_then : (names : List (List ℕ)) (a b c : Option (List NamedFile)) → ChangesTails names a b → ChangesTails names b c → ChangesTails names a c
tails_then names None b c first then = tt
tails_then names (Some x) None c first then = absurd first
tails_then names (Some x) (Some y) None first then = absurd then
tails_then names (Some x) (Some y) (Some z) first then = λ other apart. then other apart ∙ first other apart

pub tails_among : (names more : List (List ℕ)) (a b : Option (List NamedFile)) → ((other : List ℕ) → IsNoTail more other → IsNoTail names other) → ChangesTails names a b
    → ChangesTails more a b
tails_among names more None b among changes = tt
tails_among names more (Some x) None among changes = absurd changes
tails_among names more (Some x) (Some y) among changes = λ other apart. changes other (among other apart)

no_front : (front rest : List (List ℕ)) (other : List ℕ) → IsNoTail (front ++ rest) other → IsNoTail front other
no_front [] rest other apart = tt
no_front (n ∷ ns) rest other apart = (apart.0, no_front ns rest other apart.1)

-- the first few of all
pub tails_front : (names front rest : List (List ℕ)) (a b : Option (List NamedFile)) → names ≡ front ++ rest → ChangesTails front a b → ChangesTails names a b
tails_front names front rest a b is changes =
    subst (λ (ns : List (List ℕ)). ChangesTails ns a b) (sym is) (tails_among front (front ++ rest) a b (λ other apart. no_front front rest other apart) changes)

-- one of all
pub tails_first : (names : List (List ℕ)) (name : List ℕ) (others : List (List ℕ)) (a b : Option (List NamedFile)) → names ≡ name ∷ others → ChangesTails (name ∷ []) a b → ChangesTails names a b
tails_first names name others a b is changes = tails_front names (name ∷ []) others a b is changes

-- one, and then others
pub tails_more : (names : List (List ℕ)) (name : List ℕ) (others : List (List ℕ)) (a b c : Option (List NamedFile)) → names ≡ name ∷ others → ChangesTails (name ∷ []) a b
    → ChangesTails others b c → ChangesTails names a c
tails_more names name others a b c is first then =
    subst (λ (ns : List (List ℕ)). ChangesTails ns a c) (sym is)
    (tails_then (name ∷ others) a b c (tails_among (name ∷ []) (name ∷ others) a b (λ other apart. (apart.0, tt)) first)
    (tails_among others (name ∷ others) b c (λ other apart. apart.1) then))

-- ---- one tail

pub one_changes : (name : List ℕ) (a b : Option (List NamedFile)) → ChangesFile a b (file_name (names_of_document name) files.Tail) → ChangesTails (name ∷ []) a b
one_changes name None b changes = tt
one_changes name (Some x) None changes = absurd changes
one_changes name (Some x) (Some y) changes = λ other apart. changes other apart.0

-- it was made
pub one_made : (name : List ℕ) (a b : Option (List NamedFile)) → b ≡ with_tail_made name a → ChangesTails (name ∷ []) a b
one_made name None b made = tt
one_made name (Some fs) b made =
    subst (λ (t : Option (List NamedFile)). ChangesTails (name ∷ []) (Some fs) t) (sym made)
    (λ other apart. made_other fs (file_name (names_of_document name) files.Tail) other apart.0)

-- it is back
taken_changes : (name : List ℕ) (stored : Option (List ℕ)) (a b : Option (List NamedFile)) → TakesFile name stored a b → ChangesFile a b name
taken_changes name stored None b takes = tt
taken_changes name None (Some fs) b takes = subst (λ (t : Option (List NamedFile)). ChangesFile (Some fs) t name) (sym takes) (λ other apart. refl)
taken_changes name (Some bytes) (Some fs) b takes =
    subst (λ (t : Option (List NamedFile)). ChangesFile (Some fs) t name) (sym takes) (λ other apart. put_other fs name bytes other apart)

kept_changes : (name : List ℕ) (folder : Use FolderTold) (logged : ℕ) (document : List ℕ) (entries : List (List ℕ)) (one : Result (Unit {0}) Fault)
    → KeepsTail name folder logged document entries one → ChangesFile folder.before.files folder.after.files name
kept_changes name folder logged document entries (Ok done) (stored, takes, gives) = taken_changes name stored folder.before.files folder.after.files takes
kept_changes name folder logged document entries (Err (faults.Malformed file at)) (is, zero, back) =
    taken_changes name back.0 folder.before.files folder.after.files back.1
kept_changes name folder logged document entries (Err fault) none = absurd none

-- a document was opened, and then added or its tail given back
module _ (name : List ℕ) (names : FileNames) (same : names ≡ names_of_document name) (told mid now : Option (List NamedFile))
    (made : mid ≡ option_map (λ fs. made_in fs (file_name names files.Tail)) told) (r : Result (Unit {0}) Fault) (stays : OnOk r (now ≡ mid)) where
  own_made : mid ≡ with_tail_made name told
  own_made = made ∙ ap (λ (n : FileNames). option_map (λ fs. made_in fs (file_name n files.Tail)) told) same

  pub added_made : OnOk r (now ≡ with_tail_made name told)
  added_made = by r stays
    where
      by : (r : Result (Unit {0}) Fault) → OnOk r (now ≡ mid) → OnOk r (now ≡ with_tail_made name told)
      by (Ok done) stays = stays ∙ own_made
      by (Err fault) stays = tt

  pub added_changes : (own : List ℕ) (folder : Use FolderTold) → own ≡ file_name names files.Tail → folder.before.files ≡ mid → folder.after.files ≡ now → OnErr r (TakesTail own folder)
      → ChangesTails (name ∷ []) told now
  added_changes own folder own_is before after back = by r stays back
    where
      by : (r : Result (Unit {0}) Fault) → OnOk r (now ≡ mid) → OnErr r (TakesTail own folder) → ChangesTails (name ∷ []) told now
      by (Ok done) stays back = one_made name told now (stays ∙ own_made)
      by (Err fault) stays (stored, takes) =
          one_changes name told now
          (changes_back told mid now (file_name (names_of_document name) files.Tail) stored own_made
          (subst (λ (t : Option (List NamedFile)). TakesFile (file_name (names_of_document name) files.Tail) stored mid t) after
          (subst (λ (t : Option (List NamedFile)). TakesFile (file_name (names_of_document name) files.Tail) stored t folder.after.files) before
          (subst (λ (n : List ℕ). TakesFile n stored folder.before.files folder.after.files) (own_is ∙ ap (λ (n : FileNames). file_name n files.Tail) same) takes))))

-- it was not opened
pub failed_changes : (name : List ℕ) (names : FileNames) (a b : Option (List NamedFile)) → names ≡ names_of_document name → ChangesFile a b (file_name names files.Tail)
    → ChangesTails (name ∷ []) a b
failed_changes name names a b same changes = one_changes name a b (subst (λ (n : FileNames). ChangesFile a b (file_name n files.Tail)) same changes)

-- ---- tails that are made

pub none_made : (names : List (List ℕ)) (told : Option (List NamedFile)) → length names ≡ 0 → told ≡ with_tails_made names told
none_made [] told none = refl
none_made (n ∷ ns) told none = absurd cc

pub more_made : (names : List (List ℕ)) (name : List ℕ) (others : List (List ℕ)) (told mid now : Option (List NamedFile)) (r : Result (Unit {0}) Fault) → names ≡ name ∷ others
    → mid ≡ with_tail_made name told → OnOk r (now ≡ with_tails_made others mid) → OnOk r (now ≡ with_tails_made names told)
more_made names name others told mid now (Ok done) is first then = then ∙ ap (with_tails_made others) first ∙ ap (λ (ns : List (List ℕ)). with_tails_made ns told) (sym is)
more_made names name others told mid now (Err fault) is first then = tt

-- ---- all tails given back

pub back_changes : (names : List (List ℕ)) (number : ℕ) (logs : List OpenLogModel) (orders : List OrderModel) (fault : Fault) (a b : FolderTold) (given : Result (Unit {0}) Fault)
    → AllZip (λ name log. log.name ≡ file_name (names_of_document name) files.Tail) names logs
    → GivesAllBack number logs orders (Err fault) a b given → ChangesTails names a.files b.files
back_changes [] number [] [] fault a b given named (same, is) = tails_same [] a.files b.files (ap (λ (t : FolderTold). t.files) same)
back_changes [] number (l ∷ ls) os fault a b given named gives = absurd named
back_changes (n ∷ ns) number [] os fault a b given named gives = absurd named
back_changes (n ∷ ns) number (l ∷ ls) (o ∷ os) fault a b given (named, more) (mid, others, one, rest, gives, is) =
    let changed = kept_changes l.name (record { before = mid; after = b }) l.logged o.genesis.document o.entries one gives in
    tails_then (n ∷ ns) a.files mid.files b.files
    (tails_among ns (n ∷ ns) a.files mid.files (λ other apart. apart.1) (back_changes ns (number + 1) ls os fault a mid others more rest))
    (tails_among (n ∷ []) (n ∷ ns) mid.files b.files (λ other apart. (apart.0, tt))
    (one_changes n mid.files b.files (subst (λ (m : List ℕ). ChangesFile mid.files b.files m) named changed)))
back_changes names number logs orders fault a b given named gives = absurd gives
