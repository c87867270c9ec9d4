-- What commands leave of a leaf file.
use Rattle.std.proofs.Common.{◌≡◌, ◌≢◌, inl, inr, ℕ, List, [], ◌∷◌, ◌++◌, false, map, Option, Some, None, IsSome, option_map, refl, ap, sym, subst, ◌∙◌, arith, codes}
use Rattle.sporc_top.proofs.Common.{AllByRecursion, ChangesFile, IsDiskOf, RemovesFile, TakesBack, TakesFile, file_in, made_in, with_file, NamedFile, Device, FileNames, file_name, names_of_document}
use Rattle.sporc_top.proofs.Common.{ring_of_founding, file_at, leaf_name, false_from_ne_true, bytes_eq, bytes_eq-Decides, Stores, StoresFirst, StoresPrefix, with_files, with_one}
use Rattle.std.proofs.lemmas.Bool.{cases_Bool}
use Rattle.std.specs.Fmt.{decimal}
use Rattle.sporc_outside.proofs.Files.{file_in-other, file_in-without}
use Rattle.sporc_keys.specs.declared.ring_file.RingFile.{RingFile}
use Rattle.sporc_script.specs.Spelling.{DeviceInRange, device_text}
use Rattle.sporc_files.specs.declared.file.File.TheVariants as files
use Rattle.sporc_files.proofs.NamesApart.{names_apart}
use Rattle.sporc_hosting.proofs.Opened.{made_other, put_other}

-- ---- names that end otherwise

abbrev last_of : List ℕ → ℕ
last_of [] = 0
last_of (x ∷ []) = x
last_of (x ∷ y ∷ ys) = last_of (y ∷ ys)

last_more : (xs : List ℕ) (y : ℕ) (ys : List ℕ) → last_of (xs ++ y ∷ ys) ≡ last_of (y ∷ ys)
last_more (x ∷ z ∷ zs) y ys = last_more (z ∷ zs) y ys
last_more xs y ys = refl

-- what stands between two dots
last_dotted : (stem : List ℕ) (text : List ℕ) (y : ℕ) (ys : List ℕ) → last_of (stem ++ (codes "." ++ (text ++ y ∷ ys))) ≡ last_of (y ∷ ys)
last_dotted stem text y ys = last_more stem 46 (text ++ y ∷ ys) ∙ last_more (46 ∷ text) y ys

-- a leaf file's name ends with `f`
leaf_ends : (document : List ℕ) (device : Device) → last_of (leaf_name document device) ≡ 102
leaf_ends document device = last_dotted document (device_text device) 46 (codes "leaf")

apart : (other document : List ℕ) (device : Device) (n : ℕ) → last_of other ≡ n → n ≢ 102 → bytes_eq other (leaf_name document device) ≡ false
apart other document device n ends differs = false_from_ne_true (bytes_eq other (leaf_name document device)) (λ same.
    differs (sym ends ∙ ap last_of ((bytes_eq-Decides other (leaf_name document device)).0 same) ∙ leaf_ends document device))

module _ (names : FileNames) (document : List ℕ) (device : Device) where
  pub not_genesis : bytes_eq (file_name names files.Genesis) (leaf_name document device) ≡ false
  not_genesis = apart _ document device 115 (last_more names.document 46 (codes "genesis")) (λ e. omega (arith, e))

  pub not_log : bytes_eq (file_name names files.Log) (leaf_name document device) ≡ false
  not_log = apart _ document device 103 (last_more names.document 46 (codes "log")) (λ e. omega (arith, e))

  pub not_tail : bytes_eq (file_name names files.Tail) (leaf_name document device) ≡ false
  not_tail = apart _ document device 108 (last_more names.document 46 (codes "tail")) (λ e. omega (arith, e))

  pub not_key : (m : Device) → bytes_eq (file_name names (files.Key m)) (leaf_name document device) ≡ false
  not_key m = apart _ document device 121 (last_dotted names.document (device_text m) 46 (codes "key")) (λ e. omega (arith, e))

  pub not_ring : (m : ℕ) → bytes_eq (file_name names (files.Ring m)) (leaf_name document device) ≡ false
  not_ring m = apart _ document device 103 (last_dotted names.document (decimal m) 46 (codes "ring")) (λ e. omega (arith, e))

  pub not_history : (m : Device) → bytes_eq (file_name names (files.History m)) (leaf_name document device) ≡ false
  not_history m = apart _ document device 121 (last_dotted names.document (device_text m) 46 (codes "history")) (λ e. omega (arith, e))

-- two devices have two leaf files
pub leaf_names_apart : (document : List ℕ) (one other : Device) → DeviceInRange one → DeviceInRange other → leaf_name document one ≡ leaf_name document other → one ≡ other
leaf_names_apart document one other is is_other same =
    let leaves : files.Leaf one ≡ files.Leaf other = names_apart (names_of_document document) (files.Leaf one) (files.Leaf other) is is_other same in
    cc

-- ---- told files stay told

pub told_by : (change : List NamedFile → List NamedFile) (before after : Option (List NamedFile)) → IsSome before → after ≡ option_map change before → IsSome after
told_by change None after told is = absurd cc
told_by change (Some fs) after told is = rw is refl

-- ---- what stands at a name

module _ (name : List ℕ) where
  -- the file with this name is as it was
  abbrev pub Keeps : Option (List NamedFile) → Option (List NamedFile) → Type 0
  Keeps before after = file_at name after ≡ file_at name before

  pub kept_with : (before after : Option (List NamedFile)) (other bytes : List ℕ) → bytes_eq other name ≡ false → after ≡ option_map (λ old. with_file old other bytes) before → Keeps before after
  kept_with None after other bytes differs is = ap (file_at name) is
  kept_with (Some fs) after other bytes differs is = ap (file_at name) is ∙ file_in-other fs other bytes name differs

  pub kept_changes : (before after : Option (List NamedFile)) (other : List ℕ) → IsSome before → bytes_eq other name ≡ false → ChangesFile before after other → Keeps before after
  kept_changes None after other told differs changes = absurd cc
  kept_changes (Some fs) None other told differs changes = absurd changes
  kept_changes (Some fs) (Some more) other told differs changes = changes name differs

  abbrev AreOthers : List NamedFile → Type 0
  AreOthers new = AllByRecursion (λ f. bytes_eq f.name name ≡ false) new

  kept_files : (fs new : List NamedFile) → AreOthers new → file_in (with_files fs new) name ≡ file_in fs name
  kept_files fs [] others = refl
  kept_files fs (f ∷ new) others = kept_files (with_one fs f) new others.1 ∙ file_in-other fs f.name f.bytes name others.0

  pub kept_stores : (before after : Option (List NamedFile)) (new : List NamedFile) → AreOthers new → Stores new before after → Keeps before after
  kept_stores None after new others is = ap (file_at name) is
  kept_stores (Some fs) after new others is = ap (file_at name) is ∙ kept_files fs new others

  kept_one : (before : Option (List NamedFile)) (f : NamedFile) → bytes_eq f.name name ≡ false → Keeps before (option_map (λ files. with_one files f) before)
  kept_one before f differs = kept_with before (option_map (λ files. with_one files f) before) f.name f.bytes differs refl

  pub kept_first : (before after : Option (List NamedFile)) (new : List NamedFile) → AreOthers new → StoresFirst new before after → Keeps before after
  kept_first before after [] others stores = absurd stores
  kept_first before after (f ∷ new) others (inl same) = ap (file_at name) same
  kept_first before after (f ∷ new) others (inr more) = kept_first (option_map (λ files. with_one files f) before) after new others.1 more ∙ kept_one before f others.0

  pub kept_prefix : (before after : Option (List NamedFile)) (new : List NamedFile) → IsSome before → AreOthers new → StoresPrefix new before after → Keeps before after
  kept_prefix before after [] told others same = ap (file_at name) same
  kept_prefix before after (f ∷ new) told others (inl changes) = kept_changes before after f.name told others.0 changes
  kept_prefix before after (f ∷ new) told others (inr more) =
      kept_prefix (option_map (λ files. with_one files f) before) after new (told_by _ before _ told refl) others.1 more ∙ kept_one before f others.0

  -- ---- a file that is appended to

  -- another one was made
  pub kept_made : (before after : Option (List NamedFile)) (other : List ℕ) → bytes_eq other name ≡ false → after ≡ option_map (λ old. made_in old other) before → Keeps before after
  kept_made None after other differs is = ap (file_at name) is
  kept_made (Some fs) after other differs is = ap (file_at name) is ∙ made_other fs other name differs

  -- was taken back
  pub kept_taken : (before after : Option (List NamedFile)) (stored : Option (List ℕ)) (other : List ℕ) → bytes_eq other name ≡ false → TakesFile other stored before after → Keeps before after
  kept_taken (Some fs) after (Some bytes) other differs back = ap (file_at name) back ∙ put_other fs other bytes name differs
  kept_taken before after stored other differs back = ap (file_at name) back

  -- was removed
  pub kept_removed : (before after : Option (List NamedFile)) (other : List ℕ) → bytes_eq other name ≡ false → RemovesFile other before after → Keeps before after
  kept_removed None after other differs gone = ap (file_at name) gone
  kept_removed (Some fs) after other differs gone = ap (file_at name) gone ∙ file_in-without fs other name differs

  -- ---- the disk of a file

  -- that of another one is taken back
  pub kept_back : (lent : Option (List (List ℕ))) (before after : Option (List NamedFile)) (stored : Option (List ℕ)) (other : List ℕ) (rest : List (List ℕ))
      → lent ≡ Some (other ∷ rest) → IsSome before → bytes_eq other name ≡ false → TakesBack lent before after stored → Keeps before after
  kept_back lent None after stored other rest is told differs back = absurd cc
  kept_back lent (Some fs) after None other rest is told differs back =
      ap (file_at name) (subst (λ (l : Option (List (List ℕ))). TakesBack l (Some fs) after None) is back)
  kept_back lent (Some fs) after (Some bytes) other rest is told differs back =
      ap (file_at name) (subst (λ (l : Option (List (List ℕ))). TakesBack l (Some fs) after (Some bytes)) is back) ∙ file_in-other fs other bytes name differs

  file_in-own : (fs : List NamedFile) (bytes : List ℕ) → file_in (with_file fs name bytes) name ≡ Some bytes
  file_in-own [] bytes = rw (bytes_eq-Decides name name).1 refl
  file_in-own (f ∷ fs) bytes = elim (cases_Bool (bytes_eq f.name name)) [ inl e ↦ rw (e, e) refl | inr e ↦ rw (e, e) (file_in-own fs bytes) ]

  -- its own has the file's bytes
  pub own_is : (before : Option (List NamedFile)) (stored : Option (List ℕ)) → IsSome before → IsDiskOf before name stored → stored ≡ file_at name before
  own_is None stored told is = absurd cc
  own_is (Some fs) None told is = absurd is
  own_is (Some fs) (Some bytes) told is = sym is.0

  pub own_tells : (before : Option (List NamedFile)) (stored : Option (List ℕ)) → IsSome before → IsDiskOf before name stored → IsSome stored
  own_tells None stored told is = absurd cc
  own_tells (Some fs) None told is = absurd is
  own_tells (Some fs) (Some bytes) told is = refl

  -- and the file its bytes
  pub own_back : (lent : Option (List (List ℕ))) (before after : Option (List NamedFile)) (stored : Option (List ℕ)) (rest : List (List ℕ))
      → lent ≡ Some (name ∷ rest) → IsSome before → IsSome stored → TakesBack lent before after stored → file_at name after ≡ stored
  own_back lent (Some fs) after (Some bytes) rest is told tells back =
      ap (file_at name) (subst (λ (l : Option (List (List ℕ))). TakesBack l (Some fs) after (Some bytes)) is back) ∙ file_in-own fs bytes
  own_back lent before after stored rest is told tells back = absurd cc

-- the rings of a founding are no leaf file
pub rings_others : (names : FileNames) (document : List ℕ) (device : Device) (rings : List RingFile)
    → AllByRecursion (λ f. bytes_eq f.name (leaf_name document device) ≡ false) (map (ring_of_founding names) rings)
rings_others names document device [] = tt
rings_others names document device (r ∷ rs) = (not_ring names document device r.member, rings_others names document device rs)
