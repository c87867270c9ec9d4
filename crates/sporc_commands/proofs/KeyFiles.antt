-- What stands of a key's files.
use Rattle.std.proofs.Common.{◌≡◌, ℕ, List, [], ◌∷◌, Bool, true, false, Option, Some, None, option_map, Result, Ok, Err, refl, subst}
use Rattle.sporc_commands.proofs.Common.{HasNoFile, file_in, with_file, NamedFile, FileNames, file_name, Stores, file_with, OnOk, bytes_eq, NewKey, key_file_bytes, StoresKey}
use Rattle.sporc_files.specs.declared.file.File.TheVariants as files
use Rattle.sporc_commands.proofs.Storing.{stored_all}

-- a file that is not there after another was written was not there before
none_before : (fs : List NamedFile) (name bytes other : List ℕ) → file_in (with_file fs name bytes) other ≡ None → file_in fs other ≡ None
none_before [] name bytes other none = refl
none_before (f ∷ fs) name bytes other none = go (bytes_eq f.name name) refl (bytes_eq f.name other) refl (none_before fs name bytes other)
  where
    go : (b : Bool) → bytes_eq f.name name ≡ b → (d : Bool) → bytes_eq f.name other ≡ d
        → (file_in (with_file fs name bytes) other ≡ None → file_in fs other ≡ None) → file_in (f ∷ fs) other ≡ None
    go true e false d more = let rest = rw (e, d) at none in rw d rest
    go false e false d more = let rest = rw (e, d) at none in rw d (more rest)
    go true e true d more = let clash = rw (e, d) at none in absurd cc
    go false e true d more = let clash = rw (e, d) at none in absurd cc

pub not_there_before : (files : Option (List NamedFile)) (name bytes other : List ℕ) → HasNoFile (option_map (λ fs. with_file fs name bytes) files) other → HasNoFile files other
not_there_before None name bytes other none = tt
not_there_before (Some fs) name bytes other none = none_before fs name bytes other none

-- of two facts of one result
pub on_ok : {T E : Type 0} (r : Result T E) (P Q R : Type 0) → (P → Q → R) → OnOk r P → OnOk r Q → OnOk r R
on_ok (Ok x) P Q R then p q = then p q
on_ok (Err e) P Q R then p q = tt

-- both files were written
module _ (names : FileNames) (key : NewKey) (before between after : Option (List NamedFile)) where
  both : HasNoFile before (file_name names (files.Key key.file.device))
      → Stores (file_with names (files.Key key.file.device) (key_file_bytes key.file) ∷ []) before between
      → HasNoFile between (file_name names (files.Leaf key.file.device))
      → Stores (file_with names (files.Leaf key.file.device) key.leaves ∷ []) between after → StoresKey names key before after
  both new stored newer last = record {
    new_key = new;
    new_leaves = not_there_before before _ _ (file_name names (files.Leaf key.file.device))
        (subst (λ (o : Option (List NamedFile)). HasNoFile o (file_name names (files.Leaf key.file.device))) stored newer);
    stored = stored_all (file_with names (files.Key key.file.device) (key_file_bytes key.file) ∷ []) (file_with names (files.Leaf key.file.device) key.leaves ∷ []) before between after stored last;
  }

  -- with bytes that are those
  pub both_written : (bytes leaves : List ℕ) → bytes ≡ key_file_bytes key.file → leaves ≡ key.leaves → HasNoFile before (file_name names (files.Key key.file.device))
      → Stores (file_with names (files.Key key.file.device) bytes ∷ []) before between → HasNoFile between (file_name names (files.Leaf key.file.device))
      → Stores (file_with names (files.Leaf key.file.device) leaves ∷ []) between after → StoresKey names key before after
  both_written bytes leaves spelled blank new stored newer last =
      both new (subst (λ (b : List ℕ). Stores (file_with names (files.Key key.file.device) b ∷ []) before between) spelled stored) newer
      (subst (λ (b : List ℕ). Stores (file_with names (files.Leaf key.file.device) b ∷ []) between after) blank last)
