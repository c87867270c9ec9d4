-- Other files stay as one is written or removed.
use Rattle.std.proofs.Common.{rules, ◌≡◌, ℕ, Bool, true, false, List, [], ◌∷◌, cond, Option, Some, refl, ap, sym, subst}
use Rattle.std.specs.Str.{bytes_eq}
use Rattle.std.proofs.lemmas.Slice.Eq.{bytes_eq-Decides}
use Rattle.sporc_outside.specs.declared.named_file.NamedFile.{NamedFile}
use Rattle.sporc_outside.specs.Files.{file_in, with_file, without_file}

pub same_bytes : (a b : List ℕ) → bytes_eq a b ≡ true → a ≡ b
same_bytes a b e = search (rules, bytes_eq-Decides)

-- other files stay
pub file_in-other : (files : List NamedFile) (name bytes other : List ℕ) → bytes_eq name other ≡ false
    → file_in (with_file files name bytes) other ≡ file_in files other
file_in-other [] name bytes other apart = rw apart refl
file_in-other (g ∷ gs) name bytes other apart = go (bytes_eq g.name name) refl (file_in-other gs name bytes other apart)
  where
    go : (b : Bool) → bytes_eq g.name name ≡ b → file_in (with_file gs name bytes) other ≡ file_in gs other
        → file_in (with_file (g ∷ gs) name bytes) other ≡ file_in (g ∷ gs) other
    go true e more =
        let differs : bytes_eq g.name other ≡ false = subst (λ (n : List ℕ). bytes_eq n other ≡ false) (sym (same_bytes g.name name e)) apart in
        rw (e, differs) refl
    go false e more = rw e (ap (λ (r : Option (List ℕ)). cond (bytes_eq g.name other) (Some g.bytes) r) more)

-- and as one is removed
pub file_in-without : (files : List NamedFile) (name other : List ℕ) → bytes_eq name other ≡ false → file_in (without_file files name) other ≡ file_in files other
file_in-without [] name other apart = refl
file_in-without (g ∷ gs) name other apart = go (bytes_eq g.name name) refl (file_in-without gs name other apart)
  where
    go : (b : Bool) → bytes_eq g.name name ≡ b → file_in (without_file gs name) other ≡ file_in gs other → file_in (without_file (g ∷ gs) name) other ≡ file_in (g ∷ gs) other
    go true e more =
        let differs : bytes_eq g.name other ≡ false = subst (λ (n : List ℕ). bytes_eq n other ≡ false) (sym (same_bytes g.name name e)) apart in
        rw (e, differs) refl
    go false e more = rw e (ap (λ (r : Option (List ℕ)). cond (bytes_eq g.name other) (Some g.bytes) r) more)
