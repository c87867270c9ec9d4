-- What is listed of a file in memory that is appended to is what a crash may leave.
use Rattle.std.proofs.Common.{◌≡◌, ◌/◌, ℕ, zero, suc, inl, inr, List, [], ◌∷◌, ◌++◌, length, map, refl, ap, ap₂, sym, subst, ◌∙◌, arith, append-nil}
use Rattle.sporc_memory.proofs.Common.{map-append, All, take_all, All-append, AppendState, IsImage, IsLoose, Loose, listed_of, some_images, three_of}

each_of_three : (part : Loose) (parts : List Loose) → All (IsLoose (part ∷ parts)) (three_of part)
each_of_three part parts zero d lt = inl (0, sym (append-nil part.bytes))
each_of_three part parts (suc zero) d lt = inl (length part.behind / 2, refl)
each_of_three part parts (suc (suc zero)) d lt =
    inl (length part.behind, ap (λ (l : List ℕ). part.bytes ++ l) (sym (take_all (length part.behind) part.behind (omega arith))))
each_of_three part parts (suc (suc (suc k))) d lt = absurd (omega arith)

each_listed : (parts : List Loose) → All (IsLoose parts) (listed_of parts)
each_listed [] k d lt = absurd (omega arith)
each_listed (part ∷ parts) k d lt =
    All-append (IsLoose (part ∷ parts)) (listed_of parts) (three_of part) (λ j e h. inr (each_listed parts j e h)) (each_of_three part parts) k d lt

some_are_images : (s : AppendState) → All (IsImage s) (some_images s)
some_are_images s = All-append (IsImage s) (listed_of s.unsynced) (s.bytes ∷ []) (λ k d lt. inr (each_listed s.unsynced k d lt)) last
  where
    last : All (IsImage s) (s.bytes ∷ [])
    last zero d lt = inl refl
    last (suc k) d lt = absurd (omega arith)

-- so they are once the last one is pushed
pub pushed_are_images : {V : Type 0} (items : V → List ℕ) (s : AppendState) (images more : List V) (last : V) → more ≡ images ++ last ∷ []
    → items last ≡ s.bytes → map items images ≡ listed_of s.unsynced → All (IsImage s) (map items more)
pushed_are_images items s images more last is bytes listed =
    subst (All (IsImage s))
    (sym (ap (map items) is ∙ map-append items images (last ∷ []) ∙ ap₂ (λ (front : List (List ℕ)) (now : List ℕ). front ++ now ∷ []) listed bytes))
    (some_are_images s)
