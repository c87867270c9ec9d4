-- Where the file with a name stands.
use Rattle.std.proofs.Common.{◌≡◌, ℕ, zero, suc, ◌<◌, Bool, true, false, List, [], ◌∷◌, ◌++◌, length, take, Option, Some, None, IsSome, Result, Ok, Err, OnOk, OnErr, refl, ap, sym, subst, ◌∙◌, arith, get_or, length-append}
use Rattle.sporc_memory.proofs.Common.{get_or-append, All-append, All, bytes_eq, file_in, made_in, with_bytes, with_file, without_file}
use Rattle.std.proofs.lemmas.Slice.Eq.{bytes_eq-Decides}
use Rattle.sporc_outside.proofs.Files.{file_in-without, same_bytes}
use Rattle.sporc_outside.specs.declared.named_file.NamedFile.{NamedFile}
use Rattle.sporc_memory.specs.MemoryFolderModel.{IsPlaceOf, HasEach}

-- no file before this one has the name, nor has it
pub none_more : (files : List NamedFile) (name : List ℕ) (i : ℕ) (f : NamedFile) → i < length files → f ≡ get_or files i f
    → bytes_eq f.name name ≡ false → file_in (take i files) name ≡ None → file_in (take (suc i) files) name ≡ None
none_more [] name i f lt at other none = absurd (omega arith)
none_more (g ∷ gs) name zero f lt at other none =
    let here : bytes_eq g.name name ≡ false = subst (λ (x : NamedFile). bytes_eq x.name name ≡ false) at other in
    rw here refl
none_more (g ∷ gs) name (suc i) f lt at other none = go (bytes_eq g.name name) refl (none_more gs name i f (omega arith) at other)
  where
    go : (b : Bool) → bytes_eq g.name name ≡ b → (file_in (take i gs) name ≡ None → file_in (take (suc i) gs) name ≡ None)
        → file_in (take (suc (suc i)) (g ∷ gs)) name ≡ None
    go true e more = let clash = rw e at none in absurd cc
    go false e more = rw e (more (rw e at none))

-- no file before this one has the name, and this one has it
pub place_from : (files : List NamedFile) (name : List ℕ) (i : ℕ) (f : NamedFile) → i < length files → f ≡ get_or files i f
    → bytes_eq f.name name ≡ true → file_in (take i files) name ≡ None → IsPlaceOf files name i
place_from [] name i f lt at same none = absurd (omega arith)
place_from (g ∷ gs) name zero f lt at same none =
    let here : bytes_eq g.name name ≡ true = subst (λ (x : NamedFile). bytes_eq x.name name ≡ true) at same in
    record { within = omega arith; file = g; is = λ d. refl; found = rw here refl; others = λ bytes. rw here refl; without = rw here refl }
place_from (g ∷ gs) name (suc i) f lt at same none = go (bytes_eq g.name name) refl (place_from gs name i f (omega arith) at same)
  where
    go : (b : Bool) → bytes_eq g.name name ≡ b → (file_in (take i gs) name ≡ None → IsPlaceOf gs name i) → IsPlaceOf (g ∷ gs) name (suc i)
    go true e more = let clash = rw e at none in absurd cc
    go false e more =
        let p = more (rw e at none) in
        record {
          within = omega (arith, p.within);
          file = p.file;
          is = λ d. p.is d;
          found = rw e p.found;
          others = λ bytes. rw e (ap (λ (l : List NamedFile). g ∷ l) (p.others bytes));
          without = rw e (ap (λ (l : List NamedFile). g ∷ l) p.without);
        }

-- a file that is written anew, or at the end
pub with_new_file : (files : List NamedFile) (name bytes : List ℕ) → file_in files name ≡ None
    → with_file files name bytes ≡ files ++ record { name = name; bytes = bytes } ∷ []
with_new_file [] name bytes none = refl
with_new_file (g ∷ gs) name bytes none = go (bytes_eq g.name name) refl (with_new_file gs name bytes)
  where
    go : (b : Bool) → bytes_eq g.name name ≡ b
        → (file_in gs name ≡ None → with_file gs name bytes ≡ gs ++ record { name = name; bytes = bytes } ∷ [])
        → with_file (g ∷ gs) name bytes ≡ g ∷ gs ++ record { name = name; bytes = bytes } ∷ []
    go true e more = let clash = rw e at none in absurd cc
    go false e more = rw e (ap (λ (l : List NamedFile). g ∷ l) (more (rw e at none)))

-- a file that was there is there
pub file_in-some : (files : List NamedFile) (name bytes other : List ℕ) → IsSome (file_in files other)
    → IsSome (file_in (with_file files name bytes) other)
file_in-some [] name bytes other h = absurd cc
file_in-some (g ∷ gs) name bytes other h = go (bytes_eq g.name name) refl (bytes_eq g.name other) refl (file_in-some gs name bytes other)
  where
    go : (b : Bool) → bytes_eq g.name name ≡ b → (o : Bool) → bytes_eq g.name other ≡ o
        → (IsSome (file_in gs other) → IsSome (file_in (with_file gs name bytes) other)) → IsSome (file_in (with_file (g ∷ gs) name bytes) other)
    go true e true o more = rw (e, o) refl
    go true e false o more = rw (e, o) (rw o at h)
    go false e true o more = rw (e, o) refl
    go false e false o more = rw (e, o) (more (rw o at h))

pub HasEach-with_file : (files : List NamedFile) (names : List (List ℕ)) (name bytes : List ℕ) → HasEach files names
    → HasEach (with_file files name bytes) names
HasEach-with_file files names name bytes h k d lt = file_in-some files name bytes (get_or names k d) (h k d lt)

-- each name still has its file once one was written
pub each_written : (files more : List NamedFile) (names : List (List ℕ)) (name bytes : List ℕ) → more ≡ with_file files name bytes
    → HasEach files names → HasEach more names
each_written files more names name bytes is h =
    subst (λ (fs : List NamedFile). HasEach fs names) (sym is) (HasEach-with_file files names name bytes h)

-- and once one was, if a call succeeded
pub each_if_written : {T E : Type 0} (files more : List NamedFile) (names : List (List ℕ)) (name bytes : List ℕ) (result : Result T E)
    → OnOk result (more ≡ with_file files name bytes) → OnErr result (more ≡ files) → HasEach files names → HasEach more names
each_if_written files more names name bytes (Ok x) is same h = each_written files more names name bytes is h
each_if_written files more names name bytes (Err e) is same h = subst (λ (fs : List NamedFile). HasEach fs names) (sym same) h

-- and once the last one's file was
pub each_left : (files more : List NamedFile) (names rest last : List (List ℕ)) (name bytes : List ℕ) → names ≡ rest ++ last
    → more ≡ with_file files name bytes → HasEach files names → HasEach more rest
each_left files more names rest last name bytes split is h =
    let both : HasEach files (rest ++ last) = subst (λ (ns : List (List ℕ)). HasEach files ns) split h in
    each_written files more rest name bytes is
    (λ k d lt. subst (λ (n : List ℕ). IsSome (file_in files n)) (get_or-append rest last d k lt)
    (both k d (omega (arith, lt, length-append rest last))))

-- and once a file's disk is out
pub each_lent : {D E : Type 0} (files : List NamedFile) (lent more : List (List ℕ)) (name bytes : List ℕ) (result : Result D E)
    → file_in files name ≡ Some bytes → OnOk result (more ≡ lent ++ name ∷ []) → OnErr result (more ≡ lent)
    → HasEach files lent → HasEach files more
each_lent files lent more name bytes (Ok disk) there is same h = rw is (All-append (λ n. IsSome (file_in files n)) lent (name ∷ []) h just)
  where
    just : (k : ℕ) (d : List ℕ) → k < 1 → IsSome (file_in files (get_or (name ∷ []) k d))
    just zero d lt = rw there refl
    just (suc k) d lt = absurd (omega arith)
each_lent files lent more name bytes (Err e) there is same h = rw same h

-- and once the file with a name was made unless there was one
pub each_made : (files more : List NamedFile) (names : List (List ℕ)) (name : List ℕ) → more ≡ made_in files name → HasEach files names → HasEach more names
each_made files more names name is h = by (file_in files name) refl
  where
    by : (found : Option (List ℕ)) → file_in files name ≡ found → HasEach more names
    by None none =
        let made : more ≡ with_file files name [] = rw none at is in
        each_written files more names name [] made h
    by (Some bytes) there =
        let same : more ≡ files = rw there at is in
        subst (λ (fs : List NamedFile). HasEach fs names) (sym same) h

-- and once bytes were put in the file with a name if there is one
pub each_put : (files more : List NamedFile) (names : List (List ℕ)) (name bytes : List ℕ) → more ≡ with_bytes (file_in files name) files name bytes
    → HasEach files names → HasEach more names
each_put files more names name bytes is h = by (file_in files name) is
  where
    by : (found : Option (List ℕ)) → more ≡ with_bytes found files name bytes → HasEach more names
    by None same = subst (λ (fs : List NamedFile). HasEach fs names) (sym same) h
    by (Some old) put = each_written files more names name bytes put h

-- ---- what a removal leaves

-- none is removed
pub without_none : (files : List NamedFile) (name : List ℕ) → file_in files name ≡ None → files ≡ without_file files name
without_none [] name none = refl
without_none (g ∷ gs) name none = go (bytes_eq g.name name) refl (without_none gs name)
  where
    go : (b : Bool) → bytes_eq g.name name ≡ b → (file_in gs name ≡ None → gs ≡ without_file gs name) → g ∷ gs ≡ without_file (g ∷ gs) name
    go true e more = let clash = rw e at none in absurd cc
    go false e more = rw e (ap (λ (l : List NamedFile). g ∷ l) (more (rw e at none)))

other_way : (a b : List ℕ) → bytes_eq a b ≡ false → bytes_eq b a ≡ false
other_way a b apart = by (bytes_eq b a) refl
  where
    by : (e : Bool) → bytes_eq b a ≡ e → bytes_eq b a ≡ false
    by false is = is
    by true is =
        let same : b ≡ a = same_bytes b a is in
        let clash : bytes_eq a a ≡ false = subst (λ (x : List ℕ). bytes_eq a x ≡ false) same apart in
        absurd (let yes : true ≡ false = sym ((bytes_eq-Decides a a).1 refl) ∙ clash in cc)

-- each other name still has its file
pub each_other : (files more : List NamedFile) (names : List (List ℕ)) (name : List ℕ) → more ≡ without_file files name
    → All (λ other. bytes_eq other name ≡ false) names → HasEach files names → HasEach more names
each_other files more names name is apart h =
    subst (λ (fs : List NamedFile). HasEach fs names) (sym is)
    (λ k d lt. subst IsSome (sym (file_in-without files name (get_or names k d) (other_way (get_or names k d) name (apart k d lt)))) (h k d lt))

-- and once a file was removed, or where that failed bytes were put in it
pub each_if_removed : {T E : Type 0} (files more : List NamedFile) (names given : List (List ℕ)) (name bytes : List ℕ) (result : Result T E)
    → given ≡ names → OnOk result (more ≡ without_file files name) → OnErr result (more ≡ with_bytes (file_in files name) files name bytes)
    → OnOk result (All (λ other. bytes_eq other name ≡ false) given) → HasEach files names → HasEach more names
each_if_removed files more names given name bytes (Ok x) same gone back free h =
    each_other files more names name gone (subst (All (λ other. bytes_eq other name ≡ false)) same free) h
each_if_removed files more names given name bytes (Err e) same gone back free h = each_put files more names name bytes back h

-- and once it was made, if a call succeeded
pub each_if_made : {D E : Type 0} (files more : List NamedFile) (names : List (List ℕ)) (name : List ℕ) (result : Result D E) → OnOk result (more ≡ made_in files name)
    → OnErr result (more ≡ files) → HasEach files names → HasEach more names
each_if_made files more names name (Ok d) made same h = each_made files more names name made h
each_if_made files more names name (Err e) made same h = subst (λ (fs : List NamedFile). HasEach fs names) (sym same) h
