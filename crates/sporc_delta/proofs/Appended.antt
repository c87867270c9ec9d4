-- Parts that are appended, joined with a last one of their kind.
use Rattle.std.proofs.Common.{◌≡◌, ℕ, ◌+◌, ◌-◌, ◌<◌, ◌≤◌, true, false, List, [], ◌∷◌, ◌++◌, length, refl, ap, sym, subst, ◌∙◌, ◌⊎◌, inl, inr, append_assoc, arith, Option, None, Some, Result, Ok, Err}
use Rattle.std.proofs.Common.{set}
use Rattle.sporc_delta.proofs.Common.{map-append, length-append, replicate-append-replicate, append-nil, slice_get, OnOk, Part, KeepRun, InsertText, RemoveRun, Keep, Insert, base_len, out_len}
use Rattle.sporc_delta.proofs.Common.{keep_marks, remove_marks, insert_marks, part_marks, marks_of, is_kind, kind_of, same_kind, part_len, AreRuns, Appends, kept_by, removed_by, inserted_by}
use Rattle.sporc_delta.proofs.Common.{kept_at_end, removed_at_end, text_at_end}
use Rattle.std.proofs.Math.Seq.{set-append_seam}
use Rattle.sporc_delta.specs.Marks.{Remove}
use Rattle.sporc_delta.proofs.Lengths.{out_len-append, base_len-append, out_len-keep_marks, base_len-remove_marks, out_len-insert_marks}
use Rattle.sporc_delta.proofs.Runs.{marks_of-append, same_is_kind}

-- a list is empty or has a last element
by_end : (ps : List Part) → (ps ≡ []) ⊎ ((front : List Part) × (last : Part) × (ps ≡ front ++ last ∷ []))
by_end [] = inl refl
by_end (p ∷ ps) = elim (by_end ps) [ inl e ↦ inr ([], p, ap (λ r. p ∷ r) e) | inr found ↦ inr (p ∷ found.0, found.1, ap (λ r. p ∷ r) found.2) ]

last_index : (front : List Part) (last : Part) → length (front ++ last ∷ []) - 1 ≡ length front
last_index front last = omega (arith, length-append front (last ∷ []))

get_seam : (front : List Part) (last : Part) → slice_get (front ++ last ∷ []) (length front) ≡ Some last
get_seam [] last = refl
get_seam (p ∷ front) last = get_seam front last

get_last : (front : List Part) (last : Part) → slice_get (front ++ last ∷ []) (length (front ++ last ∷ []) - 1) ≡ Some last
get_last front last = rw (last_index front last) (get_seam front last)

pub set_last : (front : List Part) (last p : Part) (ps : List Part) → ps ≡ front ++ last ∷ [] → set ps (length ps - 1) p ≡ front ++ p ∷ []
set_last front last p ps is = rw (is, last_index front last) (set-append_seam front last [] p)

-- the parts end with this one
pub record EndsIn (ps : List Part) (last : Part) : Type 0 where
  pub front : List Part
  pub is : ps ≡ front ++ last ∷ []

-- the last part is the run of this count, if that counts parts of one kind alone
counted_end : (count : Option Part → ℕ) (run : ℕ → Part) → count None ≡ 0 → ((p : Part) → 0 < count (Some p) → p ≡ run (count (Some p)))
    → (ps : List Part) (n : ℕ) → n ≡ count (slice_get ps (length ps - 1)) → 0 < n → EndsIn ps (run n)
counted_end count run none is_run ps n is some = elim (by_end ps) [
  | inl e ↦ absurd (omega (arith, is, ap (λ qs. count (slice_get qs (length qs - 1))) e, none))
  | inr found ↦
      let last : n ≡ count (Some found.1) = is ∙ ap (λ qs. count (slice_get qs (length qs - 1))) found.2 ∙ ap count (get_last found.0 found.1) in
      record { front = found.0; is = found.2 ∙ ap (λ p. found.0 ++ p ∷ []) (is_run found.1 (omega arith) ∙ ap run (sym last)) }
]

pub kept_end : (ps : List Part) (n : ℕ) → n ≡ kept_at_end ps → 0 < n → EndsIn ps (KeepRun n)
kept_end = counted_end kept_by KeepRun refl is_keep
  where
    is_keep : (p : Part) → 0 < kept_by (Some p) → p ≡ KeepRun (kept_by (Some p))
    is_keep (KeepRun n) some = refl
    is_keep p some = absurd (omega arith)

pub removed_end : (ps : List Part) (n : ℕ) → n ≡ removed_at_end ps → 0 < n → EndsIn ps (RemoveRun n)
removed_end = counted_end removed_by RemoveRun refl is_remove
  where
    is_remove : (p : Part) → 0 < removed_by (Some p) → p ≡ RemoveRun (removed_by (Some p))
    is_remove (RemoveRun n) some = refl
    is_remove p some = absurd (omega arith)

-- marks at the end
pub marks_of-last : (front : List Part) (last : Part) → marks_of (front ++ last ∷ []) ≡ marks_of front ++ part_marks last
marks_of-last front last = marks_of-append front (last ∷ []) ∙ ap (λ ms. marks_of front ++ ms) (append-nil (part_marks last))

marks_grown : (front : List Part) (last more grown : Part) (ps : List Part)
    → ps ≡ front ++ last ∷ [] → part_marks grown ≡ part_marks last ++ part_marks more → marks_of (front ++ grown ∷ []) ≡ marks_of ps ++ part_marks more
marks_grown front last more grown ps is joins = rw (is, marks_of-last front grown, marks_of-last front last, joins, append_assoc) refl

-- a part at the end in place of one of its kind, or behind one of another kind
pub AreRuns-grown : (front : List Part) (last grown : Part) → kind_of last ≡ kind_of grown → 0 < part_len grown
    → AreRuns (front ++ last ∷ []) → AreRuns (front ++ grown ∷ [])
AreRuns-grown [] last grown like some h = (some, tt, tt)
AreRuns-grown (p ∷ []) last grown like some h =
    (h.0, sym (same_is_kind p grown) ∙ ap (is_kind (Some (kind_of p))) (sym like) ∙ same_is_kind p last ∙ h.1, AreRuns-grown [] last grown like some h.2)
AreRuns-grown (p ∷ q ∷ front) last grown like some h = (h.0, h.1, AreRuns-grown (q ∷ front) last grown like some h.2)

AreRuns-more : (front : List Part) (last more : Part) → same_kind last more ≡ false → 0 < part_len more
    → AreRuns (front ++ last ∷ []) → AreRuns (front ++ last ∷ more ∷ [])
AreRuns-more [] last more unlike some h = (h.0, unlike, (some, tt, tt))
AreRuns-more (p ∷ []) last more unlike some h = (h.0, h.1, AreRuns-more [] last more unlike some h.2)
AreRuns-more (p ∷ q ∷ front) last more unlike some h = (h.0, h.1, AreRuns-more (q ∷ front) last more unlike some h.2)

AreRuns-push : (ps : List Part) (more : Part) → ((front : List Part) (last : Part) → ps ≡ front ++ last ∷ [] → same_kind last more ≡ false) → 0 < part_len more
    → AreRuns ps → AreRuns (ps ++ more ∷ [])
AreRuns-push ps more unlike some h = elim (by_end ps) [
  | inl e ↦ rw e (some, tt, tt)
  | inr found ↦ rw (found.2, append_assoc) (AreRuns-more found.0 found.1 more (unlike found.0 found.1 found.2) some (let P : List Part → Type 0 = AreRuns in subst P found.2 h))
]

last_some : (front : List Part) (last : Part) → AreRuns (front ++ last ∷ []) → 0 < part_len last
last_some [] last h = h.0
last_some (p ∷ front) last h = last_some front last h.2

-- ---- parts that keep

keeps_joined : (m n : ℕ) → keep_marks (m + n) ≡ keep_marks m ++ keep_marks n
keeps_joined m n = sym (replicate-append-replicate m n Keep)

pub kept_grown : (ps : List Part) (len m n : ℕ) → len ≡ length ps → m ≡ kept_at_end ps → 0 < m → Appends ps (set ps (len - 1) (KeepRun (m + n))) (keep_marks n)
kept_grown ps len m n all is some =
    let end = kept_end ps m is some in
    rw (all, set_last end.front (KeepRun m) (KeepRun (m + n)) ps end.is) record {
      marks = marks_grown end.front (KeepRun m) (KeepRun n) (KeepRun (m + n)) ps end.is (keeps_joined m n);
      are_runs = λ h. AreRuns-grown end.front (KeepRun m) (KeepRun (m + n)) refl (omega arith) (subst AreRuns end.is h);
    }

not_keep : (front : List Part) (last : Part) (n : ℕ) → 0 ≡ kept_by (Some last) → AreRuns (front ++ last ∷ []) → same_kind last (KeepRun n) ≡ false
not_keep front (KeepRun m) n is h = let some = last_some front (KeepRun m) h in absurd (omega arith)
not_keep front last n is h = refl

pub keep_pushed : (ps new : List Part) (m n : ℕ) → m ≡ kept_at_end ps → m ≡ 0 → 0 < n → new ≡ ps ++ KeepRun n ∷ [] → Appends ps new (keep_marks n)
keep_pushed ps new m n is none some pushed = rw pushed record {
  marks = marks_of-last ps (KeepRun n);
  are_runs = λ h.
      let P : List Part → Type 0 = AreRuns in
      AreRuns-push ps (KeepRun n) (λ front last e. not_keep front last n (sym none ∙ is ∙ ap kept_at_end e ∙ ap kept_by (get_last front last)) (subst P e h)) some h;
}

-- ---- parts that remove

removes_joined : (m n : ℕ) → remove_marks (m + n) ≡ remove_marks m ++ remove_marks n
removes_joined m n = sym (replicate-append-replicate m n Remove)

pub removed_grown : (ps : List Part) (len m n : ℕ) → len ≡ length ps → m ≡ removed_at_end ps → 0 < m → Appends ps (set ps (len - 1) (RemoveRun (m + n))) (remove_marks n)
removed_grown ps len m n all is some =
    let end = removed_end ps m is some in
    rw (all, set_last end.front (RemoveRun m) (RemoveRun (m + n)) ps end.is) record {
      marks = marks_grown end.front (RemoveRun m) (RemoveRun n) (RemoveRun (m + n)) ps end.is (removes_joined m n);
      are_runs = λ h. AreRuns-grown end.front (RemoveRun m) (RemoveRun (m + n)) refl (omega arith) (subst AreRuns end.is h);
    }

not_remove : (front : List Part) (last : Part) (n : ℕ) → 0 ≡ removed_by (Some last) → AreRuns (front ++ last ∷ []) → same_kind last (RemoveRun n) ≡ false
not_remove front (RemoveRun m) n is h = let some = last_some front (RemoveRun m) h in absurd (omega arith)
not_remove front last n is h = refl

pub remove_pushed : (ps new : List Part) (m n : ℕ) → m ≡ removed_at_end ps → m ≡ 0 → 0 < n → new ≡ ps ++ RemoveRun n ∷ [] → Appends ps new (remove_marks n)
remove_pushed ps new m n is none some pushed = rw pushed record {
  marks = marks_of-last ps (RemoveRun n);
  are_runs = λ h.
      let P : List Part → Type 0 = AreRuns in
      AreRuns-push ps (RemoveRun n) (λ front last e. not_remove front last n (sym none ∙ is ∙ ap removed_at_end e ∙ ap removed_by (get_last front last)) (subst P e h)) some h;
}

-- ---- parts that insert

pub text_grown : (ps front new : List Part) (s t : List ℕ) → ps ≡ front ++ InsertText s ∷ [] → 0 < length t → new ≡ front ++ InsertText (s ++ t) ∷ [] → Appends ps new (insert_marks t)
text_grown ps front new s t is some grown = rw grown record {
  marks = marks_grown front (InsertText s) (InsertText t) (InsertText (s ++ t)) ps is (map-append Insert s t);
  are_runs = λ h.
      let n : 0 < length (s ++ t) = omega (arith, length-append s t) in
      AreRuns-grown front (InsertText s) (InsertText (s ++ t)) refl n (subst AreRuns is h);
}

not_insert : (last : Part) (t : List ℕ) → inserted_by (Some last) ≡ false → same_kind last (InsertText t) ≡ false
not_insert (InsertText text) t is = cc
not_insert last t is = refl

pub text_pushed : (ps new : List Part) (t : List ℕ) → text_at_end ps ≡ false → 0 < length t → new ≡ ps ++ InsertText t ∷ [] → Appends ps new (insert_marks t)
text_pushed ps new t none some pushed = rw pushed record {
  marks = marks_of-last ps (InsertText t);
  are_runs = λ h. AreRuns-push ps (InsertText t) (λ front last e. not_insert last t (sym (ap inserted_by (get_last front last)) ∙ sym (ap text_at_end e) ∙ none)) some h;
}

-- ---- no part is longer than the text before or after it

pub kept_fits : (ps : List Part) (n : ℕ) → n ≡ kept_at_end ps → 0 < n → n ≤ out_len (marks_of ps)
kept_fits ps n is some =
    let end = kept_end ps n is some in
    rw (end.is, marks_of-last end.front (KeepRun n), out_len-append, out_len-keep_marks) (omega arith)

pub removed_fits : (ps : List Part) (n : ℕ) → n ≡ removed_at_end ps → 0 < n → n ≤ base_len (marks_of ps)
removed_fits ps n is some =
    let end = removed_end ps n is some in
    rw (end.is, marks_of-last end.front (RemoveRun n), base_len-append, base_len-remove_marks) (omega arith)

pub text_fits : (ps front : List Part) (text : List ℕ) → ps ≡ front ++ InsertText text ∷ [] → length text ≤ out_len (marks_of ps)
text_fits ps front text is = rw (is, marks_of-last front (InsertText text), out_len-append, out_len-insert_marks) (omega arith)

-- parts that end with one that inserts end with no other
pub not_kept_end : (ps front : List Part) (n : ℕ) → text_at_end ps ≡ true → ps ≡ front ++ KeepRun n ∷ [] → ⊥
not_kept_end ps front n insert_marks is =
    let h : false ≡ true = sym (ap inserted_by (get_last front (KeepRun n))) ∙ sym (ap text_at_end is) ∙ insert_marks in cc

pub not_removed_end : (ps front : List Part) (n : ℕ) → text_at_end ps ≡ true → ps ≡ front ++ RemoveRun n ∷ [] → ⊥
not_removed_end ps front n insert_marks is =
    let h : false ≡ true = sym (ap inserted_by (get_last front (RemoveRun n))) ∙ sym (ap text_at_end is) ∙ insert_marks in cc

-- a text that may have grown by another stands at the end again
pub text_put_back : {A E : Type 0} (r : Result A E) (ps front new : List Part) (s joined t : List ℕ) → ps ≡ front ++ InsertText s ∷ [] → 0 < length t → OnOk r (joined ≡ s ++ t)
    → new ≡ front ++ InsertText joined ∷ [] → OnOk r (Appends ps new (insert_marks t))
text_put_back (Ok x) ps front new s joined t is some grown put = text_grown ps front new s t is some (put ∙ ap (λ u. front ++ InsertText u ∷ []) grown)
text_put_back (Err e) ps front new s joined t is some grown put = tt
