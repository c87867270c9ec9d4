-- The parts of a delta are its runs of equal marks.
use Rattle.std.proofs.Common.{◌≡◌, ℕ, zero, suc, List, [], ◌∷◌, ◌++◌, Some, refl, ap, sym, ◌∙◌, append_assoc, arith}
use Rattle.sporc_delta.proofs.Common.{Part, KeepRun, InsertText, RemoveRun, Mark, Keep, Insert, keep_marks, remove_marks, insert_marks, part_marks, marks_of, with_mark, runs, BeginsUnlike, AreRuns}
use Rattle.sporc_delta.proofs.Common.{is_kind, kind_of, same_kind}
use Rattle.sporc_delta.specs.Marks.{Remove}

pub marks_of-append : (ps qs : List Part) → marks_of (ps ++ qs) ≡ marks_of ps ++ marks_of qs
marks_of-append [] qs = refl
marks_of-append (p ∷ ps) qs = ap (λ ms. part_marks p ++ ms) (marks_of-append ps qs) ∙ sym (append_assoc (part_marks p) (marks_of ps) (marks_of qs))

-- a run in front of parts that begin with another kind
with_first_keep : (ps : List Part) (n : ℕ) → BeginsUnlike (KeepRun n) ps → with_mark Keep ps ≡ KeepRun 1 ∷ ps
with_first_keep (KeepRun m ∷ ps) n h = cc
with_first_keep ps n h = refl

with_first_remove : (ps : List Part) (n : ℕ) → BeginsUnlike (RemoveRun n) ps → with_mark Remove ps ≡ RemoveRun 1 ∷ ps
with_first_remove (RemoveRun m ∷ ps) n h = cc
with_first_remove ps n h = refl

with_first_insert : (ps : List Part) (t : List ℕ) (c : ℕ) → BeginsUnlike (InsertText t) ps → with_mark (Insert c) ps ≡ InsertText (c ∷ []) ∷ ps
with_first_insert (InsertText u ∷ ps) t c h = cc
with_first_insert ps t c h = refl

runs-keep_marks : (n : ℕ) (ms : List Mark) (ps : List Part) → runs ms ≡ ps → BeginsUnlike (KeepRun n) ps → runs (keep_marks (suc n) ++ ms) ≡ KeepRun (suc n) ∷ ps
runs-keep_marks zero ms ps is unlike = rw is (with_first_keep ps zero unlike)
runs-keep_marks (suc n) ms ps is unlike = rw (runs-keep_marks n ms ps is unlike) refl

runs-remove_marks : (n : ℕ) (ms : List Mark) (ps : List Part) → runs ms ≡ ps → BeginsUnlike (RemoveRun n) ps → runs (remove_marks (suc n) ++ ms) ≡ RemoveRun (suc n) ∷ ps
runs-remove_marks zero ms ps is unlike = rw is (with_first_remove ps zero unlike)
runs-remove_marks (suc n) ms ps is unlike = rw (runs-remove_marks n ms ps is unlike) refl

runs-insert_marks : (c : ℕ) (t : List ℕ) (ms : List Mark) (ps : List Part) → runs ms ≡ ps → BeginsUnlike (InsertText t) ps → runs (insert_marks (c ∷ t) ++ ms) ≡ InsertText (c ∷ t) ∷ ps
runs-insert_marks c [] ms ps is unlike = rw is (with_first_insert ps [] c unlike)
runs-insert_marks c (d ∷ t) ms ps is unlike = rw (runs-insert_marks d t ms ps is unlike) refl

-- such a list of parts is the one of its marks
pub runs-marks_of : (ps : List Part) → AreRuns ps → runs (marks_of ps) ≡ ps
runs-marks_of [] h = refl
runs-marks_of (KeepRun (suc n) ∷ ps) h = runs-keep_marks n (marks_of ps) ps (runs-marks_of ps h.2) h.1
runs-marks_of (InsertText (c ∷ t) ∷ ps) h = runs-insert_marks c t (marks_of ps) ps (runs-marks_of ps h.2) h.1
runs-marks_of (RemoveRun (suc n) ∷ ps) h = runs-remove_marks n (marks_of ps) ps (runs-marks_of ps h.2) h.1
runs-marks_of ps h = absurd (omega arith)

-- and the runs of marks are such a list, with these marks
marks_of-with_mark : (m : Mark) (ps : List Part) → marks_of (with_mark m ps) ≡ m ∷ marks_of ps
marks_of-with_mark Keep (KeepRun n ∷ ps) = refl
marks_of-with_mark Remove (RemoveRun n ∷ ps) = refl
marks_of-with_mark (Insert c) (InsertText text ∷ ps) = refl
marks_of-with_mark m ps = refl

pub marks_of-runs : (ms : List Mark) → marks_of (runs ms) ≡ ms
marks_of-runs [] = refl
marks_of-runs (m ∷ ms) = marks_of-with_mark m (runs ms) ∙ ap (λ ns. m ∷ ns) (marks_of-runs ms)

pub same_is_kind : (p q : Part) → is_kind (Some (kind_of p)) (kind_of q) ≡ same_kind p q
same_is_kind (KeepRun m) (KeepRun n) = refl
same_is_kind (InsertText s) (InsertText t) = refl
same_is_kind (RemoveRun m) (RemoveRun n) = refl
same_is_kind p q = refl

still_unlike : (p q : Part) (ps : List Part) → kind_of p ≡ kind_of q → BeginsUnlike p ps → BeginsUnlike q ps
still_unlike p q [] like h = tt
still_unlike p q (r ∷ ps) like h = sym (same_is_kind q r) ∙ ap (λ k. is_kind (Some k) (kind_of r)) (sym like) ∙ same_is_kind p r ∙ h

AreRuns-with_mark : (m : Mark) (ps : List Part) → AreRuns ps → AreRuns (with_mark m ps)
AreRuns-with_mark Keep (KeepRun n ∷ ps) h = (omega arith, still_unlike (KeepRun n) (KeepRun (suc n)) ps refl h.1, h.2)
AreRuns-with_mark Remove (RemoveRun n ∷ ps) h = (omega arith, still_unlike (RemoveRun n) (RemoveRun (suc n)) ps refl h.1, h.2)
AreRuns-with_mark (Insert c) (InsertText text ∷ ps) h = (omega arith, still_unlike (InsertText text) (InsertText (c ∷ text)) ps refl h.1, h.2)
AreRuns-with_mark m [] h = (omega arith, tt, tt)
AreRuns-with_mark m ps h = (omega arith, refl, h)

pub AreRuns-runs : (ms : List Mark) → AreRuns (runs ms)
AreRuns-runs [] = tt
AreRuns-runs (m ∷ ms) = AreRuns-with_mark m (runs ms) (AreRuns-runs ms)
