-- The steps of two deltas over one text, run by run.
use Rattle.std.proofs.Common.{◌≡◌, ℕ, zero, suc, ◌+◌, ◌-◌, ◌<◌, ◌≤◌, Bool, true, false, List, [], ◌∷◌, ◌++◌, length, map, take, min, refl, ap, sym, ◌∙◌, append_assoc, arith, eqb, cond, eq-eqb}
use Rattle.sporc_xform.proofs.Common.{replicate, replicate-append-replicate, take_all, eqb-true, eqb-false, Mark, Keep, Remove, base_len, keep_marks, remove_marks, insert_marks, marks_of, AreRuns}
use Rattle.sporc_xform.proofs.Common.{Earlier, Later, Both, steps, base_len-append, base_len-keep_marks, base_len-remove_marks, base_len-insert_marks, cut, without, first_len, first_text}
use Rattle.sporc_xform.proofs.Common.{first_inserts, first_removes, NoneEmpty, base_mark}
use Rattle.sporc_delta.specs.declared.part.Part.{Part}
use Rattle.sporc_delta.specs.declared.part.Part.TheVariants.{Keep as KeepRun, Insert as InsertText, Remove as RemoveRun}

-- runs of a delta are not empty
pub NoneEmpty-runs : (ps : List Part) → AreRuns ps → NoneEmpty ps
NoneEmpty-runs [] h = tt
NoneEmpty-runs (p ∷ ps) h = (h.0, NoneEmpty-runs ps h.2)

-- an insertion of the earlier one comes first
earlier_first : (text : List ℕ) (p q : List Mark) → steps (insert_marks text ++ p) q ≡ map Earlier text ++ steps p q
earlier_first [] p q = refl
earlier_first (c ∷ text) p q = ap (λ u. Earlier c ∷ u) (earlier_first text p q)

-- then one of the later one, where the earlier one has none
later_alone : (text : List ℕ) (q : List Mark) → steps [] (insert_marks text ++ q) ≡ map Later text ++ steps [] q
later_alone [] q = refl
later_alone (c ∷ text) q = ap (λ u. Later c ∷ u) (later_alone text q)

later_keep : (text : List ℕ) (p q : List Mark) → steps (Keep ∷ p) (insert_marks text ++ q) ≡ map Later text ++ steps (Keep ∷ p) q
later_keep [] p q = refl
later_keep (c ∷ text) p q = ap (λ u. Later c ∷ u) (later_keep text p q)

later_remove : (text : List ℕ) (p q : List Mark) → steps (Remove ∷ p) (insert_marks text ++ q) ≡ map Later text ++ steps (Remove ∷ p) q
later_remove [] p q = refl
later_remove (c ∷ text) p q = ap (λ u. Later c ∷ u) (later_remove text p q)

-- then both marks of each character
both_first : (m n : Bool) (k : ℕ) (p q : List Mark) → steps (replicate k (base_mark m) ++ p) (replicate k (base_mark n) ++ q) ≡ replicate k (Both (base_mark m) (base_mark n)) ++ steps p q
both_first m n zero p q = refl
both_first true true (suc k) p q = ap (λ u. Both Remove Remove ∷ u) (both_first true true k p q)
both_first true false (suc k) p q = ap (λ u. Both Remove Keep ∷ u) (both_first true false k p q)
both_first false true (suc k) p q = ap (λ u. Both Keep Remove ∷ u) (both_first false true k p q)
both_first false false (suc k) p q = ap (λ u. Both Keep Keep ∷ u) (both_first false false k p q)

-- ---- the first part of a list of parts

part_cut : (m n : ℕ) (x : Mark) → n ≤ m → replicate m x ≡ replicate n x ++ replicate (m - n) x
part_cut m n x h = let e : m ≡ n + (m - n) = omega arith in ap (λ k. replicate k x) e ∙ sym (replicate-append-replicate n (m - n) x)

-- a text that comes first, whole
pub record TextFirst (ps new : List Part) (text : List ℕ) : Type 0 where
  pub marks : marks_of ps ≡ insert_marks text ++ marks_of new

pub text_first : (ps new : List Part) (text : List ℕ) → first_inserts ps ≡ true → text ≡ take (first_len ps) (first_text ps) → new ≡ without (first_len ps) ps → TextFirst ps new text
text_first (InsertText all ∷ ps) new text h t n =
    let whole : text ≡ all = t ∙ take_all (length all) all (omega arith) in
    let rest : new ≡ ps = n ∙ ap (λ b. cond b ps (cut (length all) (InsertText all ∷ ps))) (eq-eqb (length all) (length all) refl) in
    record { marks = rw (whole, rest) refl }
text_first _ new text h t n = absurd cc

-- so many marks of a run
run_cut : (m : ℕ) (ps new : List Part) (part : ℕ → Part) (x : Mark) → ((k : ℕ) → marks_of (part k ∷ ps) ≡ replicate k x ++ marks_of ps) → (n : ℕ) → n ≤ m → new ≡ cond (eqb m n) ps (part (m - n) ∷ ps)
    → replicate m x ++ marks_of ps ≡ replicate n x ++ marks_of new
run_cut m ps new part x spells n le is = go (eqb m n) refl
  where
    go : (b : Bool) → eqb m n ≡ b → replicate m x ++ marks_of ps ≡ replicate n x ++ marks_of new
    go true e =
        let same : m ≡ n = eqb-true m n e in
        let rest : new ≡ ps = is ∙ ap (λ b. cond b ps (part (m - n) ∷ ps)) e in
        rw (rest, same) refl
    go false e =
        let rest : new ≡ part (m - n) ∷ ps = is ∙ ap (λ b. cond b ps (part (m - n) ∷ ps)) e in
        ap (λ ms. ms ++ marks_of ps) (part_cut m n x le) ∙ append_assoc (replicate n x) (replicate (m - n) x) (marks_of ps) ∙ ap (λ ms. replicate n x ++ ms) (sym (spells (m - n)) ∙ ap marks_of (sym rest))

-- so many marks of a first part that keeps or removes
pub run_first : (ps new : List Part) (n : ℕ) → first_inserts ps ≡ false → n ≤ first_len ps → 0 < n → new ≡ without n ps → marks_of ps ≡ replicate n (base_mark (first_removes ps)) ++ marks_of new
run_first [] new n h le some is = absurd (omega arith)
run_first (InsertText text ∷ ps) new n h le some is = absurd cc
run_first (KeepRun m ∷ ps) new n h le some is = run_cut m ps new KeepRun Keep (λ k. refl) n le is
run_first (RemoveRun m ∷ ps) new n h le some is = run_cut m ps new RemoveRun Remove (λ k. refl) n le is

-- ---- the steps of two lists of parts

pub earlier_text : (ps new : List Part) (q : List Mark) (text : List ℕ) → first_inserts ps ≡ true → text ≡ take (first_len ps) (first_text ps) → new ≡ without (first_len ps) ps
    → steps (marks_of ps) q ≡ map Earlier text ++ steps (marks_of new) q
earlier_text ps new q text h t n = rw (text_first ps new text h t n).marks (earlier_first text (marks_of new) q)

pub text_base : (ps new : List Part) (text : List ℕ) → first_inserts ps ≡ true → text ≡ take (first_len ps) (first_text ps) → new ≡ without (first_len ps) ps → base_len (marks_of ps) ≡ base_len (marks_of new)
text_base ps new text h t n = rw ((text_first ps new text h t n).marks, base_len-append, base_len-insert_marks) (omega arith)

later_behind : (ps : List Part) (q : List Mark) (text : List ℕ) → NoneEmpty ps → first_inserts ps ≡ false → steps (marks_of ps) (insert_marks text ++ q) ≡ map Later text ++ steps (marks_of ps) q
later_behind [] q text some h = later_alone text q
later_behind (KeepRun (suc n) ∷ ps) q text some h = later_keep text (keep_marks n ++ marks_of ps) q
later_behind (InsertText t ∷ ps) q text some h = absurd cc
later_behind (RemoveRun (suc n) ∷ ps) q text some h = later_remove text (remove_marks n ++ marks_of ps) q
later_behind ps q text some h = absurd (omega arith)

pub later_text : (ps qs new : List Part) (text : List ℕ) → NoneEmpty ps → first_inserts ps ≡ false → first_inserts qs ≡ true → text ≡ take (first_len qs) (first_text qs) → new ≡ without (first_len qs) qs
    → steps (marks_of ps) (marks_of qs) ≡ map Later text ++ steps (marks_of ps) (marks_of new)
later_text ps qs new text some none h t n = rw (text_first qs new text h t n).marks (later_behind ps (marks_of new) text some none)

-- both lists without so many marks
pub record BothFirst (ps qs ps' qs' : List Part) (n : ℕ) : Type 0 where
  pub steps_are : steps (marks_of ps) (marks_of qs) ≡ replicate n (Both (base_mark (first_removes ps)) (base_mark (first_removes qs))) ++ steps (marks_of ps') (marks_of qs')
  pub base : base_len (marks_of ps) ≡ base_len (marks_of qs) → base_len (marks_of ps') ≡ base_len (marks_of qs')

pub base_len-marks : (m : Bool) (n : ℕ) → base_len (replicate n (base_mark m)) ≡ n
base_len-marks true n = base_len-remove_marks n
base_len-marks false n = base_len-keep_marks n

pub both_runs : (ps qs ps' qs' : List Part) (n : ℕ) → first_inserts ps ≡ false → first_inserts qs ≡ false → n ≡ min (first_len ps) (first_len qs) → 0 < n → ps' ≡ without n ps → qs' ≡ without n qs
    → BothFirst ps qs ps' qs' n
both_runs ps qs ps' qs' n hp hq is some np nq =
    let p = run_first ps ps' n hp (omega arith) some np in
    let q = run_first qs qs' n hq (omega arith) some nq in
    record {
      steps_are = rw (p, q) (both_first (first_removes ps) (first_removes qs) n (marks_of ps') (marks_of qs'));
      base = λ same.
          let a = ap base_len p ∙ base_len-append (replicate n (base_mark (first_removes ps))) (marks_of ps') in
          let b = ap base_len q ∙ base_len-append (replicate n (base_mark (first_removes qs))) (marks_of qs') in
          omega (arith, base_len-marks (first_removes ps) n, base_len-marks (first_removes qs) n);
    }

-- no part is left of the one, and then none of the other
pub no_part : (ps : List Part) → NoneEmpty ps → first_len ps ≡ 0 → ps ≡ []
no_part [] some h = refl
no_part (p ∷ ps) some h = absurd (omega arith)

pub no_base : (ps : List Part) → NoneEmpty ps → first_inserts ps ≡ false → base_len (marks_of ps) ≡ 0 → ps ≡ []
no_base [] some h b = refl
no_base (KeepRun n ∷ ps) some h b = absurd (omega (arith, base_len-append (keep_marks n) (marks_of ps), base_len-keep_marks n))
no_base (InsertText text ∷ ps) some h b = absurd cc
no_base (RemoveRun n ∷ ps) some h b = absurd (omega (arith, base_len-append (remove_marks n) (marks_of ps), base_len-remove_marks n))

pub no_steps : (ps qs : List Part) → NoneEmpty ps → NoneEmpty qs → first_inserts ps ≡ false → first_inserts qs ≡ false → base_len (marks_of ps) ≡ base_len (marks_of qs)
    → min (first_len ps) (first_len qs) ≡ 0 → steps (marks_of ps) (marks_of qs) ≡ []
no_steps ps qs sp sq hp hq base none = go (eqb (first_len ps) 0) refl
  where
    go : (b : Bool) → eqb (first_len ps) 0 ≡ b → steps (marks_of ps) (marks_of qs) ≡ []
    go true e =
        let p = no_part ps sp (eqb-true (first_len ps) 0 e) in
        let q = no_base qs sq hq (sym base ∙ ap (λ r. base_len (marks_of r)) p) in
        rw (p, q) refl
    go false e =
        let n = eqb-false (first_len ps) 0 e in
        let q = no_part qs sq (omega arith) in
        let p = no_base ps sp hp (base ∙ ap (λ r. base_len (marks_of r)) q) in
        rw (p, q) refl
