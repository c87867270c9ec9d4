-- The pieces of two deltas that follow each other.
use Rattle.std.proofs.Common.{◌≡◌, ℕ, zero, suc, ◌+◌, ◌<◌, ◌≤◌, Bool, true, false, List, [], ◌∷◌, ◌++◌, length, drop, take, min, refl, ap, sym, ◌∙◌, append_assoc, arith, eqb, cond}
use Rattle.sporc_xform.proofs.Common.{replicate, take_all, take-append-drop, map-append, length-take, length-append, length-map, length-replicate, eqb-true, eqb-false, MAX_TEXT_LEN, Mark, Keep, Remove}
use Rattle.sporc_xform.proofs.Common.{Insert, base_len, out_len, keep_marks, remove_marks, insert_marks, marks_of, compose, base_len-append, base_len-insert_marks, out_len-append, out_len-keep_marks}
use Rattle.sporc_xform.proofs.Common.{out_len-remove_marks, out_len-insert_marks, cut, without, first_len, first_text, first_inserts, first_removes, NoneEmpty, InARowInvariant, base_mark}
use Rattle.sporc_delta.specs.declared.part.Part.{Part}
use Rattle.sporc_delta.specs.declared.part.Part.TheVariants.{Keep as KeepRun, Insert as InsertText, Remove as RemoveRun}
use Rattle.sporc_xform.specs.Chunks.{through_marks}
use Rattle.sporc_xform.proofs.LawLemmas.{composes}
use Rattle.sporc_xform.proofs.Steps.{text_first, run_first, base_len-marks, no_part, no_base}

-- ---- over marks

-- an insertion of the second comes first
second_first : (p : List Mark) (text : List ℕ) (q : List Mark) → compose p (insert_marks text ++ q) ≡ insert_marks text ++ compose p q
second_first (Keep ∷ p) [] q = refl
second_first _ [] q = refl
second_first (Keep ∷ p) (c ∷ text) q = ap (λ ms. Insert c ∷ ms) (second_first (Keep ∷ p) text q)
second_first p (c ∷ text) q = ap (λ ms. Insert c ∷ ms) (second_first p text q)

-- then a removal of the first
removal_first : (p : List Mark) (qs : List Part) → NoneEmpty qs → first_inserts qs ≡ false → compose (Remove ∷ p) (marks_of qs) ≡ Remove ∷ compose p (marks_of qs)
removal_first p (KeepRun zero ∷ qs) some none = absurd (omega arith)
removal_first p (InsertText text ∷ qs) some none = absurd cc
removal_first p (RemoveRun zero ∷ qs) some none = absurd (omega arith)
removal_first p _ some none = refl

removals_first : (n : ℕ) (p : List Mark) (qs : List Part) → NoneEmpty qs → first_inserts qs ≡ false → compose (remove_marks n ++ p) (marks_of qs) ≡ remove_marks n ++ compose p (marks_of qs)
removals_first zero p qs some none = refl
removals_first (suc n) p qs some none = removal_first (remove_marks n ++ p) qs some none ∙ ap (λ ms. Remove ∷ ms) (removals_first n p qs some none)

-- then both marks of each character between them
kept_through : (removed : Bool) (n : ℕ) (text : List ℕ) (p q : List Mark) → compose (keep_marks n ++ p) (replicate n (base_mark removed) ++ q) ≡ through_marks false removed text n ++ compose p q
kept_through true zero text p q = refl
kept_through true (suc n) text p q = ap (λ ms. Remove ∷ ms) (kept_through true n text p q)
kept_through false zero text p q = refl
kept_through false (suc n) text p q = ap (λ ms. Keep ∷ ms) (kept_through false n text p q)

inserted_through : (removed : Bool) (text : List ℕ) (p q : List Mark)
    → compose (insert_marks text ++ p) (replicate (length text) (base_mark removed) ++ q) ≡ through_marks true removed text (length text) ++ compose p q
inserted_through true [] p q = refl
inserted_through true (c ∷ text) p q = inserted_through true text p q
inserted_through false [] p q = refl
inserted_through false (c ∷ text) p q = ap (λ ms. Insert c ∷ ms) (inserted_through false text p q)

-- ---- over parts

-- the first characters of a text that comes first
record TextCut (ps new : List Part) (text : List ℕ) (n : ℕ) : Type 0 where
  pub marks : marks_of ps ≡ insert_marks text ++ marks_of new
  pub len : length text ≡ n

text_cut : (ps new : List Part) (text : List ℕ) (n : ℕ) → first_inserts ps ≡ true → n ≤ first_len ps → text ≡ take n (first_text ps) → new ≡ without n ps → TextCut ps new text n
text_cut (InsertText all ∷ ps) new text n h le t is = go (eqb (length all) n) refl
  where
    go : (b : Bool) → eqb (length all) n ≡ b → TextCut (InsertText all ∷ ps) new text n
    go true e =
        let same : length all ≡ n = eqb-true (length all) n e in
        let rest : new ≡ ps = is ∙ ap (λ b. cond b ps (cut n (InsertText all ∷ ps))) e in
        let whole : text ≡ all = t ∙ take_all n all (omega arith) in
        record { marks = rw (rest, whole) refl; len = rw whole same }
    go false e =
        let rest : new ≡ InsertText (drop n all) ∷ ps = is ∙ ap (λ b. cond b ps (cut n (InsertText all ∷ ps))) e in
        record {
          marks = rw (rest, t) (ap (λ ms. ms ++ marks_of ps) (ap insert_marks (sym (take-append-drop n all)) ∙ map-append Insert (take n all) (drop n all)) ∙ append_assoc (insert_marks (take n all)) (insert_marks (drop n all)) (marks_of ps));
          len = rw t (omega (arith, length-take n all));
        }
text_cut _ new text n h le t is = absurd cc

-- what was taken off two deltas that follow each other
pub record Takes (ps qs ps' qs' : List Part) (marks : List Mark) : Type 0 where
  pub taken : compose (marks_of ps) (marks_of qs) ≡ marks ++ compose (marks_of ps') (marks_of qs')
  pub between : out_len (marks_of ps') ≡ base_len (marks_of qs')
  pub less : length (marks_of ps') + length (marks_of qs') < length (marks_of ps) + length (marks_of qs)

-- a list that begins with a text or a run is longer by it
longer : {X : Type 0} (all front rest : List X) → all ≡ front ++ rest → length all ≡ length front + length rest
longer all front rest is = ap length is ∙ length-append front rest

pub take_second : (ps qs new : List Part) (text : List ℕ) → InARowInvariant ps qs → first_inserts qs ≡ true → text ≡ take (first_len qs) (first_text qs) → new ≡ without (first_len qs) qs → Takes ps qs ps new (insert_marks text)
take_second ps qs new text row h t is =
    let q = (text_first qs new text h t is).marks in
    let some = first_text_some qs row.second_none_empty h in
    let whole : length text ≡ first_len qs = (text_cut qs new text (first_len qs) h (omega arith) t is).len in
    record {
      taken = ap (compose (marks_of ps)) q ∙ second_first (marks_of ps) text (marks_of new);
      between = omega (arith, row.between, ap base_len q, base_len-append (insert_marks text) (marks_of new), base_len-insert_marks text);
      less = omega (arith, longer (marks_of qs) (insert_marks text) (marks_of new) q, length-map {A = ℕ} {B = Mark});
    }
  where
    first_text_some : (qs : List Part) → NoneEmpty qs → first_inserts qs ≡ true → 0 < first_len qs
    first_text_some [] some h = absurd cc
    first_text_some (p ∷ qs) some h = some.0

-- a first part that removes does not insert
removes_alone : (ps : List Part) → first_removes ps ≡ true → first_inserts ps ≡ false
removes_alone (InsertText text ∷ ps) h = absurd cc
removes_alone _ h = refl

pub take_removal : (ps qs new : List Part) → InARowInvariant ps qs → first_inserts qs ≡ false → first_removes ps ≡ true → new ≡ without (first_len ps) ps → Takes ps qs new qs (remove_marks (first_len ps))
take_removal ps qs new row none h is =
    let some = first_removal_some ps row.first_none_empty h in
    let p : marks_of ps ≡ remove_marks (first_len ps) ++ marks_of new =
    run_first ps new (first_len ps) (removes_alone ps h) (omega arith) some is ∙ ap (λ b. replicate (first_len ps) (base_mark b) ++ marks_of new) h in
    record {
      taken = ap (λ ms. compose ms (marks_of qs)) p ∙ removals_first (first_len ps) (marks_of new) qs row.second_none_empty none;
      between = omega (arith, row.between, ap out_len p, out_len-append (remove_marks (first_len ps)) (marks_of new), out_len-remove_marks (first_len ps));
      less = omega (arith, longer (marks_of ps) (remove_marks (first_len ps)) (marks_of new) p, length-replicate (first_len ps) Remove);
    }
  where
    first_removal_some : (ps : List Part) → NoneEmpty ps → first_removes ps ≡ true → 0 < first_len ps
    first_removal_some [] some h = absurd cc
    first_removal_some (p ∷ ps) some h = some.0

-- the first keeps characters
take_kept : (removed : Bool) (n : ℕ) (text : List ℕ) (ps qs ps' qs' : List Part) → 0 < n → InARowInvariant ps qs → marks_of ps ≡ keep_marks n ++ marks_of ps' → marks_of qs ≡ replicate n (base_mark removed) ++ marks_of qs'
    → Takes ps qs ps' qs' (through_marks false removed text n)
take_kept removed n text ps qs ps' qs' some row p q = record {
  taken = rw (p, q) (kept_through removed n text (marks_of ps') (marks_of qs'));
  between = omega (arith, row.between, ap out_len p, ap base_len q, out_len-append (keep_marks n) (marks_of ps'), out_len-keep_marks n, base_len-append (replicate n (base_mark removed)) (marks_of qs'), base_len-marks removed n);
  less = omega (arith, longer (marks_of ps) (keep_marks n) (marks_of ps') p, longer (marks_of qs) (replicate n (base_mark removed)) (marks_of qs') q, length-replicate n Keep, length-replicate n (base_mark removed));
}

-- the first inserts them
take_inserted : (removed : Bool) (text : List ℕ) (ps qs ps' qs' : List Part) → 0 < length text → InARowInvariant ps qs → marks_of ps ≡ insert_marks text ++ marks_of ps'
    → marks_of qs ≡ replicate (length text) (base_mark removed) ++ marks_of qs' → Takes ps qs ps' qs' (through_marks true removed text (length text))
take_inserted removed text ps qs ps' qs' some row p q = record {
  taken = rw (p, q) (inserted_through removed text (marks_of ps') (marks_of qs'));
  between = omega (arith, row.between, ap out_len p, ap base_len q, out_len-append (insert_marks text) (marks_of ps'), out_len-insert_marks text, base_len-append (replicate (length text) (base_mark removed)) (marks_of qs'), base_len-marks removed (length text));
  less = omega (arith, longer (marks_of ps) (insert_marks text) (marks_of ps') p, longer (marks_of qs) (replicate (length text) (base_mark removed)) (marks_of qs') q, length-map {A = ℕ} {B = Mark}, length-replicate (length text) (base_mark removed));
}

pub take_through : (inserted removed : Bool) (n : ℕ) (text : List ℕ) (ps qs ps' qs' : List Part) → inserted ≡ first_inserts ps → removed ≡ first_removes qs → InARowInvariant ps qs → first_inserts qs ≡ false → first_removes ps ≡ false
    → n ≡ min (first_len ps) (first_len qs) → 0 < n → text ≡ take n (first_text ps) → ps' ≡ without n ps → qs' ≡ without n qs → Takes ps qs ps' qs' (through_marks inserted removed text n)
take_through true removed n text ps qs ps' qs' i r row none keeps is some t np nq =
    let c = text_cut ps ps' text n (sym i) (omega arith) t np in
    let q = run_first qs qs' n none (omega arith) some nq ∙ ap (λ b. replicate n (base_mark b) ++ marks_of qs') (sym r) in
    rw (← c.len) (take_inserted removed text ps qs ps' qs' (omega (arith, c.len)) row c.marks (q ∙ ap (λ k. replicate k (base_mark removed) ++ marks_of qs') (sym c.len)))
take_through false removed n text ps qs ps' qs' i r row none keeps is some t np nq =
    let p = run_first ps ps' n (sym i) (omega arith) some np ∙ ap (λ b. replicate n (base_mark b) ++ marks_of ps') keeps in
    let q = run_first qs qs' n none (omega arith) some nq ∙ ap (λ b. replicate n (base_mark b) ++ marks_of qs') (sym r) in
    take_kept removed n text ps qs ps' qs' some row p q

no_out : (ps : List Part) → NoneEmpty ps → first_removes ps ≡ false → out_len (marks_of ps) ≡ 0 → ps ≡ []
no_out [] some h b = refl
no_out (KeepRun n ∷ ps) some h b = absurd (omega (arith, out_len-append (keep_marks n) (marks_of ps), out_len-keep_marks n))
no_out (InsertText text ∷ ps) some h b = absurd (omega (arith, out_len-append (insert_marks text) (marks_of ps), out_len-insert_marks text))
no_out (RemoveRun n ∷ ps) some h b = absurd cc

pub no_chunk : (ps qs : List Part) → InARowInvariant ps qs → first_inserts qs ≡ false → first_removes ps ≡ false → min (first_len ps) (first_len qs) ≡ 0 → compose (marks_of ps) (marks_of qs) ≡ []
no_chunk ps qs row hq hp none = go (eqb (first_len ps) 0) refl
  where
    go : (b : Bool) → eqb (first_len ps) 0 ≡ b → compose (marks_of ps) (marks_of qs) ≡ []
    go true e =
        let p = no_part ps row.first_none_empty (eqb-true (first_len ps) 0 e) in
        let q = no_base qs row.second_none_empty hq (sym row.between ∙ ap (λ r. out_len (marks_of r)) p) in
        rw (p, q) refl
    go false e =
        let n = eqb-false (first_len ps) 0 e in
        let q = no_part qs row.second_none_empty (omega arith) in
        let p = no_out ps row.first_none_empty hp (row.between ∙ ap (λ r. base_len (marks_of r)) q) in
        rw (p, q) refl

-- ---- a delta that grows chunk by chunk

-- the delta so far, with the marks that are left, is the whole
pub record Composed (delta left whole : List Mark) : Type 0 where
  pub so_far : delta ++ left ≡ whole
  pub base_limit : base_len whole ≤ MAX_TEXT_LEN
  pub out_limit : out_len whole ≤ MAX_TEXT_LEN

pub Composed-start : (delta p q first second : List Mark) → delta ≡ [] → first ≡ p → second ≡ q → out_len p ≡ base_len q → base_len p ≤ MAX_TEXT_LEN → out_len q ≤ MAX_TEXT_LEN → Composed delta (compose first second) (compose p q)
Composed-start delta p q first second none f s between base out =
    let lens = composes p q between in
    rw (none, f, s) record { so_far = refl; base_limit = omega (arith, lens.base); out_limit = omega (arith, lens.out) }

-- there is room for the next chunk
pub Composed-room : (delta left chunk after whole : List Mark) → left ≡ chunk ++ after → Composed delta left whole → (base_len delta + base_len chunk ≤ MAX_TEXT_LEN) × (out_len delta + out_len chunk ≤ MAX_TEXT_LEN)
Composed-room delta left chunk after whole is c =
    let all : delta ++ (chunk ++ after) ≡ whole = ap (λ ms. delta ++ ms) (sym is) ∙ c.so_far in
    (omega (arith, c.base_limit, ap base_len all, base_len-append delta (chunk ++ after), base_len-append chunk after), omega (arith, c.out_limit, ap out_len all, out_len-append delta (chunk ++ after), out_len-append chunk after))
