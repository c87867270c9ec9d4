-- Reading parts one after the other, as a loop does.
use Rattle.std.proofs.Common.{◌≡◌, ℕ, zero, suc, ◌+◌, ◌≤◌, ◌<◌, Bool, true, false, cond, eqb, List, [], ◌∷◌, ◌++◌, length, drop, Option, Some, None, Result, Ok, Err, refl, sym, ap, subst, ◌∙◌}
use Rattle.std.proofs.Common.{append_assoc, arith}
use Rattle.sporc_delta.proofs.Common.{eqb-true, eqb-false, ne_eqb, append-nil, IsTrue, ◌↔◌, slice_index, w64, from_be_bytes, chars, is_utf8, Part, InsertText, Remove, Mark, marks_of, kind_of}
use Rattle.sporc_delta.proofs.Common.{part_marks, kind_at, count_at, is_kind, body_at}
use Rattle.sporc_bytes.specs.Fields.{Reading, ◌>>=◌, bytes_at}
use Rattle.sporc_bytes.proofs.Fields.{bind_ok, bytes_len, fault_as_ok}
use Rattle.sporc_delta.specs.declared.fault.DeltaFault.{DeltaFault}
use Rattle.sporc_delta.specs.declared.fault.DeltaFault.TheVariants as faults
use Rattle.sporc_delta.specs.declared.part.Kind.{Kind}
use Rattle.sporc_delta.specs.declared.part.Kind.TheVariants as kinds
use Rattle.sporc_delta.specs.declared.part.Part.TheVariants.{Keep}
use Rattle.sporc_delta.specs.Reading.{piece_at, head_at, text_at, part_at, parts_at, read_delta}

-- what was read before, and what is still read
abbrev pub with_front : List Mark → Result (List Part) DeltaFault → Result (List Mark) DeltaFault
with_front front read = read >>= λ ps. Ok (front ++ marks_of ps)

-- a test that did not fail
pub guard_ok : {A : Type 0} (b : Bool) (d : DeltaFault) (x y : A) → cond b (Err d) (Ok x) ≡ Ok y → (b ≡ false) × (x ≡ y)
guard_ok true d x y e = absurd cc
guard_ok false d x y e = (refl, cc)

-- what is known of a kind and a count that were read, of a text and of a part
pub record HeadRead (before : Option Kind) (r : Reading) (head : Kind × ℕ × Reading) : Type 0 where
  pub front : List ℕ
  pub taken : bytes_at 9 r ≡ Ok (front, head.2)
  pub kind : kind_at (slice_index front 0) ≡ Ok head.0
  pub count : count_at (from_be_bytes w64 (drop 1 front)) ≡ Ok head.1
  pub unlike : is_kind before head.0 ≡ false

pub head_ok : (before : Option Kind) (r : Reading) (head : Kind × ℕ × Reading) → head_at before r ≡ Ok head → HeadRead before r head
unfolding head_at
head_ok before r head e =
    let a = bind_ok (piece_at 9 r)
    (λ x. kind_at (slice_index x.0 0) >>= λ kind. count_at (from_be_bytes w64 (drop 1 x.0)) >>= λ count. cond (is_kind before kind) (Err faults.SameNeighbours) (Ok (kind, count, x.1))) head e in
    let b = bind_ok (kind_at (slice_index a.0.0 0))
    (λ kind. count_at (from_be_bytes w64 (drop 1 a.0.0)) >>= λ count. cond (is_kind before kind) (Err faults.SameNeighbours) (Ok (kind, count, a.0.1))) head a.2 in
    let c = bind_ok (count_at (from_be_bytes w64 (drop 1 a.0.0))) (λ count. cond (is_kind before b.0) (Err faults.SameNeighbours) (Ok (b.0, count, a.0.1))) head b.2 in
    let g = guard_ok (is_kind before b.0) faults.SameNeighbours (b.0, c.0, a.0.1) head c.2 in
    subst (HeadRead before r) g.1 record { front = a.0.0; taken = fault_as_ok (λ _. faults.Short) (bytes_at 9 r) a.0 a.1; kind = b.1; count = c.1; unlike = g.0 }

pub record TextRead (n : ℕ) (r : Reading) (x : List ℕ × Reading) : Type 0 where
  pub front : List ℕ
  pub taken : bytes_at n r ≡ Ok (front, x.1)
  pub utf8 : is_utf8 front ≡ true
  pub is : chars front ≡ x.0

utf8_ok : (b : Bool) (d : DeltaFault) (x y : List ℕ × Reading) → cond b (Ok x) (Err d) ≡ Ok y → (b ≡ true) × (x ≡ y)
utf8_ok true d x y e = (refl, cc)
utf8_ok false d x y e = absurd cc

pub text_ok : (n : ℕ) (r : Reading) (x : List ℕ × Reading) → text_at n r ≡ Ok x → TextRead n r x
unfolding text_at
text_ok n r x e =
    let a = bind_ok (piece_at n r) (λ text. cond (is_utf8 text.0) (Ok (chars text.0, text.1)) (Err faults.NotUtf8)) x e in
    let g = utf8_ok (is_utf8 a.0.0) faults.NotUtf8 (chars a.0.0, a.0.1) x a.2 in
    subst (TextRead n r) g.1 record { front = a.0.0; taken = fault_as_ok (λ _. faults.Short) (bytes_at n r) a.0 a.1; utf8 = g.0; is = refl }

-- what is left is shorter
body_shorter : (kind : Kind) (n : ℕ) (r : Reading) (x : Part × Reading) → body_at kind n r ≡ Ok x → length x.1.rest ≤ length r.rest
body_shorter kinds.Keep n r x e =
    let same : (Keep n, r) ≡ x = cc in
    let l = ap (λ (p : Part × Reading). length p.1.rest) same in omega arith
body_shorter kinds.Insert n r x e =
    let a = bind_ok (text_at n r) (λ text. Ok (InsertText text.0, text.1)) x e in
    let same : (InsertText a.0.0, a.0.1) ≡ x = cc a.2 in
    let l = ap (λ (p : Part × Reading). length p.1.rest) same in
    let t = text_ok n r a.0 a.1 in
    omega (arith, bytes_len n r (t.front, a.0.1) t.taken)
body_shorter kinds.Remove n r x e =
    let same : (Remove n, r) ≡ x = cc in
    let l = ap (λ (p : Part × Reading). length p.1.rest) same in omega arith

part_shorter : (before : Option Kind) (r : Reading) (x : Part × Reading) → part_at before r ≡ Ok x → 9 + length x.1.rest ≤ length r.rest
unfolding part_at
part_shorter before r x e =
    let a = bind_ok (head_at before r) (λ head. body_at head.0 head.1 head.2) x e in
    let h = head_ok before r a.0 a.1 in
    omega (arith, bytes_len 9 r (h.front, a.0.2) h.taken, body_shorter a.0.0 a.0.1 a.0.2 x a.2)

-- the parts that begin with a first one, where bytes are left
abbrev more_parts : ℕ → Result (Part × Reading) DeltaFault → Result (List Part) DeltaFault
more_parts n first = first >>= λ x. parts_at n (Some (kind_of x.0)) x.1 >>= λ others. Ok (x.0 ∷ others)

some_parts : (n : ℕ) (before : Option Kind) (r : Reading) → 0 < length r.rest → parts_at (suc n) before r ≡ more_parts n (part_at before r)
unfolding parts_at
some_parts n before r some = let left : eqb (length r.rest) 0 ≡ false = ne_eqb (length r.rest) 0 (λ e. omega arith) in rw left refl

pub no_parts : (n : ℕ) (before : Option Kind) (r : Reading) → length r.rest ≡ 0 → parts_at n before r ≡ Ok []
unfolding parts_at
no_parts zero before r none = rw none refl
no_parts (suc n) before r none = rw none refl

-- more parts may be read than bytes are there
parts_at_more : (n m : ℕ) (before : Option Kind) (r : Reading) → length r.rest ≤ n → length r.rest ≤ m → parts_at n before r ≡ parts_at m before r
parts_at_more zero m before r a b = no_parts zero before r (omega arith) ∙ sym (no_parts m before r (omega arith))
parts_at_more (suc n) zero before r a b = no_parts (suc n) before r (omega arith) ∙ sym (no_parts zero before r (omega arith))
parts_at_more (suc n) (suc m) before r a b = by (λ x less. parts_at_more n m (Some (kind_of x.0)) x.1 (omega arith) (omega arith)) (eqb (length r.rest) 0) refl
  where
    go : ((x : Part × Reading) → 9 + length x.1.rest ≤ length r.rest → parts_at n (Some (kind_of x.0)) x.1 ≡ parts_at m (Some (kind_of x.0)) x.1) → (read : Result (Part × Reading) DeltaFault) → part_at before r ≡ read
        → more_parts n read ≡ more_parts m read
    go same (Err d) e = refl
    go same (Ok x) e = ap (λ (others : Result (List Part) DeltaFault). others >>= λ ps. Ok (x.0 ∷ ps)) (same x (part_shorter before r x e))

    by : ((x : Part × Reading) → 9 + length x.1.rest ≤ length r.rest → parts_at n (Some (kind_of x.0)) x.1 ≡ parts_at m (Some (kind_of x.0)) x.1) → (b : Bool) → eqb (length r.rest) 0 ≡ b
        → parts_at (suc n) before r ≡ parts_at (suc m) before r
    by same true e = no_parts (suc n) before r (eqb-true (length r.rest) 0 e) ∙ sym (no_parts (suc m) before r (eqb-true (length r.rest) 0 e))
    by same false e =
        let left = eqb-false (length r.rest) 0 e in
        let some : 0 < length r.rest = omega arith in
        some_parts n before r some ∙ go same (part_at before r) refl ∙ sym (some_parts m before r some)

-- as many parts as bytes are there: the first of them, and those behind it
first_of_all : (before : Option Kind) (r : Reading) (n : ℕ) → length r.rest ≡ suc n → parts_at (length r.rest) before r ≡ more_parts n (part_at before r)
first_of_all before r n len = rw len (some_parts n before r (omega arith))

-- the first part, and those behind it
next_part : (before : Option Kind) (r : Reading) (x : Part × Reading) → 0 < length r.rest → part_at before r ≡ Ok x
    → parts_at (length r.rest) before r ≡ (parts_at (length x.1.rest) (Some (kind_of x.0)) x.1 >>= λ others. Ok (x.0 ∷ others))
next_part before r x some e = by (length r.rest) refl
  where
    by : (k : ℕ) → length r.rest ≡ k → parts_at (length r.rest) before r ≡ (parts_at (length x.1.rest) (Some (kind_of x.0)) x.1 >>= λ others. Ok (x.0 ∷ others))
    by zero len = absurd (omega arith)
    by (suc n) len =
        let less = part_shorter before r x e in
        first_of_all before r n len ∙ ap (more_parts n) e
        ∙ ap (λ (read : Result (List Part) DeltaFault). read >>= λ others. Ok (x.0 ∷ others)) (parts_at_more n (length x.1.rest) (Some (kind_of x.0)) x.1 (omega arith) (omega arith))

regroup : (front : List Mark) (p : Part) (read : Result (List Part) DeltaFault) → with_front front (read >>= λ others. Ok (p ∷ others)) ≡ with_front (front ++ part_marks p) read
regroup front p (Ok ps) = ap (λ (ms : List Mark). Ok ms) (sym (append_assoc front (part_marks p) (marks_of ps)))
regroup front p (Err d) = refl

pub goes_on : (front : List Mark) (before : Option Kind) (r : Reading) (x : Part × Reading) (total : Result (List Mark) DeltaFault) → 0 < length r.rest → part_at before r ≡ Ok x
    → with_front front (parts_at (length r.rest) before r) ≡ total → with_front (front ++ part_marks x.0) (parts_at (length x.1.rest) (Some (kind_of x.0)) x.1) ≡ total
goes_on front before r x total some e so_far =
    sym (regroup front x.0 (parts_at (length x.1.rest) (Some (kind_of x.0)) x.1)) ∙ ap (with_front front) (sym (next_part before r x some e)) ∙ so_far

pub stops : (front : List Mark) (before : Option Kind) (r : Reading) (d : DeltaFault) (total : Result (List Mark) DeltaFault) → 0 < length r.rest → part_at before r ≡ Err d
    → with_front front (parts_at (length r.rest) before r) ≡ total → total ≡ Err d
stops front before r d total some e so_far = by (length r.rest) refl
  where
    by : (k : ℕ) → length r.rest ≡ k → total ≡ Err d
    by zero len = absurd (omega arith)
    by (suc n) len = sym so_far ∙ ap (with_front front) (first_of_all before r n len ∙ ap (more_parts n) e)

pub ended : (front : List Mark) (before : Option Kind) (r : Reading) (total : Result (List Mark) DeltaFault) → length r.rest ≡ 0
    → with_front front (parts_at (length r.rest) before r) ≡ total → total ≡ Ok front
ended front before r total none so_far = sym so_far ∙ ap (with_front front) (no_parts (length r.rest) before r none) ∙ ap (λ (ms : List Mark). Ok ms) (append-nil front)

pub begins : (bytes : List ℕ) → with_front [] (parts_at (length bytes) None (record { rest = bytes; at = 0 })) ≡ read_delta bytes
unfolding read_delta
begins bytes = refl

-- what the test for an end says
pub some_left : (bytes : List ℕ) → (IsTrue false ↔ (bytes ≡ [])) → 0 < length bytes
some_left [] h = let no : IsTrue false = h.1 refl in absurd cc
some_left (b ∷ bytes) h = omega arith

pub none_left : (bytes : List ℕ) → (IsTrue true ↔ (bytes ≡ [])) → length bytes ≡ 0
none_left bytes h = ap length (h.0 refl)
