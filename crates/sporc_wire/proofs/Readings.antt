-- A stream has one reading, whatever pieces it comes in.
use Rattle.std.proofs.Common.{◌≡◌, ℕ, List, [], ◌∷◌, ◌++◌, length, take, drop, Option, Some, None, Result, Ok, Err, refl, sym, ap, ap₂, ◌∙◌, subst, arith, inl, inr, length-append}
use Rattle.sporc_wire.proofs.Common.{cases_lt, take-append-le, drop-append-le, w32, from_be_bytes, MAX_BODY, FrameFault, FirstFrame, partial, too_long, whole, first_frame, frame_of_len, Unread}
use Rattle.sporc_wire.proofs.Common.{stream_of, next_unless, next_frame, next_read}
use Rattle.sporc_wire.specs.Messages.{HandsOut, AreMessages, fed, next}
use Rattle.sporc_wire.proofs.Fronts.{frame_of_len-big, frame_of_len-short, frame_of_len-whole, first_frame-short, first_frame-long}
use Rattle.sporc_wire.proofs.Nexts.{next-message}

-- ---- a body that is there in whole stays so where more bytes come

frame_of_len-more : (len : ℕ) (xs more body rest : List ℕ) → frame_of_len len xs ≡ whole body rest → frame_of_len len (xs ++ more) ≡ whole body (rest ++ more)
frame_of_len-more len xs more body rest e =
    elim (cases_lt MAX_BODY len) [
      | inl big ↦ let no : too_long len ≡ whole body rest = sym (frame_of_len-big len xs big) ∙ e in cc
      | inr small ↦ elim (cases_lt (length xs) len) [
        | inl short ↦ let no : partial ≡ whole body rest = sym (frame_of_len-short len xs small short) ∙ e in cc
        | inr long ↦
            let is : whole (take len xs) (drop len xs) ≡ whole body rest = sym (frame_of_len-whole len xs small long) ∙ e in
            let taken : take len xs ≡ body = cc in
            let left : drop len xs ≡ rest = cc in
            frame_of_len-whole len (xs ++ more) small (omega (arith, length-append xs more))
            ∙ ap₂ whole (take-append-le len xs more long ∙ taken) (drop-append-le len xs more long ∙ ap (λ (ys : List ℕ). ys ++ more) left)
      ]
    ]

first_frame-more : (xs more body rest : List ℕ) → first_frame xs ≡ whole body rest → first_frame (xs ++ more) ≡ whole body (rest ++ more)
first_frame-more xs more body rest e =
    elim (cases_lt (length xs) 4) [
      | inl short ↦ let no : partial ≡ whole body rest = sym (first_frame-short xs short) ∙ e in cc
      | inr long ↦
          let one : frame_of_len (from_be_bytes w32 (take 4 xs)) (drop 4 xs) ≡ whole body rest = sym (first_frame-long xs long) ∙ e in
          let len : from_be_bytes w32 (take 4 (xs ++ more)) ≡ from_be_bytes w32 (take 4 xs) = ap (from_be_bytes w32) (take-append-le 4 xs more long) in
          first_frame-long (xs ++ more) (omega (arith, length-append xs more))
          ∙ ap₂ frame_of_len len (drop-append-le 4 xs more long)
          ∙ frame_of_len-more (from_be_bytes w32 (take 4 xs)) (drop 4 xs) more body rest one
    ]

-- ---- what a message that is given came of

record Given {M : Type 0} (read : List ℕ → Result M ℕ) (s : Unread) (m : M) : Type 0 where
  fault : s.fault ≡ None
  body : List ℕ
  rest : List ℕ
  there : first_frame s.rest ≡ whole body rest
  reads : read body ≡ Ok m

given : {M : Type 0} (read : List ℕ → Result M ℕ) (s : Unread) (m : M) → (next read s).answer ≡ Ok (Some m) → Given read s m
unfolding next
given {M} read s m e = stopped s.fault refl e
  where
    body_read : (none : s.fault ≡ None) (body rest : List ℕ) → first_frame s.rest ≡ whole body rest → (r : Result M ℕ) → read body ≡ r → (next_read s (length body) rest r).answer ≡ Ok (Some m) → Given read s m
    body_read none body rest f (Ok n) k e = let same : n ≡ m = cc in record { fault = none; body = body; rest = rest; there = f; reads = k ∙ ap (λ (x : M). Ok x) same }
    body_read none body rest f (Err place) k e = absurd cc

    at_front : s.fault ≡ None → (x : FirstFrame) → first_frame s.rest ≡ x → (next_frame read s x).answer ≡ Ok (Some m) → Given read s m
    at_front none partial f e = absurd cc
    at_front none (too_long len) f e = absurd cc
    at_front none (whole body rest) f e = body_read none body rest f (read body) refl e

    stopped : (o : Option FrameFault) → s.fault ≡ o → (next_unless read s o).answer ≡ Ok (Some m) → Given read s m
    stopped (Some fault) k e = absurd cc
    stopped None k e = at_front k (first_frame s.rest) refl e

-- ---- more bytes

next_fed : {M : Type 0} (read : List ℕ → Result M ℕ) (s : Unread) (more : List ℕ) (m : M) → (next read s).answer ≡ Ok (Some m)
    → ((next read (fed more s)).answer ≡ Ok (Some m)) × ((next read (fed more s)).after ≡ fed more (next read s).after)
next_fed read s more m e =
    let g = given read s m e in
    let before = next-message read s g.body g.rest (Ok m) g.fault g.there g.reads in
    let after = next-message read (fed more s) g.body (g.rest ++ more) (Ok m) g.fault (first_frame-more s.rest more g.body g.rest g.there) g.reads in
    (ap (λ n. n.answer) after, ap (λ n. n.after) after ∙ ap (λ n. fed more n.after) (sym before))

pub HandsOut-fed : {M : Type 0} (read : List ℕ → Result M ℕ) (s : Unread) (more : List ℕ) (ms : List M) (t : Unread) → HandsOut read s ms t → HandsOut read (fed more s) ms (fed more t)
HandsOut-fed read s more [] t r = ap (fed more) r
HandsOut-fed {M} read s more (m ∷ ms) t r =
    let step = next_fed read s more m r.0 in
    let P : Unread → Type 0 = λ u. HandsOut read u ms (fed more t) in
    (step.0, subst P (sym step.1) (HandsOut-fed read (next read s).after more ms t r.1))

-- ---- one message more

pub HandsOut-next : {M : Type 0} (read : List ℕ → Result M ℕ) (s : Unread) (ms : List M) (t : Unread) (m : M) → HandsOut read s ms t → (next read t).answer ≡ Ok (Some m) → HandsOut read s (ms ++ m ∷ []) (next read t).after
HandsOut-next {M} read s [] t m r e =
    let P : Unread → Type 0 = λ u. ((next read u).answer ≡ Ok (Some m)) × ((next read u).after ≡ (next read t).after) in
    subst P (sym r) (e, refl)
HandsOut-next read s (n ∷ ms) t m r e = (r.0, HandsOut-next read (next read s).after ms t m r.1 e)

-- ---- a fault stays

pub next_stays : {M : Type 0} (read : List ℕ → Result M ℕ) (s : Unread) (fault : FrameFault) → (next read s).answer ≡ Err fault → (next read (next read s).after).answer ≡ Err fault
unfolding next
next_stays {M} read s fault e = stopped s.fault refl e
  where
    body_read : (len : ℕ) (rest : List ℕ) (r : Result M ℕ) → (next_read s len rest r).answer ≡ Err fault → (next_unless read (next_read s len rest r).after (next_read s len rest r).after.fault).answer ≡ Err fault
    body_read len rest (Ok n) e = absurd cc
    body_read len rest (Err place) e = e

    at_front : (x : FirstFrame) → (next_frame read s x).answer ≡ Err fault → (next_unless read (next_frame read s x).after (next_frame read s x).after.fault).answer ≡ Err fault
    at_front partial e = absurd cc
    at_front (too_long len) e = e
    at_front (whole body rest) e = body_read (length body) rest (read body) e

    stopped : (o : Option FrameFault) → s.fault ≡ o → (next_unless read s o).answer ≡ Err fault → (next_unless read (next_unless read s o).after (next_unless read s o).after.fault).answer ≡ Err fault
    stopped (Some f) k e = ap (λ (o : Option FrameFault). (next_unless read s o).answer) k ∙ e
    stopped None k e = at_front (first_frame s.rest) e

-- ---- one reading

abbrev pub Ends : {M : Type 0} → (List ℕ → Result M ℕ) → Unread → Option FrameFault → Type 0
Ends read s fault = (next read s).answer ≡ (elim fault [ None ↦ Ok None | Some f ↦ Err f ])

-- an end is no message
no_more : {M : Type 0} (read : List ℕ → Result M ℕ) (s : Unread) (m : M) (fault : Option FrameFault) → Ends read s fault → (next read s).answer ≡ Ok (Some m) → ⊥
no_more {M} read s m None h e = let no : Ok None ≡ Ok (Some m) = sym h ∙ e in cc
no_more {M} read s m (Some f) h e = let no : Err f ≡ Ok (Some m) = sym h ∙ e in cc

same_end : {M : Type 0} (read : List ℕ → Result M ℕ) (s : Unread) (f g : Option FrameFault) → Ends read s f → Ends read s g → f ≡ g
same_end {M} read s None None h k = refl
same_end {M} read s None (Some g) h k = let no : Ok None ≡ Err g = sym h ∙ k in cc
same_end {M} read s (Some f) None h k = let no : Err f ≡ Ok None = sym h ∙ k in cc
same_end {M} read s (Some f) (Some g) h k = let same : Err f ≡ Err g = sym h ∙ k in cc

one : {M : Type 0} (read : List ℕ → Result M ℕ) (s t u : Unread) (ms ns : List M) (f g : Option FrameFault) → HandsOut read s ms t → Ends read t f → HandsOut read s ns u → Ends read u g → (ms ≡ ns) × (f ≡ g)
one {M} read s t u [] [] f g r h q k =
    let P : Unread → Type 0 = λ v. Ends read v f in
    let Q : Unread → Type 0 = λ v. Ends read v g in
    (refl, same_end read s f g (subst P (sym r) h) (subst Q (sym q) k))
one {M} read s t u [] (n ∷ ns) f g r h q k = let P : Unread → Type 0 = λ v. Ends read v f in absurd (no_more read s n f (subst P (sym r) h) q.0)
one {M} read s t u (m ∷ ms) [] f g r h q k = let Q : Unread → Type 0 = λ v. Ends read v g in absurd (no_more read s m g (subst Q (sym q) k) r.0)
one {M} read s t u (m ∷ ms) (n ∷ ns) f g r h q k =
    let both : Ok (Some m) ≡ Ok (Some n) = sym r.0 ∙ q.0 in
    let first : m ≡ n = cc in
    let others = one read (next read s).after t u ms ns f g r.1 h q.1 k in
    (ap₂ (λ (x : M) (xs : List M). x ∷ xs) first others.0, others.1)

pub one_reading : {M : Type 0} (read : List ℕ → Result M ℕ) (bytes : List ℕ) (ms ns : List M) (f g : Option FrameFault) → AreMessages read bytes ms f → AreMessages read bytes ns g → (ms ≡ ns) × (f ≡ g)
one_reading read bytes ms ns f g a b = one read (stream_of bytes) a.rest b.rest ms ns f g a.reads a.end b.reads b.end
