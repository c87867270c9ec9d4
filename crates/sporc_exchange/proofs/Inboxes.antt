-- The next message of an inbox.
use Rattle.std.proofs.Common.{◌≡◌, ℕ, ◌+◌, ◌<◌, ◌≤◌, List, [], ◌++◌, length, take, drop, Option, Some, None, Result, Ok, Err, refl, sym, ap, ◌∙◌, subst, arith, inl, inr, length-drop}
use Rattle.sporc_exchange.proofs.Common.{◌≢◌, IfSome, OnOk, OnErr, cases_lt, append-nil, length-take-le, MAX_BODY, ToClient, Unread, fed, next, FirstFrame, partial, too_long, whole, frame_of_len}
use Rattle.sporc_exchange.proofs.Common.{first_frame, InboxInvariant, InboxModel, unread_of}
use Rattle.std.specs.Int.{w32, from_be_bytes}
use Rattle.sporc_base.specs.Outcome.{GivesUnless}
use Rattle.sporc_wire.specs.declared.fault.FrameFault.{FrameFault}
use Rattle.sporc_wire.specs.declared.fault.FrameFault.TheVariants as frames
use Rattle.sporc_wire.specs.Messages.{Next, next_read, waits, stops}
use Rattle.sporc_wire.specs.ToClient.{to_client_of}
use Rattle.sporc_wire.proofs.Fronts.{frame_of_len-big, frame_of_len-whole, first_frame-long}
use Rattle.sporc_wire.proofs.Nexts.{next-at, next-message, next-stopped}

-- what the next call answers, and what is unread then
abbrev answer_of : Unread → Result (Option ToClient) FrameFault
answer_of s = (next to_client_of s).answer

abbrev after_of : Unread → Unread
after_of s = (next to_client_of s).after

-- ---- by what stands at the first_frame

data Case (s : Unread) : Next ToClient → Type 0 where
  waiting : first_frame s.rest ≡ partial → Case s (waits s)
  stopping : (fault : FrameFault) → Case s (stops fault s)
  reading : (len : ℕ) (rest : List ℕ) (message : ToClient) → Case s (next_read s len rest (Ok message))

case_of : (s : Unread) → s.fault ≡ None → Case s (next to_client_of s)
case_of s none = at_front (first_frame s.rest) refl
  where
    by_body : (body rest : List ℕ) → first_frame s.rest ≡ whole body rest → (r : Result ToClient ℕ) → to_client_of body ≡ r → Case s (next to_client_of s)
    by_body body rest f (Ok m) k = subst (Case s) (sym (next-message to_client_of s body rest (Ok m) none f k)) (reading (length body) rest m)
    by_body body rest f (Err place) k = subst (Case s) (sym (next-message to_client_of s body rest (Err place) none f k)) (stopping _)

    at_front : (y : FirstFrame) → first_frame s.rest ≡ y → Case s (next to_client_of s)
    at_front partial f = subst (Case s) (sym (next-at to_client_of s partial none f)) (waiting f)
    at_front (too_long len) f = subst (Case s) (sym (next-at to_client_of s (too_long len) none f)) (stopping (frames.TooLong len))
    at_front (whole body rest) f = by_body body rest f (to_client_of body) refl

-- nothing is handed out exactly if no whole frame is there
case_none : (s : Unread) (n : Next ToClient) → Case s n → n.answer ≡ Ok None → (first_frame s.rest ≡ partial) × (n.after ≡ s)
case_none s n (waiting f) is = (f, refl)
case_none s n _ is = absurd cc

-- a message leaves no fault
case_ok : (s : Unread) (n : Next ToClient) (x : Option ToClient) → s.fault ≡ None → Case s n → n.answer ≡ Ok x → n.after.fault ≡ None
case_ok s n x none (waiting f) is = none
case_ok s n x none (stopping fault) is = absurd cc
case_ok s n x none (reading len rest m) is = none

-- a fault stays
case_err : (s : Unread) (n : Next ToClient) (fault : FrameFault) → Case s n → n.answer ≡ Err fault → n.after ≡ record s { fault = Some fault }
case_err s n fault (waiting f) is = absurd cc
case_err s n fault (stopping found) is = let same : found ≡ fault = cc in ap (λ (f : FrameFault). record s { fault = Some f }) same
case_err s n fault (reading len rest m) is = absurd cc

-- ---- frames that may have found a fault

-- a stream whose fault, if one was found, is left out
abbrev pub erased : Unread → Unread
erased s = record s { fault = None }

erased_is : (s : Unread) → s.fault ≡ None → s ≡ erased s
erased_is s none = ap (λ (o : Option FrameFault). record s { fault = o }) none

-- The answer of a call by what was unread before, u, and what is after, v, which leaves the frames g, and an inbox that
-- holds len bytes keeps what it is to keep
pub record Nexts (u v g : Unread) (len : ℕ) (r : Result (Option ToClient) FrameFault) : Type 0 where
  pub value : GivesUnless frames.Memory (λ found. found) r (answer_of u)
  pub after : OnOk r (v ≡ after_of u)
  pub unread : OnErr r (v ≡ u)
  pub stays : InboxInvariant g len

-- what an inbox keeps of a fault
abbrev Finds : Unread → ℕ → Option FrameFault → Type 0
Finds s len o = IfSome o (λ fault. (answer_of (erased s) ≡ Err fault) × (len ≡ 0))

-- frames that stay as they were
nexts_same : (f g : Unread) (len : ℕ) (fault : FrameFault) → InboxInvariant f len → g ≡ f → (fault ≢ frames.Memory → answer_of (erased f) ≡ Err fault) → Nexts (erased f) (erased g) g len (Err fault)
nexts_same f g len fault inv same value = record {
  value = value;
  after = tt;
  unread = ap erased same;
  stays = subst (λ (s : Unread). InboxInvariant s len) (sym same) inv;
}

nexts_ok : (f g : Unread) (len : ℕ) (x : Option ToClient) → InboxInvariant f len → answer_of f ≡ Ok x → g ≡ after_of f → Nexts (erased f) (erased g) g len (Ok x)
nexts_ok f g len x inv answer after = by f.fault refl
  where
    by : (o : Option FrameFault) → f.fault ≡ o → Nexts (erased f) (erased g) g len (Ok x)
    by None none =
        let same = erased_is f none in
        let none' : g.fault ≡ None = ap (λ (s : Unread). s.fault) after ∙ case_ok f (next to_client_of f) x none (case_of f none) answer in
        record {
          value = ap answer_of (sym same) ∙ answer;
          after = sym (erased_is g none') ∙ after ∙ ap after_of same;
          unread = tt;
          stays = record { fault = subst (Finds g len) (sym none') tt; few = inv.few };
        }
    by (Some fault) some = let no : Err fault ≡ Ok x = sym (ap (λ (n : Next ToClient). n.answer) (next-stopped to_client_of f fault some)) ∙ answer in absurd cc

nexts_err : (f g : Unread) (len : ℕ) (fault : FrameFault) → InboxInvariant f len → len ≡ 0 → answer_of f ≡ Err fault → g ≡ after_of f → Nexts (erased f) (erased g) g len (Err fault)
nexts_err f g len fault inv zero_len answer after = by f.fault refl inv.fault
  where
    by : (o : Option FrameFault) → f.fault ≡ o → Finds f len o → Nexts (erased f) (erased g) g len (Err fault)
    by None none found =
        let stops : g ≡ record f { fault = Some fault } = after ∙ case_err f (next to_client_of f) fault (case_of f none) answer in
        let here : answer_of (erased f) ≡ Err fault = ap answer_of (sym (erased_is f none)) ∙ answer in
        let there : answer_of (erased g) ≡ Err fault = ap (λ (s : Unread). answer_of (erased s)) stops ∙ here in
        record {
          value = λ _. here;
          after = tt;
          unread = ap erased stops;
          stays = record { fault = subst (Finds g len) (sym (ap (λ (s : Unread). s.fault) stops)) (there, zero_len); few = inv.few };
        }
    by (Some first) some found =
        let stopped = next-stopped to_client_of f first some in
        let same : Err first ≡ Err fault = sym (ap (λ (n : Next ToClient). n.answer) stopped) ∙ answer in
        nexts_same f g len fault inv (after ∙ ap (λ (n : Next ToClient). n.after) stopped) (λ _. found.0 ∙ same)

-- a result as it is compared
abbrev failed : FrameFault → Result (Option ToClient) FrameFault
failed fault = Err fault

nexts : (f g : Unread) (len : ℕ) (r : Result (Option ToClient) FrameFault) → InboxInvariant f len → len ≡ 0 → GivesUnless frames.Memory (λ found. found) r (answer_of f)
    → (r ≢ failed frames.Memory → g ≡ after_of f) → (r ≡ failed frames.Memory → g ≡ f) → Nexts (erased f) (erased g) g len r
nexts f g len (Ok x) inv zero_len value after memory = nexts_ok f g len x inv value (after (λ is. absurd cc))
nexts f g len (Err (frames.BadMessage place)) inv zero_len value after memory = nexts_err f g len (frames.BadMessage place) inv zero_len (value (λ is. absurd cc)) (after (λ is. absurd cc))
nexts f g len (Err (frames.TooLong size)) inv zero_len value after memory = nexts_err f g len (frames.TooLong size) inv zero_len (value (λ is. absurd cc)) (after (λ is. absurd cc))
nexts f g len (Err frames.Memory) inv zero_len value after memory = nexts_same f g len frames.Memory inv (memory refl) (λ other. absurd (other refl))

-- ---- an inbox over its frames

abbrev pub inbox_over : Unread → ℕ → ℕ → List ℕ → InboxModel
inbox_over f taken len piece = record { at = f.at; rest = f.rest; held = take len piece; taken = taken }

-- one that holds nothing
unread_over : (f : Unread) (taken len : ℕ) (piece : List ℕ) → take len piece ≡ [] → unread_of (inbox_over f taken len piece) ≡ erased f
unread_over f taken len piece none = ap (λ (rest : List ℕ). record f { rest = rest; fault = None }) (ap (λ (held : List ℕ). f.rest ++ held) none ∙ append-nil f.rest)

-- what the call on its frames says of an inbox that was so
pub next_over : (f g : Unread) (taken len : ℕ) (piece : List ℕ) (now : InboxModel) (r : Result (Option ToClient) FrameFault) → inbox_over f taken len piece ≡ now → now.held ≡ [] → len ≤ length piece → InboxInvariant f len
    → GivesUnless frames.Memory (λ found. found) r (answer_of f) → (r ≢ failed frames.Memory → g ≡ after_of f) → (r ≡ failed frames.Memory → g ≡ f) → Nexts (unread_of now) (unread_of (inbox_over g taken len piece)) g len r
next_over f g taken len piece now r is empty few inv value after memory =
    let none : take len piece ≡ [] = ap (λ (i : InboxModel). i.held) is ∙ empty in
    let zero_len : len ≡ 0 = sym (length-take-le len piece few) ∙ ap length none in
    let before : unread_of now ≡ erased f = ap unread_of (sym is) ∙ unread_over f taken len piece none in
    subst (λ (z : Unread × Unread). Nexts z.0 z.1 g len r) (λ i. (sym before i, sym (unread_over g taken len piece none) i)) (nexts f g len r inv zero_len value after memory)

-- ---- what is held

-- an inbox that holds something has found no fault
pub held_unstopped : (f : Unread) (len : ℕ) → InboxInvariant f len → len ≢ 0 → f.fault ≡ None
held_unstopped f len inv some = by f.fault refl inv.fault
  where
    by : (o : Option FrameFault) → f.fault ≡ o → Finds f len o → f.fault ≡ None
    by None none found = none
    by (Some fault) is found = absurd (some found.1)

-- frames that take what was held
pub fed_stays : (f g : Unread) (piece : List ℕ) (len : ℕ) → InboxInvariant f len → len ≢ 0 → g ≡ fed piece f → InboxInvariant g 0
fed_stays f g piece len inv some is =
    let none : g.fault ≡ None = ap (λ (s : Unread). s.fault) is ∙ held_unstopped f len inv some in
    record { fault = subst (Finds g 0) (sym none) tt; few = omega arith }

-- ---- an inbox without a whole frame

-- it stays as it is
pub still_waits : (i j : InboxModel) (x : Option ToClient) → answer_of (unread_of i) ≡ Ok x → x ≡ None → unread_of j ≡ after_of (unread_of i) → (unread_of j ≡ unread_of i) × (answer_of (unread_of j) ≡ Ok None)
still_waits i j x answer none after =
    let waits : answer_of (unread_of i) ≡ Ok None = subst (λ (o : Option ToClient). answer_of (unread_of i) ≡ Ok o) none answer in
    let same = after ∙ (case_none (unread_of i) (next to_client_of (unread_of i)) (case_of (unread_of i) refl) waits).1 in
    (same, ap answer_of same ∙ waits)

body_partial : (len : ℕ) (xs : List ℕ) → frame_of_len len xs ≡ partial → length xs < MAX_BODY
body_partial len xs e =
    elim (cases_lt MAX_BODY len) [
      | inl big ↦ let no : too_long len ≡ partial = sym (frame_of_len-big len xs big) ∙ e in absurd cc
      | inr small ↦ elim (cases_lt (length xs) len) [
        | inl lacks ↦ omega (arith, lacks, small)
        | inr there ↦ let no : whole (take len xs) (drop len xs) ≡ partial = sym (frame_of_len-whole len xs small there) ∙ e in absurd cc
      ]
    ]

partial_short : (xs : List ℕ) → first_frame xs ≡ partial → length xs < MAX_BODY + 4
partial_short xs e =
    elim (cases_lt (length xs) 4) [
      | inl short ↦ omega (arith, short)
      | inr long ↦ omega (arith, length-drop 4 xs, body_partial (from_be_bytes w32 (take 4 xs)) (drop 4 xs) (sym (first_frame-long xs long) ∙ e))
    ]

-- and is short
pub waits_short : (inbox : InboxModel) → answer_of (unread_of inbox) ≡ Ok None → length (inbox.rest ++ inbox.held) < MAX_BODY + 4
waits_short inbox is = partial_short (inbox.rest ++ inbox.held) (case_none (unread_of inbox) (next to_client_of (unread_of inbox)) (case_of (unread_of inbox) refl) is).0
