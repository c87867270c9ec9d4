-- An editor's steps, as the replies of a shared client tell of them.
use Rattle.std.proofs.Common.{◌≡◌, ◌≢◌, ◌⊎◌, ◌≤◌, ◌+◌, ℕ, Bool, true, false, List, [], ◌∷◌, ◌++◌, length, Option, Some, Ok, Err, refl, sym, ap, ◌∙◌, subst, arith, append-nil, inl, inr, ⊎_elim, nat_le, nat_lt, not, ◌==◌, ◌-◌, min, le-leb, eq-eqb, take_all}
use Rattle.sporc_session.proofs.Common.{Result, IfOk, IfErr, MatchResult, ⊤, AnswersUnless, first_of, unless, Mark, base_len, remove_marks, insertion, insert_marks, removal, keep_marks, Known, Pass}
use Rattle.sporc_session.proofs.Common.{Worn, StartsWith, known_of, EditFault, added, has_right, is_out, Edit, Change, PlainClient, line_of, shown_after, Answered, IsCall, Item, Happened, Past, client_of}
use Rattle.sporc_session.proofs.Common.{items_of, IsLookAt, HasFront, Seen, SessionFault, KnowsMore, AskedDid, IsAtFront, IsWornFault, StatedDid, seen_of, AnswersAt, Asked, Changes, Edits}
use Rattle.sporc_session.proofs.Common.{IsDone, IsEditAt, IsOfLine, LineFails, LineGives, IsPoint, HasReadFor, edited_of, plain_of}
use Rattle.sporc_delta.specs.Format.{delta_bytes}
use Rattle.sporc_delta.proofs.Lengths.{base_len-append, base_len-remove_marks, base_len-insert_marks, base_len-keep_marks}
use Rattle.sporc_member.specs.declared.change.Change.{Change as MemberChange}
use Rattle.sporc_client.specs.declared.fault.EditFault.TheVariants as edits
use Rattle.sporc_client.specs.declared.limits.TheConstants.{MAX_EDIT_BYTES, MAX_EVENTS, MAX_PENDING}
use Rattle.sporc_client.specs.Answers.{change_fault, edit_fault}
use Rattle.sporc_shared.specs.declared.look.Look.{Look}
use Rattle.sporc_shared.proofs.Calling.{length_items}
use Rattle.sporc_session.specs.declared.fault.SessionFault.TheVariants as faults
use Rattle.sporc_session.proofs.Knowing.{call_client, call_knows, call_point, client_later, knows_none, knows_then, point_later, seen_after}
use Rattle.sporc_session.proofs.Lining.{fails_as}
use Rattle.sporc_session.proofs.Pasts.{ShowsLater, shows_later}
use Rattle.sporc_session.proofs.Telling.{Replied, WornAs, replied}

-- ---- which answers the client gives to a line

-- a line's own fault, or that the journal is full
abbrev pub IsLate : EditFault → Type 0
IsLate fault = IsOfLine fault ⊎ (fault ≡ edits.JournalFull)

late_of : (found fault : EditFault) → IsLate found → Some found ≡ Some fault → IsLate fault
late_of found fault late is = let same : found ≡ fault = cc in subst IsLate same late

late_edit : (right out bytes pending journal : Bool) (seen len : ℕ) (fault : EditFault)
    → first_of (unless out edits.Removed ∷ unless right edits.NoRight ∷ unless true (edits.SeenAhead seen) ∷ unless true edits.WrongLength ∷ unless bytes (edits.TooLong len) ∷ unless pending edits.PendingFull ∷ unless journal edits.JournalFull ∷ []) ≡ Some fault
    → IsLate fault
late_edit right false bytes pending journal seen len fault is = late_of edits.Removed fault (inl tt) is
late_edit false true bytes pending journal seen len fault is = late_of edits.NoRight fault (inl tt) is
late_edit true true false pending journal seen len fault is = late_of (edits.TooLong len) fault (inl tt) is
late_edit true true true false journal seen len fault is = late_of edits.PendingFull fault (inl tt) is
late_edit true true true true false seen len fault is = late_of edits.JournalFull fault (inr refl) is
late_edit true true true true true seen len fault is = absurd cc

-- an edit that names a front that was there, and is stated on the text of that front
stated_late : (c : PlainClient) (seen : ℕ) (marks : List Mark) (fault : EditFault) → seen ≤ length c.shown → base_len marks ≡ length (shown_after seen c) → edit_fault c seen marks ≡ Some fault → IsLate fault
unfolding edit_fault
stated_late c seen marks fault low stated is =
    let right = has_right (line_of c) 1 in
    let bytes = nat_le (length (delta_bytes marks)) MAX_EDIT_BYTES in
    let pending = nat_lt (length c.pending) MAX_PENDING in
    let journal = nat_lt (length c.shown) MAX_EVENTS in
    let checks : Bool → Bool → List (Option EditFault) =
    λ a b. unless (not (is_out c)) edits.Removed ∷ unless right edits.NoRight ∷ unless a (edits.SeenAhead (length c.shown)) ∷ unless b edits.WrongLength
    ∷ unless bytes (edits.TooLong (length (delta_bytes marks))) ∷ unless pending edits.PendingFull ∷ unless journal edits.JournalFull ∷ [] in
    let there : nat_le seen (length c.shown) ≡ true = le-leb seen (length c.shown) low in
    let long : base_len marks == length (shown_after seen c) ≡ true = eq-eqb (base_len marks) (length (shown_after seen c)) stated in
    late_edit right (not (is_out c)) bytes pending journal (length c.shown) (length (delta_bytes marks)) fault (sym (ap (λ (z : Bool × Bool). first_of (checks z.0 z.1)) (λ i. (there i, long i))) ∙ is)

late_change : (out right pending journal : Bool) (fault : EditFault) → first_of (unless out edits.Removed ∷ unless right edits.NoRight ∷ unless pending edits.PendingFull ∷ unless journal edits.JournalFull ∷ []) ≡ Some fault → IsLate fault
late_change false right pending journal fault is = late_of edits.Removed fault (inl tt) is
late_change true false pending journal fault is = late_of edits.NoRight fault (inl tt) is
late_change true true false journal fault is = late_of edits.PendingFull fault (inl tt) is
late_change true true true false fault is = late_of edits.JournalFull fault (inr refl) is
late_change true true true true fault is = absurd cc

changing_late : (c : PlainClient) (fault : EditFault) → change_fault c ≡ Some fault → IsLate fault
unfolding change_fault
changing_late c fault is = late_change (not (is_out c)) (has_right (line_of c) 2) (nat_lt (length c.pending) MAX_PENDING) (nat_lt (length c.shown) MAX_EVENTS) fault is

-- ---- a call that wasn't Ok

abbrev FailedFor : Known Item → Known Item → ℕ → ℕ → (EditFault → Type 0) → SessionFault → Type 0
FailedFor k k' number line Gives fault = KnowsMore k k' [] × LineFails number line Gives fault

failed_for : (k k' : Known Item) (number line : ℕ) (Gives : EditFault → Type 0) (P : ⊤ → Type 0) (fault : EditFault) → KnowsMore k k' [] → (fault ≢ edits.Memory → Gives fault × IsLate fault)
    → MatchResult (edited_of number line (Err fault)) P (FailedFor k k' number line Gives)
failed_for k k' number line Gives P (edits.SeenAhead len) knows h = ⊎_elim (λ (never : ⊥). absurd never) (λ (is : edits.SeenAhead len ≡ edits.JournalFull). absurd cc) (h (λ e. absurd cc)).1
failed_for k k' number line Gives P edits.WrongLength knows h = ⊎_elim (λ (never : ⊥). absurd never) (λ (is : edits.WrongLength ≡ edits.JournalFull). absurd cc) (h (λ e. absurd cc)).1
failed_for k k' number line Gives P edits.JournalFull knows h = (knows, (h (λ e. absurd cc)).0)
failed_for k k' number line Gives P edits.Memory knows h = (knows, tt)
failed_for k k' number line Gives P _ knows h = (knows, (refl, refl, tt, (h (λ e. absurd cc)).0))

-- the client was found at a point after the pass's items
found_at : (k k' : Known Item) (before : Past) (answers : PlainClient → Option EditFault) (fault : EditFault) → IsCall k k' before [] → answers (client_of before) ≡ Some fault → AnswersAt k'.seen k.start k.number k.mine answers fault
found_at k k' before answers fault call is = record {
  point = length (items_of before);
  client = client_of before;
  is_point = call_point k k' before [] call;
  is_client = call_client k k' before [] call;
  is = is;
}

-- ---- the front that was seen last

pub at_front : (k k' : Known Item) (before : Past) (look : Look) (events : ℕ) → IsCall k k' before [] → IsLookAt before look → events + 1 ≡ length k'.seen → IsAtFront k' events look.len
at_front k k' before look events call seen front =
    let seen_is : k'.seen ≡ items_of before = seen_after k k' before [] call ∙ append-nil (items_of before) in
    let here : length (items_of before) ≡ events + 1 = ap length (sym seen_is) ∙ sym front in
    let events_are : events ≡ length before.log = omega (arith, here, length_items before) in
    let start : k'.start ≡ k.start = ap (λ (h : Known Item). h.start) call.known in
    let number : k'.number ≡ k.number = ap (λ (h : Known Item). h.number) call.known in
    let mine : k'.mine ≡ k.mine = ap (λ (h : Known Item). h.mine) call.known ∙ append-nil k.mine in
    record {
      past = before;
      seen_is = seen_is;
      is_point = subst (λ (z : ℕ × ℕ × List Item × ℕ). IsPoint k'.seen z.0 z.1 z.2 z.3) (λ i. (sym start i, sym number i, sym mine i, here i)) (call_point k k' before [] call);
      events_are = events_are;
      len_is = seen.len;
      front_is = seen.front ∙ ap (λ (n : ℕ). length (shown_after n (client_of before))) (sym events_are);
      short = seen.short;
    }

-- what a look tells of it, or that no ticket was left
pub record Saw (k : Known Item) (p : Pass Item) (result : Result Seen SessionFault) : Type 0 where
  pub knows : KnowsMore k (known_of p) []
  pub ok : IfOk result (λ seen. IsAtFront (known_of p) seen.front.events seen.len)
  pub err : IfErr result IsWornFault
  pub read : IfErr result (HasReadFor p)

pub saw : (k : Known Item) (reply : Result (Answered Look) (Pass Item × Worn)) (found : Result Seen SessionFault × Pass Item) → found ≡ seen_of reply
    → IfOk reply (λ r. (before : Past) × IsCall k (known_of r.pass) before [] × IsLookAt before r.answer) → HasFront reply → WornAs k reply → Saw k found.1 found.0
saw k reply found is ok front err = subst (λ (f : Result Seen SessionFault × Pass Item). Saw k f.1 f.0) (sym is) (by reply ok front err)
  where
    by : (r : Result (Answered Look) (Pass Item × Worn)) → IfOk r (λ r. (before : Past) × IsCall k (known_of r.pass) before [] × IsLookAt before r.answer) → HasFront r → WornAs k r → Saw k (seen_of r).1 (seen_of r).0
    by (Ok r) ok front err = record { knows = call_knows k (known_of r.pass) ok.0 [] ok.1; ok = at_front k (known_of r.pass) ok.0 r.answer r.front.events ok.1 ok.2 front; err = tt; read = tt }
    by (Err e) ok front err = record { knows = subst (λ (z : Known Item). KnowsMore k z []) (sym err.2) (knows_none k); ok = tt; err = ap faults.Worn err.0; read = omega (arith, err.0, err.1) }

-- ---- an edit that is stated there

abbrev EditCall : Known Item → ℕ → List Mark → Known Item → Result ℕ EditFault → Type 0
EditCall k events marks k' answer = (before : Past) × IsCall k k' before (added answer (Edit k.number events marks)) × AnswersUnless edits.Memory answer (edit_fault (client_of before) events marks)

stated_by : (k : Known Item) (line events len : ℕ) (marks : List Mark) → IsAtFront k events len → base_len marks ≡ len → (answer : Result ℕ EditFault) (k' : Known Item) → EditCall k events marks k' answer
    → StatedDid k k' line events marks (edited_of k.number line answer)
stated_by k line events len marks front stated (Ok n) k' h = call_knows k k' h.0 (Edit k.number events marks ∷ []) h.1
stated_by k line events len marks front stated (Err fault) k' h =
    failed_for k k' k.number line (AnswersAt k'.seen k.start k.number k.mine (λ client. edit_fault client events marks)) (λ x. KnowsMore k k' (Happened (Edit k.number events marks) ∷ [])) fault (call_knows k k' h.0 [] h.1) gives
  where
    later : ShowsLater front.past h.0
    later = shows_later front.past h.0 (subst (λ (l : List Item). StartsWith (items_of h.0) l) front.seen_is h.1.found.begins)

    there : events ≤ length (client_of h.0).shown
    there = omega (arith, front.events_are, later.low)

    long : base_len marks ≡ length (shown_after events (client_of h.0))
    long =
        stated ∙ front.front_is ∙ ap (λ (n : ℕ). length (shown_after n (client_of front.past))) front.events_are ∙ ap length (sym later.same)
        ∙ ap (λ (n : ℕ). length (shown_after n (client_of h.0))) (sym front.events_are)

    gives : fault ≢ edits.Memory → AnswersAt k'.seen k.start k.number k.mine (λ client. edit_fault client events marks) fault × IsLate fault
    gives other = (found_at k k' h.0 (λ client. edit_fault client events marks) fault h.1 (h.2 other), stated_late (client_of h.0) events marks fault there long (h.2 other))

pub edit_told : {k : Known Item} (events : ℕ) (marks : List Mark) (reply : Result (Answered (Result ℕ EditFault)) (Pass Item × Worn)) {plain : Result (Result ℕ EditFault) SessionFault × Pass Item} → plain ≡ plain_of reply
    → IfOk reply (λ r. EditCall k events marks (known_of r.pass) r.answer) → WornAs k reply → Replied (λ p answer. EditCall k events marks (known_of p) answer) k plain.1 plain.0
edit_told {k} events marks = replied (λ p answer. EditCall k events marks (known_of p) answer)

-- no ticket was left
pub stated_none : (k k' : Known Item) (line events : ℕ) (marks : List Mark) (fault : SessionFault) → KnowsMore k k' [] → IsWornFault fault → StatedDid k k' line events marks (Err fault)
stated_none k k' line events marks fault knows is =
    (knows, subst (LineFails k.number line (AnswersAt k'.seen k.start k.number k.mine (λ client. edit_fault client events marks))) (sym is) refl)

-- ---- a change

abbrev ChangeCall : Known Item → MemberChange → Known Item → Result ℕ EditFault → Type 0
ChangeCall k change k' answer = (before : Past) × IsCall k k' before (added answer (Change k.number change)) × AnswersUnless edits.Memory answer (change_fault (client_of before))

changed_by : (k : Known Item) (line : ℕ) (change : MemberChange) (answer : Result ℕ EditFault) (k' : Known Item) → ChangeCall k change k' answer → AskedDid k k' line (Changes change) (edited_of k.number line answer)
changed_by k line change (Ok n) k' h = (Happened (Change k.number change), call_knows k k' h.0 (Change k.number change ∷ []) h.1, refl)
changed_by k line change (Err fault) k' h =
    failed_for k k' k.number line (LineGives k'.seen k.start k.number k.mine (Changes change)) (λ x. (item : Item) × KnowsMore k k' (item ∷ []) × IsDone k'.seen k.start k.number k.mine (Changes change) item) fault
    (call_knows k k' h.0 [] h.1) (λ other. (found_at k k' h.0 change_fault fault h.1 (h.2 other), changing_late (client_of h.0) fault (h.2 other)))

pub change_told : {k : Known Item} (change : MemberChange) (reply : Result (Answered (Result ℕ EditFault)) (Pass Item × Worn)) {plain : Result (Result ℕ EditFault) SessionFault × Pass Item} → plain ≡ plain_of reply
    → IfOk reply (λ r. ChangeCall k change (known_of r.pass) r.answer) → WornAs k reply → Replied (λ p answer. ChangeCall k change (known_of p) answer) k plain.1 plain.0
change_told {k} change = replied (λ p answer. ChangeCall k change (known_of p) answer)

-- what a call's answer comes to for a line of the editor whose number the pass tells
module _ (k k' : Known Item) (number line : ℕ) (same : number ≡ k.number) (answer : Result ℕ EditFault) (result : Result ⊤ SessionFault) (is : result ≡ edited_of number line answer) where
  result_is : result ≡ edited_of k.number line answer
  result_is = is ∙ ap (λ (n : ℕ). edited_of n line answer) same

  pub stated : (events len : ℕ) (marks : List Mark) → IsAtFront k events len → base_len marks ≡ len → EditCall k events marks k' answer → StatedDid k k' line events marks result
  stated events len marks front base call = subst (StatedDid k k' line events marks) (sym result_is) (stated_by k line events len marks front base answer k' call)

  pub changed : (change : MemberChange) → ChangeCall k change k' answer → AskedDid k k' line (Changes change) result
  changed change call = subst (AskedDid k k' line (Changes change)) (sym result_is) (changed_by k line change answer k' call)

-- ---- a line that asks for an edit: a look, and then the edit

module _ (k k1 : Known Item) (knows : KnowsMore k k1 []) (line events len : ℕ) (edit : ℕ → List Mark) (marks : List Mark) (front : IsAtFront k1 events len) (marks_are : marks ≡ edit len) where
  same_mine : k1.mine ≡ k.mine
  same_mine = knows.mine ∙ append-nil k.mine

  is_edit : (k2 : Known Item) → StartsWith k2.seen k1.seen → IsEditAt k2.seen k.start k.number k.mine edit events marks
  is_edit k2 begins = record {
    client = client_of front.past;
    is_point = subst (λ (z : ℕ × ℕ × List Item). IsPoint k2.seen z.0 z.1 z.2 (events + 1)) (λ i. (knows.start i, knows.number i, same_mine i))
        (point_later k1.seen k2.seen k1.start k1.number k1.mine (events + 1) begins front.is_point);
    is_client = client_later k1.seen k2.seen (events + 1) (client_of front.past) begins front.is_point.within
        (record { past = front.past; past_is = take_all (events + 1) k1.seen (omega (arith, front.events_are, ap length front.seen_is, length_items front.past)) ∙ front.seen_is; client_is = refl });
    marks_are = marks_are ∙ ap edit front.len_is;
  }

  pub asked_edit : (k2 : Known Item) (result : Result ⊤ SessionFault) → StatedDid k1 k2 line events marks result → AskedDid k k2 line (Edits edit) result
  asked_edit k2 (Ok x) d = (
    Happened (Edit k1.number events marks),
    knows_then k k1 k2 [] (Happened (Edit k1.number events marks) ∷ []) knows d,
    (events, marks, is_edit k2 d.begins, ap (λ (n : ℕ). Happened (Edit n events marks)) knows.number),
  )
  asked_edit k2 (Err fault) d =
      let P : ℕ × ℕ × List Item → Type 0 = λ z. LineFails z.1 line (AnswersAt k2.seen z.0 z.1 z.2 (λ client. edit_fault client events marks)) fault in
      let fails : LineFails k.number line (AnswersAt k2.seen k.start k.number k.mine (λ client. edit_fault client events marks)) fault = subst P (λ i. (knows.start i, knows.number i, same_mine i)) d.1 in (
        knows_then k k1 k2 [] [] knows d.0,
        fails_as k.number line (AnswersAt k2.seen k.start k.number k.mine (λ client. edit_fault client events marks)) (LineGives k2.seen k.start k.number k.mine (Edits edit))
            (λ f gives. (events, marks, is_edit k2 d.0.begins, gives)) fault fails,
      )

-- both edits are stated on texts of this length
pub inserted_len : (len at : ℕ) (text : List ℕ) → base_len (insertion len (min at len) text) ≡ len
inserted_len len at text =
    let n = min at len in
    let kept = keep_marks (len - n) in
    base_len-append (keep_marks n ++ insert_marks text) kept ∙ omega (arith, base_len-append (keep_marks n) (insert_marks text), base_len-keep_marks n, base_len-insert_marks text, base_len-keep_marks (len - n))

pub removed_len : (len at count : ℕ) → base_len (removal len (min at len) (min count (len - min at len))) ≡ len
removed_len len at count =
    let n = min at len in
    let gone = min count (len - n) in
    let kept = keep_marks (len - (n + gone)) in
    base_len-append (keep_marks n ++ remove_marks gone) kept ∙ omega (arith, base_len-append (keep_marks n) (remove_marks gone), base_len-keep_marks n, base_len-remove_marks gone, base_len-keep_marks (len - (n + gone)))

-- a look found no ticket
pub asked_worn : (k k1 : Known Item) (line : ℕ) (asked : Asked) (fault : SessionFault) → KnowsMore k k1 [] → IsWornFault fault → AskedDid k k1 line asked (Err fault)
asked_worn k k1 line asked fault knows is = (knows, subst (LineFails k.number line (LineGives k1.seen k.start k.number k.mine asked)) (sym is) refl)
