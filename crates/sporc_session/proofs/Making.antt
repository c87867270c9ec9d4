-- What a session adds to a log: the receiver's events, and those of the editors' lines.
use Rattle.std.proofs.Common.{◌≡◌, ◌≢◌, ◌≤◌, ◌<◌, ℕ, zero, suc, ◌+◌, ◌==◌, Bool, true, false, cond, nat_le, List, [], ◌∷◌, ◌++◌, drop, length, take, map, Option, None, Some, refl, sym, ap, ◌∙◌, subst, append_assoc, append-nil, arith, eq-eqb, true≢false}
use Rattle.sporc_session.proofs.Common.{All, Result, Ok, ⊤, eqb-true, leb-false, leb-true, append_cancel_left, All-append, All-cons, All-head, All-nil, All-tail, first_of, EditorLine, StartsWith, own}
use Rattle.sporc_session.proofs.Common.{drop_seen, own_append, SubmitFault, Submitted, submission_added, Item, Happened, by_of, SessionFault, Act, Take, Submit, all_of, items_by, Stand, AreLinesDone}
use Rattle.sporc_session.proofs.Common.{Asked, Edits, Changes, IsDone, asked_by, EditorsDid, FirstPhase, IsSession, SecondPhase, SessionEnds, settles, doesnt_settle, stops}
use Rattle.std.specs.List.{filter}
use Rattle.sporc_client.specs.declared.submitted.Submitted.TheVariants as submitted
use Rattle.sporc_session.specs.Makers.{IsOfItsMaker}
use Rattle.sporc_session.proofs.Sessioning.{own_none}

-- what is so of each is so of those behind the first ones
all_behind : (P : Item → Type 0) (xs ys : List Item) → All P (xs ++ ys) → All P ys
all_behind P [] ys all = all
all_behind P (x ∷ xs) ys all = all_behind P xs ys (All-tail P x (xs ++ ys) all)

-- what is so of the items of each number is so of all
all_by_number : (P : Item → Type 0) (items : List Item) → ((k : ℕ) → All P (filter (λ item. by_of item == k) items)) → All P items
all_by_number P [] each = All-nil P
all_by_number P (item ∷ rest) each = All-cons P item rest here (all_by_number P rest behind)
  where
    found : ℕ → List Item
    found k = filter (λ (x : Item). by_of x == k) rest

    here : P item
    here = All-head P item (found (by_of item)) (subst (λ (b : Bool). All P (cond b (item ∷ found (by_of item)) (found (by_of item)))) (eq-eqb (by_of item) (by_of item) refl) (each (by_of item)))

    by : (b : Bool) (k : ℕ) → All P (cond b (item ∷ found k) (found k)) → All P (found k)
    by true k all = All-tail P item (found k) all
    by false k all = all

    behind : (k : ℕ) → All P (found k)
    behind k = by (by_of item == k) k (each k)

-- ---- the receiver's

added_so : (answer : Result Submitted SubmitFault) → All IsOfItsMaker (map Happened (submission_added 0 answer))
added_so (Ok (submitted.Dropped fault)) = All-cons IsOfItsMaker _ [] refl (All-nil IsOfItsMaker)
added_so (Ok (submitted.Entry entry)) = All-cons IsOfItsMaker _ [] refl (All-nil IsOfItsMaker)
added_so _ = All-nil IsOfItsMaker

act_so : (act : Act) → All IsOfItsMaker (items_by act)
act_so (Take position entry) = All-cons IsOfItsMaker _ [] refl (All-nil IsOfItsMaker)
act_so (Submit point first second answer) = added_so answer
act_so _ = All-nil IsOfItsMaker

acts_so : (acts : List Act) → All IsOfItsMaker (all_of items_by acts)
acts_so [] = All-nil IsOfItsMaker
acts_so (act ∷ acts) = All-append IsOfItsMaker (items_by act) (all_of items_by acts) (act_so act) (acts_so acts)

-- the receiver added items of this kind
record Added (a b : Stand) : Type 0 where
  items : List Item
  mine : b.known.mine ≡ a.known.mine ++ items
  so : All IsOfItsMaker items

first_added : (a b : Stand) (rounds : ℕ) (fault : Option SessionFault) → FirstPhase a b rounds fault → Added a b
first_added a b rounds None d = record { items = all_of items_by d.acts; mine = d.trace.knows.mine; so = acts_so d.acts }
first_added a b rounds (Some fault) d = record { items = all_of items_by d.acts; mine = d.trace.knows.mine; so = acts_so d.acts }

added_then : (a b c : Stand) → Added a b → Added b c → Added a c
added_then a b c f g = record {
  items = f.items ++ g.items;
  mine = g.mine ∙ ap (λ (l : List Item). l ++ g.items) f.mine ∙ append_assoc a.known.mine f.items g.items;
  so = All-append IsOfItsMaker f.items g.items f.so g.so;
}

second_added : (a b : Stand) (rounds until : ℕ) (result : Result ⊤ SessionFault) → SecondPhase a b rounds until result → Added a b
second_added a b rounds until result (settles low r is) =
    added_then a r.between b (record { items = all_of items_by r.did.acts; mine = r.did.trace.knows.mine; so = acts_so r.did.acts }) (record { items = []; mine = r.last.knows.mine; so = All-nil IsOfItsMaker })
second_added a b rounds until result (doesnt_settle r is) =
    added_then a r.between b (record { items = all_of items_by r.did.acts; mine = r.did.trace.knows.mine; so = acts_so r.did.acts }) (record { items = []; mine = r.last.knows.mine; so = All-nil IsOfItsMaker })
second_added a b rounds until result (stops s) = record { items = all_of items_by s.acts; mine = s.trace.knows.mine; so = acts_so s.acts }

-- ---- the editors'

done_so : (log : List Item) (start number : ℕ) (mine : List Item) (asked : Asked) (item : Item) → number ≢ 0 → IsDone log start number mine asked item → IsOfItsMaker item
done_so log start number mine (Edits edit) item other d = subst IsOfItsMaker (sym d.3) other
done_so log start number mine (Changes change) item other d = subst IsOfItsMaker (sym d) other

lines_so : (log : List Item) (start number : ℕ) (mine : List Item) (lines : List EditorLine) (items : List Item) → number ≢ 0 → AreLinesDone log start number mine lines items → All IsOfItsMaker items
lines_so log start number mine lines [] other d = All-nil IsOfItsMaker
lines_so log start number mine [] (item ∷ items) other d = absurd d
lines_so log start number mine (line ∷ lines) (item ∷ items) other d =
    All-cons IsOfItsMaker item items (done_so log start number mine (asked_by line.command) item other d.0) (lines_so log start number (mine ++ item ∷ []) lines items other d.1)

-- of the editor with this number, or of a later one
one_or_later : (log : List Item) (start number k : ℕ) → All IsOfItsMaker (own by_of number start log) → (number ≢ k → All IsOfItsMaker (own by_of k start log)) → All IsOfItsMaker (own by_of k start log)
one_or_later log start number k here later = by (number == k) refl
  where
    by : (same : Bool) → (number == k) ≡ same → All IsOfItsMaker (own by_of k start log)
    by true is = subst (λ (n : ℕ). All IsOfItsMaker (own by_of n start log)) (eqb-true number k is) here
    by false is = later (λ e. absurd (true≢false (sym (eq-eqb number k e) ∙ is)))

editors_so : (log : List Item) (start number k : ℕ) (scripts : List (List EditorLine)) (ends : List (Option SessionFault)) → number ≢ 0 → number ≤ k → k < number + length scripts
    → EditorsDid log start number scripts ends → All IsOfItsMaker (own by_of k start log)
editors_so log start number k [] ends other low high d = absurd (omega (arith, low, high))
editors_so log start number k (script ∷ scripts) [] other low high d = absurd d
editors_so log start number k (script ∷ scripts) (end ∷ ends) other low high d =
    one_or_later log start number k (lines_so log start number [] (take d.0.count script) (own by_of number start log) other d.0.done)
    (λ differs. editors_so log start (number + 1) k scripts ends (λ e. absurd (omega (arith, e))) (omega (arith, low, differs)) (omega (arith, high)) d.1)

-- ---- all of a session

module _ (a b : Stand) (rounds until : ℕ) (scripts : List (List EditorLine)) (result : Result ⊤ SessionFault) (own_are : own by_of 0 a.known.start a.known.seen ≡ a.known.mine) (low : a.known.start ≤ length a.known.seen)
    (s : IsSession a b rounds until scripts result) where
  abbrev log : List Item
  log = b.known.seen

  begins : StartsWith log a.known.seen
  begins = subst (λ (l : List Item). StartsWith l a.known.seen) (sym s.log_is) s.legal.begins

  own_is : (k : ℕ) → own by_of k a.known.start log ≡ own by_of k a.known.start a.known.seen ++ filter (λ item. by_of item == k) begins.0
  own_is k = ap (own by_of k a.known.start) begins.1 ∙ own_append by_of k a.known.start a.known.seen begins.0 low

  added : Added a b
  added = added_then a s.middle b (first_added a s.middle rounds s.receiver s.first) (by (first_of (s.receiver ∷ s.editors)) s.ends)
    where
      by : (fault : Option SessionFault) → SessionEnds s.middle b rounds until fault result → Added s.middle b
      by (Some f) e = subst (λ (m : Stand). Added s.middle m) (sym e.1) (record { items = []; mine = sym (append-nil s.middle.known.mine); so = All-nil IsOfItsMaker })
      by None e = second_added s.middle b rounds until result e

  receivers : filter (λ item. by_of item == 0) begins.0 ≡ added.items
  receivers = append_cancel_left a.known.mine (filter (λ item. by_of item == 0) begins.0) added.items
      (ap (λ (l : List Item). l ++ filter (λ item. by_of item == 0) begins.0) (sym own_are) ∙ sym (own_is 0) ∙ ap (own by_of 0 a.known.start) s.log_is ∙ s.legal.mine_are ∙ added.mine)

  each_so : (k : ℕ) → All IsOfItsMaker (filter (λ item. by_of item == k) begins.0)
  each_so zero = subst (All IsOfItsMaker) (sym receivers) added.so
  each_so (suc k) = all_behind IsOfItsMaker (own by_of (suc k) a.known.start a.known.seen) (filter (λ item. by_of item == suc k) begins.0) (subst (All IsOfItsMaker) (own_is (suc k)) (by (nat_le (suc k) (length scripts)) refl))
    where
      by : (few : Bool) → nat_le (suc k) (length scripts) ≡ few → All IsOfItsMaker (own by_of (suc k) a.known.start log)
      by true is = editors_so log a.known.start 1 (suc k) scripts s.editors (λ e. absurd cc) (omega arith) (omega (arith, leb-true (suc k) (length scripts) is)) s.edited
      by false is = subst (All IsOfItsMaker) (sym (own_none (suc k) (length scripts) (drop a.known.start log) (leb-false (suc k) (length scripts) is) s.others)) (All-nil IsOfItsMaker)

  session_makes : All IsOfItsMaker (drop (length a.known.seen) b.known.seen)
  session_makes = subst (All IsOfItsMaker) (sym (ap (drop (length a.known.seen)) begins.1 ∙ drop_seen a.known.seen begins.0)) (all_by_number IsOfItsMaker begins.0 each_so)

pub makers : (a b : Stand) (rounds until : ℕ) (scripts : List (List EditorLine)) (result : Result ⊤ SessionFault) → own by_of 0 a.known.start a.known.seen ≡ a.known.mine → a.known.start ≤ length a.known.seen
    → IsSession a b rounds until scripts result → All IsOfItsMaker (drop (length a.known.seen) b.known.seen)
makers = session_makes
