-- An editor and a screen agree, after every list of moves.
use Rattle.std.proofs.Common.{◌≡◌, ℕ, List, [], ◌∷◌, refl, ap, ap₂, sym, ◌∙◌, subst, length}
use Rattle.sporc_screen.proofs.Common.{Mark, apply, is_in_bounds, knows, lines_behind, seen_len}
use Rattle.sporc_screen.proofs.Following.{apply_all}
use Rattle.sporc_screen.proofs.Holding.{Held, begun_holds, changed_holds, next_due, read_holds, taken_holds}
use Rattle.sporc_screen.proofs.Naming.{names_known}
use Rattle.sporc_screen.proofs.UnderWay.{AreTyped, due, lines_from}
use Rattle.sporc_screen.proofs.Writing.{come_holds, done_holds}
use Rattle.sporc_screen.specs.Machine.{Agree, AreOne, Change, Come, DoNext, IsNear, Line, Move, NextIsKnown, NextLeads, ReadNext, Sent, Sides, StaysNear, TakeDraft, after, begun, moved}

moved_holds : (m : Move) (s : Sides) → IsNear (moved m s) → Held s → Held (moved m s)
moved_holds (Change edit) s near h = changed_holds (is_in_bounds (length s.editor.text) edit) edit s refl h
moved_holds DoNext s near h = done_holds s.edits s refl h
moved_holds (Come form) s near h = come_holds form s near h
moved_holds ReadNext s near h = read_holds s.lines s refl h
moved_holds TakeDraft s near h = taken_holds s h

after_holds : (moves : List Move) (s : Sides) → StaysNear moves s → Held s → Held (after moves s)
after_holds [] s near h = h
after_holds (m ∷ ms) s near h = after_holds ms (moved m s) near.1 (moved_holds m s near.0 h)

known_of : (s : Sides) → Held s → NextIsKnown s
known_of s h e es edits =
    let k = h.holds in
    let typed = subst (λ (es : List Sent). AreTyped s.editor.seen h.text es s.editor.text) edits k.typed in
    let known = names_known s.screen.base s.screen.last s.screen.since s.editor.seen h.behind k.names k.numbered in
    let behind : lines_behind s.screen e.seen ≡ h.behind = ap (lines_behind s.screen) typed.0 ∙ known.behind in
    let len : seen_len s.screen.draft (lines_behind s.screen e.seen) ≡ length h.text = ap (seen_len s.screen.draft) behind ∙ k.stated in (
      ap (knows s.screen) typed.0 ∙ known.known,
      ap (λ (n : ℕ). is_in_bounds n e.edit) len ∙ typed.1,
    )

leads_of : (s : Sides) → Held s → NextLeads s
leads_of s h l ls lines so =
    let nexts = next_due s l ls lines so h in
    let n = nexts.next in
    let typed : h.text ≡ s.editor.text = subst (λ (es : List Sent). AreTyped s.editor.seen h.text es s.editor.text) n.none h.holds.typed in
    let delta_is : l.written.delta ≡ nexts.delta = ap (λ (l : Line). l.written.delta) n.line_is in
    let shown_is : l.shown ≡ apply nexts.delta h.text = ap (λ (l : Line). l.shown) n.line_is in
    rw so (ap₂ apply delta_is (sym typed) ∙ sym shown_is)

none_left : (first own : ℕ) (t : List ℕ) (y : List (List Mark)) → [] ≡ lines_from first own t y → y ≡ []
none_left first own t [] h = refl
none_left first own t (x ∷ y) h = absurd cc

one_of : (s : Sides) → Held s → AreOne s
one_of s h edits lines =
    let k = h.holds in
    let typed : h.text ≡ s.editor.text = subst (λ (es : List Sent). AreTyped s.editor.seen h.text es s.editor.text) edits k.typed in
    let due_is : [] ≡ lines_from h.first s.screen.own h.text h.behind = ap (due s.editor.sent) (sym lines) ∙ k.due_is edits in
    let none = none_left h.first s.screen.own h.text h.behind due_is in
    sym typed ∙ ap (λ (y : List (List Mark)). apply_all y h.text) (sym none) ∙ k.reached

pub agree : (text : List ℕ) (moves : List Move) → StaysNear moves (begun text) → Agree (after moves (begun text))
agree text moves near =
    let h = after_holds moves (begun text) near (begun_holds text) in
    let s = after moves (begun text) in record { known = known_of s h; leads = leads_of s h; one = one_of s h }
