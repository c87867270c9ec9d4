-- An editor and a screen agree, after each move.
use Rattle.std.proofs.Common.{◌≡◌, ℕ, ◌+◌, ◌≤◌, Bool, true, false, List, [], ◌∷◌, ◌++◌, length, refl, ap, ap₂, sym, ◌∙◌, subst, arith, cond, length-append}
use Rattle.std.proofs.lemmas.Bool.{eqb-true}
use Rattle.std.proofs.lemmas.List.{nil_from_length}
use Rattle.sporc_screen.proofs.Common.{Mark, Edit, apply, base_len, out_len, keep_marks, base_len-keep_marks, out_len-keep_marks, is_in_bounds}
use Rattle.sporc_screen.proofs.Common.{LeadTo, len_before}
use Rattle.sporc_screen.proofs.Following.{apply-keep_marks, apply_all, length-apply}
use Rattle.sporc_screen.proofs.Naming.{Names, IsBase, names_next}
use Rattle.sporc_screen.proofs.UnderWay.{AreCounted, AreTyped, due, line_of, lines_from, some_more, typed_more}
use Rattle.sporc_screen.specs.Machine.{Line, Sent, Sides, begun, is_due, read, shown, take_draft, with_edit}

-- behind the line that the editor applied last stand the lines y, which lead on from the text t,
-- the text there; its edits under way lead from t to its own text; if there are none, the lines that
-- it will apply are these, numbered from first on
pub record Holds (s : Sides) (t : List ℕ) (y : List (List Mark)) (first : ℕ) : Type 0 where
  pub names : Names s.screen.base s.screen.last s.screen.since s.editor.seen y
  pub numbered : s.screen.base + length s.screen.since ≤ s.screen.last
  pub drafted : base_len s.screen.draft ≡ length s.client
  pub stated : len_before y (out_len s.screen.draft) ≡ length t
  pub lead : LeadTo y (out_len s.screen.draft)
  pub reached : apply_all y t ≡ shown s
  pub typed : AreTyped s.editor.seen t s.edits s.editor.text
  pub sent : s.editor.sent ≡ s.screen.own + length s.edits
  pub counted : AreCounted s.screen.own s.lines
  pub first_is : first + length y ≡ s.screen.last + 1
  pub due_is : s.edits ≡ [] → due s.editor.sent s.lines ≡ lines_from first s.screen.own t y

pub record Held (s : Sides) : Type 0 where
  pub text : List ℕ
  pub behind : List (List Mark)
  pub first : ℕ
  pub holds : Holds s text behind first

pub begun_holds : (text : List ℕ) → Held (begun text)
begun_holds text = let n = length text in record {
  text = text;
  behind = [];
  first = 1;
  holds = record {
    names = IsBase refl refl;
    numbered = omega arith;
    drafted = base_len-keep_marks n;
    stated = out_len-keep_marks n;
    lead = tt;
    reached = sym (apply-keep_marks text);
    typed = refl;
    sent = omega arith;
    counted = tt;
    first_is = omega arith;
    due_is = λ _. refl;
  };
}

-- ---- the user edits the text

pub changed_holds : (b : Bool) (edit : Edit) (s : Sides) → is_in_bounds (length s.editor.text) edit ≡ b → Held s → Held (cond b (record s {
  editor = record s.editor { text = with_edit s.editor.text edit; sent = s.editor.sent + 1 };
  edits = s.edits ++ record { seen = s.editor.seen; edit = edit } ∷ [];
}) s)
changed_holds false edit s within h = h
changed_holds true edit s within h = let k = h.holds in
    let e : Sent = record { seen = s.editor.seen; edit = edit } in record {
      text = h.text;
      behind = h.behind;
      first = h.first;
      holds = record {
        names = k.names;
        numbered = k.numbered;
        drafted = k.drafted;
        stated = k.stated;
        lead = k.lead;
        reached = k.reached;
        typed = typed_more s.editor.seen h.text s.edits s.editor.text edit k.typed within;
        sent = omega (arith, k.sent, length-append s.edits (e ∷ []));
        counted = k.counted;
        first_is = k.first_is;
        due_is = λ none. absurd (some_more s.edits e none);
      };
    }

-- ---- the client takes the draft

pub taken_holds : (s : Sides) → Held s → Held (take_draft s)
taken_holds s h =
    let k = h.holds in
    let n = out_len s.screen.draft in
    let long : length (shown s) ≡ n = length-apply s.screen.draft s.client k.drafted in
    let kept : apply (keep_marks n) (shown s) ≡ shown s = subst (λ (n : ℕ). apply (keep_marks n) (shown s) ≡ shown s) long (apply-keep_marks (shown s)) in record {
      text = h.text;
      behind = h.behind;
      first = h.first;
      holds = record {
        names = k.names;
        numbered = k.numbered;
        drafted = base_len-keep_marks n ∙ sym long;
        stated = ap (len_before h.behind) (out_len-keep_marks n) ∙ k.stated;
        lead = subst (λ (n : ℕ). LeadTo h.behind n) (sym (out_len-keep_marks n)) k.lead;
        reached = k.reached ∙ sym kept;
        typed = k.typed;
        sent = k.sent;
        counted = k.counted;
        first_is = k.first_is;
        due_is = k.due_is;
      };
    }

-- ---- the editor reads a line

-- the next line that it applies, of those that stand behind its text
pub record Next (s : Sides) (l : Line) (ls : List Line) (t : List ℕ) (y : List (List Mark)) (first : ℕ) (x : List Mark) (rest : List (List Mark)) : Type 0 where
  pub none : s.edits ≡ []
  pub split : y ≡ x ∷ rest
  pub line_is : l ≡ line_of first s.screen.own x (apply x t)
  pub left_is : due s.editor.sent ls ≡ lines_from (first + 1) s.screen.own (apply x t) rest

pub record Nexts (s : Sides) (l : Line) (ls : List Line) (t : List ℕ) (y : List (List Mark)) (first : ℕ) : Type 0 where
  pub delta : List Mark
  pub rest : List (List Mark)
  pub next : Next s l ls t y first delta rest

next_in : (s : Sides) (l : Line) (ls : List Line) (t : List ℕ) (y : List (List Mark)) (first : ℕ) → s.edits ≡ [] → l ∷ due s.editor.sent ls ≡ lines_from first s.screen.own t y → Nexts s l ls t y first
next_in s l ls t [] first none same = absurd cc
next_in s l ls t (x ∷ rest) first none same = record { delta = x; rest = rest; next = record { none = none; split = refl; line_is = cc; left_is = cc } }

pub next_due : (s : Sides) (l : Line) (ls : List Line) → s.lines ≡ l ∷ ls → is_due s.editor l ≡ true → (h : Held s) → Nexts s l ls h.text h.behind h.first
next_due s l ls lines so h =
    let k = h.holds in
    let counted = subst (λ (ls : List Line). AreCounted s.screen.own ls) lines k.counted in
    let own = eqb-true l.written.numbers.own s.editor.sent so in
    let none : s.edits ≡ [] = nil_from_length s.edits (omega (arith, own, counted.0, k.sent)) in
    let all : due s.editor.sent (l ∷ ls) ≡ lines_from h.first s.screen.own h.text h.behind = ap (due s.editor.sent) (sym lines) ∙ k.due_is none in
    next_in s l ls h.text h.behind h.first none (rw so at all)

applied_holds : (s : Sides) (l : Line) (ls : List Line) → s.lines ≡ l ∷ ls → is_due s.editor l ≡ true → Held s → Held (record s {
  editor = record s.editor { text = apply l.written.delta s.editor.text; seen = l.written.numbers.line };
  lines = ls;
})
applied_holds s l ls lines so h =
    let k = h.holds in
    let nexts = next_due s l ls lines so h in
    let n = nexts.next in
    let x = nexts.delta in
    let rest = nexts.rest in
    let delta_is : l.written.delta ≡ x = ap (λ (l : Line). l.written.delta) n.line_is in
    let number_is : l.written.numbers.line ≡ h.first = ap (λ (l : Line). l.written.numbers.line) n.line_is in
    let typed : h.text ≡ s.editor.text = subst (λ (es : List Sent). AreTyped s.editor.seen h.text es s.editor.text) n.none k.typed in
    let names = subst (λ (y : List (List Mark)). Names s.screen.base s.screen.last s.screen.since s.editor.seen y) n.split k.names in
    let lead = subst (λ (y : List (List Mark)). LeadTo y (out_len s.screen.draft)) n.split k.lead in
    let stated = subst (λ (y : List (List Mark)). len_before y (out_len s.screen.draft) ≡ length h.text) n.split k.stated in
    let first_is = subst (λ (y : List (List Mark)). h.first + length y ≡ s.screen.last + 1) n.split k.first_is in
    let after_is : apply x h.text ≡ apply l.written.delta s.editor.text = ap₂ apply (sym delta_is) typed in
    let counted = subst (λ (ls : List Line). AreCounted s.screen.own ls) lines k.counted in record {
      text = apply x h.text;
      behind = rest;
      first = h.first + 1;
      holds = record {
        names = subst (λ (n : ℕ). Names s.screen.base s.screen.last s.screen.since n rest) (sym number_is) (names_next s.screen.base s.screen.last s.screen.since s.editor.seen x rest h.first names (omega (arith, first_is)));
        numbered = k.numbered;
        drafted = k.drafted;
        stated = sym lead.0 ∙ sym (length-apply x h.text stated);
        lead = lead.1;
        reached = ap (λ (y : List (List Mark)). apply_all y h.text) (sym n.split) ∙ k.reached;
        typed = subst (λ (es : List Sent). AreTyped l.written.numbers.line (apply x h.text) es (apply l.written.delta s.editor.text)) (sym n.none) after_is;
        sent = k.sent;
        counted = counted.1;
        first_is = omega (arith, first_is);
        due_is = λ _. n.left_is;
      };
    }

ignored_holds : (s : Sides) (l : Line) (ls : List Line) → s.lines ≡ l ∷ ls → is_due s.editor l ≡ false → Held s → Held (record s { lines = ls })
ignored_holds s l ls lines other h =
    let k = h.holds in
    let counted = subst (λ (ls : List Line). AreCounted s.screen.own ls) lines k.counted in
    let same : due s.editor.sent s.lines ≡ due s.editor.sent ls = ap (due s.editor.sent) lines ∙ rw other refl in record {
      text = h.text;
      behind = h.behind;
      first = h.first;
      holds = record {
        names = k.names;
        numbered = k.numbered;
        drafted = k.drafted;
        stated = k.stated;
        lead = k.lead;
        reached = k.reached;
        typed = k.typed;
        sent = k.sent;
        counted = counted.1;
        first_is = k.first_is;
        due_is = λ none. sym same ∙ k.due_is none;
      };
    }

read_by : (b : Bool) (s : Sides) (l : Line) (ls : List Line) → s.lines ≡ l ∷ ls → is_due s.editor l ≡ b → Held s
    → Held (record s { editor = cond b (record s.editor { text = apply l.written.delta s.editor.text; seen = l.written.numbers.line }) s.editor; lines = ls })
read_by true s l ls lines so h = applied_holds s l ls lines so h
read_by false s l ls lines other h = ignored_holds s l ls lines other h

pub read_holds : (lines : List Line) (s : Sides) → s.lines ≡ lines → Held s → Held (read lines s)
read_holds [] s is h = h
read_holds (l ∷ ls) s is h = read_by (is_due s.editor l) s l ls is refl h
