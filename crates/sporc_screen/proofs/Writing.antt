-- An editor and a screen agree after a line that is written, for an edit or for another's delta.
use Rattle.std.proofs.Common.{◌≡◌, ℕ, ◌+◌, Bool, true, false, List, [], ◌∷◌, ◌++◌, length, refl, ap, ap₂, sym, ◌∙◌, subst, arith, cond, length-append}
use Rattle.std.proofs.lemmas.Bool.{eq-eqb, eqb-true}
use Rattle.std.specs.Prelude.{◌==◌}
use Rattle.sporc_screen.proofs.Common.{Mark, Edit, apply, apply-compose, base_len, out_len, base_len-earlier, base_len-later, composes, earlier, earlier_merges, later, later_merges, is_in_bounds, edit_marks}
use Rattle.sporc_screen.proofs.Common.{LeadTo, ScreenModel, draft_with, leading, last_of, len_before, line_with, lines_behind, nat_lt, seen_len, with_line, MAX_NAMED, came}
use Rattle.sporc_screen.proofs.EditLemmas.{passes}
use Rattle.sporc_screen.proofs.Following.{LeadTo-append, apply_all, apply_all-append, composed_leads, len_before-append, length-apply, out_len-both}
use Rattle.sporc_screen.proofs.Holding.{Held, Holds}
use Rattle.sporc_screen.proofs.Keeping.{last_with_line}
use Rattle.sporc_screen.proofs.Naming.{Names, length-more, names_base, names_before, names_known, names_more}
use Rattle.sporc_screen.proofs.UnderWay.{AreTyped, counted_more, counted_up, due_more, line_of, lines_from-append, none_due}
use Rattle.sporc_screen.specs.Machine.{IsNear, Line, Sent, Sides, come, done, shown, with_edit, written}

-- ---- an edit is done

-- what an edit makes of a draft and of the lines that lead to the text after it
record Led (draft : List Mark) (y : List (List Mark)) (edit : Edit) (t client : List ℕ) : Type 0 where
  drafted : base_len (draft_with draft y edit) ≡ length client
  stated : base_len (line_with draft y edit) ≡ length (with_edit t edit)
  lead : out_len (line_with draft y edit) ≡ out_len (draft_with draft y edit)
  reached : apply (line_with draft y edit) (with_edit t edit) ≡ apply (draft_with draft y edit) client

edit_leads : (draft : List Mark) (y : List (List Mark)) (edit : Edit) (t client : List ℕ) → LeadTo y (out_len draft) → len_before y (out_len draft) ≡ length t → base_len draft ≡ length client → apply_all y t ≡ apply draft client
    → is_in_bounds (length t) edit ≡ true → Led draft y edit t client
edit_leads draft y edit t client lead stated drafted reached within =
    let n = out_len draft in
    let all = leading draft y in
    let marks = edit_marks (seen_len draft y) edit in
    let pass = passes draft y edit lead (subst (λ (n : ℕ). is_in_bounds n edit ≡ true) (sym stated) within) in
    let all_base : base_len all ≡ length t = pass.first ∙ stated in
    let marks_base : base_len marks ≡ length t = sym pass.base ∙ all_base in
    let text : apply marks t ≡ with_edit t edit = ap (λ (n : ℕ). apply (edit_marks n edit) t) stated in
    let both = composes draft (later marks all) pass.follows in
    let all_leads : apply all t ≡ apply draft client = composed_leads y n t stated lead ∙ reached in record {
      drafted = both.base ∙ drafted;
      stated = base_len-earlier all marks pass.base ∙ sym (length-apply marks t marks_base) ∙ ap length text;
      lead = sym (both.out ∙ out_len-both all marks);
      reached =
          ap (apply (earlier all marks)) (sym text)
          ∙ earlier_merges all marks t all_base marks_base
          ∙ sym (later_merges all marks t all_base marks_base)
          ∙ ap (apply (later marks all)) all_leads
          ∙ sym (apply-compose draft (later marks all) client drafted pass.follows);
    }

-- the screen after it, whatever lines it took for those behind the named one
abbrev with_lines : ScreenModel → List (List Mark) → Sent → ScreenModel
with_lines s y e = record {
  draft = draft_with s.draft y e.edit;
  own = s.own + 1;
  last = s.last + 1;
  base = e.seen;
  since = line_with s.draft y e.edit ∷ [];
}

done_in : (e : Sent) (es : List Sent) (s : Sides) (t : List ℕ) (y : List (List Mark)) (first : ℕ) → s.edits ≡ e ∷ es → Holds s t y first → Held (written (record s { screen = with_lines s.screen y e; edits = es }))
done_in e es s t y first edits k =
    let draft = s.screen.draft in
    let typed = subst (λ (es : List Sent). AreTyped s.editor.seen t es s.editor.text) edits k.typed in
    let sent = subst (λ (es : List Sent). s.editor.sent ≡ s.screen.own + length es) edits k.sent in
    let led = edit_leads draft y e.edit t s.client k.lead k.stated k.drafted k.reached typed.1 in
    let x = line_with draft y e.edit in
    let own = s.screen.own in
    let number = s.screen.last + 1 in
    let text = with_edit t e.edit in
    let l : Line = line_of number (own + 1) x (apply (draft_with draft y e.edit) s.client) in record {
      text = text;
      behind = x ∷ [];
      first = number;
      holds = record {
        names = subst (λ (n : ℕ). Names n number (x ∷ []) s.editor.seen (x ∷ [])) (sym typed.0) (names_base number x s.editor.seen);
        numbered = omega (arith, typed.0, names_before s.screen.base s.screen.last s.screen.since s.editor.seen y k.names k.numbered);
        drafted = led.drafted;
        stated = led.stated;
        lead = (led.lead, tt);
        reached = led.reached;
        typed = typed.2;
        sent = omega (arith, sent);
        counted = counted_more (own + 1) s.lines l (counted_up own s.lines k.counted) (omega arith);
        first_is = omega arith;
        due_is = λ none.
            let all : s.editor.sent ≡ own + 1 = omega (arith, sent, ap length none) in
            due_more s.editor.sent s.lines l (eq-eqb (own + 1) s.editor.sent (sym all))
            ∙ ap (λ (ls : List Line). ls ++ l ∷ []) (none_due own s.editor.sent s.lines k.counted (omega (arith, all)))
            ∙ ap (λ (shown : List ℕ). line_of number (own + 1) x shown ∷ []) (sym led.reached);
      };
    }

pub done_holds : (edits : List Sent) (s : Sides) → s.edits ≡ edits → Held s → Held (done edits s)
done_holds [] s is h = h
done_holds (e ∷ es) s is h =
    let k = h.holds in
    let typed = subst (λ (es : List Sent). AreTyped s.editor.seen h.text es s.editor.text) is k.typed in
    let known = names_known s.screen.base s.screen.last s.screen.since s.editor.seen h.behind k.names k.numbered in
    let behind : lines_behind s.screen e.seen ≡ h.behind = ap (lines_behind s.screen) typed.0 ∙ known.behind in
    subst (λ (y : List (List Mark)). Held (written (record s { screen = with_lines s.screen y e; edits = es }))) (sym behind) (done_in e es s h.text h.behind h.first is k)

-- ---- another's delta comes

come_in : (form : List Mark) (s : Sides) → base_len form ≡ length s.client → IsNear (written (record s { client = apply form s.client; screen = came s.screen form })) → Held s
    → Held (written (record s { client = apply form s.client; screen = came s.screen form }))
come_in form s base near h =
    let k = h.holds in
    let draft = s.screen.draft in
    let y = h.behind in
    let x = earlier form draft in
    let own = s.screen.own in
    let same : base_len form ≡ base_len draft = base ∙ sym k.drafted in
    let stated : base_len x ≡ out_len draft = base_len-earlier form draft same in
    let next = apply (later draft form) (apply form s.client) in
    let both : apply x (shown s) ≡ next = earlier_merges form draft s.client base k.drafted ∙ sym (later_merges form draft s.client base k.drafted) in
    let reached : apply x (apply_all y h.text) ≡ next = ap (apply x) k.reached ∙ both in
    let l : Line = line_of (s.screen.last + 1) own (last_of (with_line s.screen.since x)) next in record {
      text = h.text;
      behind = y ++ x ∷ [];
      first = h.first;
      holds = record {
        names = names_more s.screen.base s.screen.last s.screen.since s.editor.seen y x k.names k.numbered near;
        numbered = omega (arith, k.numbered, length-more (nat_lt (length s.screen.since) MAX_NAMED) s.screen.since x refl);
        drafted = base_len-later form draft same ∙ sym (length-apply form s.client base);
        stated = len_before-append y x (out_len (later draft form)) ∙ ap (len_before y) stated ∙ k.stated;
        lead = subst (λ (n : ℕ). LeadTo (y ++ x ∷ []) n) (sym (out_len-both form draft)) (LeadTo-append y x (subst (λ (n : ℕ). LeadTo y n) (sym stated) k.lead));
        reached = apply_all-append y x h.text ∙ reached;
        typed = k.typed;
        sent = k.sent;
        counted = counted_more own s.lines l k.counted (omega arith);
        first_is = omega (arith, k.first_is, length-append y (x ∷ []));
        due_is = λ none.
            let all : s.editor.sent ≡ own = omega (arith, k.sent, ap length none) in
            let number : s.screen.last + 1 ≡ h.first + length y = sym k.first_is in
            let line : l ≡ line_of (h.first + length y) own x (apply x (apply_all y h.text)) =
            ap₂ (λ (d : List Mark) (n : ℕ). line_of n own d next) (last_with_line s.screen.since x) number ∙ ap (line_of (h.first + length y) own x) (sym reached) in
            due_more s.editor.sent s.lines l (eq-eqb own s.editor.sent (sym all))
            ∙ ap₂ (λ (ls : List Line) (l : Line). ls ++ l ∷ []) (k.due_is none) line
            ∙ sym (lines_from-append h.first own h.text y x);
      };
    }

come_by : (b : Bool) (form : List Mark) (s : Sides) → (base_len form == length s.client) ≡ b → IsNear (cond b (written (record s { client = apply form s.client; screen = came s.screen form })) s) → Held s
    → Held (cond b (written (record s { client = apply form s.client; screen = came s.screen form })) s)
come_by true form s is near h = come_in form s (eqb-true (base_len form) (length s.client) is) near h
come_by false form s is near h = h

pub come_holds : (form : List Mark) (s : Sides) → IsNear (come form s) → Held s → Held (come form s)
come_holds form s near h = come_by (base_len form == length s.client) form s refl near h
