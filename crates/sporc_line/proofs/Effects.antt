-- What an entry that passed the head's checks does, and its first fault of the checks that need keys.
use Rattle.std.proofs.Common.{◌≡◌, ℕ, ◌+◌, ◌≤◌, Bool, true, false, List, [], ◌∷◌, ◌++◌, length, take, drop, refl, ap, sym, ◌∙◌, subst, arith, Option, None, Some}
use Rattle.sporc_line.proofs.Common.{is_some, leb-true, eqb-true, eq-eqb, unless, first_of, Mark, base_len, inserted_len, keep_marks, later_over, Device, passes, Entry, ChangeBody, Genesis}
use Rattle.sporc_line.proofs.Common.{MAX_EDIT_BODY, entry_of, change_of, Refusal, BadPayload, WrongLength, change_in, changes, epoch_of, roster_of, roster_checks, fault_read, change_in_read, Kit}
use Rattle.sporc_line.proofs.Common.{key_after, epoch_key, key_by_wraps, marks_in, edit_marks, forms_of, text_of, is_over, edit_checks, new_key_checks, key_checks_of, first_fault}
use Rattle.sporc_line.proofs.Common.{inserted_len-keep_marks, stream_of, CheckedModel, Effect, IsEffect}
use Rattle.sporc_entry.specs.declared.header.Header.{Header}
use Rattle.sporc_head.specs.IsChecked.{IsChecked}
use Rattle.sporc_head.specs.HeadChecks.{head_checks, head_fault}
use Rattle.sporc_line.specs.LineChecks.{key_checks}
use Rattle.sporc_line.proofs.Passes.{pass_from}
use Rattle.sporc_line.proofs.SameKeys.{committed}
use Rattle.sporc_line.proofs.FormLengths.{change_form, edit_form, inserted_len-over}
use Rattle.sporc_line.proofs.NextEntry.{started_by_wraps, edit_key, key_after_change, fault_at_keys}
use Rattle.sporc_line.proofs.ReadLengths.{body_within, marks_within}

-- ---- what the head's checks say

pub record HeadPassed (g : Genesis) (A : List (List ℕ)) (e : Entry) : Type 0 where
  pub base : e.header.base ≤ length A
  pub epoch : e.header.epoch ≡ epoch_of A
  pub roster : first_of (roster_checks (roster_of g A) (change_of e)) ≡ None

none_fails : (g : Genesis) (A : List (List ℕ)) (c : CheckedModel) → IsChecked g A c → first_of (head_checks g None A (length A + 1) c.entry) ≡ None
unfolding head_fault
none_fails g A c k = sym (ap (fault_read (head_checks g None A (length A + 1))) k.read) ∙ k.passed

pub head_passed : (g : Genesis) (A : List (List ℕ)) (c : CheckedModel) → IsChecked g A c → HeadPassed g A c.entry
unfolding head_checks
head_passed g A c k =
    let checks = head_checks g None A (length A + 1) c.entry in
    let at : (i : ℕ) → first_of (drop i checks) ≡ None = λ i. pass_from checks i (none_fails g A c k) in
    record { base = leb-true _ _ (passes _ _ _ (at 7)).0; epoch = eqb-true _ _ (passes _ _ _ (at 12)).0; roster = at 16 }

-- ---- an edit

-- the checks of an edit, by the key of the last epoch
pub edit_faults : (g : Genesis) (kit : Kit) (A : List (List ℕ)) (c : CheckedModel) (key : Option (List ℕ)) → IsChecked g A c → change_of c.entry ≡ None → key ≡ epoch_key g kit A (epoch_of A)
    → first_of (key_checks g kit A c.entry) ≡ first_of (edit_checks (length (text_of g kit (take c.entry.header.base A))) (edit_marks key c.entry))
unfolding key_checks
edit_faults g kit A c key k none is =
    let p = head_passed g A c k in
    let same : epoch_key g kit A c.entry.header.epoch ≡ key = ap (epoch_key g kit A) p.epoch ∙ sym is in
    ap (λ (o : Option ChangeBody). first_of (key_checks_of g kit A c.entry o)) none
    ∙ ap (λ (key : Option (List ℕ)). first_of (edit_checks (length (text_of g kit (take c.entry.header.base A))) (edit_marks key c.entry))) same

-- no key, or no delta
pub bad_payload : (len : ℕ) (marks : Option (List Mark)) (r : Refusal) → unless (is_some marks) BadPayload ≡ Some r → first_of (edit_checks len marks) ≡ Some r
bad_payload len None r h = h
bad_payload len (Some m) r h = absurd cc

-- a delta over a text of another length
pub wrong_length : (len : ℕ) (marks : Option (List Mark)) (m : List Mark) → marks ≡ Some m → (base_len m ≡ len → ⊥) → first_of (edit_checks len marks) ≡ Some WrongLength
wrong_length len marks m is other = subst (λ (o : Option (List Mark)). first_of (edit_checks len o) ≡ Some WrongLength) (sym is) (go (is_over len (Some m)) refl)
  where
    go : (t : Bool) → is_over len (Some m) ≡ t → first_of (unless t WrongLength ∷ []) ≡ Some WrongLength
    go true h = absurd (other (eqb-true (base_len m) len h))
    go false h = refl

-- a delta over a text of this length
pub edit_passes : (len : ℕ) (marks : Option (List Mark)) (m : List Mark) → marks ≡ Some m → base_len m ≡ len → first_of (edit_checks len marks) ≡ None
edit_passes len marks m is same = subst (λ (o : Option (List Mark)). first_of (edit_checks len o) ≡ None) (sym is) (ap (λ (t : Bool). first_of (unless t WrongLength ∷ [])) (eq-eqb (base_len m) len same))

-- what an edit does
pub edit_does : (g : Genesis) (kit : Kit) (A : List (List ℕ)) (c : CheckedModel) (key : List ℕ) (m : List Mark) (effect : Effect) → IsChecked g A c → change_of c.entry ≡ None
    → Some key ≡ epoch_key g kit A (epoch_of A) → edit_marks (Some key) c.entry ≡ Some m
    → effect.form ≡ later_over m (drop c.entry.header.base (forms_of g kit A)) → effect.key ≡ Some key → IsEffect g kit A c effect
edit_does g kit A c key m effect k none is marks form after =
    let p = head_passed g A c k in
    let there : edit_marks (epoch_key g kit A c.entry.header.epoch) c.entry ≡ Some m = ap (λ (key : Option (List ℕ)). edit_marks key c.entry) (ap (epoch_key g kit A) p.epoch ∙ sym is) ∙ marks in
    let in_none : change_in c.bytes ≡ None = change_in_read c.bytes c.entry None k.read (sym none) in
    record {
      form_is = form ∙ sym (edit_form g kit A c.bytes c.entry m k.read none there);
      small = omega (arith, ap inserted_len form, inserted_len-over m (drop c.entry.header.base (forms_of g kit A)), marks_within key (stream_of c.entry.header) c.entry.body m marks, body_within c.bytes c.entry k.read);
      key_is = after ∙ is ∙ sym (edit_key g kit A c.bytes in_none);
    }

-- ---- a change

-- the checks of the key that a change starts
pub change_faults : (g : Genesis) (kit : Kit) (A : List (List ℕ)) (c : CheckedModel) (body : ChangeBody) (epoch : ℕ) (document : List ℕ) (old key : Option (List ℕ)) → IsChecked g A c → change_of c.entry ≡ Some body
    → epoch ≡ epoch_of A + 1 → document ≡ g.document → old ≡ epoch_key g kit A (epoch_of A) → key ≡ key_by_wraps kit epoch c.entry.header body
    → first_of (key_checks g kit A c.entry) ≡ first_of (new_key_checks document kit.me epoch body old key)
unfolding key_checks
change_faults g kit A c body epoch document old key k has e d o is =
    let p = head_passed g A c k in
    let started = started_by_wraps g kit A c.bytes c.entry body k.read has p.roster in
    let same : key_after g kit (changes A ++ committed c.entry body ∷ []) (epoch_of A + 1) ≡ key = started ∙ ap (λ (n : ℕ). key_by_wraps kit n c.entry.header body) (sym e) ∙ sym is in
    ap (λ (o : Option ChangeBody). first_of (key_checks_of g kit A c.entry o)) has
    ∙ ap (λ (key : Option (List ℕ)). first_of (new_key_checks g.document kit.me (epoch_of A + 1) body (epoch_key g kit A (epoch_of A)) key)) same
    ∙ ap (λ (old : Option (List ℕ)). first_of (new_key_checks g.document kit.me (epoch_of A + 1) body old key)) (sym o)
    ∙ ap (λ (n : ℕ). first_of (new_key_checks g.document kit.me n body old key)) (sym e)
    ∙ ap (λ (d : List ℕ). first_of (new_key_checks d kit.me epoch body old key)) (sym d)

-- what a change does
pub change_does : (g : Genesis) (kit : Kit) (A : List (List ℕ)) (c : CheckedModel) (body : ChangeBody) (epoch : ℕ) (effect : Effect) → IsChecked g A c → change_of c.entry ≡ Some body
    → epoch ≡ epoch_of A + 1 → effect.form ≡ keep_marks (length (text_of g kit A)) → effect.key ≡ key_by_wraps kit epoch c.entry.header body → IsEffect g kit A c effect
change_does g kit A c body epoch effect k has e form key =
    let p = head_passed g A c k in
    let started = started_by_wraps g kit A c.bytes c.entry body k.read has p.roster in
    let some : change_in c.bytes ≡ Some (committed c.entry body) = change_in_read c.bytes c.entry (Some body) k.read (sym has) in
    record {
      form_is = form ∙ sym (change_form g kit A c.bytes c.entry body k.read has);
      small = omega (arith, ap inserted_len form, inserted_len-keep_marks (length (text_of g kit A)));
      key_is = key ∙ ap (λ (n : ℕ). key_by_wraps kit n c.entry.header body) e ∙ sym started ∙ sym (key_after_change g kit A c.bytes (committed c.entry body) some);
    }

-- ---- what a call has seen of an edit, and of a change

pub record EditSeen (g : Genesis) (kit : Kit) (A : List (List ℕ)) (c : CheckedModel) (h : Header) (stream : ℕ) (key body : List ℕ) : Type 0 where
  pub checked : IsChecked g A c
  pub edit : change_of c.entry ≡ None
  pub key_is : Some key ≡ epoch_key g kit A (epoch_of A)
  pub header_is : h ≡ c.entry.header
  pub stream_is : stream ≡ stream_of h
  pub body_is : body ≡ c.entry.body

pub edit_seen : {g : Genesis} {kit : Kit} {A : List (List ℕ)} {c : CheckedModel} {h : Header} {stream : ℕ} {key body : List ℕ} → IsChecked g A c → change_of c.entry ≡ None
    → Some key ≡ epoch_key g kit A (epoch_of A) → h ≡ c.entry.header → stream ≡ stream_of h → body ≡ c.entry.body → EditSeen g kit A c h stream key body
edit_seen checked edit key_is header_is stream_is body_is = record { checked = checked; edit = edit; key_is = key_is; header_is = header_is; stream_is = stream_is; body_is = body_is }

module _ {g : Genesis} {kit : Kit} {A : List (List ℕ)} {c : CheckedModel} {h : Header} {stream : ℕ} {key body : List ℕ} (s : EditSeen g kit A c h stream key body) where
  seen_marks : edit_marks (Some key) c.entry ≡ marks_in key stream body
  seen_marks =
      ap (λ (b : List ℕ). marks_in key (stream_of c.entry.header) b) (sym s.body_is)
      ∙ ap (λ (n : ℕ). marks_in key n body) (ap stream_of (sym s.header_is) ∙ sym s.stream_is)

  seen_base : length (text_of g kit (take h.base A)) ≡ length (text_of g kit (take c.entry.header.base A))
  seen_base = ap (λ (h : Header). length (text_of g kit (take h.base A))) s.header_is

  seen_faults : first_of (key_checks g kit A c.entry) ≡ first_of (edit_checks (length (text_of g kit (take c.entry.header.base A))) (marks_in key stream body))
  seen_faults =
      edit_faults g kit A c (Some key) s.checked s.edit s.key_is
      ∙ ap (λ (o : Option (List Mark)). first_of (edit_checks (length (text_of g kit (take c.entry.header.base A))) o)) seen_marks

  pub seen_size : length body ≤ MAX_EDIT_BODY
  seen_size = omega (arith, ap length s.body_is, body_within c.bytes c.entry s.checked.read)

  pub seen_within : h.base ≤ length A
  seen_within =
      let same : h.base ≡ c.entry.header.base = ap (λ (h : Header). h.base) s.header_is in
      omega (arith, same, (head_passed g A c s.checked).base)

  pub seen_bad : (r : Refusal) → unless (is_some (marks_in key stream body)) BadPayload ≡ Some r → first_of (key_checks g kit A c.entry) ≡ Some r
  seen_bad r is = seen_faults ∙ bad_payload (length (text_of g kit (take c.entry.header.base A))) (marks_in key stream body) r is

  pub seen_wrong : (m : List Mark) → marks_in key stream body ≡ Some m → (base_len m ≡ length (text_of g kit (take h.base A)) → ⊥) → first_of (key_checks g kit A c.entry) ≡ Some WrongLength
  seen_wrong m is other = seen_faults ∙ wrong_length (length (text_of g kit (take c.entry.header.base A))) (marks_in key stream body) m is (λ same. other (same ∙ sym seen_base))

  pub seen_right : (m : List Mark) → marks_in key stream body ≡ Some m → base_len m ≡ length (text_of g kit (take h.base A)) → first_of (key_checks g kit A c.entry) ≡ None
  seen_right m is same = seen_faults ∙ edit_passes (length (text_of g kit (take c.entry.header.base A))) (marks_in key stream body) m is (same ∙ seen_base)

  pub seen_small : (m : List Mark) → marks_in key stream body ≡ Some m → inserted_len m ≤ MAX_EDIT_BODY
  seen_small m is = omega (arith, marks_within key stream body m is, seen_size)

  pub seen_does : (m form : List Mark) → marks_in key stream body ≡ Some m → form ≡ later_over m (drop h.base (forms_of g kit A)) → IsEffect g kit A c (record { form = form; key = Some key })
  seen_does m form is form_is =
      edit_does g kit A c key m (record { form = form; key = Some key }) s.checked s.edit s.key_is (seen_marks ∙ is)
      (form_is ∙ ap (λ (h : Header). later_over m (drop h.base (forms_of g kit A))) s.header_is) refl

-- without a key no body is a delta
pub no_key : (g : Genesis) (kit : Kit) (A : List (List ℕ)) (c : CheckedModel) → IsChecked g A c → change_of c.entry ≡ None → None ≡ epoch_key g kit A (epoch_of A) → first_of (key_checks g kit A c.entry) ≡ Some BadPayload
no_key g kit A c k none is = edit_faults g kit A c None k none is

pub record ChangeSeen (g : Genesis) (kit : Kit) (A : List (List ℕ)) (c : CheckedModel) (body : ChangeBody) (epoch : ℕ) (me : Device) (document : List ℕ) (old key : Option (List ℕ)) : Type 0 where
  pub checked : IsChecked g A c
  pub change : change_of c.entry ≡ Some body
  pub epoch_is : epoch ≡ epoch_of A + 1
  pub me_is : me ≡ kit.me
  pub document_is : document ≡ g.document
  pub old_is : old ≡ epoch_key g kit A (epoch_of A)
  pub key_is : key ≡ key_by_wraps kit epoch c.entry.header body

-- by the key that the author's header opens
pub started_seen : {g : Genesis} {kit : Kit} {A : List (List ℕ)} {c : CheckedModel} {body : ChangeBody} {before : ℕ} {me : Device} {document : List ℕ} {old key : Option (List ℕ)} {mine : Kit} {h : Header}
    → IsChecked g A c → change_of c.entry ≡ Some body → before ≡ epoch_of A → me ≡ kit.me → document ≡ g.document → old ≡ epoch_key g kit A (epoch_of A) → mine ≡ kit → h ≡ c.entry.header
    → key ≡ key_by_wraps mine (before + 1) h body → ChangeSeen g kit A c body (before + 1) me document old key
started_seen {g} {kit} {A} {c} {body} {before} {me} {document} {old} {key} {mine} {h} checked change before_is me_is document_is old_is mine_is header_is key_is = record {
  checked = checked;
  change = change;
  epoch_is = ap (λ (n : ℕ). n + 1) before_is;
  me_is = me_is;
  document_is = document_is;
  old_is = old_is;
  key_is = key_is ∙ ap (λ (k : Kit). key_by_wraps k (before + 1) h body) mine_is ∙ ap (λ (x : Header). key_by_wraps kit (before + 1) x body) header_is;
}

pub change_seen : {g : Genesis} {kit : Kit} {A : List (List ℕ)} {c : CheckedModel} {body : ChangeBody} {epoch : ℕ} {me : Device} {document : List ℕ} {old key : Option (List ℕ)} → ChangeSeen g kit A c body epoch me document old key
    → first_of (key_checks g kit A c.entry) ≡ first_of (new_key_checks document me epoch body old key)
change_seen {g} {kit} {A} {c} {body} {epoch} {me} {document} {old} {key} s =
    change_faults g kit A c body epoch document old key s.checked s.change s.epoch_is s.document_is s.old_is s.key_is
    ∙ ap (λ (me : Device). first_of (new_key_checks document me epoch body old key)) (sym s.me_is)

-- the first fault of an entry that passed the head's checks
pub checked_faults : (g : Genesis) (kit : Kit) (A : List (List ℕ)) (pos : ℕ) (me : Device) (b : List ℕ) (c : CheckedModel) → IsChecked g A c → c.bytes ≡ b → me ≡ kit.me → head_fault g (Some me) A pos b ≡ None
    → first_fault g kit A pos b ≡ first_of (key_checks g kit A c.entry)
checked_faults g kit A pos me b c k same is none =
    fault_at_keys g kit A pos b c.entry (ap entry_of (sym same) ∙ k.read) (ap (λ (me : Device). head_fault g (Some me) A pos b) (sym is) ∙ none)
