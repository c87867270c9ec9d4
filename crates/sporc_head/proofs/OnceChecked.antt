-- What is known of an entry that was checked.
use Rattle.std.proofs.Common.{◌≡◌, ◌≢◌, ℕ, ◌+◌, ◌<◌, ltb, List, ◌∷◌, ◌++◌, length, refl, ap, sym, ◌∙◌, subst, Option, None, Some, Result, Ok, Err}
use Rattle.sporc_head.proofs.Common.{option_map, OnOk, IsOk, ltb-true, first_of, AnswersUnless, Change, Device, same_device, member_at, key_of, change_fault_of, Entry, ChangeBody, Genesis}
use Rattle.sporc_head.proofs.Common.{author_device, entry_of, change_of, HistoryFull, MAX_ENTRIES, CommittedChange, member_change_of, change_in, committed_by, is_by, roster_of, place_checks}
use Rattle.sporc_head.proofs.Common.{history_checks, author_checks, roster_checks, fault_read}
use Rattle.sporc_member.specs.declared.change.ChangeFault.{ChangeFault}
use Rattle.sporc_member.specs.declared.member.Member.{Member}
use Rattle.sporc_base.proofs.ListLemmas.{both_pass}
use Rattle.sporc_member.proofs.Checks.{passes}
use Rattle.sporc_head.specs.declared.refusal.Refusal.{Refusal}
use Rattle.sporc_head.specs.CheckedModel.{CheckedModel}
use Rattle.sporc_head.specs.HeadChecks.{bad_change, head_checks, head_fault}
use Rattle.sporc_head.specs.IsChecked.{IsChecked}
use Rattle.sporc_head.proofs.Grows.{is_by_read, change_in_read}
use Rattle.sporc_head.proofs.ChecksPass.{first_of-none, first_of-some}

-- what holds where a call answers Ok, where it does
pub ok_of : {X E : Type 0} (r : Result X E) (P : Type 0) → OnOk r P → IsOk r → P
ok_of (Ok x) P h ok = h
ok_of (Err e) P h ok = absurd cc

pub no_bad_change : (o : Option ChangeFault) (rest : List (Option Refusal)) → first_of (bad_change o ∷ rest) ≡ None → o ≡ None
no_bad_change None rest h = refl
no_bad_change (Some f) rest h = absurd cc

none_fails : (g : Genesis) (entries : List (List ℕ)) (pos : ℕ) (b : List ℕ) (e : Entry) → entry_of b ≡ Ok e → head_fault g None entries pos b ≡ None → first_of (head_checks g None entries pos e) ≡ None
unfolding head_fault
none_fails g entries pos b e is h = sym (ap (fault_read (head_checks g None entries pos)) is) ∙ h

parts : (g : Genesis) (entries : List (List ℕ)) (pos : ℕ) (e : Entry) → first_of (head_checks g None entries pos e) ≡ None
    → (first_of (history_checks g entries e.header) ≡ None) × (first_of (roster_checks (roster_of g entries) (change_of e)) ≡ None)
unfolding head_checks
parts g entries pos e h =
    let rosters = roster_checks (roster_of g entries) (change_of e) in
    let authors = author_checks (member_at (roster_of g entries) e.header.author) (key_of (roster_of g entries) (author_device e.header)) e in
    let a = both_pass (place_checks g None entries pos e.header) (history_checks g entries e.header ++ (authors ++ rosters)) h in
    let b = both_pass (history_checks g entries e.header) (authors ++ rosters) a.1 in
    (b.0, (both_pass authors rosters b.1).1)

pub checked_room : (g : Genesis) (entries : List (List ℕ)) (c : CheckedModel) → IsChecked g entries c → length entries < MAX_ENTRIES
checked_room g entries c k =
    let p = parts g entries (length entries + 1) c.entry (none_fails g entries (length entries + 1) c.bytes c.entry k.read k.passed) in
    ltb-true (length entries) MAX_ENTRIES (passes (ltb (length entries) MAX_ENTRIES) HistoryFull _ p.0).0

pub checked_by : (g : Genesis) (entries : List (List ℕ)) (c : CheckedModel) → IsChecked g entries c → (d : Device) → is_by d c.bytes ≡ same_device (author_device c.entry.header) d
checked_by g entries c k d = is_by_read d c.bytes c.entry k.read

pub checked_edit : (g : Genesis) (entries : List (List ℕ)) (c : CheckedModel) → IsChecked g entries c → member_change_of c.entry ≡ None → change_in c.bytes ≡ None
checked_edit g entries c k e = change_in_read c.bytes c.entry (change_of c.entry) k.read refl ∙ ap (committed_by c.entry) (none_in (change_of c.entry) e)
  where
    none_in : (o : Option ChangeBody) → option_map (λ b. b.change) o ≡ None → o ≡ None
    none_in None h = refl
    none_in (Some b) h = absurd cc

-- the change that its bytes hold
pub checked_change : (g : Genesis) (entries : List (List ℕ)) (c : CheckedModel) (change : Change) → IsChecked g entries c → member_change_of c.entry ≡ Some change
    → (s : CommittedChange) × (change_in c.bytes ≡ Some s) × (s.body.change ≡ change)
checked_change g entries c change k e = go (change_of c.entry) (change_in_read c.bytes c.entry (change_of c.entry) k.read refl) e
  where
    go : (o : Option ChangeBody) → change_in c.bytes ≡ committed_by c.entry o → option_map (λ b. b.change) o ≡ Some change → (s : CommittedChange) × (change_in c.bytes ≡ Some s) × (s.body.change ≡ change)
    go None h is = absurd cc
    go (Some b) h is = (record { header = c.entry.header; body = b }, h, cc)

pub checked_accepted : (g : Genesis) (entries : List (List ℕ)) (c : CheckedModel) (change : Change) → IsChecked g entries c → member_change_of c.entry ≡ Some change → change_fault_of (roster_of g entries) change ≡ None
checked_accepted g entries c change k e =
    let p = parts g entries (length entries + 1) c.entry (none_fails g entries (length entries + 1) c.bytes c.entry k.read k.passed) in
    go (change_of c.entry) e p.1
  where
    go : (o : Option ChangeBody) → option_map (λ b. b.change) o ≡ Some change → first_of (roster_checks (roster_of g entries) o) ≡ None → change_fault_of (roster_of g entries) change ≡ None
    go None is h = absurd cc
    go (Some b) is h =
        let same : b.change ≡ change = cc in
        ap (change_fault_of (roster_of g entries)) (sym same) ∙ no_bad_change (change_fault_of (roster_of g entries) b.change) _ h

-- ---- where the first fault is found

pub unless_exit : {X : Type 0} (m : Refusal) (r : Result X Refusal) (y e : Refusal) (fault : Option Refusal) → r ≡ Err y → y ≡ e → (e ≢ m → fault ≡ Some e) → AnswersUnless m r fault
unless_exit {X} m r y e fault p q h = subst (λ (r : Result X Refusal). AnswersUnless m r fault) (sym p) (subst (λ (z : Refusal). z ≢ m → fault ≡ Some z) (sym q) h)

pub at_place : (g : Genesis) (me : Option Device) (entries : List (List ℕ)) (pos : ℕ) (e : Entry) (f : Refusal) → first_of (place_checks g me entries pos e.header) ≡ Some f → first_of (head_checks g me entries pos e) ≡ Some f
unfolding head_checks
at_place g me entries pos e f h = first_of-some (place_checks g me entries pos e.header) _ f h

module _ (g : Genesis) (me : Option Device) (entries : List (List ℕ)) (pos : ℕ) (e : Entry) (here : first_of (place_checks g me entries pos e.header) ≡ None) where
  -- the checks of the author, and those of a change
  abbrev author : List (Option Refusal)
  author = author_checks (member_at (roster_of g entries) e.header.author) (key_of (roster_of g entries) (author_device e.header)) e

  abbrev change : Option ChangeBody → List (Option Refusal)
  change o = roster_checks (roster_of g entries) o

  after_place : first_of (head_checks g me entries pos e) ≡ first_of (history_checks g entries e.header ++ (author ++ change (change_of e)))
  unfolding head_checks
  after_place = first_of-none (place_checks g me entries pos e.header) (history_checks g entries e.header ++ (author ++ change (change_of e))) here

  pub at_history : (f : Refusal) → first_of (history_checks g entries e.header) ≡ Some f → first_of (head_checks g me entries pos e) ≡ Some f
  at_history f h = after_place ∙ first_of-some (history_checks g entries e.header) (author ++ change (change_of e)) f h

  module _ (m : Member) (key : List ℕ) (is : Some m ≡ member_at (roster_of g entries) e.header.author) (has : Some key ≡ key_of (roster_of g entries) (author_device e.header))
      (h : first_of (history_checks g entries e.header) ≡ None) where
    after_history : first_of (head_checks g me entries pos e) ≡ first_of (author_checks (Some m) (Some key) e ++ change (change_of e))
    after_history = after_place
        ∙ first_of-none (history_checks g entries e.header) (author ++ change (change_of e)) h
        ∙ ap (λ (o : Option Member). first_of (author_checks o (key_of (roster_of g entries) (author_device e.header)) e ++ change (change_of e))) (sym is)
        ∙ ap (λ (o : Option (List ℕ)). first_of (author_checks (Some m) o e ++ change (change_of e))) (sym has)

    pub at_author : (f : Refusal) → first_of (author_checks (Some m) (Some key) e) ≡ Some f → first_of (head_checks g me entries pos e) ≡ Some f
    at_author f a = after_history ∙ first_of-some (author_checks (Some m) (Some key) e) (change (change_of e)) f a

    -- behind the author's checks those of the roster decide
    pub at_roster : (o : Option ChangeBody) (fault : Option Refusal) → first_of (author_checks (Some m) (Some key) e) ≡ None → o ≡ change_of e → first_of (change o) ≡ fault
        → first_of (head_checks g me entries pos e) ≡ fault
    at_roster o fault a c r = after_history
        ∙ first_of-none (author_checks (Some m) (Some key) e) (change (change_of e)) a
        ∙ ap (λ (o : Option ChangeBody). first_of (change o)) (sym c) ∙ r

pub passed_of : (g : Genesis) (me : Option Device) (entries : List (List ℕ)) (pos : ℕ) (b : List ℕ) (e : Entry) → entry_of b ≡ Ok e → first_of (head_checks g me entries pos e) ≡ None → head_fault g me entries pos b ≡ None
unfolding head_fault
passed_of g me entries pos b e is h = ap (fault_read (head_checks g me entries pos)) is ∙ h
