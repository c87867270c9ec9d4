-- One entry more: its first fault by its parts, the key after it, and what holds of the line with it.
use Rattle.std.proofs.Common.{◌≡◌, ℕ, suc, ◌+◌, ◌≤◌, Bool, true, false, cond, List, [], ◌∷◌, ◌++◌, length, map, refl, ap, sym, ◌∙◌, subst, arith, Option, None, Some, Result, Ok, Err, length-append}
use Rattle.sporc_line.proofs.Common.{is_some, not, ◌||◌, find, ◌==◌, list_any, slice_get, get, append-nil, take_all, bytes_eq-Decides, unless, first_of, Device, Roster, removes, member_at, numbers_of}
use Rattle.sporc_line.proofs.Common.{after_change, roster_after, passes, Entry, ChangeBody, Genesis, entry_of, change_of, Refusal, WrongWraps, CommittedChange, change_in, changes, epoch_of, roster_of}
use Rattle.sporc_line.proofs.Common.{is_removed, roster_checks, fault_read, changes_push, removed_push, removes_in, change_in_read, roster_change, Kit, epoch_key, key_by_wraps, key_checks}
use Rattle.sporc_line.proofs.Common.{line_checks, stream_of, first_of-none, first_of-some}
use Rattle.sporc_member.specs.declared.member.Member.{Member}
use Rattle.sporc_entry.specs.declared.wrap.Wrap.{Wrap}
use Rattle.sporc_epoch.specs.Wraps.{wrap_opened}
use Rattle.sporc_head.specs.HeadChecks.{names, head_checks, head_fault}
use Rattle.sporc_line.specs.Keys.{key_started, key_after}
use Rattle.sporc_line.specs.LineChecks.{first_fault}
use Rattle.sporc_line.proofs.Lists.{slice_get_last}
use Rattle.sporc_line.proofs.Passes.{Passes, passed}
use Rattle.sporc_line.proofs.SameKeys.{committed, change_key}

-- ---- the first fault by its parts

-- the head's first fault is the first of all
pub fault_at_head : (g : Genesis) (kit : Kit) (A : List (List ℕ)) (pos : ℕ) (b : List ℕ) (r : Refusal) → head_fault g (Some kit.me) A pos b ≡ Some r → first_fault g kit A pos b ≡ Some r
unfolding head_fault first_fault
fault_at_head g kit A pos b r h = go (entry_of b) h
  where
    go : (x : Result Entry ℕ) → fault_read (head_checks g (Some kit.me) A pos) x ≡ Some r → fault_read (line_checks g kit A pos) x ≡ Some r
    go (Ok e) h = first_of-some (head_checks g (Some kit.me) A pos e) (key_checks g kit A e) r h
    go (Err at) h = h

-- where the head has none, the checks that need keys decide
pub fault_at_keys : (g : Genesis) (kit : Kit) (A : List (List ℕ)) (pos : ℕ) (b : List ℕ) (e : Entry) → entry_of b ≡ Ok e → head_fault g (Some kit.me) A pos b ≡ None
    → first_fault g kit A pos b ≡ first_of (key_checks g kit A e)
unfolding head_fault first_fault
fault_at_keys g kit A pos b e is h =
    let none : first_of (head_checks g (Some kit.me) A pos e) ≡ None = sym (ap (fault_read (head_checks g (Some kit.me) A pos)) is) ∙ h in
    ap (fault_read (line_checks g kit A pos)) is ∙ first_of-none (head_checks g (Some kit.me) A pos e) (key_checks g kit A e) none

-- an entry without a fault stands at the next position
pub at_next : (g : Genesis) (kit : Kit) (A : List (List ℕ)) (pos : ℕ) (b : List ℕ) → first_fault g kit A pos b ≡ None → first_fault g kit A (length A + 1) b ≡ None
at_next g kit A pos b h =
    let p = passed g kit A pos b h in
    subst (λ (n : ℕ). first_fault g kit A n b ≡ None) p.2.position h

-- ---- the key that a change starts

-- whether a list of members has one with this number
pub find_any : (me : ℕ) (ms : List Member) → is_some (find (λ (m : Member). m.member == me) ms) ≡ list_any (λ (n : ℕ). n == me) (map (λ (m : Member). m.member) ms)
find_any me [] = refl
find_any me (m ∷ ms) = go (m.member == me) (find_any me ms)
  where
    go : (t : Bool) → is_some (find (λ (m : Member). m.member == me) ms) ≡ list_any (λ (n : ℕ). n == me) (map (λ (m : Member). m.member) ms)
        → is_some (cond t (Some m) (find (λ (m : Member). m.member == me) ms)) ≡ (t || list_any (λ (n : ℕ). n == me) (map (λ (m : Member). m.member) ms))
    go true h = refl
    go false h = h

pub wraps_any : (me : ℕ) (ws : List Wrap) → list_any (λ (w : Wrap). w.member == me) ws ≡ list_any (λ (n : ℕ). n == me) (map (λ (w : Wrap). w.member) ws)
wraps_any me [] = refl
wraps_any me (w ∷ ws) = ap (λ (t : Bool). (w.member == me) || t) (wraps_any me ws)

accepted_wraps : (roster : Roster) (c : ChangeBody) → first_of (roster_checks roster (Some c)) ≡ None → map (λ (w : Wrap). w.member) c.wraps ≡ numbers_of (after_change roster c.change).members
accepted_wraps roster c h = go _ h
  where
    go : (o : Option Refusal) → first_of (o ∷ unless (names c.wraps (numbers_of (after_change roster c.change).members)) WrongWraps ∷ []) ≡ None → map (λ (w : Wrap). w.member) c.wraps ≡ numbers_of (after_change roster c.change).members
    go None h = (bytes_eq-Decides _ _).0 (passes (names c.wraps (numbers_of (after_change roster c.change).members)) WrongWraps [] h).0
    go (Some r) h = absurd cc

-- where the wraps name the members after a change, a member is one that has a wrap
wrapped : (me : ℕ) (roster : Roster) (c : ChangeBody) → first_of (roster_checks roster (Some c)) ≡ None → is_some (member_at (after_change roster c.change) me) ≡ list_any (λ (w : Wrap). w.member == me) c.wraps
wrapped me roster c h =
    find_any me (after_change roster c.change).members
    ∙ ap (list_any (λ (n : ℕ). n == me)) (sym (accepted_wraps roster c h))
    ∙ sym (wraps_any me c.wraps)

-- the key of the epoch that the last change starts
key_last : (g : Genesis) (kit : Kit) (cs : List CommittedChange) (s : CommittedChange) → key_after g kit (cs ++ s ∷ []) (length cs + 1) ≡ key_started g kit (cs ++ s ∷ []) (length cs + 1) (Some s)
unfolding key_after
key_last g kit cs s =
    let m : length cs + 1 ≡ suc (length cs) = omega arith in
    let all : length (cs ++ s ∷ []) ≤ suc (length cs) = omega (arith, length-append cs (s ∷ [])) in
    ap (key_after g kit (cs ++ s ∷ [])) m
    ∙ ap (λ (l : List CommittedChange). key_started g kit l (suc (length cs)) (slice_get (cs ++ s ∷ []) (length cs))) (take_all (suc (length cs)) (cs ++ s ∷ []) all)
    ∙ ap (key_started g kit (cs ++ s ∷ []) (suc (length cs))) (slice_get_last cs s)
    ∙ ap (λ (n : ℕ). key_started g kit (cs ++ s ∷ []) n (Some s)) (sym m)

-- the key that a change starts is found by its wraps
pub started_by_wraps : (g : Genesis) (kit : Kit) (A : List (List ℕ)) (b : List ℕ) (e : Entry) (c : ChangeBody) → entry_of b ≡ Ok e → change_of e ≡ Some c → first_of (roster_checks (roster_of g A) (change_of e)) ≡ None
    → key_after g kit (changes A ++ committed e c ∷ []) (epoch_of A + 1) ≡ key_by_wraps kit (epoch_of A + 1) e.header c
unfolding key_started
started_by_wraps g kit A b e c is has h =
    let s = committed e c in
    let some : change_in b ≡ Some s = change_in_read b e (Some c) is (sym has) in
    let roster : roster_after g.founders (map (λ (c : CommittedChange). c.body.change) (changes A ++ s ∷ [])) ≡ after_change (roster_of g A) c.change
    = ap (λ (cs : List CommittedChange). roster_after g.founders (map (λ (c : CommittedChange). c.body.change) cs)) (sym (changes_push A b (Some s) some)) ∙ roster_change g A b s some in
    let there = wrapped kit.me.member (roster_of g A) c (ap (λ (o : Option ChangeBody). first_of (roster_checks (roster_of g A) o)) (sym has) ∙ h) in
    key_last g kit (changes A) s
    ∙ ap (λ (r : Roster). cond (removes kit.me c.change) None (cond (is_some (member_at r kit.me.member)) (wrap_opened c e.header.author (stream_of e.header) kit.me.member kit.pairs) (get kit.ring (epoch_of A + 1)))) roster
    ∙ ap (λ (t : Bool). cond (removes kit.me c.change) None (cond t (wrap_opened c e.header.author (stream_of e.header) kit.me.member kit.pairs) (get kit.ring (epoch_of A + 1)))) there

-- ---- the key after one entry more

pub edit_key : (g : Genesis) (kit : Kit) (A : List (List ℕ)) (b : List ℕ) → change_in b ≡ None → epoch_key g kit (A ++ b ∷ []) (epoch_of (A ++ b ∷ [])) ≡ epoch_key g kit A (epoch_of A)
edit_key g kit A b none =
    let same : changes (A ++ b ∷ []) ≡ changes A = changes_push A b None none ∙ append-nil (changes A) in
    ap (λ (cs : List CommittedChange). key_after g kit cs (length cs)) same

pub key_after_change : (g : Genesis) (kit : Kit) (A : List (List ℕ)) (b : List ℕ) (s : CommittedChange) → change_in b ≡ Some s
    → epoch_key g kit (A ++ b ∷ []) (epoch_of (A ++ b ∷ [])) ≡ key_after g kit (changes A ++ s ∷ []) (epoch_of A + 1)
key_after_change g kit A b s some =
    ap (λ (cs : List CommittedChange). key_after g kit cs (length cs)) (changes_push A b (Some s) some)
    ∙ ap (key_after g kit (changes A ++ s ∷ [])) (length-append (changes A) (s ∷ []))

-- whether the device is removed after one entry more, which it accepts only while it isn't
removed_after : (me : Device) (A : List (List ℕ)) (b : List ℕ) (o : Option CommittedChange) → change_in b ≡ o → is_removed me A ≡ false → is_removed me (A ++ b ∷ []) ≡ removes_in me o
removed_after me A b o is there = removed_push me A b o is ∙ ap (λ (t : Bool). t || removes_in me o) there

-- a key that a change starts is at hand where the change doesn't remove the device
change_keyed : (g : Genesis) (kit : Kit) (A : List (List ℕ)) (pos : ℕ) (e : Entry) (c : ChangeBody) → Passes g kit A pos e → change_of e ≡ Some c
    → is_some (key_after g kit (changes A ++ committed e c ∷ []) (epoch_of A + 1)) ≡ not (removes kit.me c.change)
unfolding key_started
change_keyed g kit A pos e c p has = go (removes kit.me c.change) refl
  where
    go : (t : Bool) → removes kit.me c.change ≡ t → is_some (key_after g kit (changes A ++ committed e c ∷ []) (epoch_of A + 1)) ≡ not t
    go true t =
        ap is_some (key_last g kit (changes A) (committed e c))
        ∙ ap (λ (t : Bool). is_some (cond t None (cond (is_some (member_at (roster_after g.founders (map (λ (c : CommittedChange). c.body.change) (changes A ++ committed e c ∷ []))) kit.me.member)) (wrap_opened c e.header.author (stream_of e.header) kit.me.member kit.pairs) (get kit.ring (epoch_of A + 1))))) t
    go false t = ap is_some (change_key g kit A pos e c p has t).is

-- a key is at hand exactly where the device is not removed
pub keyed_push : (g : Genesis) (kit : Kit) (A : List (List ℕ)) (b : List ℕ) (pos : ℕ) → is_some (epoch_key g kit A (epoch_of A)) ≡ not (is_removed kit.me A) → first_fault g kit A pos b ≡ None
    → is_some (epoch_key g kit (A ++ b ∷ []) (epoch_of (A ++ b ∷ []))) ≡ not (is_removed kit.me (A ++ b ∷ []))
keyed_push g kit A b pos keyed h =
    let p = passed g kit A pos b h in
    go p.0 p.1 p.2 (change_of p.0) refl
  where
    go : (e : Entry) → entry_of b ≡ Ok e → Passes g kit A pos e → (o : Option ChangeBody) → change_of e ≡ o → is_some (epoch_key g kit (A ++ b ∷ []) (epoch_of (A ++ b ∷ []))) ≡ not (is_removed kit.me (A ++ b ∷ []))
    go e is p None has =
        let none : change_in b ≡ None = change_in_read b e None is (sym has) in
        ap is_some (edit_key g kit A b none) ∙ keyed ∙ ap not (p.not_removed ∙ sym (removed_after kit.me A b None none p.not_removed))
    go e is p (Some c) has =
        let some : change_in b ≡ Some (committed e c) = change_in_read b e (Some c) is (sym has) in
        ap is_some (key_after_change g kit A b (committed e c) some) ∙ change_keyed g kit A pos e c p has
        ∙ ap not (sym (removed_after kit.me A b (Some (committed e c)) some p.not_removed))
