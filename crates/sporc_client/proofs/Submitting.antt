-- What is due at a submission, and what a client submits when its log allows it: the one entry of its first pending item.
use Rattle.std.proofs.Common.{◌≡◌, ℕ, ◌^◌, ◌<◌, Bool, true, false, List, [], ◌∷◌, ◌++◌, length, take, drop, refl, ap, subst, ◌∙◌, Option, None, Some, Result, Ok, Err, sym, Bor}
use Rattle.sporc_client.proofs.Common.{is_some, nat_le, nat_lt, not, IfOk, and_parts, leb-true, ltb-true, not-true, bytes_eq-Decides, unless, first_of, height_of, delta_bytes, Mark}
use Rattle.sporc_client.proofs.Common.{MemberChange, ChangeFault, Member, after_change, change_fault_of, key_of, member_at, numbers_of, passes, Entry, entry_of, least_unpaired, MAX_ENTRIES}
use Rattle.sporc_client.proofs.Common.{allows_member, roster_of, MAX_EVENTS, MAX_HEAD_BYTES, SubmitFault, Removed, NoRight, HistoryFull, JournalFull, HeadTooLong, Memory, Pending, has_right}
use Rattle.sporc_client.proofs.Common.{is_out, line_of, journal_has_room, Chosen, bytes_made, kind_of, PlainClient, me_of, Due, Drop, Sign, answered, change_due, due_behind, first_due}
use Rattle.sporc_client.proofs.Common.{is_signing, item_due, Fits, no_pair_key, or_due, submit_checks, Nothing, Waiting, step_of, is_drop, is_entry, is_made, new_key_in, randomizer_in}
use Rattle.sporc_client.proofs.Common.{Dropped, Submit, LeafFault, Step, Submitted, GivesUnless, cons_option, LineModel, Refuse, signed}
use Rattle.std.specs.Prelude.{IfErr, option_copied, slice_get}
use Rattle.sporc_client.specs.declared.pending.Pending.TheVariants.{Edit, Change}
use Rattle.sporc_client.specs.Submissions.{due, submission}
use Rattle.sporc_client.specs.Allowed.{can_log}
use Rattle.sporc_client.specs.declared.submitted.Submitted.TheVariants as submitted
use Rattle.sporc_client.specs.declared.client.submitting.due.Due.TheVariants as steps
use Rattle.sporc_client.specs.declared.pending.Pending.TheVariants as items
use Rattle.lms_leaf.specs.declared.faults.LeafFault.TheVariants as leaves
use Rattle.sporc_client.specs.declared.fault.SubmitFault.TheVariants as submits

-- ---- an item that is due to be signed

-- it is the first, with no entry on its way, and passes the checks of a submission
pub record IsAtHead (c : PlainClient) (item : Pending) : Type 0 where
  pub flight : c.flight ≡ None
  pub others : List Pending
  pub first : c.pending ≡ item ∷ others
  pub not_removed : is_out c ≡ false
  pub right : allows_member (kind_of item) (member_at (roster_of c.opening.genesis c.entries) (me_of c).member) ≡ true
  pub live : is_some (key_of (roster_of c.opening.genesis c.entries) (me_of c)) ≡ true
  pub room : length c.entries < MAX_ENTRIES
  pub events : length c.shown < MAX_EVENTS

-- what its client knows of it
pub record IsDue (c : PlainClient) (item : Pending) : Type 0 where
  pub head : IsAtHead c item
  pub fits : Fits (line_of c) item

-- who has a right is a member
pub is_there : (kind : ℕ) (o : Option Member) → allows_member kind o ≡ true → is_some o ≡ true
is_there kind None h = absurd cc
is_there kind (Some m) h = refl

or_signs : (fault : Option SubmitFault) (rest : Due) (item : Pending) → or_due fault rest ≡ Sign item → (fault ≡ None) × (rest ≡ Sign item)
or_signs None rest item h = (refl, h)
or_signs (Some fault) rest item h = absurd cc

unless_none : (b : Bool) (fault : SubmitFault) → unless b fault ≡ None → b ≡ true
unless_none true fault h = refl
unless_none false fault h = absurd cc

no_key_missing : (member : Option ℕ) → no_pair_key member ≡ None → member ≡ None
no_key_missing None h = refl
no_key_missing (Some member) h = absurd cc

change_fits : (change : MemberChange) (fault : Option ChangeFault) (unpaired : Option ℕ) (item : Pending) → change_due change fault unpaired ≡ Sign item
    → (fault ≡ None) × (unpaired ≡ None) × (Change change ≡ item)
change_fits change (Some fault) unpaired item h = absurd cc
change_fits change None unpaired item h =
    let p = or_signs (no_pair_key unpaired) (Sign (Change change)) item h in
    let signs = p.1 in
    (refl, no_key_missing _ p.0, cc)

item_fits : (line : LineModel) (first item : Pending) → item_due line first ≡ Sign item → (first ≡ item) × Fits line first
item_fits line (Edit marks) item h =
    let p = or_signs (unless (nat_le (length (delta_bytes marks)) MAX_HEAD_BYTES) (HeadTooLong (length (delta_bytes marks)))) (Sign (Edit marks)) item h in
    let signs = p.1 in
    (cc, leb-true (length (delta_bytes marks)) MAX_HEAD_BYTES (unless_none (nat_le (length (delta_bytes marks)) MAX_HEAD_BYTES) (HeadTooLong (length (delta_bytes marks))) p.0))
item_fits line (Change change) item h =
    let roster = roster_of line.genesis line.entries in
    let p = change_fits change (change_fault_of roster change) (least_unpaired line.kit.pairs (numbers_of (after_change roster change).members)) item h in
    (p.2, (p.0, p.1))

-- ---- what is due of the first pending item

-- it makes an event
abbrev pub is_event : Due → Bool
is_event (Drop fault) = true
is_event (Sign item) = true
is_event due = false

at_head : (c : PlainClient) (item : Pending) (others : List Pending) → c.flight ≡ None → c.pending ≡ item ∷ others → first_of (submit_checks (line_of c) c.shown item) ≡ None → IsAtHead c item
at_head c item others flight first passed =
    let roster = roster_of c.opening.genesis c.entries in
    let a = passes (not (is_out c)) Removed _ passed in
    let b = passes (has_right (line_of c) (kind_of item)) NoRight _ a.1 in
    let may = and_parts (allows_member (kind_of item) (member_at roster (me_of c).member)) (is_some (key_of roster (me_of c))) b.0 in
    let e = passes (nat_lt (length c.entries) MAX_ENTRIES) HistoryFull _ b.1 in
    let f = passes (journal_has_room c) JournalFull _ e.1 in
    record {
      flight = flight;
      others = others;
      first = first;
      not_removed = not-true (is_out c) a.0;
      right = may.0;
      live = may.1;
      room = ltb-true (length c.entries) MAX_ENTRIES e.0;
      events = ltb-true (length c.shown) MAX_EVENTS f.0;
    }

-- what makes an event is due of an item at the head
abbrev IsOfHead : PlainClient → Due → Type 0
IsOfHead c d = (item : Pending) × IsAtHead c item × (item_due (line_of c) item ≡ d)

of_head : (c : PlainClient) → is_event (due c) ≡ true → IsOfHead c (due c)
unfolding due
of_head c event = behind c.flight refl event
  where
    checked : (item : Pending) (fault : Option SubmitFault) → (fault ≡ None → IsAtHead c item) → is_event (or_due fault (item_due (line_of c) item)) ≡ true → IsOfHead c (or_due fault (item_due (line_of c) item))
    checked item None head event = (item, head refl, refl)
    checked item (Some fault) head event = absurd cc

    at_first : c.flight ≡ None → (items : List Pending) → c.pending ≡ items → is_event (first_due (line_of c) c.shown items) ≡ true → IsOfHead c (first_due (line_of c) c.shown items)
    at_first flight [] first event = absurd cc
    at_first flight (item ∷ others) first event = checked item (first_of (submit_checks (line_of c) c.shown item)) (at_head c item others flight first) event

    behind : (flight : Option (List ℕ)) → c.flight ≡ flight → is_event (due_behind (line_of c) c.shown c.pending flight) ≡ true → IsOfHead c (due_behind (line_of c) c.shown c.pending flight)
    behind (Some bytes) flight event = absurd cc
    behind None flight event = at_first flight c.pending refl event

pub due_room : (c : PlainClient) → is_event (due c) ≡ true → length c.shown < MAX_EVENTS
due_room c event = (of_head c event).1.events

pub is_due : (c : PlainClient) (item : Pending) → due c ≡ Sign item → IsDue c item
is_due c item is =
    let of = of_head c (ap is_event is) in
    let fit = item_fits (line_of c) of.0 item (of.2 ∙ is) in
    subst (IsDue c) fit.0 (record { head = of.1; fits = fit.1 })

-- the item that is to be signed is the first
pub signing : (c : PlainClient) → is_signing (due c) ≡ true → (item : Pending) × (due c ≡ Sign item)
signing c h = go (due c) refl h
  where
    go : (d : Due) → due c ≡ d → is_signing d ≡ true → (item : Pending) × (due c ≡ Sign item)
    go (Sign item) is h = (item, is)
    go d is h = absurd cc

pub signs_event : (d : Due) → is_signing d ≡ true → is_event d ≡ true
signs_event (Sign item) h = refl
signs_event d h = absurd cc

-- what is taken off is a change at the head, while no entry is on its way
pub record IsDropped (c : PlainClient) : Type 0 where
  pub change : MemberChange
  pub rest : List Pending
  pub flight : c.flight ≡ None
  pub pending : c.pending ≡ Change change ∷ rest
  pub events : length c.shown < MAX_EVENTS

no_drop : (fault : Option SubmitFault) (marks : List Mark) (found : ChangeFault) → or_due fault (Sign (Edit marks)) ≡ Drop found → ⊥
no_drop None marks found is = cc
no_drop (Some fault) marks found is = cc

pub dropped : (c : PlainClient) (by : ℕ) (fault : ChangeFault) → can_log c (Dropped by fault) ≡ true → IsDropped c
unfolding can_log
dropped c by fault may = go (due c) refl may
  where
    taken : (found : ChangeFault) (item : Pending) → IsAtHead c item → item_due (line_of c) item ≡ Drop found → IsDropped c
    taken found (Edit marks) head drops = absurd (no_drop (unless (nat_le (length (delta_bytes marks)) MAX_HEAD_BYTES) (HeadTooLong (length (delta_bytes marks)))) marks found drops)
    taken found (Change change) head drops = record { change = change; rest = head.others; flight = head.flight; pending = head.first; events = head.events }

    go : (d : Due) → due c ≡ d → is_drop fault d ≡ true → IsDropped c
    go (Drop found) is h = let of = of_head c (ap is_event is) in taken found of.0 of.1 (of.2 ∙ is)
    go d is h = absurd cc

-- ---- the entry of a submission that is allowed

-- how an entry shows that it was made
abbrev pub chosen_in : PlainClient → Entry → Chosen
chosen_in c e = record {
  leaf = e.header.leaf;
  randomizer = take 32 (randomizer_in e ++ new_key_in c.opening.kit.pairs e);
  new_key = drop 32 (randomizer_in e ++ new_key_in c.opening.kit.pairs e);
}

pub record IsMadeBy (c : PlainClient) (bytes : List ℕ) : Type 0 where
  pub entry : Entry
  pub reads : entry_of bytes ≡ Ok entry
  pub leaf : entry.header.leaf < 2 ^ height_of c.opening.key.lms
  pub item : Pending
  pub due : IsDue c item
  pub made : bytes_made c (chosen_in c entry) item ≡ bytes

-- what a submission signs, by its answer
pub record Signs (c : PlainClient) (random : List ℕ) (leaf : ℕ) (bytes : List ℕ) : Type 0 where
  pub item : Pending
  pub is_due : due c ≡ Sign item
  pub made : bytes_made c (record { leaf = leaf; randomizer = take 32 random; new_key = drop 32 random }) item ≡ bytes

pub signs : (c : PlainClient) (random : List ℕ) (leaf : ℕ) (bytes : List ℕ) → submission c random (Ok leaf) ≡ Ok (submitted.Entry bytes) → Signs c random leaf bytes
unfolding submission
signs c random leaf bytes h = go (due c) refl h
  where
    go : (d : Due) → due c ≡ d → answered c random (Ok leaf) d ≡ Ok (submitted.Entry bytes) → Signs c random leaf bytes
    go (Sign item) is h = record { item = item; is_due = is; made = cc }
    go d is h = absurd cc

pub answer_is : (bytes : List ℕ) (r : Result Submitted SubmitFault) → is_entry bytes r ≡ true → r ≡ Ok (submitted.Entry bytes)
answer_is bytes (Ok (submitted.Entry made)) h = ap (λ (b : List ℕ). Ok (submitted.Entry b)) ((bytes_eq-Decides made bytes).0 h)
answer_is bytes r h = absurd cc

pub made_by_submission : (c : PlainClient) (by : ℕ) (bytes : List ℕ) → can_log c (Submit by bytes) ≡ true → IsMadeBy c bytes
unfolding can_log
made_by_submission c by bytes may = go (entry_of bytes) refl may
  where
    go : (read : Result Entry ℕ) → entry_of bytes ≡ read → is_made c bytes read ≡ true → IsMadeBy c bytes
    go (Err at) is h = absurd cc
    go (Ok e) is h =
        let p = and_parts (nat_lt e.header.leaf (2 ^ height_of c.opening.key.lms)) (is_entry bytes (submission c (randomizer_in e ++ new_key_in c.opening.kit.pairs e) (Ok e.header.leaf))) h in
        let shown = randomizer_in e ++ new_key_in c.opening.kit.pairs e in
        let made = signs c shown e.header.leaf bytes (answer_is bytes (submission c shown (Ok e.header.leaf)) p.1) in
        record {
          entry = e;
          reads = is;
          leaf = ltb-true e.header.leaf (2 ^ height_of c.opening.key.lms) p.0;
          item = made.item;
          due = is_due c made.item made.is_due;
          made = made.made;
        }

-- ---- what is due at a submission, from its checks in turn

-- what the code finds due
abbrev pub Finds : Result Step SubmitFault → Due → Type 0
Finds result due = GivesUnless Memory (λ d. d) result (step_of due)

pub refuses : (fault : SubmitFault) (checks : Option SubmitFault) (rest : Due) → checks ≡ Some fault → Finds (Err fault) (or_due checks rest)
refuses fault checks rest is = λ _. ap (λ (o : Option SubmitFault). step_of (or_due o rest)) is

-- of the first pending item, if it passes them
pub goes_on : (line : LineModel) (shown : List (List Mark)) {item item' : Pending} (result : Result Step SubmitFault) → first_of (submit_checks line shown item) ≡ None → item ≡ item' → Finds result (item_due line item')
    → Finds result (first_due line shown (item ∷ []))
goes_on line shown result passed is found = subst (λ (z : Option SubmitFault × Pending). Finds result (or_due z.0 (item_due line z.1))) (λ i. (sym passed i, sym is i)) found

-- ---- behind an entry on its way, or none

pub there : {X : Type 0} (o : Option (Bor X)) (f : Option X) → option_copied o ≡ f → is_some f ≡ is_some o
there None f is = ap is_some (sym is)
there (Some x) f is = ap is_some (sym is)

module _ (line : LineModel) (shown : List (List Mark)) where
  pub is_waiting : (items : List Pending) (flight : Option (List ℕ)) → is_some flight ≡ true → step_of (due_behind line shown items flight) ≡ Ok steps.Waiting
  is_waiting items None h = absurd cc
  is_waiting items (Some bytes) h = refl

  -- by the first pending item, if there is one
  pub by_first : (result : Result Step SubmitFault) (items : List Pending) (flight : Option (List ℕ)) {first : Option Pending} → is_some flight ≡ false → slice_get items 0 ≡ first
      → Finds result (first_due line shown (cons_option first [])) → Finds result (due_behind line shown items flight)
  by_first result items (Some bytes) h is found = absurd cc
  by_first result [] None h is found = subst (λ (first : Option Pending). Finds result (first_due line shown (cons_option first []))) (sym is) found
  by_first result (item ∷ items) None h is found = subst (λ (first : Option Pending). Finds result (first_due line shown (cons_option first []))) (sym is) found

-- ---- what a submission answers, by what the code found due

-- this, if an entry is to be signed
abbrev pub answer_for : Result Step SubmitFault → Result Submitted SubmitFault → Result Submitted SubmitFault
answer_for (Ok steps.Waiting) signed = Ok submitted.Waiting
answer_for (Ok steps.Nothing) signed = Ok submitted.Nothing
answer_for (Ok (steps.Drop fault)) signed = Ok (submitted.Dropped fault)
answer_for (Ok steps.Sign) signed = signed
answer_for (Err fault) signed = Err fault

pub answers : (c : PlainClient) (random : List ℕ) (leaf : Result ℕ LeafFault) (found : Result Step SubmitFault) → step_of (due c) ≡ found → submission c random leaf ≡ answer_for found (submission c random leaf)
unfolding submission
answers c random leaf found is = go (due c) ∙ ap (λ (r : Result Step SubmitFault). answer_for r (answered c random leaf (due c))) is
  where
    go : (d : Due) → answered c random leaf d ≡ answer_for (step_of d) (answered c random leaf d)
    go Waiting = refl
    go d = refl

pub drop_answers : {fault : ChangeFault} {answer : Result Submitted SubmitFault} → answer ≡ Ok (submitted.Dropped fault) → (result : Result Submitted SubmitFault) → IfOk result (λ s. s ≡ submitted.Dropped fault)
    → IfErr result (λ e. e ≡ Memory) → GivesUnless Memory (λ s. s) result answer
drop_answers is (Ok s) ok err = is ∙ ap Ok (sym ok)
drop_answers is (Err e) ok err = λ other. absurd (other err)

-- ---- that all leaves are drawn is answered only if the drawing of the leaf said so

-- no check before the draw refuses so
checks_early : (a b d e : Bool) (rest : Due) (next : ℕ)
    → or_due (first_of (unless a submits.Removed ∷ unless b submits.NoRight ∷ unless d submits.HistoryFull ∷ unless e submits.JournalFull ∷ [])) rest ≡ Refuse (submits.Exhausted next)
    → rest ≡ Refuse (submits.Exhausted next)
checks_early true true true true rest next is = is
checks_early a b d e rest next is = absurd cc

edit_early : (long : Bool) (len : ℕ) (item : Pending) (next : ℕ) → or_due (unless long (submits.HeadTooLong len)) (Sign item) ≡ Refuse (submits.Exhausted next) → ⊥
edit_early true len item next is = cc
edit_early false len item next is = cc

unpaired_early : (member : Option ℕ) (item : Pending) (next : ℕ) → or_due (no_pair_key member) (Sign item) ≡ Refuse (submits.Exhausted next) → ⊥
unpaired_early None item next is = cc
unpaired_early (Some member) item next is = cc

change_early : (change : MemberChange) (fault : Option ChangeFault) (unpaired : Option ℕ) (next : ℕ) → change_due change fault unpaired ≡ Refuse (submits.Exhausted next) → ⊥
change_early change (Some fault) unpaired next is = cc
change_early change None unpaired next is = unpaired_early unpaired (Change change) next is

item_early : (line : LineModel) (item : Pending) (next : ℕ) → item_due line item ≡ Refuse (submits.Exhausted next) → ⊥
item_early line (Edit marks) next is = let len = length (delta_bytes marks) in edit_early (nat_le len MAX_HEAD_BYTES) len (Edit marks) next is
item_early line (Change change) next is =
    let roster = roster_of line.genesis line.entries in
    change_early change (change_fault_of roster change) (least_unpaired line.kit.pairs (numbers_of (after_change roster change).members)) next is

due_early : (c : PlainClient) (next : ℕ) → due c ≡ Refuse (submits.Exhausted next) → ⊥
unfolding due
due_early c next is = behind c.flight is
  where
    at_first : (items : List Pending) → first_due (line_of c) c.shown items ≡ Refuse (submits.Exhausted next) → ⊥
    at_first [] is = cc
    at_first (item ∷ items) is =
        item_early (line_of c) item next (checks_early (not (is_out c)) (has_right (line_of c) (kind_of item)) (nat_lt (length c.entries) MAX_ENTRIES) (journal_has_room c) (item_due (line_of c) item) next is)

    behind : (flight : Option (List ℕ)) → due_behind (line_of c) c.shown c.pending flight ≡ Refuse (submits.Exhausted next) → ⊥
    behind (Some flight) is = cc
    behind None is = at_first c.pending is

signed_drawn : (c : PlainClient) (random : List ℕ) (item : Pending) (leaf : Result ℕ LeafFault) (next : ℕ) → signed c random item leaf ≡ Err (submits.Exhausted next) → leaf ≡ Err (leaves.Exhausted next)
signed_drawn c random item (Err (leaves.Exhausted n)) next is = let same : n ≡ next = cc in ap (λ (k : ℕ). Err (leaves.Exhausted k)) same
signed_drawn c random item leaf next is = absurd cc

pub submission_drawn : (c : PlainClient) (random : List ℕ) (leaf : Result ℕ LeafFault) (next : ℕ) → submission c random leaf ≡ Err (submits.Exhausted next) → leaf ≡ Err (leaves.Exhausted next)
unfolding submission
submission_drawn c random leaf next is = go (due c) refl is
  where
    go : (d : Due) → due c ≡ d → answered c random leaf d ≡ Err (submits.Exhausted next) → leaf ≡ Err (leaves.Exhausted next)
    go (Refuse fault) of is = let same : fault ≡ submits.Exhausted next = cc in absurd (due_early c next (of ∙ ap Refuse same))
    go (Sign item) of is = signed_drawn c random item leaf next is
    go d of is = absurd cc
