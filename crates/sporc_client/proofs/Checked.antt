-- What passing the checks of a call tells.
use Rattle.sporc_client.proofs.Common.{◌≡◌, ℕ, ◌<◌, ◌≤◌, nat_le, nat_lt, ◌==◌, Bool, true, false, not, List, length, None, refl, Option, Some, is_none, ◌+◌, eqb-true, le-leb, leb-true, ltb-true}
use Rattle.sporc_client.proofs.Common.{first_of, unless, delta_bytes, Mark, base_len, passes, MAX_EDIT_BYTES, MAX_EVENTS, MAX_PENDING, has_right, is_out, line_of, restart_fault}
use Rattle.sporc_client.proofs.Common.{discard_fault, journal_has_room, or_full, refusal_of, PlainClient, shown_after, Edit, Change, Accept, Discard, MemberChange, Refusal}
use Rattle.sporc_client.specs.declared.fault.EditFault.TheVariants as edits
use Rattle.sporc_client.specs.Answers.{change_fault, edit_fault, room_checks, accept_fault}
use Rattle.sporc_client.specs.Allowed.{can_log}

-- one more item may be pending, and one more event be
pub record HasRoom (c : PlainClient) : Type 0 where
  pub pending : length c.pending < MAX_PENDING
  pub events : length c.shown < MAX_EVENTS

room_passed : (c : PlainClient) → first_of (room_checks c.pending c.shown) ≡ None → HasRoom c
room_passed c h =
    let a = passes (nat_lt (length c.pending) MAX_PENDING) edits.PendingFull _ h in
    let b = passes (nat_lt (length c.shown) MAX_EVENTS) edits.JournalFull _ a.1 in
    record { pending = ltb-true (length c.pending) MAX_PENDING a.0; events = ltb-true (length c.shown) MAX_EVENTS b.0 }

pub change_passed : (c : PlainClient) → change_fault c ≡ None → HasRoom c
unfolding change_fault
change_passed c h =
    let a = passes (not (is_out c)) edits.Removed _ h in
    let b = passes (has_right (line_of c) 2) edits.NoRight _ a.1 in
    room_passed c b.1

pub record EditPassed (c : PlainClient) (seen : ℕ) (marks : List Mark) : Type 0 where
  pub within : seen ≤ length c.shown
  pub base : base_len marks ≡ length (shown_after seen c)
  pub bytes : length (delta_bytes marks) ≤ MAX_EDIT_BYTES
  pub room : HasRoom c

pub edit_passed : (c : PlainClient) (seen : ℕ) (marks : List Mark) → edit_fault c seen marks ≡ None → EditPassed c seen marks
unfolding edit_fault
edit_passed c seen marks h =
    let a = passes (not (is_out c)) edits.Removed _ h in
    let b = passes (has_right (line_of c) 1) edits.NoRight _ a.1 in
    let d = passes (nat_le seen (length c.shown)) (edits.SeenAhead (length c.shown)) _ b.1 in
    let e = passes (base_len marks == length (shown_after seen c)) edits.WrongLength _ d.1 in
    let f = passes (nat_le (length (delta_bytes marks)) MAX_EDIT_BYTES) (edits.TooLong (length (delta_bytes marks))) _ e.1 in
    record {
      within = leb-true seen (length c.shown) d.0;
      base = eqb-true (base_len marks) (length (shown_after seen c)) e.0;
      bytes = leb-true (length (delta_bytes marks)) MAX_EDIT_BYTES f.0;
      room = room_passed c f.1;
    }

pub restart_fits : (c : PlainClient) (k : ℕ) → k ≤ length c.entries → restart_fault c k ≡ None
restart_fits c k within = rw (le-leb k (length c.entries) within) refl

has_room : (b : Bool) → unless b edits.JournalFull ≡ None → b ≡ true
has_room true h = refl
has_room false h = absurd cc

pub events_left : (events : ℕ) → unless (nat_lt events MAX_EVENTS) edits.JournalFull ≡ None → events < MAX_EVENTS
events_left events h = ltb-true events MAX_EVENTS (has_room (nat_lt events MAX_EVENTS) h)

-- nothing refuses, and there is room
accepts : (refusal : Option Refusal) (room : Bool) → or_full room refusal ≡ None → (refusal ≡ None) × (room ≡ true)
accepts None true h = (refl, refl)
accepts refusal room h = absurd cc

pub accept_room : (events : ℕ) (refusal : Option Refusal) → or_full (nat_lt events MAX_EVENTS) refusal ≡ None → events < MAX_EVENTS
accept_room events refusal h = ltb-true events MAX_EVENTS (accepts refusal (nat_lt events MAX_EVENTS) h).1

-- ---- and what an event that is allowed tells

pub none_of : {X : Type 0} (o : Option X) → is_none o ≡ true → o ≡ None
none_of None h = refl
none_of (Some x) h = absurd cc

pub edit_may : (c : PlainClient) (by seen : ℕ) (marks : List Mark) → can_log c (Edit by seen marks) ≡ true → EditPassed c seen marks
unfolding can_log
edit_may c by seen marks may = edit_passed c seen marks (none_of (edit_fault c seen marks) may)

pub change_may : (c : PlainClient) (by : ℕ) (change : MemberChange) → can_log c (Change by change) ≡ true → HasRoom c
unfolding can_log
change_may c by change may = change_passed c (none_of (change_fault c) may)

pub accept_may : (c : PlainClient) (by : ℕ) (bytes : List ℕ) → can_log c (Accept by bytes) ≡ true → length c.shown < MAX_EVENTS
unfolding can_log accept_fault
accept_may c by bytes may = accept_room (length c.shown) (refusal_of c (length c.entries + 1) bytes) (none_of (or_full (journal_has_room c) (refusal_of c (length c.entries + 1) bytes)) may)

-- an entry whose acceptance is allowed is one that no check refuses
pub accept_passes : (c : PlainClient) (by : ℕ) (bytes : List ℕ) → can_log c (Accept by bytes) ≡ true → refusal_of c (length c.entries + 1) bytes ≡ None
unfolding can_log accept_fault
accept_passes c by bytes may =
    let refusal = refusal_of c (length c.entries + 1) bytes in
    (accepts refusal (journal_has_room c) (none_of (or_full (journal_has_room c) refusal) may)).0

pub discard_may : (c : PlainClient) (by : ℕ) → can_log c (Discard by) ≡ true → length c.shown < MAX_EVENTS
unfolding can_log
discard_may c by may = events_left (length c.shown) (none_of (discard_fault c) may)
