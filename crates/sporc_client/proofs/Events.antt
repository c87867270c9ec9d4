-- Each event of a call, with what the fields become.
use Rattle.std.proofs.Common.{◌≡◌, ℕ, ◌+◌, ◌<◌, ◌≤◌, ◌^◌, true, List, [], ◌∷◌, ◌++◌, length, take, drop, None, Option, refl, ap, sym, ◌∙◌, subst, arith, Some, IfSome, cond, Bool, false, ◌-◌}
use Rattle.sporc_client.proofs.Common.{lt-ltb, eq-eqb, append_nil, take-append-drop, filter_map-append, SignerModel, MAX_TEXT_LEN, Mark, base_len, inserted_len, replacement, all_inserted}
use Rattle.sporc_client.proofs.Common.{later_over, reached, all_inserted-append, Follow-take, MemberChange, text_after, LineModel, length-text, reached-le, MAX_EVENTS, MAX_SHOWN_LEN, is_drop}
use Rattle.sporc_client.proofs.Common.{ClientInvariant, plain_of, client_model, AreInOrder, leaf_in, leaves_of, ClientModel, state_of, Logged, Edit, Change, Discard}
use Rattle.sporc_client.proofs.Common.{log_of, Dropped, Submit, entries_by, stored_event, PlainClient, committed_of, shown_of, keeps, restated, step, WorkspaceModel, LmsPrivate, height_of}
use Rattle.sporc_client.proofs.Common.{LeavesModel, ChangeFault, IsSubmission, Drop, due, change_in, Stores, Accept, accepted_in, journal_of}
use Rattle.sporc_client.proofs.Common.{Opening, IsSmall, IsInFlight, IsSound, accepted, change_comes, edit_comes, is_flight, own_comes, ⊤, and_parts, length-map, slice_index_or, Event, filled_event}
use Rattle.sporc_client.proofs.Common.{journal_from, opened, replay_from, can_log_all, fold_push, get_or-append_seam, change_fault, edit_fault, is_none}
use Rattle.std.proofs.Common.{append_assoc, length-append}
use Rattle.sporc_client.specs.Allowed.{can_log, is_allowed}
use Rattle.sporc_client.proofs.Checked.{EditPassed, accept_may, accept_passes, change_may, discard_may, edit_may}
use Rattle.sporc_client.proofs.Shown.{LeadTo, base_len-replacement, base_restated, length_shown}
use Rattle.sporc_client.proofs.Small.{inserted_len-bytes, length-shown, lengths, change_small, discard_small, drop_small, edit_small, keeps_few, small_with}
use Rattle.sporc_member.specs.ChangeFault.{change_fault_code_of}
use Rattle.sporc_client.proofs.Leaves.{signed_kept}
use Rattle.sporc_client.proofs.Submitting.{dropped, made_by_submission}
use Rattle.sporc_client.specs.Step.{replay}
use Rattle.std.specs.Option.{is_some}
use Rattle.sporc_client.proofs.Soundness.{accepted_small, accepted_sound, change_sound, discard_sound, drop_sound, edit_sound, submit_sound}
use Rattle.sporc_client.specs.declared.event.Event.TheVariants as events
use Rattle.sporc_client.specs.declared.pending.Pending.TheVariants as items

-- ---- one more event of a log

-- ---- the journal and the entries

accepted_more : (log : List Logged) (event : Logged) → accepted_in (log ++ event ∷ []) ≡ accepted_in log ++ entries_by event
accepted_more [] event = append_nil (entries_by event)
accepted_more (e ∷ log) event = ap (λ (es : List (List ℕ)). entries_by e ++ es) (accepted_more log event) ∙ sym (append_assoc (entries_by e) (accepted_in log) (entries_by event))

-- a log has an event for each of its journal
pub events_logged : (entries : List (List ℕ)) (journal found : List Event) → found ≡ journal → length found ≡ length (log_of entries journal)
events_logged entries journal found is = ap length is ∙ sym (length-map journal (filled_event entries))

pub journal_more : (n : ℕ) (log : List Logged) (event : Logged) → journal_from n (log ++ event ∷ []) ≡ journal_from n log ++ stored_event (n + length (accepted_in log)) event ∷ []
journal_more n [] event = ap (λ (k : ℕ). stored_event k event ∷ []) (omega arith)
journal_more n (e ∷ log) event =
    ap (λ (es : List Event). stored_event n e ∷ es)
    (journal_more (n + length (entries_by e)) log event
    ∙ ap (λ (k : ℕ). journal_from (n + length (entries_by e)) log ++ stored_event k event ∷ []) (omega (arith, length-append (entries_by e) (accepted_in log))))

filled_one : (all pre rest : List (List ℕ)) (event : Logged) → all ≡ pre ++ (entries_by event ++ rest) → filled_event all (stored_event (length pre) event) ≡ event
filled_one all pre rest (Accept by entry) is =
    let place : length pre + 1 - 1 ≡ length pre = omega arith in
    ap (Accept by) (ap (λ (n : ℕ). slice_index_or all n []) place ∙ ap (λ (es : List (List ℕ)). slice_index_or es (length pre) []) is ∙ get_or-append_seam pre entry rest [])
filled_one all pre rest event is = refl

filled_all : (all pre more : List (List ℕ)) (log : List Logged) → all ≡ pre ++ (accepted_in log ++ more) → log_of all (journal_from (length pre) log) ≡ log
filled_all all pre more [] is = refl
filled_all all pre more (event ∷ log) is =
    let split : all ≡ pre ++ (entries_by event ++ (accepted_in log ++ more)) = is ∙ ap (λ (es : List (List ℕ)). pre ++ es) (append_assoc (entries_by event) (accepted_in log) more) in
    let one = filled_one all pre (accepted_in log ++ more) event split in
    let rest = filled_all all (pre ++ entries_by event) more log (split ∙ sym (append_assoc pre (entries_by event) (accepted_in log ++ more))) in
    let count : length (pre ++ entries_by event) ≡ length pre + length (entries_by event) = length-append pre (entries_by event) in
    let P : ℕ → Type 0 = λ n. log_of all (journal_from n log) ≡ log in
    ap (λ (e : Logged). e ∷ log_of all (journal_from (length pre + length (entries_by event)) log)) one ∙ ap (λ (es : List Logged). event ∷ es) (subst P count rest)

-- a log is read off its journal and the entries that were accepted
pub log_again : (log : List Logged) → log_of (accepted_in log) (journal_of log) ≡ log
log_again log = filled_all (accepted_in log) [] [] log (sym (append_nil (accepted_in log)))

-- the fields that store a log store it with one event more
pub record StoresMore (log : List Logged) (event : Logged) (entries : List (List ℕ)) (journal : List Event) : Type 0 where
  pub entries_are : entries ++ entries_by event ≡ accepted_in (log ++ event ∷ [])
  pub journal_is : journal ++ stored_event (length entries) event ∷ [] ≡ journal_of (log ++ event ∷ [])
  pub log_is : log_of (entries ++ entries_by event) (journal ++ stored_event (length entries) event ∷ []) ≡ log ++ event ∷ []

pub stores_more : (log : List Logged) (event : Logged) (entries : List (List ℕ)) (journal : List Event) → entries ≡ accepted_in log → journal ≡ journal_of log → StoresMore log event entries journal
stores_more log event entries journal is journal_is =
    let one : entries ++ entries_by event ≡ accepted_in (log ++ event ∷ []) = ap (λ (es : List (List ℕ)). es ++ entries_by event) is ∙ sym (accepted_more log event) in
    let zero_more : 0 + length (accepted_in log) ≡ length (accepted_in log) = omega arith in
    let two : journal ++ stored_event (length entries) event ∷ [] ≡ journal_of (log ++ event ∷ []) =
    ap (λ (es : List Event). es ++ stored_event (length entries) event ∷ []) journal_is
    ∙ ap (λ (n : ℕ). journal_of log ++ stored_event n event ∷ []) (ap length is)
    ∙ sym (journal_more 0 log event ∙ ap (λ (k : ℕ). journal_of log ++ stored_event k event ∷ []) zero_more) in
    record {
      entries_are = one;
      journal_is = two;
      log_is = ap (λ (es : List (List ℕ)). log_of es (journal ++ stored_event (length entries) event ∷ [])) one ∙ ap (log_of (accepted_in (log ++ event ∷ []))) two ∙ log_again (log ++ event ∷ []);
    }

-- ---- the replay

pub replay_more : (opening : Opening) (log : List Logged) (event : Logged) → replay opening (log ++ event ∷ []) ≡ step (replay opening log) event
unfolding replay
replay_more opening log event = fold_push step (opened opening) log event

pub allowed_more : (c : PlainClient) (log : List Logged) (event : Logged) → can_log_all c log ≡ true → can_log (replay_from c log) event ≡ true → can_log_all c (log ++ event ∷ []) ≡ true
allowed_more c [] event so_far here = rw here refl
allowed_more c (e ∷ log) event so_far here =
    let both = and_parts (can_log c e) (can_log_all (step c e) log) so_far in
    rw both.0 (allowed_more (step c e) log event both.1 here)

pub is_allowed_more : (opening : Opening) (log : List Logged) (event : Logged) → is_allowed opening log ≡ true → can_log (replay opening log) event ≡ true → is_allowed opening (log ++ event ∷ []) ≡ true
unfolding replay is_allowed
is_allowed_more opening log event so_far here = allowed_more (opened opening) log event so_far here

-- ---- one more event of a client keeps what holds of its fields

abbrev pub opening_of : {D : Type 0} → LineModel → SignerModel D → Opening
opening_of line signer = record { genesis = line.genesis; kit = line.kit; key = signer.key }

-- what an accepted entry leaves and adds, whichever entry it is
pub record IsLonger (c d : PlainClient) (bytes : List ℕ) : Type 0 where
  pub opening : d.opening ≡ c.opening
  pub entries : d.entries ≡ c.entries ++ bytes ∷ []

pub accepted_as : (c : PlainClient) (bytes : List ℕ) → IsLonger c (accepted c bytes) bytes
accepted_as c bytes = go (is_flight c bytes) (is_some (change_in bytes))
  where
    go : (own change : Bool) → IsLonger c (cond own (own_comes c bytes) (cond change (change_comes c bytes) (edit_comes c bytes))) bytes
    go false true = record { opening = refl; entries = refl }
    go own change = record { opening = refl; entries = refl }

-- no event changes what a client was opened with
pub step_opening : (c : PlainClient) (event : Logged) → (step c event).opening ≡ c.opening
step_opening c (Accept by bytes) = (accepted_as c bytes).opening
step_opening c event = refl

-- ---- each event that the client allows

-- what an event asks beside: an entry that is submitted is that of the first pending item
abbrev pub IsOfItem : PlainClient → Logged → Type 0
IsOfItem c (Submit by bytes) = IsInFlight c bytes
IsOfItem c event = ⊤

pub event_sound : (c : PlainClient) (event : Logged) → can_log c event ≡ true → IsOfItem c event → IsSound c → IsSound (step c event)
event_sound c (Edit by seen marks) may of sound = edit_sound c by seen marks sound (edit_may c by seen marks may).base
event_sound c (Change by change) may of sound = change_sound c by change sound
event_sound c (Submit by bytes) may of sound = submit_sound c by bytes sound of
event_sound c (Dropped by fault) may of sound = let d = dropped c by fault may in drop_sound c by fault d.change d.rest sound d.flight d.pending
event_sound c (Accept by bytes) may of sound = accepted_sound c bytes sound (accept_passes c by bytes may)
event_sound c (Discard by) may of sound = discard_sound c by sound

event_small : (c : PlainClient) (event : Logged) → can_log c event ≡ true → IsSound c → IsSmall c → IsSmall (step c event)
event_small c (Edit by seen marks) may sound small = let passed = edit_may c by seen marks may in edit_small c by seen marks small passed.room.pending passed.room.events passed.bytes
event_small c (Change by change) may sound small = let room = change_may c by change may in change_small c by change small room.pending room.events
event_small c (Submit by bytes) may sound small =
    small_with c c.entries c.pending (Some bytes) (keeps c) small small.entries small.committed small.pending small.short (made_by_submission c by bytes may).due.head.events (keeps_few (length (shown_of c)))
event_small c (Dropped by fault) may sound small = drop_small c by fault small (dropped c by fault may).events
event_small c (Accept by bytes) may sound small = accepted_small c bytes sound small (accept_passes c by bytes may) (accept_may c by bytes may)
event_small c (Discard by) may sound small = discard_small c by small (discard_may c by may)

-- ---- so it keeps what holds of the fields

-- what the fields become
pub record Records {D : Type 0} (line line' : LineModel) (signer signer' : SignerModel D) (own own' : WorkspaceModel) (event : Logged) : Type 0 where
  pub key : signer'.key ≡ signer.key
  pub entries : line'.entries ≡ line.entries ++ entries_by event
  pub journal : own'.journal ≡ own.journal ++ stored_event (length line.entries) event ∷ []
  pub state : plain_of signer'.key line' own' ≡ step (plain_of signer.key line own) event
  pub allowed : can_log (plain_of signer.key line own) event ≡ true
  pub of_item : IsOfItem (plain_of signer.key line own) event

-- what the fields are afterwards
pub record Recorded {D : Type 0} (line line' : LineModel) (signer signer' : SignerModel D) (ticket' : Option ℕ) (own own' : WorkspaceModel) (event : Logged) : Type 0 where
  pub invariant : ClientInvariant line' signer' ticket' own'
  pub opening_is : opening_of line' signer' ≡ opening_of line signer
  pub log_is : log_of line'.entries own'.journal ≡ log_of line.entries own.journal ++ event ∷ []

pub recorded : {D : Type 0} {line line' : LineModel} {signer signer' : SignerModel D} {ticket ticket' : Option ℕ} {own own' : WorkspaceModel} {event : Logged}
    → ClientInvariant line signer ticket own → Records line line' signer signer' own own' event → IfSome ticket' (λ leaf. leaf < 2 ^ height_of signer'.key.lms)
    → AreInOrder signer'.leaves.next_at_open signer'.leaves.next ticket' (leaves_of (log_of line.entries own.journal ++ event ∷ [])) → Recorded line line' signer signer' ticket' own own' event
recorded {line = line} {line' = line'} {signer = signer} {signer' = signer'} {ticket' = ticket'} {own = own} {own' = own'} {event = event} known did unspent leaves =
    let log = log_of line.entries own.journal in
    let opening = opening_of line signer in
    let more = stores_more log event line.entries own.journal known.stores.entries known.stores.journal in
    let c = plain_of signer.key line own in
    let entries' : line'.entries ≡ accepted_in (log ++ event ∷ []) = did.entries ∙ more.entries_are in
    let journal' : own'.journal ≡ journal_of (log ++ event ∷ []) = did.journal ∙ more.journal_is in
    let log' : log_of line'.entries own'.journal ≡ log ++ event ∷ [] = ap (λ (es : List (List ℕ)). log_of es own'.journal) did.entries ∙ ap (log_of (line.entries ++ entries_by event)) did.journal ∙ more.log_is in
    let same : opening_of line' signer' ≡ opening = ap (λ (c : PlainClient). c.opening) did.state ∙ step_opening c event in
    let stepped : step c event ≡ replay opening (log ++ event ∷ []) = ap (λ (c : PlainClient). step c event) known.state ∙ sym (replay_more opening log event) in
    let state : plain_of signer'.key line' own' ≡ replay (opening_of line' signer') (log_of line'.entries own'.journal) =
    did.state ∙ stepped ∙ sym (ap (λ (o : Opening). replay o (log_of line'.entries own'.journal)) same ∙ ap (replay opening) log') in
    let S : List Logged → Type 0 = λ l. Stores l line' own' in
    let L : List Logged → Type 0 = λ l. AreInOrder signer'.leaves.next_at_open signer'.leaves.next ticket' (leaves_of l) in
    let stores : Stores (log ++ event ∷ []) line' own' = record { entries = entries'; journal = journal' } in
    let allows_it : can_log (replay opening log) event ≡ true = ap (λ (c : PlainClient). can_log c event) (sym known.state) ∙ did.allowed in
    record {
      invariant = record {
        stores = subst S (sym log') stores;
        state = state;
        allowed = ap (λ (o : Opening). is_allowed o (log_of line'.entries own'.journal)) same ∙ ap (is_allowed opening) log' ∙ is_allowed_more opening log event known.allowed allows_it;
        sound = subst IsSound (sym did.state) (event_sound c event did.allowed did.of_item known.sound);
        small = subst IsSmall (sym did.state) (event_small c event did.allowed known.sound known.small);
        unspent = unspent;
        leaves = subst L (sym log') leaves;
      };
      opening_is = same;
      log_is = log';
    }

-- the leaves of a log, behind an event that signs nothing
leaves_same : (log : List Logged) (event : Logged) → leaf_in event ≡ None → leaves_of (log ++ event ∷ []) ≡ leaves_of log
leaves_same log event none = filter_map-append leaf_in log (event ∷ []) ∙ ap (λ (ns : List ℕ). leaves_of log ++ ns) (rw none refl) ∙ append_nil (leaves_of log)

-- which keeps the signer
pub recorded_unsigned : {D : Type 0} {line line' : LineModel} {signer : SignerModel D} {ticket : Option ℕ} {own own' : WorkspaceModel} {event : Logged}
    → ClientInvariant line signer ticket own → Records line line' signer signer own own' event → leaf_in event ≡ None → Recorded line line' signer signer ticket own own' event
recorded_unsigned {line = line} {signer = signer} {ticket = ticket} {own = own} {event = event} known did none =
    let L : List ℕ → Type 0 = λ ns. AreInOrder signer.leaves.next_at_open signer.leaves.next ticket ns in
    recorded known did known.unspent (subst L (sym (leaves_same (log_of line.entries own.journal) event none)) known.leaves)

-- what a client whose fields hold these is, whatever its log
pub state_is : {D : Type 0} {line : LineModel} {signer : SignerModel D} {ticket : Option ℕ} {own : WorkspaceModel} {c : ClientModel D} → ClientInvariant line signer ticket own
    → client_model line signer ticket own ≡ c → state_of c ≡ plain_of signer.key line own
state_is known view = ap state_of (sym view) ∙ sym known.state

allowed_change : (c : PlainClient) (by : ℕ) (change : MemberChange) → change_fault c ≡ None → can_log c (Change by change) ≡ true
unfolding can_log
allowed_change c by change none = ap is_none none

allowed_edit : (c : PlainClient) (by seen : ℕ) (marks : List Mark) → edit_fault c seen marks ≡ None → can_log c (Edit by seen marks) ≡ true
unfolding can_log
allowed_edit c by seen marks none = ap is_none none

allowed_discard : (c : PlainClient) (by : ℕ) → length c.shown < MAX_EVENTS → can_log c (Discard by) ≡ true
unfolding can_log
allowed_discard c by room = rw (lt-ltb (length c.shown) MAX_EVENTS room) refl

drop_allowed : (c : PlainClient) (by : ℕ) (fault : ChangeFault) → due c ≡ Drop fault → can_log c (Dropped by fault) ≡ true
unfolding can_log
drop_allowed c by fault is = ap (is_drop fault) is ∙ eq-eqb (change_fault_code_of fault) (change_fault_code_of fault) refl

submit_allowed : (c : PlainClient) (by leaf : ℕ) (bytes : List ℕ) → IsSubmission c leaf bytes → can_log c (Submit by bytes) ≡ true
unfolding can_log
submit_allowed c by leaf bytes is = is.allowed

-- what restating an edit asks of the shown deltas
pub record EditLimits (shown : List (List Mark)) (seen : ℕ) (marks : List Mark) : Type 0 where
  pub small : seen < 2 ^ 32
  pub base : base_len marks ≡ reached 0 (take seen shown)
  pub limit : base_len marks + inserted_len marks + all_inserted (drop seen shown) ≤ MAX_TEXT_LEN
  pub restated_base : base_len (later_over marks (drop seen shown)) ≡ reached 0 shown

-- the leaves of a log, behind an event that signs with one
leaves_more : (log : List Logged) (event : Logged) (leaf : ℕ) → leaf_in event ≡ Some leaf → leaves_of (log ++ event ∷ []) ≡ leaves_of log ++ leaf ∷ []
leaves_more log event leaf is = filter_map-append leaf_in log (event ∷ []) ∙ ap (λ (ns : List ℕ). leaves_of log ++ ns) (rw is refl)

module _ {D : Type 0} {line : LineModel} {signer : SignerModel D} {ticket : Option ℕ} {own : WorkspaceModel} (known : ClientInvariant line signer ticket own) where
  -- ---- lengths

  pub length_of_shown : length (text_after own.shown) ≡ length (shown_of (plain_of signer.key line own))
  length_of_shown = ap length known.sound.shown

  pub shown_length : length (text_after own.shown) ≤ MAX_SHOWN_LEN
  shown_length =
      let c = plain_of signer.key line own in
      let l = lengths c known.small in
      omega (arith, length_of_shown, length-shown (committed_of c) c.pending known.sound.stated, l.committed, l.pending)

  -- a delta that replaces the shown text is stated on it
  pub replaced_base : (form : List Mark) (n : ℕ) (text : List ℕ) → form ≡ replacement n text → n ≡ length (text_after own.shown) → base_len form ≡ reached 0 own.shown
  replaced_base form n text is len = rw is (base_len-replacement n text ∙ len ∙ length-text own.shown known.sound.follow)

  sound_leads : LeadTo own.shown (shown_of (plain_of signer.key line own))
  sound_leads = record { follow = known.sound.follow; text_is = known.sound.shown }

  pub reached_is : reached 0 own.shown ≡ length (shown_of (plain_of signer.key line own))
  reached_is = length_shown own.shown (shown_of (plain_of signer.key line own)) sound_leads

  -- what restating an edit asks
  pub edit_limits : (seen : ℕ) (marks : List Mark) → EditPassed (plain_of signer.key line own) seen marks → EditLimits own.shown seen marks
  edit_limits seen marks passed =
      let c = plain_of signer.key line own in
      let l = lengths c known.small in
      let begin = Follow-take 0 seen own.shown known.sound.follow in
      let base : base_len marks ≡ reached 0 (take seen own.shown) = passed.base ∙ length-text (take seen own.shown) begin in
      let split : all_inserted own.shown ≡ all_inserted (take seen own.shown) + all_inserted (drop seen own.shown) =
      ap all_inserted (sym (take-append-drop seen own.shown)) ∙ all_inserted-append (take seen own.shown) (drop seen own.shown) in
      record {
        small = omega (arith, passed.within, known.small.events);
        base = base;
        limit = omega (arith, base, split, l.shown, reached-le 0 (take seen own.shown) begin, inserted_len-bytes marks, passed.bytes);
        restated_base = base_restated own.shown (shown_of c) seen marks sound_leads passed.base ∙ sym reached_is;
      }

  -- ---- what each event makes of the fields

  -- one that leaves the history
  own_recorded : (own' : WorkspaceModel) (event : Logged) → entries_by event ≡ [] → leaf_in event ≡ None → own'.journal ≡ own.journal ++ stored_event (length line.entries) event ∷ []
      → plain_of signer.key line own' ≡ step (plain_of signer.key line own) event → can_log (plain_of signer.key line own) event ≡ true → IsOfItem (plain_of signer.key line own) event
      → Recorded line line signer signer ticket own own' event
  own_recorded own' event no_entry unsigned journal state allowed of =
      let records : Records line line signer signer own own' event =
      record { key = refl; entries = rw no_entry (sym (append_nil line.entries)); journal = journal; state = state; allowed = allowed; of_item = of } in
      recorded_unsigned known records unsigned

  pub change_recorded : (own' : WorkspaceModel) (by : ℕ) (change : MemberChange) → change_fault (plain_of signer.key line own) ≡ None
      → own'.pending ≡ own.pending ++ items.Change change ∷ [] → own'.flight ≡ own.flight → own'.shown ≡ own.shown ++ keeps (plain_of signer.key line own) ∷ []
      → own'.journal ≡ own.journal ++ events.Change by change ∷ [] → Recorded line line signer signer ticket own own' (Change by change)
  change_recorded own' by change checks pending flight shown journal =
      own_recorded own' (Change by change) refl refl journal (rw (pending, flight, shown) refl) (allowed_change (plain_of signer.key line own) by change checks) tt

  pub edit_recorded : (own' : WorkspaceModel) (by seen : ℕ) (marks : List Mark) → edit_fault (plain_of signer.key line own) seen marks ≡ None
      → own'.pending ≡ own.pending ++ items.Edit (restated (plain_of signer.key line own) seen marks) ∷ [] → own'.flight ≡ own.flight
      → own'.shown ≡ own.shown ++ restated (plain_of signer.key line own) seen marks ∷ []
      → own'.journal ≡ own.journal ++ events.Edit by seen marks ∷ [] → Recorded line line signer signer ticket own own' (Edit by seen marks)
  edit_recorded own' by seen marks checks pending flight shown journal =
      own_recorded own' (Edit by seen marks) refl refl journal (rw (pending, flight, shown) refl) (allowed_edit (plain_of signer.key line own) by seen marks checks) tt

  pub discard_recorded : (own' : WorkspaceModel) (by : ℕ) → length own.shown < MAX_EVENTS → own'.pending ≡ [] → own'.flight ≡ None
      → own'.shown ≡ own.shown ++ replacement (length (shown_of (plain_of signer.key line own))) (committed_of (plain_of signer.key line own)) ∷ []
      → own'.journal ≡ own.journal ++ events.Discard by ∷ [] → Recorded line line signer signer ticket own own' (Discard by)
  discard_recorded own' by room pending flight shown journal =
      own_recorded own' (Discard by) refl refl journal (rw (pending, flight, shown) refl) (allowed_discard (plain_of signer.key line own) by room) tt

  pub drop_recorded : (own' : WorkspaceModel) (by : ℕ) (fault : ChangeFault) → due (plain_of signer.key line own) ≡ Drop fault → own'.pending ≡ drop 1 own.pending → own'.flight ≡ own.flight
      → own'.shown ≡ own.shown ++ keeps (plain_of signer.key line own) ∷ [] → own'.journal ≡ own.journal ++ events.Dropped by fault ∷ [] → Recorded line line signer signer ticket own own' (Dropped by fault)
  drop_recorded own' by fault is pending flight shown journal =
      own_recorded own' (Dropped by fault) refl refl journal (rw (pending, flight, shown) refl) (drop_allowed (plain_of signer.key line own) by fault is) tt

  pub submit_recorded : (signer' : SignerModel D) (own' : WorkspaceModel) (by leaf : ℕ) (bytes : List ℕ) → signer'.key ≡ signer.key → IsSubmission (plain_of signer.key line own) leaf bytes
      → AreInOrder signer'.leaves.next_at_open signer'.leaves.next (Some leaf) (leaves_of (log_of line.entries own.journal))
      → own'.pending ≡ own.pending → own'.flight ≡ Some bytes → own'.shown ≡ own.shown ++ keeps (plain_of signer.key line own) ∷ []
      → own'.journal ≡ own.journal ++ events.Submit by bytes ∷ [] → Recorded line line signer signer' None own own' (Submit by bytes)
  submit_recorded signer' own' by leaf bytes key is order pending flight shown journal =
      let log = log_of line.entries own.journal in
      let L : List ℕ → Type 0 = λ ns. AreInOrder signer'.leaves.next_at_open signer'.leaves.next None ns in
      let records : Records line line signer signer' own own' (Submit by bytes) = record {
        key = key;
        entries = sym (append_nil line.entries);
        journal = journal;
        state = rw (key, pending, flight, shown) refl;
        allowed = submit_allowed (plain_of signer.key line own) by leaf bytes is;
        of_item = is.in_flight;
      } in
      recorded known records tt (subst L (sym (leaves_more log (Submit by bytes) leaf is.leaf_is)) (signed_kept signer'.leaves.next_at_open signer'.leaves.next leaf (leaves_of log) order))

  -- ---- leaves drawn, and tickets kept

  with_leaves : (leaves' : LeavesModel D) (ticket' : Option ℕ) → IfSome ticket' (λ leaf. leaf < 2 ^ height_of signer.key.lms)
      → AreInOrder leaves'.next_at_open leaves'.next ticket' (leaves_of (log_of line.entries own.journal)) → ClientInvariant line (record { key = signer.key; leaves = leaves' }) ticket' own
  with_leaves leaves' ticket' unspent order = record {
    stores = known.stores;
    state = known.state;
    allowed = known.allowed;
    sound = known.sound;
    small = known.small;
    unspent = unspent;
    leaves = order;
  }

  pub same_key : (signer' : SignerModel D) (ticket' : Option ℕ) → signer'.key ≡ signer.key → IfSome ticket' (λ leaf. leaf < 2 ^ height_of signer.key.lms)
      → AreInOrder signer'.leaves.next_at_open signer'.leaves.next ticket' (leaves_of (log_of line.entries own.journal)) → ClientInvariant line signer' ticket' own
  same_key signer' ticket' same unspent order =
      let P : LmsPrivate → Type 0 = λ key. ClientInvariant line (record { key = key; leaves = signer'.leaves }) ticket' own in
      subst P (sym same) (with_leaves signer'.leaves ticket' unspent order)
