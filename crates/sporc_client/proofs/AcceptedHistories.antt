-- A client that accepted a good history, or was just opened, and has nothing of its own.
use Rattle.std.proofs.Common.{◌≡◌, ℕ, true, List, [], length, ◌≤◌, None, refl, ap, sym, ◌∙◌, subst, arith, ◌+◌, ◌-◌, ◌^◌, ◌<◌, Bool, false, ◌∷◌, ◌++◌, take, map, Option, Some, IfSome, add-one, get_or}
use Rattle.sporc_client.proofs.Common.{SignerModel, Genesis, text_of, forms_of, next_form, Good, Kit, LineModel, can_log, ClientInvariant, plain_of, Stores, client_model, Opening, PlainClient, opened}
use Rattle.sporc_client.proofs.Common.{me_of, IsSmall, IsSound, accepted, log_of_entries, step, WorkspaceModel, map-append, take_more, length-take-le, length-map, get_or-map, height_of, from_end}
use Rattle.sporc_client.proofs.Common.{slice_get, Mark, base_len, Follow, reached, Follow-take, ChangeBody, same_device, Entry, author_device, change_of, MAX_ENTRIES, take_slice_get_more, change_form}
use Rattle.sporc_client.proofs.Common.{forms_follow, length-forms, good_front, last_passes, forms_push, no_fault, Event, MAX_EVENTS, Pending, AreInOrder, ClientModel, leaves_of, coming_of}
use Rattle.sporc_client.proofs.Common.{flight_after, pending_after, shown_form, Logged, Accept, accepted_in, journal_of, log_of, ltb-true, journal_has_room, refusal_of, at_next}
use Rattle.sporc_line.specs.Document.{forms_from}
use Rattle.sporc_client.specs.Allowed.{is_allowed}
use Rattle.sporc_client.specs.Step.{replay}
use Rattle.sporc_client.proofs.Leaves.{order_begun}
use Rattle.std.specs.Option.{is_some}
use Rattle.sporc_client.specs.declared.event.Event.TheVariants as events
use Rattle.sporc_client.proofs.Soundness.{allowed_accept}
use Rattle.sporc_client.proofs.Comings.{accepted_is, follow_last}
use Rattle.sporc_client.proofs.Events.{is_allowed_more, log_again, replay_more, journal_more}
use Rattle.sporc_client.proofs.Small.{few_inserted, length-text_of}
pub use Rattle.sporc_client.proofs.Checked.{accept_passes}

no_text : (genesis : Genesis) (kit : Kit) → text_of genesis kit [] ≡ []
unfolding forms_from
no_text genesis kit = refl

nothing_happened : (opening : Opening) → replay opening [] ≡ opened opening
unfolding replay
nothing_happened opening = refl

nothing_is_allowed : (opening : Opening) → is_allowed opening [] ≡ true
unfolding is_allowed
nothing_is_allowed opening = refl

opened_sound : (o : Opening) → Good o.genesis o.kit [] → IsSound (opened o)
opened_sound o good = record { good = good; stated = tt; follow = tt; shown = sym (no_text o.genesis o.kit); flight = tt }

opened_small : (o : Opening) → IsSmall (opened o)
opened_small o = record {
  entries = omega arith;
  committed = omega (arith, ap length (no_text o.genesis o.kit));
  pending = omega arith;
  short = tt;
  events = omega arith;
  shown = omega arith;
}

pub opened_invariant : {D : Type 0} (line : LineModel) (signer : SignerModel D) (own : WorkspaceModel) → Good line.genesis line.kit line.entries → line.entries ≡ [] → own.pending ≡ [] → own.flight ≡ None → own.shown ≡ [] → own.journal ≡ []
    → signer.leaves.next_at_open ≤ signer.leaves.next → ClientInvariant line signer None own
opened_invariant line signer own good entries pending flight shown journal forward =
    let o : Opening = record { genesis = line.genesis; kit = line.kit; key = signer.key } in
    let plain : plain_of signer.key line own ≡ opened o = rw (entries, pending, flight, shown) refl in
    let P : PlainClient → Type 0 = λ c. IsSound c in
    let Q : PlainClient → Type 0 = λ c. IsSmall c in
    let G : List (List ℕ) → Type 0 = λ es. Good line.genesis line.kit es in
    record {
      stores = record { entries = rw (entries, journal) refl; journal = rw (entries, journal) refl };
      state = plain ∙ sym (rw (entries, journal) (nothing_happened o));
      allowed = rw (entries, journal) (nothing_is_allowed o);
      sound = subst P (sym plain) (opened_sound o (subst G entries good));
      small = subst Q (sym plain) (opened_small o);
      unspent = tt;
      leaves = rw (entries, journal) (order_begun signer.leaves.next_at_open signer.leaves.next forward);
    }

-- ---- a client that accepted a good history and has nothing of its own

abbrev pub of_history : Opening → List (List ℕ) → PlainClient
of_history o entries = record { opening = o; entries = entries; pending = []; flight = None; shown = forms_of o.genesis o.kit entries }

-- ---- one entry more

no_items : (change own : Bool) (form : List Mark) → pending_after (coming_of false change own form []) [] ≡ []
no_items true own form = refl
no_items false own form = refl

no_flight : (change own : Bool) (form : List Mark) → flight_after (coming_of false change own form []) None ≡ None
no_flight true own form = refl
no_flight false true form = refl
no_flight false false form = refl

abbrev with_own : PlainClient → List (List ℕ) → List Pending → Option (List ℕ) → List (List Mark) → PlainClient
with_own c entries pending flight shown = record c { entries = entries; pending = pending; flight = flight; shown = shown }

pub one_more : (o : Opening) (A : List (List ℕ)) (b : List ℕ) → Good o.genesis o.kit (A ++ b ∷ []) → accepted (of_history o A) b ≡ of_history o (A ++ b ∷ [])
one_more o A b good =
    let g = o.genesis in
    let kit = o.kit in
    let c = of_history o A in
    let p = last_passes g kit A b good in
    let e : Entry = p.0 in
    let form : List Mark = next_form g kit A b in
    let change : Bool = is_some (change_of e) in
    let own : Bool = same_device (author_device e.header) (me_of c) in
    let pending : List Pending = pending_after (coming_of false change own form []) [] in
    let flight : Option (List ℕ) = flight_after (coming_of false change own form []) None in
    let shown : List Mark = shown_form false change (length (text_of g kit A)) form [] in
    accepted_is c b e p.1
    ∙ ap (λ (ps : List Pending). with_own c (A ++ b ∷ []) ps flight (c.shown ++ shown ∷ [])) (no_items change own form)
    ∙ ap (λ (f : Option (List ℕ)). with_own c (A ++ b ∷ []) [] f (c.shown ++ shown ∷ [])) (no_flight change own form)
    ∙ ap (λ (f : List Mark). with_own c (A ++ b ∷ []) [] None (c.shown ++ f ∷ [])) (same_form (change_of e) refl)
    ∙ ap (with_own c (A ++ b ∷ []) [] None) (sym (forms_push g kit A b good))
  where
    same_form : (o' : Option ChangeBody) → change_of (last_passes o.genesis o.kit A b good).0 ≡ o'
        → shown_form false (is_some o') (length (text_of o.genesis o.kit A)) (next_form o.genesis o.kit A b) [] ≡ next_form o.genesis o.kit A b
    same_form None is = refl
    same_form (Some body) is =
        let p = last_passes o.genesis o.kit A b good in
        sym (change_form o.genesis o.kit A b p.0 body p.1 is)

-- ---- all of a history

pub record Resumes (o : Opening) (entries : List (List ℕ)) : Type 0 where
  pub state : replay o (log_of_entries entries) ≡ of_history o entries
  pub allowed : is_allowed o (log_of_entries entries) ≡ true

abbrev ResumesGood : Opening → List (List ℕ) → Type 0
ResumesGood o entries = Good o.genesis o.kit entries → Resumes o entries

resumes_none : (o : Opening) → ResumesGood o []
unfolding forms_from replay is_allowed
resumes_none o good = record { state = refl; allowed = refl }

resumes_more : (o : Opening) (A : List (List ℕ)) (b : List ℕ) → ResumesGood o A → ResumesGood o (A ++ b ∷ [])
resumes_more o A b before good =
    let g = o.genesis in
    let kit = o.kit in
    let ih = before (good_front g kit A b good) in
    let log : List Logged = log_of_entries A in
    let more : log_of_entries (A ++ b ∷ []) ≡ log ++ Accept 0 b ∷ [] = map-append (Accept 0) A (b ∷ []) in
    let p = last_passes g kit A b good in
    let room : length (forms_of g kit A) < MAX_EVENTS = omega (arith, length-forms g kit A, p.2.room) in
    let may : can_log (of_history o A) (Accept 0 b) ≡ true = allowed_accept (of_history o A) 0 b (no_fault g kit A (length A + 1) b p.0 p.1 p.2) room in
    let here : can_log (replay o log) (Accept 0 b) ≡ true = ap (λ (c : PlainClient). can_log c (Accept 0 b)) ih.state ∙ may in
    record {
      state = ap (replay o) more ∙ replay_more o log (Accept 0 b) ∙ ap (λ (c : PlainClient). step c (Accept 0 b)) ih.state ∙ one_more o A b good;
      allowed = ap (is_allowed o) more ∙ is_allowed_more o log (Accept 0 b) ih.allowed here;
    }

pub resumes : (o : Opening) (entries : List (List ℕ)) → Good o.genesis o.kit entries → Resumes o entries
resumes o = from_end (ResumesGood o) (resumes_none o) (resumes_more o)

-- ---- the next form, and the journal

pub record NextForm (forms : List (List Mark)) (i : ℕ) (form : List Mark) : Type 0 where
  pub base : base_len form ≡ reached 0 (take i forms)
  pub more : take (i + 1) forms ≡ take i forms ++ form ∷ []

pub next_form_at : (g : Genesis) (kit : Kit) (A : List (List ℕ)) (i : ℕ) (form : List Mark) → Good g kit A → slice_get (forms_of g kit A) (i + 1 - 1) ≡ Some form → NextForm (forms_of g kit A) i form
next_form_at g kit A i form good at =
    let forms = forms_of g kit A in
    let here : slice_get forms i ≡ Some form = ap (slice_get forms) (omega arith) ∙ at in
    let more : take (i + 1) forms ≡ take i forms ++ form ∷ [] = ap (λ (n : ℕ). take n forms) (add-one i) ∙ take_slice_get_more forms i form here in
    let F : List (List Mark) → Type 0 = λ fs. Follow 0 fs in
    record { base = follow_last 0 (take i forms) form (subst F more (Follow-take 0 (i + 1) forms (forms_follow g kit A good))); more = more }

pub entries_of_accepts : (entries : List (List ℕ)) → accepted_in (log_of_entries entries) ≡ entries
entries_of_accepts [] = refl
entries_of_accepts (b ∷ entries) = ap (λ (es : List (List ℕ)). b ∷ es) (entries_of_accepts entries)

pub leaves_of_accepts : (entries : List (List ℕ)) → leaves_of (log_of_entries entries) ≡ []
leaves_of_accepts [] = refl
leaves_of_accepts (b ∷ entries) = leaves_of_accepts entries

-- the journal of the first entries, and one more
pub place_more : (i : ℕ) (entries : List (List ℕ)) → i < length entries
    → journal_of (log_of_entries (take (i + 1) entries)) ≡ journal_of (log_of_entries (take i entries)) ++ events.Accept 0 (i + 1) ∷ []
place_more i entries within =
    let before = log_of_entries (take i entries) in
    let entry = get_or entries i [] in
    let count : 0 + length (accepted_in before) ≡ i = omega (arith, ap length (entries_of_accepts (take i entries)), length-take-le i entries (omega arith)) in
    ap (λ (es : List (List ℕ)). journal_of (log_of_entries es)) (take_more entries i [] within)
    ∙ ap journal_of (map-append (Accept 0) (take i entries) (entry ∷ []))
    ∙ journal_more 0 before (Accept 0 entry)
    ∙ ap (λ (n : ℕ). journal_of before ++ events.Accept 0 (n + 1) ∷ []) count

-- the first of some values that are read off a list, and one more
pub take_read : {V : Type 0} (f : V → List ℕ) (vs : List V) (A : List (List ℕ)) (i : ℕ) (v : V) → map f vs ≡ A → i < length vs → v ≡ get_or vs i v → take (i + 1) A ≡ take i A ++ f v ∷ []
take_read f vs A i v is within at =
    let there : i < length A = omega (arith, ap length is, length-map vs f) in
    take_more A i (f v) there ∙ ap (λ (x : List ℕ). take i A ++ x ∷ []) (ap (λ (xs : List (List ℕ)). get_or xs i (f v)) (sym is) ∙ get_or-map f vs i v (f v) within ∙ ap f (sym at))

-- ---- its fields

pub log_resumed : (entries : List (List ℕ)) (journal : List Event) → journal ≡ journal_of (log_of_entries entries) → log_of entries journal ≡ log_of_entries entries
log_resumed entries journal is =
    ap (log_of entries) is
    ∙ ap (λ (es : List (List ℕ)). log_of es (journal_of (log_of_entries entries))) (sym (entries_of_accepts entries))
    ∙ log_again (log_of_entries entries)

resumed_sound : (o : Opening) (entries : List (List ℕ)) → Good o.genesis o.kit entries → IsSound (of_history o entries)
resumed_sound o entries good = record { good = good; stated = tt; follow = forms_follow o.genesis o.kit entries good; shown = refl; flight = tt }

resumed_small : (o : Opening) (entries : List (List ℕ)) → Good o.genesis o.kit entries → length entries ≤ MAX_ENTRIES → IsSmall (of_history o entries)
resumed_small o entries good few =
    let count = length-forms o.genesis o.kit entries in
    record {
      entries = few;
      committed = omega (arith, length-text_of o.genesis o.kit entries good);
      pending = omega arith;
      short = tt;
      events = omega (arith, count, few);
      shown = omega (arith, count, few_inserted o.genesis o.kit entries good);
    }

-- with nothing signed the order begins anew
pub order_anew : (first end : ℕ) (ticket : Option ℕ) (signed : List ℕ) → AreInOrder first end ticket signed → AreInOrder first end ticket []
order_anew first end None signed order = order_begun first end (omega (arith, order.opened, order.all))
order_anew first end (Some leaf) signed order = record {
  base = leaf;
  opened = omega (arith, order.opened, order.kept.after);
  all = omega (arith, order.kept.last);
  rise = tt;
  kept = record { after = omega arith; last = order.kept.last; unsigned = tt };
}

pub resumed_invariant : {D : Type 0} (line : LineModel) (signer : SignerModel D) (ticket : Option ℕ) (own : WorkspaceModel) → Good line.genesis line.kit line.entries → length line.entries ≤ MAX_ENTRIES
    → own.pending ≡ [] → own.flight ≡ None → own.shown ≡ forms_of line.genesis line.kit line.entries → own.journal ≡ journal_of (log_of_entries line.entries)
    → IfSome ticket (λ leaf. leaf < 2 ^ height_of signer.key.lms) → AreInOrder signer.leaves.next_at_open signer.leaves.next ticket [] → ClientInvariant line signer ticket own
resumed_invariant line signer ticket own good few pending flight shown journal unspent order =
    let o : Opening = record { genesis = line.genesis; kit = line.kit; key = signer.key } in
    let entries = line.entries in
    let all = resumes o entries good in
    let log : log_of entries own.journal ≡ log_of_entries entries = log_resumed entries own.journal journal in
    let plain : plain_of signer.key line own ≡ of_history o entries = rw (pending, flight, shown) refl in
    let S : List Logged → Type 0 = λ l. Stores l line own in
    let L : List Logged → Type 0 = λ l. AreInOrder signer.leaves.next_at_open signer.leaves.next ticket (leaves_of l) in
    let N : List ℕ → Type 0 = λ ns. AreInOrder signer.leaves.next_at_open signer.leaves.next ticket ns in
    let stores : Stores (log_of_entries entries) line own = record { entries = sym (entries_of_accepts entries); journal = journal } in
    record {
      stores = subst S (sym log) stores;
      state = plain ∙ sym all.state ∙ ap (replay o) (sym log);
      allowed = ap (is_allowed o) log ∙ all.allowed;
      sound = subst IsSound (sym plain) (resumed_sound o entries good);
      small = subst IsSmall (sym plain) (resumed_small o entries good few);
      unspent = unspent;
      leaves = subst L (sym log) (subst N (sym (leaves_of_accepts entries)) order);
    }

-- what contracts see of it
pub model_resumed : {D : Type 0} (line line' : LineModel) (signer : SignerModel D) (ticket : Option ℕ) (own own' : WorkspaceModel) → line'.genesis ≡ line.genesis → line'.kit ≡ line.kit
    → own'.journal ≡ journal_of (log_of_entries line'.entries) → client_model line' signer ticket own' ≡ record (client_model line signer ticket own) { log = log_of_entries line'.entries }
model_resumed {D} line line' signer ticket own own' genesis kit journal =
    let made : Genesis → Kit → List Logged → ClientModel D =
    λ g k log. record { opening = record { genesis = g; kit = k; key = signer.key }; log = log; leaves = signer.leaves; ticket = ticket } in
    ap (λ (g : Genesis). made g line'.kit (log_of line'.entries own'.journal)) genesis
    ∙ ap (λ (k : Kit). made line.genesis k (log_of line'.entries own'.journal)) kit
    ∙ ap (made line.genesis line.kit) (log_resumed line'.entries own'.journal journal)

-- ---- one entry

-- an entry that no check refuses at some position is the next one
pub accept_allowed : (c : PlainClient) (by position : ℕ) (bytes : List ℕ) → refusal_of c position bytes ≡ None → journal_has_room c ≡ true → can_log c (Accept by bytes) ≡ true
accept_allowed c by position bytes none room =
    allowed_accept c by bytes (at_next c.opening.genesis c.opening.kit c.entries position bytes none) (ltb-true (length c.shown) MAX_EVENTS room)

-- ---- all entries of a history

-- a client that accepted these entries and nothing else
pub record Accepts (o : Opening) (history : List (List ℕ)) : Type 0 where
  pub opening : (replay o (log_of_entries history)).opening ≡ o
  pub entries_are : (replay o (log_of_entries history)).entries ≡ history
  pub allowed : is_allowed o (log_of_entries history) ≡ true

pub accepts_all : (o : Opening) (history : List (List ℕ)) → Good o.genesis o.kit history → Accepts o history
accepts_all o history good =
    let resumed = resumes o history good in
    record {
      opening = ap (λ (c : PlainClient). c.opening) resumed.state;
      entries_are = ap (λ (c : PlainClient). c.entries) resumed.state;
      allowed = resumed.allowed;
    }
