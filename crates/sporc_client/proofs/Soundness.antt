-- Each event keeps what holds of a client.
use Rattle.std.proofs.Common.{◌≡◌, ℕ, ◌+◌, ◌≤◌, Bool, true, false, List, [], ◌∷◌, ◌++◌, length, take, drop, fold, if◌then◌else◌, Option, None, Some, IfSome, Ok, refl, ap, sym, ◌∙◌, subst, arith, length-append, ◌*◌, ◌<◌, length-drop}
use Rattle.sporc_client.proofs.Common.{drop-append-le, Mark, apply, base_len, replacement, inserted_len, later, later_over, MemberChange, ChangeFault, ChangeBody, Entry, change_of, entry_of, changes}
use Rattle.sporc_client.proofs.Common.{epoch_of, is_by, change_read, committed_by, edit_marks, forms_of, text_after, text_of, first_fault, Good, Passes, passed, good_push, changes_append, forms_push}
use Rattle.sporc_client.proofs.Common.{key_of_push, text_push, change_form, edit_form, forms_follow, length-forms, length-text, next_form_base, length-apply, Pending, Edit, Change, Submit, Dropped}
use Rattle.sporc_client.proofs.Common.{Discard, Accept, PlainClient, after_pending, committed_of, shown_of, me_of, AreStated, beyond, rebased, change_comes, edit_comes, form_coming, own_comes}
use Rattle.sporc_client.proofs.Common.{restated, step, accepted, is_flight, is_same_as, keeps, IsEntryOf, IsInFlight, IsOfFirst, IsSound, lt-ltb, bytes_eq-Decides, out_len-le, Refusal, MAX_ENTRIES}
use Rattle.sporc_client.proofs.Common.{MAX_EVENTS, MAX_HEAD_BYTES, journal_has_room, or_full, refusal_of, IsSmall, fold_push}
use Rattle.sporc_head.specs.History.{change_in}
use Rattle.sporc_client.specs.declared.pending.Pending.TheVariants as items
use Rattle.sporc_client.proofs.Rebased.{passes}
use Rattle.sporc_client.proofs.Shown.{LeadTo, apply-replacement, apply-keep_marks, base_len-replacement, base_restated, leads_on, leads_on_same}
use Rattle.std.specs.Option.{is_none, is_some}
use Rattle.sporc_client.specs.Allowed.{can_log}
use Rattle.sporc_client.specs.Answers.{accept_fault}
use Rattle.sporc_client.proofs.Small.{inserted_len-beyond, keeps_few, length-rebased, short_drop, short_rebased, small_with, next_within}
use Rattle.sporc_suffix.proofs.Composed.{later_over-append}

-- ---- pending items

stated_push : (text : List ℕ) (pending more : List Pending) → AreStated text pending → AreStated (fold after_pending text pending) more → AreStated text (pending ++ more)
stated_push text [] more stated rest = rest
stated_push text (items.Edit m ∷ ps) more stated rest = (stated.0, stated_push (apply m text) ps more stated.1 rest)
stated_push text (items.Change c ∷ ps) more stated rest = stated_push text ps more stated rest

first_more : (c : PlainClient) (e : Entry) (pending : List Pending) (item : Pending) → IsOfFirst c e pending → IsOfFirst c e (pending ++ item ∷ [])
first_more c e [] item first = absurd first
first_more c e (p ∷ ps) item first = first

-- what an entry is of, in another client with the same history
entry_same : (c d : PlainClient) (e : Entry) (item : Pending) → d.opening ≡ c.opening → d.entries ≡ c.entries → IsEntryOf c e item → IsEntryOf d e item
entry_same c d e (items.Change change) opening entries of = of
entry_same c d e (items.Edit marks) opening entries of = record {
  no_change = of.no_change;
  held = of.held;
  reads = rw (opening, entries) of.reads;
  restated = rw (opening, entries) of.restated;
}

first_same : (c d : PlainClient) (e : Entry) (pending : List Pending) → d.opening ≡ c.opening → d.entries ≡ c.entries → IsOfFirst c e pending → IsOfFirst d e pending
first_same c d e [] opening entries first = first
first_same c d e (item ∷ ps) opening entries first = entry_same c d e item opening entries first

-- the entry on its way stays that of the first item, while the history stays
in_flight_same : (c d : PlainClient) (bytes : List ℕ) → d.opening ≡ c.opening → d.entries ≡ c.entries → ((e : Entry) → IsOfFirst c e c.pending → IsOfFirst c e d.pending)
    → IsInFlight c bytes → IsInFlight d bytes
in_flight_same c d bytes opening entries pending f = record {
  entry = f.entry;
  reads = f.reads;
  base = rw entries f.base;
  epoch = rw entries f.epoch;
  first = first_same c d f.entry d.pending opening entries (pending f.entry f.first);
}

flight_same : (c d : PlainClient) → d.opening ≡ c.opening → d.entries ≡ c.entries → ((e : Entry) → IsOfFirst c e c.pending → IsOfFirst c e d.pending)
    → (flight : Option (List ℕ)) → IfSome flight (IsInFlight c) → IfSome flight (IsInFlight d)
flight_same c d opening entries pending None f = tt
flight_same c d opening entries pending (Some bytes) f = in_flight_same c d bytes opening entries pending f

leads : (c : PlainClient) → IsSound c → LeadTo c.shown (shown_of c)
leads c sound = record { follow = sound.follow; text_is = sound.shown }

-- ---- events that leave the history

pub edit_sound : (c : PlainClient) (by seen : ℕ) (marks : List Mark) → IsSound c → base_len marks ≡ length (text_after (take seen c.shown)) → IsSound (step c (Edit by seen marks))
edit_sound c by seen marks sound base =
    let base' = base_restated c.shown (shown_of c) seen marks (leads c sound) base in
    let next = leads_on c.shown (restated c seen marks) (shown_of c) (apply (restated c seen marks) (shown_of c)) (leads c sound) base' refl in
    record {
      good = sound.good;
      stated = stated_push (committed_of c) c.pending (items.Edit (restated c seen marks) ∷ []) sound.stated (base', tt);
      follow = next.follow;
      shown = next.text_is ∙ sym (fold_push after_pending (committed_of c) c.pending (items.Edit (restated c seen marks)));
      flight = flight_same c (step c (Edit by seen marks)) refl refl (λ e. first_more c e c.pending (items.Edit (restated c seen marks))) c.flight sound.flight;
    }

pub change_sound : (c : PlainClient) (by : ℕ) (change : MemberChange) → IsSound c → IsSound (step c (Change by change))
change_sound c by change sound =
    let next = leads_on_same c.shown (shown_of c) (leads c sound) in
    record {
      good = sound.good;
      stated = stated_push (committed_of c) c.pending (items.Change change ∷ []) sound.stated tt;
      follow = next.follow;
      shown = next.text_is ∙ sym (fold_push after_pending (committed_of c) c.pending (items.Change change));
      flight = flight_same c (step c (Change by change)) refl refl (λ e. first_more c e c.pending (items.Change change)) c.flight sound.flight;
    }

pub submit_sound : (c : PlainClient) (by : ℕ) (bytes : List ℕ) → IsSound c → IsInFlight c bytes → IsSound (step c (Submit by bytes))
submit_sound c by bytes sound in_flight =
    let next = leads_on_same c.shown (shown_of c) (leads c sound) in
    record {
      good = sound.good;
      stated = sound.stated;
      follow = next.follow;
      shown = next.text_is;
      flight = in_flight_same c (step c (Submit by bytes)) bytes refl refl (λ e first. first) in_flight;
    }

pub discard_sound : (c : PlainClient) (by : ℕ) → IsSound c → IsSound (step c (Discard by))
discard_sound c by sound =
    let text = committed_of c in
    let next = leads_on c.shown (replacement (length (shown_of c)) text) (shown_of c) text (leads c sound) (base_len-replacement (length (shown_of c)) text) (apply-replacement (shown_of c) text) in
    record { good = sound.good; stated = tt; follow = next.follow; shown = next.text_is; flight = tt }

-- a change at the head is taken off while no entry is on its way
pub drop_sound : (c : PlainClient) (by : ℕ) (fault : ChangeFault) (change : MemberChange) (rest : List Pending) → IsSound c → c.flight ≡ None → c.pending ≡ items.Change change ∷ rest
    → IsSound (step c (Dropped by fault))
drop_sound c by fault change rest sound none first =
    let next = leads_on_same c.shown (shown_of c) (leads c sound) in
    let same : fold after_pending (committed_of c) (drop 1 c.pending) ≡ shown_of c = rw first refl in
    record {
      good = sound.good;
      stated = rw first (let P : List Pending → Type 0 = λ ps. AreStated (committed_of c) ps in subst P first sound.stated);
      follow = next.follow;
      shown = next.text_is ∙ sym same;
      flight = rw none tt;
    }

-- ---- entries that come

-- what a history is once an entry came that fails no check
pub record Comes (c : PlainClient) (bytes : List ℕ) : Type 0 where
  pub good : Good c.opening.genesis c.opening.kit (c.entries ++ bytes ∷ [])
  pub entry : Entry
  pub reads : entry_of bytes ≡ Ok entry
  pub checks : Passes c.opening.genesis c.opening.kit c.entries (length c.entries + 1) entry
  pub text : text_of c.opening.genesis c.opening.kit (c.entries ++ bytes ∷ []) ≡ apply (form_coming c bytes) (committed_of c)
  pub base : base_len (form_coming c bytes) ≡ length (committed_of c)

pub comes : (c : PlainClient) (bytes : List ℕ) → Good c.opening.genesis c.opening.kit c.entries → first_fault c.opening.genesis c.opening.kit c.entries (length c.entries + 1) bytes ≡ None → Comes c bytes
comes c bytes good fault =
    let g = c.opening.genesis in
    let kit = c.opening.kit in
    let next = good_push g kit c.entries bytes good fault in
    let p = passed g kit c.entries (length c.entries + 1) bytes fault in
    let follow = forms_follow g kit c.entries good in
    record {
      good = next;
      entry = p.0;
      reads = p.1;
      checks = p.2;
      text = text_push g kit c.entries bytes next;
      base = next_form_base g kit c.entries bytes (length c.entries + 1) p.0 good follow p.1 p.2 ∙ sym (length-text (forms_of g kit c.entries) follow);
    }

-- the entry on its way comes back: what it does to the committed text is what the first pending item did
own_text : (c : PlainClient) (bytes : List ℕ) (e : Entry) (item : Pending) → entry_of bytes ≡ Ok e → IsEntryOf c e item
    → apply (form_coming c bytes) (committed_of c) ≡ after_pending (committed_of c) item
own_text c bytes e (items.Edit marks) reads of =
    ap (λ (m : List Mark). apply m (committed_of c)) (edit_form c.opening.genesis c.opening.kit c.entries bytes e of.held reads of.no_change of.reads ∙ of.restated)
own_text c bytes e (items.Change change) reads of =
    ap (λ (m : List Mark). apply m (committed_of c)) (change_form c.opening.genesis c.opening.kit c.entries bytes e of.body reads of.reads) ∙ apply-keep_marks (committed_of c)

stated_rest : (text : List ℕ) (item : Pending) (rest : List Pending) → AreStated text (item ∷ rest) → AreStated (after_pending text item) rest
stated_rest text (items.Edit marks) rest stated = stated.1
stated_rest text (items.Change change) rest stated = stated

pub own_sound : (c : PlainClient) (bytes : List ℕ) → IsSound c → IsInFlight c bytes → first_fault c.opening.genesis c.opening.kit c.entries (length c.entries + 1) bytes ≡ None
    → IsSound (own_comes c bytes)
own_sound c bytes sound in_flight fault = go c.pending refl in_flight.first
  where
    come : Comes c bytes
    come = comes c bytes sound.good fault

    go : (pending : List Pending) → c.pending ≡ pending → IsOfFirst c in_flight.entry pending → IsSound (own_comes c bytes)
    go [] is first = absurd first
    go (item ∷ rest) is first =
        let text : text_of c.opening.genesis c.opening.kit (c.entries ++ bytes ∷ []) ≡ after_pending (committed_of c) item = come.text ∙ own_text c bytes in_flight.entry item in_flight.reads first in
        let next = leads_on_same c.shown (shown_of c) (leads c sound) in
        let same : shown_of c ≡ fold after_pending (text_of c.opening.genesis c.opening.kit (c.entries ++ bytes ∷ [])) (drop 1 c.pending) = rw (text, is) refl in
        record {
          good = come.good;
          stated = rw (text, is) (stated_rest (committed_of c) item rest (rw is at sound.stated));
          follow = next.follow;
          shown = next.text_is ∙ same;
          flight = tt;
        }

pub other_change_sound : (c : PlainClient) (bytes : List ℕ) (e : Entry) (body : ChangeBody) → IsSound c → entry_of bytes ≡ Ok e → change_of e ≡ Some body
    → first_fault c.opening.genesis c.opening.kit c.entries (length c.entries + 1) bytes ≡ None → IsSound (change_comes c bytes)
other_change_sound c bytes e body sound reads is fault =
    let come = comes c bytes sound.good fault in
    let text : text_of c.opening.genesis c.opening.kit (c.entries ++ bytes ∷ []) ≡ committed_of c =
    come.text ∙ ap (λ (m : List Mark). apply m (committed_of c)) (change_form c.opening.genesis c.opening.kit c.entries bytes e body reads is) ∙ apply-keep_marks (committed_of c) in
    let Q : List ℕ → Type 0 = λ t. AreStated t c.pending in
    let next = leads_on_same c.shown (shown_of c) (leads c sound) in
    record {
      good = come.good;
      stated = subst Q (sym text) sound.stated;
      follow = next.follow;
      shown = next.text_is ∙ sym (ap (λ (t : List ℕ). fold after_pending t c.pending) text);
      flight = tt;
    }

-- another's edit comes: the entry on its way passes it as the first pending item does
first_passes : (c : PlainClient) (bytes : List ℕ) (e : Entry) (pending : List Pending) → Comes c bytes → e.header.base ≤ length c.entries → e.header.epoch ≤ epoch_of c.entries
    → IsOfFirst c e pending → IsOfFirst (edit_comes c bytes) e (rebased (form_coming c bytes) pending)
first_passes c bytes e (items.Edit marks ∷ ps) come base epoch first =
    let g = c.opening.genesis in
    let kit = c.opening.kit in
    let forms = forms_of g kit c.entries in
    let within : e.header.base ≤ length forms = omega (arith, base, length-forms g kit c.entries) in
    record {
      no_change = first.no_change;
      held = first.held;
      reads = ap (λ (k : Option (List ℕ)). edit_marks k e) (key_of_push g kit c.entries bytes e.header.epoch epoch) ∙ first.reads;
      restated =
          ap (λ (fs : List (List Mark)). later_over first.held (drop e.header.base fs)) (forms_push g kit c.entries bytes come.good)
          ∙ ap (later_over first.held) (drop-append-le e.header.base forms (form_coming c bytes ∷ []) within)
          ∙ later_over-append first.held (drop e.header.base forms) (form_coming c bytes ∷ [])
          ∙ ap (λ (m : List Mark). later m (form_coming c bytes)) first.restated;
    }
first_passes c bytes e pending come base epoch first = first

epoch_more : (entries : List (List ℕ)) (bytes : List ℕ) → epoch_of entries ≤ epoch_of (entries ++ bytes ∷ [])
epoch_more entries bytes = let e = ap length (changes_append entries (bytes ∷ [])) in omega (arith, e, length-append (changes entries) (changes (bytes ∷ [])))

flight_passes : (c : PlainClient) (bytes : List ℕ) → Comes c bytes → (flight : Option (List ℕ)) → IfSome flight (IsInFlight c) → IfSome flight (IsInFlight (edit_comes c bytes))
flight_passes c bytes come None f = tt
flight_passes c bytes come (Some own) f = record {
  entry = f.entry;
  reads = f.reads;
  base = omega (arith, f.base, length-append c.entries (bytes ∷ []));
  epoch = omega (arith, f.epoch, epoch_more c.entries bytes);
  first = first_passes c bytes f.entry c.pending come f.base f.epoch f.first;
}

pub other_edit_sound : (c : PlainClient) (bytes : List ℕ) → IsSound c → first_fault c.opening.genesis c.opening.kit c.entries (length c.entries + 1) bytes ≡ None → IsSound (edit_comes c bytes)
other_edit_sound c bytes sound fault =
    let come = comes c bytes sound.good fault in
    let form = form_coming c bytes in
    let pass = passes form (committed_of c) c.pending come.base sound.stated in
    let Q : List ℕ → Type 0 = λ t. AreStated t (rebased form c.pending) in
    let text = come.text in
    let next = leads_on c.shown (beyond form c.pending) (shown_of c) (apply (beyond form c.pending) (shown_of c)) (leads c sound) pass.base refl in
    record {
      good = come.good;
      stated = subst Q (sym text) pass.stated;
      follow = next.follow;
      shown = next.text_is ∙ sym pass.same ∙ sym (ap (λ (t : List ℕ). fold after_pending t (rebased form c.pending)) text);
      flight = flight_kept (is_by c.opening.kit.me bytes) c.flight (flight_passes c bytes come c.flight sound.flight);
    }
  where
    flight_kept : (own : Bool) (flight : Option (List ℕ)) → IfSome flight (IsInFlight (edit_comes c bytes)) → IfSome (if own then None else flight) (IsInFlight (edit_comes c bytes))
    flight_kept true flight f = tt
    flight_kept false flight f = f

-- ---- an accepted entry, with what the fields become

-- no check fails
abbrev pub NoFault : PlainClient → List ℕ → Type 0
NoFault c bytes = first_fault c.opening.genesis c.opening.kit c.entries (length c.entries + 1) bytes ≡ None

-- ---- what holds of a client stays

pub change_in_is : (bytes : List ℕ) (e : Entry) → entry_of bytes ≡ Ok e → change_in bytes ≡ committed_by e (change_of e)
unfolding change_in
change_in_is bytes e is = ap change_read is

-- an entry that is a change
is_change : (e : Entry) (o : Option ChangeBody) → is_some (committed_by e o) ≡ true → (body : ChangeBody) × (o ≡ Some body)
is_change e None h = absurd cc
is_change e (Some body) h = (body, refl)

flight_is : (c : PlainClient) (bytes : List ℕ) (flight : Option (List ℕ)) → is_same_as flight bytes ≡ true → IfSome flight (IsInFlight c) → IsInFlight c bytes
flight_is c bytes None same f = absurd cc
flight_is c bytes (Some own) same f = subst (IsInFlight c) ((bytes_eq-Decides own bytes).0 same) f

pub accepted_sound : (c : PlainClient) (bytes : List ℕ) → IsSound c → NoFault c bytes → IsSound (accepted c bytes)
accepted_sound c bytes sound fault = go (is_flight c bytes) refl (is_some (change_in bytes)) refl
  where
    go : (own : Bool) → is_flight c bytes ≡ own → (change : Bool) → is_some (change_in bytes) ≡ change
        → IsSound (if own then own_comes c bytes else if change then change_comes c bytes else edit_comes c bytes)
    go true is change of = own_sound c bytes sound (flight_is c bytes c.flight is sound.flight) fault
    go false is true of =
        let come = comes c bytes sound.good fault in
        let body = is_change come.entry (change_of come.entry) (ap is_some (sym (change_in_is bytes come.entry come.reads)) ∙ of) in
        other_change_sound c bytes come.entry body.0 sound come.reads body.1 fault
    go false is false of = other_edit_sound c bytes sound fault

-- ---- and so do the limits

pub accepted_small : (c : PlainClient) (bytes : List ℕ) → IsSound c → IsSmall c → NoFault c bytes → length c.shown < MAX_EVENTS → IsSmall (accepted c bytes)
accepted_small c bytes sound small fault room = go (is_flight c bytes) (is_some (change_in bytes))
  where
    come : Comes c bytes
    come = comes c bytes sound.good fault

    few : inserted_len (form_coming c bytes) ≤ MAX_HEAD_BYTES
    few = omega (arith, next_within c.opening.genesis c.opening.kit c.entries bytes come.entry come.reads come.checks)

    entries : length (c.entries ++ bytes ∷ []) ≤ MAX_ENTRIES
    entries = omega (arith, come.checks.room, length-append c.entries (bytes ∷ []))

    committed : length (text_of c.opening.genesis c.opening.kit (c.entries ++ bytes ∷ [])) ≤ MAX_HEAD_BYTES * length (c.entries ++ bytes ∷ [])
    committed =
        omega (
          arith,
          ap length come.text,
          length-apply (form_coming c bytes) (committed_of c) come.base,
          out_len-le (form_coming c bytes),
          come.base,
          few,
          small.committed,
          length-append c.entries (bytes ∷ []),
        )

    go : (own change : Bool) → IsSmall (if own then own_comes c bytes else if change then change_comes c bytes else edit_comes c bytes)
    go true change =
        small_with c (c.entries ++ bytes ∷ []) (drop 1 c.pending) None (keeps c) small entries committed (omega (arith, small.pending, length-drop 1 c.pending))
        (short_drop c.pending small.short) room (keeps_few (length (shown_of c)))
    go false true = small_with c (c.entries ++ bytes ∷ []) c.pending None (keeps c) small entries committed small.pending small.short room (keeps_few (length (shown_of c)))
    go false false =
        small_with c (c.entries ++ bytes ∷ []) (rebased (form_coming c bytes) c.pending) (if is_by (me_of c) bytes then None else c.flight) (beyond (form_coming c bytes) c.pending) small entries committed
        (omega (arith, small.pending, length-rebased (form_coming c bytes) c.pending)) (short_rebased (form_coming c bytes) c.pending small.short) room (omega (arith, inserted_len-beyond (form_coming c bytes) c.pending, few))

-- ---- and the client allows it

or_full_none : (room : Bool) (refusal : Option Refusal) → room ≡ true → refusal ≡ None → is_none (or_full room refusal) ≡ true
or_full_none true None a b = refl
or_full_none room refusal a b = absurd cc

pub allowed_accept : (c : PlainClient) (by : ℕ) (bytes : List ℕ) → NoFault c bytes → length c.shown < MAX_EVENTS → can_log c (Accept by bytes) ≡ true
unfolding can_log accept_fault
allowed_accept c by bytes fault room = or_full_none (journal_has_room c) (refusal_of c (length c.entries + 1) bytes) (lt-ltb (length c.shown) MAX_EVENTS room) fault
