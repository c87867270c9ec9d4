-- What an entry that comes does, by its kinds, with what the fields become.
use Rattle.std.proofs.Common.{◌≡◌, ℕ, ◌<◌, Bool, true, false, if◌then◌else◌, List, [], ◌∷◌, ◌++◌, length, Option, None, Some, Ok, refl, ap, sym, ◌∙◌, subst, arith}
use Rattle.sporc_client.proofs.Common.{IsErr, Result, Err, append_nil, SignerModel, Mark, apply, base_len, out_len, Follow, reached, Device, same_device, ChangeBody, Entry, Genesis, author_device}
use Rattle.sporc_client.proofs.Common.{change_of, entry_of, change_in, committed_by, Kit, LineModel, length-apply, Event, MAX_EVENTS, Pending}
use Rattle.sporc_client.proofs.Common.{ClientInvariant, client_model, plain_of, ClientModel, with_events, Effect, coming_of, effect, flight_after, pending_after, shown_form, Logged, Accept, log_of}
use Rattle.sporc_client.proofs.Common.{Opening, PlainClient, committed_of, me_of, shown_of, AreOver, AreStated, beyond, rebased, accepted, change_comes, form_coming, is_flight, own_comes, SameOwn}
use Rattle.sporc_client.proofs.Common.{WorkspaceModel, CanSettle, Takes, coming_at, form_at}
use Rattle.std.specs.Option.{is_some}
use Rattle.sporc_head.proofs.Grows.{is_by_read}
use Rattle.sporc_head.specs.History.{is_by}
use Rattle.sporc_line.specs.Prepared.{IsPrepared, PreparedModel}
use Rattle.sporc_client.specs.declared.coming.Coming.{Coming}
use Rattle.sporc_client.specs.declared.pending.Pending.TheVariants as items
use Rattle.sporc_client.specs.Answers.{added}
use Rattle.sporc_client.proofs.Soundness.{accepted_sound, allowed_accept, change_in_is, comes}
use Rattle.sporc_client.proofs.Events.{length_of_shown, shown_length, Recorded, Records, opening_of, recorded_unsigned}
use Rattle.sporc_client.proofs.Small.{lengths}

-- ---- by the kinds of an entry

-- a client after an entry that does this, with this shown delta
abbrev pub after_coming : PlainClient → List ℕ → Effect → List Mark → PlainClient
after_coming c bytes coming form = record c {
  entries = c.entries ++ bytes ∷ [];
  pending = pending_after coming c.pending;
  flight = flight_after coming c.flight;
  shown = c.shown ++ form ∷ [];
}

abbrev edit_by : PlainClient → List ℕ → Bool → PlainClient
edit_by c bytes own = record c {
  entries = c.entries ++ bytes ∷ [];
  pending = rebased (form_coming c bytes) c.pending;
  flight = if own then None else c.flight;
  shown = c.shown ++ beyond (form_coming c bytes) c.pending ∷ [];
}

abbrev comes_by : PlainClient → List ℕ → (on_its_way change own : Bool) → PlainClient
comes_by c bytes on_its_way change own =
    if on_its_way then own_comes c bytes
    else if change then change_comes c bytes
    else edit_by c bytes own

by_kinds : (c : PlainClient) (bytes : List ℕ) (on_its_way change own : Bool)
    → comes_by c bytes on_its_way change own
    ≡ after_coming c bytes (coming_of on_its_way change own (form_coming c bytes) c.pending) (shown_form on_its_way change (length (shown_of c)) (form_coming c bytes) c.pending)
by_kinds c bytes true change own = refl
by_kinds c bytes false true own = refl
by_kinds c bytes false false own = refl

some_same : (e : Entry) (o : Option ChangeBody) → is_some (committed_by e o) ≡ is_some o
some_same e None = refl
some_same e (Some body) = refl

pub accepted_is : (c : PlainClient) (bytes : List ℕ) (e : Entry) → entry_of bytes ≡ Ok e
    → accepted c bytes
    ≡ after_coming c bytes (coming_of (is_flight c bytes) (is_some (change_of e)) (same_device (author_device e.header) (me_of c)) (form_coming c bytes) c.pending) (shown_form (is_flight c bytes) (is_some (change_of e)) (length (shown_of c)) (form_coming c bytes) c.pending)
accepted_is c bytes e reads =
    let change : is_some (change_in bytes) ≡ is_some (change_of e) = ap is_some (change_in_is bytes e reads) ∙ some_same e (change_of e) in
    let own : is_by (me_of c) bytes ≡ same_device (author_device e.header) (me_of c) = is_by_read (me_of c) bytes e reads in
    ap (λ (b : Bool). comes_by c bytes (is_flight c bytes) b (is_by (me_of c) bytes)) change
    ∙ ap (λ (b : Bool). comes_by c bytes (is_flight c bytes) (is_some (change_of e)) b) own
    ∙ by_kinds c bytes (is_flight c bytes) (is_some (change_of e)) (same_device (author_device e.header) (me_of c))

-- ---- lengths

pub stated_over : (text : List ℕ) (pending : List Pending) → AreStated text pending → AreOver (length text) pending
stated_over text [] stated = tt
stated_over text (items.Change change ∷ ps) stated = stated_over text ps stated
stated_over text (items.Edit marks ∷ ps) stated =
    let P : ℕ → Type 0 = λ n. AreOver n ps in
    (stated.0, subst P (length-apply marks text stated.0) (stated_over (apply marks text) ps stated.1))

pub follow_last : (base : ℕ) (forms : List (List Mark)) (form : List Mark) → Follow base (forms ++ form ∷ []) → base_len form ≡ reached base forms
follow_last base [] form h = h.0
follow_last base (f ∷ fs) form h = follow_last (out_len f) fs form h.1

-- ---- an entry that was prepared

module _ {D : Type 0} {line : LineModel} {signer : SignerModel D} {ticket : Option ℕ} {own : WorkspaceModel} (known : ClientInvariant line signer ticket own) (p : PreparedModel) (prepared : IsPrepared line.genesis line.kit line.entries p) where
  -- the definition's step
  accepted_here : accepted (plain_of signer.key line own) p.checked.bytes ≡ after_coming (plain_of signer.key line own) p.checked.bytes (coming_at line.kit.me own p.checked.bytes p) (form_at own p.checked.bytes p)
  accepted_here =
      let c = plain_of signer.key line own in
      let bytes = p.checked.bytes in
      let e = p.checked.entry in
      let became : List Mark → ℕ → PlainClient =
      λ form len. after_coming c bytes (coming_of (is_flight c bytes) (is_some (change_of e)) (same_device (author_device e.header) (me_of c)) form c.pending) (shown_form (is_flight c bytes) (is_some (change_of e)) len form c.pending) in
      accepted_is c bytes e prepared.checked.read
      ∙ ap (λ (form : List Mark). became form (length (shown_of c))) (sym prepared.form_is)
      ∙ ap (λ (len : ℕ). became p.form len) (sym (length_of_shown known))

  pub can_settle : length own.shown < MAX_EVENTS → CanSettle own p
  can_settle room =
      let c = plain_of signer.key line own in
      let l = lengths c known.small in
      let come = comes c p.checked.bytes known.sound.good prepared.passed in
      let base : base_len p.form ≡ length (committed_of c) = ap base_len prepared.form_is ∙ come.base in
      let P : ℕ → Type 0 = λ n. AreOver n own.pending in
      let F : PlainClient → Type 0 = λ d. Follow 0 d.shown in
      record {
        follow = known.sound.follow;
        short = omega (arith, shown_length known);
        over = subst P (sym base) (stated_over (committed_of c) own.pending known.sound.stated);
        limit = omega (arith, base, l.committed, l.pending, prepared.small);
        base = follow_last 0 own.shown (form_at own p.checked.bytes p) (subst F accepted_here (accepted_sound c p.checked.bytes known.sound prepared.passed).follow);
        room = room;
      }

  pub accept_recorded : (line' : LineModel) (own' : WorkspaceModel) (by : ℕ) → length own.shown < MAX_EVENTS → Takes line line' own own' by p → Recorded line line' signer signer ticket own own' (Accept by p.checked.bytes)
  accept_recorded line' own' by room takes =
      let records : Records line line' signer signer own own' (Accept by p.checked.bytes) = record {
        key = refl;
        entries = takes.entries;
        journal = takes.journal;
        state = rw (takes.genesis, takes.kit, takes.entries, takes.pending, takes.flight, takes.shown) (sym accepted_here);
        allowed = allowed_accept (plain_of signer.key line own) by p.checked.bytes prepared.passed room;
        of_item = tt;
      } in
      recorded_unsigned known records refl

-- ---- fields that say the same

abbrev line_with : ℕ → Genesis → Kit → List (List ℕ) → LineModel
line_with spare genesis kit entries = record { genesis = genesis; kit = kit; entries = entries; spare = spare }

abbrev own_with : ℕ → List Pending → Option (List ℕ) → List (List Mark) → List Event → WorkspaceModel
own_with spare pending flight shown journal = record { pending = pending; flight = flight; shown = shown; journal = journal; spare = spare }

pub record SameLine (line line' : LineModel) : Type 0 where
  pub genesis : line'.genesis ≡ line.genesis
  pub kit : line'.kit ≡ line.kit
  pub entries : line'.entries ≡ line.entries

pub same_line : {line : LineModel} → SameLine line line
same_line = record { genesis = refl; kit = refl; entries = refl }

pub same_own : {own : WorkspaceModel} → SameOwn own own
same_own = record { pending = refl; flight = refl; shown = refl; journal = refl }

line_same : (line line' : LineModel) → SameLine line line' → line_with line'.spare line.genesis line.kit line.entries ≡ line'
line_same line line' same = rw (← same.genesis, ← same.kit, ← same.entries) refl

own_same : (own own' : WorkspaceModel) → SameOwn own own' → own_with own'.spare own.pending own.flight own.shown own.journal ≡ own'
own_same own own' same = rw (← same.pending, ← same.flight, ← same.shown, ← same.journal) refl

-- how much may be added without memory makes no difference
pub same_fields : {D : Type 0} {line : LineModel} {signer : SignerModel D} {ticket : Option ℕ} {own : WorkspaceModel} → ClientInvariant line signer ticket own
    → (line' : LineModel) (own' : WorkspaceModel) → SameLine line line' → SameOwn own own' → ClientInvariant line' signer ticket own'
same_fields {line = line} {signer = signer} {ticket = ticket} {own = own} known line' own' lines owns =
    let with_spare : ClientInvariant (line_with line'.spare line.genesis line.kit line.entries) signer ticket (own_with own'.spare own.pending own.flight own.shown own.journal) = record {
      stores = record { entries = known.stores.entries; journal = known.stores.journal };
      state = known.state;
      allowed = known.allowed;
      sound = known.sound;
      small = known.small;
      unspent = known.unspent;
      leaves = known.leaves;
    } in
    subst (λ (l : LineModel). ClientInvariant l signer ticket own') (line_same line line' lines)
    (subst (λ (w : WorkspaceModel). ClientInvariant (line_with line'.spare line.genesis line.kit line.entries) signer ticket w) (own_same own own' owns) with_spare)

-- nor to what contracts see
pub same_model : {D : Type 0} (line line' : LineModel) (signer : SignerModel D) (ticket : Option ℕ) (own own' : WorkspaceModel) → SameLine line line' → SameOwn own own'
    → client_model line' signer ticket own' ≡ client_model line signer ticket own
same_model line line' signer ticket own own' lines owns =
    ap (λ (l : LineModel). client_model l signer ticket own') (sym (line_same line line' lines))
    ∙ ap (λ (w : WorkspaceModel). client_model (line_with line'.spare line.genesis line.kit line.entries) signer ticket w) (sym (own_same own own' owns))

-- ---- what a call comes to

-- the model with one event more
abbrev pub more_with : {D : Type 0} → LineModel → SignerModel D → Option ℕ → WorkspaceModel → Logged → ClientModel D
more_with line signer ticket own event = with_events (client_model line signer ticket own) (event ∷ [])

abbrev model_with : {D : Type 0} → SignerModel D → Option ℕ → Opening → List Logged → ClientModel D
model_with signer ticket opening log = record { opening = opening; log = log; leaves = signer.leaves; ticket = ticket }

pub model_more : {D : Type 0} {line line' : LineModel} {signer : SignerModel D} {ticket : Option ℕ} {own own' : WorkspaceModel} {event : Logged} → Recorded line line' signer signer ticket own own' event
    → client_model line' signer ticket own' ≡ more_with line signer ticket own event
model_more {line = line} {line' = line'} {signer = signer} {ticket = ticket} {own' = own'} did =
    ap (λ (o : Opening). model_with signer ticket o (log_of line'.entries own'.journal)) did.opening_is ∙ ap (model_with signer ticket (opening_of line signer)) did.log_is

-- no event more
pub no_more : {X F D : Type 0} (result : Result X F) (event : Logged) (m m' : ClientModel D) → IsErr result → m' ≡ m → m' ≡ record m { log = m.log ++ added result event }
no_more (Ok x) event m m' err is = absurd cc
no_more (Err fault) event m m' err is = is ∙ ap (λ (log : List Logged). record m { log = log }) (sym (append_nil m.log))

-- fields that are the same lead to one entry on its way
pub same_flight : (coming : Coming) (ps qs : List Pending) (f g : Option (List ℕ)) → ps ≡ qs → f ≡ g → flight_after (effect coming ps) f ≡ flight_after (effect coming qs) g
same_flight coming ps qs f g one other = rw (one, other) refl

-- what the code settles on is what the definition does
pub coming_there : (line : LineModel) (own : WorkspaceModel) (p : PreparedModel) (bytes : List ℕ) (me : Device) (coming : Coming) → p.checked.bytes ≡ bytes → me ≡ line.kit.me
    → effect coming own.pending ≡ coming_at me own bytes p → effect coming own.pending ≡ coming_at line.kit.me own p.checked.bytes p
coming_there line own p bytes me coming is me_is settled = rw (is, ← me_is) settled

pub form_there : (own : WorkspaceModel) (p : PreparedModel) (bytes : List ℕ) (form : List Mark) → p.checked.bytes ≡ bytes → form ≡ form_at own bytes p → form ≡ form_at own p.checked.bytes p
form_there own p bytes form is settled = rw is settled

-- an entry that was prepared is taken
module _ {D : Type 0} {line : LineModel} {signer : SignerModel D} {ticket : Option ℕ} {own : WorkspaceModel} (known : ClientInvariant line signer ticket own) (line1 : LineModel) (p : PreparedModel) (lines : SameLine line line1) (prepared : IsPrepared line.genesis line.kit line.entries p) where
  pub prepared_there : IsPrepared line1.genesis line1.kit line1.entries p
  prepared_there = subst (λ (l : LineModel). IsPrepared l.genesis l.kit l.entries p) (line_same line line1 lines) prepared

  pub accepted_there : (line' : LineModel) (own' : WorkspaceModel) (by : ℕ) → length own.shown < MAX_EVENTS → Takes line1 line' own own' by p → Recorded line1 line' signer signer ticket own own' (Accept by p.checked.bytes)
  accepted_there line' own' by room takes = accept_recorded (same_fields known line1 own lines same_own) p prepared_there line' own' by room takes

  pub accept_model : (line' : LineModel) (own' : WorkspaceModel) (by : ℕ) → length own.shown < MAX_EVENTS → Takes line1 line' own own' by p
      → client_model line' signer ticket own' ≡ more_with line signer ticket own (Accept by p.checked.bytes)
  accept_model line' own' by room takes =
      let M : ClientModel D → ClientModel D = λ m. record m { log = m.log ++ Accept by p.checked.bytes ∷ [] } in
      model_more (accepted_there line' own' by room takes) ∙ ap M (same_model line line1 signer ticket own own lines same_own)
