-- No one forges in a run in which a server hands out only what clients of the run signed.
use Rattle.std.proofs.Common.{◌≡◌, ℕ, zero, suc, ◌≤◌, Bool, true, false, cond, List, [], ◌∷◌, ◌++◌, length, map, take, refl, ap, sym, ◌∙◌, subst, arith, Option, None, Some, IfSome, Ok}
use Rattle.sporc_client.proofs.Common.{Contains, find, fold, is_some, not, option_map, ⊤, ◌==◌, AllByRecursion, length-take, length_push, same_from_push, Mark, earlier, MemberChange, Add, Remove}
use Rattle.sporc_client.proofs.Common.{AddDevice, DropDevice, Device, device_place, first_device, same_device, Roster, after_change, device_by, founded, same_one, Entry}
use Rattle.sporc_client.proofs.Common.{author_device, entry_of, change_in_read, CommittedChange, change_in, changes, roster_of, Pending, Logged, PlainClient, opened, IsReached, rebased, Setup, World}
use Rattle.sporc_client.proofs.Common.{Signing, Move, Open, Happen, Give, Restart, IsRun, May, after, signings, start, Genuine, IsOfFirst, accepted, change_comes, edit_comes, form_coming, is_flight}
use Rattle.sporc_client.proofs.Common.{log_of_entries, own_comes, replay_from, restated, step, IsTypedMove, IsTypedRun, IsWellFormed, good_take, all_append}
use Rattle.sporc_member.specs.declared.device.KeyedDevice.{KeyedDevice}
use Rattle.sporc_client.specs.declared.pending.Pending.TheVariants as items
use Rattle.sporc_client.specs.Closed.{AddsItsKey, AreClosed, HasItsKey, IsClosed, IsClosedMove, IsItsKey, IsSigned}
use Rattle.sporc_client.specs.Log as events
use Rattle.sporc_client.specs.Run.{key_of_device}
use Rattle.sporc_client.specs.Step.{replay}
use Rattle.sporc_client.proofs.Reached.{restarted, AllClients, AllReached, Keeps, KeepsSigned, after_keeps, none_signed, reached_after, reached_start, signed_after, AddGenuine, IsGenuine}
use Rattle.sporc_client.proofs.AcceptedHistories.{accepts_all}
use Rattle.sporc_client.proofs.Events.{accepted_as}
use Rattle.sporc_client.proofs.AllItems.{all_filter, all_filter_map, all_inserted, all_map, all_rest, all_take}
use Rattle.sporc_client.proofs.SignedEntries.{AllSignings, IsSigning, signings_after}
use Rattle.sporc_client.proofs.SoundRuns.{made_in_flight, AllSound, sound_after}
use Rattle.sporc_client.proofs.Submitting.{made_by_submission}

-- ---- pending items and histories whose changes add devices under their own keys

abbrev OwnItem : Setup → Pending → Type 0
OwnItem s (items.Edit marks) = ⊤
OwnItem s (items.Change change) = AddsItsKey s change

abbrev OwnItems : Setup → List Pending → Type 0
OwnItems s pending = AllByRecursion (OwnItem s) pending

abbrev OwnCommitted : Setup → CommittedChange → Type 0
OwnCommitted s c = AddsItsKey s c.body.change

abbrev OwnEntry : Setup → List ℕ → Type 0
OwnEntry s bytes = IfSome (change_in bytes) (OwnCommitted s)

own_rebased : (s : Setup) (form : List Mark) (pending : List Pending) → OwnItems s pending → OwnItems s (rebased form pending)
own_rebased s form [] all = tt
own_rebased s form (items.Edit marks ∷ pending) all = (tt, own_rebased s (earlier form marks) pending all.1)
own_rebased s form (items.Change change ∷ pending) all = (all.0, own_rebased s form pending all.1)

-- ---- their members have their own keys

-- a live device has its own key, if it is one of the run
abbrev OwnDevice : Setup → KeyedDevice → Type 0
OwnDevice s d = IsItsKey s d.device d.key

own_change : (s : Setup) (roster : Roster) (change : MemberChange) → AddsItsKey s change → AllByRecursion (OwnDevice s) roster.devices → AllByRecursion (OwnDevice s) (after_change roster change).devices
own_change s roster (Add member role key) own all =
    let live : KeyedDevice = record { device = first_device member; key = key } in
    all_inserted (OwnDevice s) live roster.devices (device_place live.device roster.devices) own all
own_change s roster (Remove member) own all = all_filter (OwnDevice s) (λ d. not (d.device.member == member)) roster.devices all
own_change s roster (AddDevice member device key) own all =
    let live : KeyedDevice = record { device = record { member = member; number = device }; key = key } in
    all_inserted (OwnDevice s) live roster.devices (device_place live.device roster.devices) own all
own_change s roster (DropDevice member device) own all = all_filter (OwnDevice s) (λ d. not (same_device d.device (record { member = member; number = device }))) roster.devices all
own_change s roster change own all = all

own_devices : (s : Setup) (roster : Roster) (cs : List CommittedChange) → AllByRecursion (OwnCommitted s) cs → AllByRecursion (OwnDevice s) roster.devices
    → AllByRecursion (OwnDevice s) (fold after_change roster (map (λ (c : CommittedChange). c.body.change) cs)).devices
own_devices s roster [] own all = all
own_devices s roster (c ∷ cs) own all = own_devices s (after_change roster c.body.change) cs own.1 (own_change s roster c.body.change own.0 all)

own_roster : (s : Setup) (entries : List (List ℕ)) → AllByRecursion (HasItsKey s) s.genesis.founders → AllByRecursion (OwnEntry s) entries → AllByRecursion (OwnDevice s) (roster_of s.genesis entries).devices
own_roster s entries founders own = own_devices s (founded s.genesis.founders) (changes entries) (all_filter_map (OwnEntry s) (OwnCommitted s) change_in (λ bytes own. own) entries own)
    (all_map (HasItsKey s) (OwnDevice s) device_by (λ f own. own) s.genesis.founders founders)

own_found : (s : Setup) (device : Device) (devices : List KeyedDevice) (key : List ℕ) → AllByRecursion (OwnDevice s) devices
    → option_map (λ (d : KeyedDevice). d.key) (find (λ (d : KeyedDevice). same_device d.device device) devices) ≡ Some key → Contains s.devices device → key ≡ key_of_device s device
own_found s device [] key all found among = absurd cc
own_found s device (d ∷ devices) key all found among = go (same_device d.device device) refl found (own_found s device devices key all.1)
  where
    go : (here : Bool) → same_device d.device device ≡ here → option_map (λ (d : KeyedDevice). d.key) (cond here (Some d) (find (λ (d : KeyedDevice). same_device d.device device) devices)) ≡ Some key
        → (option_map (λ (d : KeyedDevice). d.key) (find (λ (d : KeyedDevice). same_device d.device device) devices) ≡ Some key → Contains s.devices device → key ≡ key_of_device s device) → key ≡ key_of_device s device
    go true is found rest =
        let same : d.key ≡ key = cc in
        let its : d.device ≡ device = same_one d.device device is in
        sym same ∙ all.0 (subst (Contains s.devices) (sym its) among) ∙ ap (key_of_device s) its
    go false is found rest = rest found among

-- ---- each move keeps clients and signed entries so

record IsOwn (s : Setup) (c : PlainClient) : Type 0 where
  items : OwnItems s c.pending
  entries : AllByRecursion (OwnEntry s) c.entries

record AllOwn (s : Setup) (w : World) : Type 0 where
  clients : (who : Device) (c : PlainClient) → w.clients who ≡ Some c → IsOwn s c
  signed : (x : Signing) → Contains w.signed x → OwnEntry s x.entry

accept_own : (s : Setup) (c : PlainClient) (bytes : List ℕ) → IsOwn s c → OwnEntry s bytes → IsOwn s (accepted c bytes)
accept_own s c bytes own one = record {
  items = go (is_flight c bytes) (is_some (change_in bytes));
  entries = subst (AllByRecursion (OwnEntry s)) (sym (accepted_as c bytes).entries) (all_append (OwnEntry s) c.entries (bytes ∷ []) own.entries (one, tt));
}
  where
    go : (mine change : Bool) → OwnItems s (cond mine (own_comes c bytes) (cond change (change_comes c bytes) (edit_comes c bytes))).pending
    go true change = all_rest (OwnItem s) c.pending own.items
    go false true = own.items
    go false false = own_rebased s (form_coming c bytes) c.pending own.items

accepts_own : (s : Setup) (c : PlainClient) (entries : List (List ℕ)) → IsOwn s c → AllByRecursion (OwnEntry s) entries → IsOwn s (replay_from c (log_of_entries entries))
accepts_own s c [] own all = own
accepts_own s c (bytes ∷ entries) own all = accepts_own s (accepted c bytes) entries (accept_own s c bytes own all.0) all.1

restarted_own : (s : Setup) (c : PlainClient) (k : ℕ) → IsOwn s c → IsOwn s (restarted c k)
unfolding replay
restarted_own s c k own = accepts_own s (opened c.opening) (take k c.entries) (record { items = tt; entries = tt }) (all_take (OwnEntry s) k c.entries own.entries)

signed_own : (s : Setup) (w : World) (bytes : List ℕ) → AllOwn s w → IsSigned w bytes → OwnEntry s bytes
signed_own s w bytes all signed = subst (OwnEntry s) signed.2 (all.signed signed.0 signed.1)

step_own : (s : Setup) (w : World) (who : Device) (c : PlainClient) (event : Logged) → AllOwn s w → IsClosedMove s w (Happen who event) → IsOwn s c → IsOwn s (step c event)
step_own s w who c (events.Edit by seen marks) all closed own = record { items = all_append (OwnItem s) c.pending (items.Edit (restated c seen marks) ∷ []) own.items (tt, tt); entries = own.entries }
step_own s w who c (events.Change by change) all closed own = record { items = all_append (OwnItem s) c.pending (items.Change change ∷ []) own.items (closed, tt); entries = own.entries }
step_own s w who c (events.Submit by bytes) all closed own = record { items = own.items; entries = own.entries }
step_own s w who c (events.Dropped by fault) all closed own = record { items = all_rest (OwnItem s) c.pending own.items; entries = own.entries }
step_own s w who c (events.Accept by bytes) all closed own = accept_own s c bytes own (signed_own s w bytes all closed)
step_own s w who c (events.Discard by) all closed own = record { items = tt; entries = own.entries }

-- the entry of a pending item
entry_own : (s : Setup) (c : PlainClient) (bytes : List ℕ) (e : Entry) (pending : List Pending) → entry_of bytes ≡ Ok e → IsOfFirst c e pending → OwnItems s pending → OwnEntry s bytes
entry_own s c bytes e [] reads first own = absurd first
entry_own s c bytes e (items.Edit marks ∷ pending) reads first own = subst (λ (o : Option CommittedChange). IfSome o (OwnCommitted s)) (sym (change_in_read bytes e None reads (sym first.no_change))) tt
entry_own s c bytes e (items.Change change ∷ pending) reads first own =
    subst (λ (o : Option CommittedChange). IfSome o (OwnCommitted s)) (sym (change_in_read bytes e (Some first.body) reads (sym first.reads)))
    (subst (AddsItsKey s) (sym first.same) own.0)

own_after : (s : Setup) (w : World) (move : Move) → IsWellFormed s → AllReached s w → AllSound w → IsTypedMove move → May s w move → IsClosedMove s w move → AllOwn s w → AllOwn s (after s w move)
own_after s w move well reached sound typed may closed all = record {
  clients = after_keeps (λ who c. IsOwn s c) s w move all.clients may (keeps move closed);
  signed = signed_after (λ x. OwnEntry s x.entry) s w move all.signed may (signs move typed);
}
  where
    keeps : (move : Move) → IsClosedMove s w move → Keeps (λ who c. IsOwn s c) s w move
    keeps (Open who ring) closed = record { items = tt; entries = tt }
    keeps (Happen who event) closed = λ c is allowed there. step_own s w who c event all closed (all.clients who c is)
    keeps (Give who position bytes) closed = λ c is allowed there. accept_own s c bytes (all.clients who c is) (signed_own s w bytes all closed)
    keeps (Restart who k) closed = λ c is. restarted_own s c k (all.clients who c is)

    signs : (move : Move) → IsTypedMove move → KeepsSigned (λ x. OwnEntry s x.entry) w move
    signs (Happen who (events.Submit by bytes)) typed = λ c is allowed.
        let sent = made_in_flight s who c bytes well (reached who c is) (sound who c is) typed (made_by_submission c by bytes allowed) in
        entry_own s c bytes sent.entry c.pending sent.reads sent.first (all.clients who c is).items
    signs move typed = tt

-- ---- what a move adds to a history was signed

not_more : (xs ys : List (List ℕ)) (bytes : List ℕ) → length xs ≤ length ys → xs ≡ ys ++ bytes ∷ [] → ⊥
not_more xs ys bytes low more = omega (arith, low, length_push ys bytes, ap length more)

-- a client that is as it was
no_more : (c d : PlainClient) (bytes : List ℕ) (o : Option PlainClient) → o ≡ Some c → o ≡ Some d → d.entries ≡ c.entries ++ bytes ∷ [] → ⊥
no_more c d bytes o was is more =
    let same : d ≡ c = cc in
    not_more d.entries c.entries bytes (subst (λ (x : PlainClient). length x.entries ≤ length c.entries) (sym same) (omega arith)) more

accepts_signed : (s : Setup) (w : World) (b : PlainClient) (entry bytes : List ℕ) → IsSigned w entry → (accepted b entry).entries ≡ b.entries ++ bytes ∷ [] → IsSigned w bytes
accepts_signed s w b entry bytes signed more =
    subst (IsSigned w) (same_from_push b.entries b.entries entry bytes (sym (accepted_as b entry).entries ∙ more)).1 signed

event_signed : (s : Setup) (w : World) (i : Device) (b : PlainClient) (event : Logged) (bytes : List ℕ) → IsClosedMove s w (Happen i event) → (step b event).entries ≡ b.entries ++ bytes ∷ [] → IsSigned w bytes
event_signed s w i b (events.Accept by entry) bytes closed more = accepts_signed s w b entry bytes closed more
event_signed s w i b event bytes closed more = absurd (not_more b.entries b.entries bytes (omega arith) more)

restarted_less : (s : Setup) (who : Device) (b : PlainClient) (k : ℕ) (bytes : List ℕ) → IsReached s who b → (restarted b k).entries ≡ b.entries ++ bytes ∷ [] → ⊥
restarted_less s who b k bytes reached more =
    let good = good_take b.opening.genesis b.opening.kit b.entries k reached.good in
    not_more (take k b.entries) b.entries bytes (omega (arith, length-take k b.entries)) (sym (accepts_all b.opening (take k b.entries) good).entries_are ∙ more)

-- if a device's client has one entry more than it had, a client of the run signed that
abbrev AddsSigned : World → Device → PlainClient → Type 0
AddsSigned w who d = (c : PlainClient) (bytes : List ℕ) → w.clients who ≡ Some c → d.entries ≡ c.entries ++ bytes ∷ [] → IsSigned w bytes

adds_to : (w : World) (who : Device) (b d : PlainClient) → w.clients who ≡ Some b → ((bytes : List ℕ) → d.entries ≡ b.entries ++ bytes ∷ [] → IsSigned w bytes) → AddsSigned w who d
adds_to w who b d is adds c bytes was more =
    let same : c ≡ b = cc in
    adds bytes (subst (λ (x : PlainClient). d.entries ≡ x.entries ++ bytes ∷ []) same more)

adds_signed : (s : Setup) (w : World) (move : Move) → AllReached s w → May s w move → IsClosedMove s w move → AllClients (AddsSigned w) (after s w move)
adds_signed s w move reached may closed = after_keeps (AddsSigned w) s w move (λ who d at c bytes was more. absurd (no_more c d bytes (w.clients who) was at more)) may (keeps move closed)
  where
    keeps : (move : Move) → IsClosedMove s w move → Keeps (AddsSigned w) s w move
    keeps (Open who ring) closed = λ c bytes was more. absurd (not_more [] c.entries bytes (omega arith) more)
    keeps (Happen who event) closed = λ b is allowed there. adds_to w who b (step b event) is (λ bytes more. event_signed s w who b event bytes closed more)
    keeps (Give who position entry) closed = λ b is allowed there. adds_to w who b (accepted b entry) is (λ bytes more. accepts_signed s w b entry bytes closed more)
    keeps (Restart who k) closed = λ b is. adds_to w who b (restarted b k) is (λ bytes more. absurd (restarted_less s who b k bytes (reached who b is) more))

-- ---- no one forges

is_genuine : (s : Setup) (w : World) (who : Device) (c : PlainClient) (bytes : List ℕ) → AllByRecursion (HasItsKey s) s.genesis.founders → AllSignings s w → AllOwn s w → w.clients who ≡ Some c → IsSigned w bytes
    → IsGenuine s w c.entries bytes
is_genuine s w who c bytes founders signings all at signed owner e is under =
    let told : IsSigning s signed.0 = signings signed.0 signed.1 in
    let read = told.reads in
    let same_bytes = signed.2 in
    let entry : told.entry ≡ e = cc in
    let device = author_device e.header in
    let author : device ≡ signed.0.who = ap (λ (e : Entry). author_device e.header) (sym entry) ∙ told.author in
    let its : key_of_device s owner ≡ key_of_device s device =
    own_found s device (roster_of s.genesis c.entries).devices (key_of_device s owner) (own_roster s c.entries founders (all.clients who c at).entries) under.key
    (subst (Contains s.devices) (sym author) told.signer.is_device) in
    (signed.0.who, record { signing = signed.0; signed = signed.1; by = refl; entry = same_bytes; key = sym (its ∙ ap (key_of_device s) author) })

genuine_from : (s : Setup) (w : World) (moves : List Move) → IsWellFormed s → AllByRecursion IsTypedMove moves → AllByRecursion (HasItsKey s) s.genesis.founders → AllReached s w → AllSound w → AllSignings s w → AllOwn s w
    → IsRun s w moves → AreClosed s w moves → AddGenuine s w moves
genuine_from s w [] well typed founders reached sound signings all run closed zero who c d bytes was is more = absurd (no_more c d bytes (w.clients who) was is more)
genuine_from s w [] well typed founders reached sound signings all run closed (suc n) who c d bytes was is more = absurd (no_more c d bytes (w.clients who) was is more)
genuine_from s w (move ∷ moves) well typed founders reached sound signings all run closed zero who c d bytes was is more =
    is_genuine s w who c bytes founders signings all was (adds_signed s w move reached run.0 closed.0 who d is c bytes was more)
genuine_from s w (move ∷ moves) well typed founders reached sound signings all run closed (suc n) who c d bytes was is more =
    genuine_from s (after s w move) moves well typed.1 founders
    (reached_after s w move reached run.0)
    (sound_after s w move well reached sound typed.0 run.0)
    (signings_after s w move well reached signings run.0)
    (own_after s w move well reached sound typed.0 run.0 closed.0 all)
    run.1 closed.1 n who c d bytes was is more

pub closed_runs_are_genuine : (s : Setup) (moves : List Move) → IsTypedRun s moves → IsClosed s moves → Genuine s moves
closed_runs_are_genuine s moves run closed =
    genuine_from s start moves run.setup run.typed closed.founders (reached_start s) (λ who c at. absurd cc) (none_signed (IsSigning s))
    (record { clients = λ who c at. absurd cc; signed = none_signed (λ x. OwnEntry s x.entry) }) run.run closed.closed
