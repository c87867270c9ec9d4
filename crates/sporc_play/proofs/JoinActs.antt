-- A joiner's client opens with keys of epochs, one of which meets the commitment of the genesis.
use Rattle.std.proofs.Common.{◌≡◌, ℕ, ◌+◌, Bool, true, false, cond, List, [], ◌∷◌, ◌++◌, length, map, reverse, refl, sym, ap, ◌∙◌, subst, not, Option, None, Some, Result, Ok, Err, IfOk, IfSome}
use Rattle.sporc_play.proofs.Common.{all_take, Contains, take_while, nat_cmp_total, get, insert, get-empty, get-insert, AllByRecursion, nat_cmp, eq_by_cmp, bytes_eq, map-append, reverse-append}
use Rattle.sporc_play.proofs.Common.{IsBytes, first_of, unless, mask_of, commitment_of, Genesis, Wrap, IsWrap, HintFault, Keys, previous_stream, stream_of, CommittedChange, changes, LineOpenFault}
use Rattle.sporc_play.proofs.Common.{Meets, open_checks, PlainClient, Setup, AreEpochKeys, Device, Join, Scene, entries_at, entry_at, joining_by, joining_of, joining_with, joins, with_entry, all_append}
use Rattle.sporc_play.proofs.Common.{length-mask_from, wrap_opened, IsTypedCommitted, changes_typed, found_typed, IfSome_then}
use Rattle.std.proofs.lemmas.Slice.Eq.{bytes_eq-Decides}
use Rattle.sporc_epoch.specs.declared.fault.HintFault.TheVariants.{WrongKey}
use Rattle.sporc_epoch.specs.Hints.{hints_at, hints_of, hints_under, is_committed, is_of, joining, joins as joins_by, keys_back, ring_of, start_by, with_key, with_keys}
use Rattle.sporc_line.specs.declared.fault.LineOpenFault.TheVariants as line_faults
use Rattle.sporc_script.specs.declared.command.Command.TheVariants as commands
use Rattle.sporc_play.proofs.Acts.{made_has, no_act, one_move}
use Rattle.sporc_play.proofs.ByteClients.{AreByteKeys, AreBytes, bytes_mask, is_bytes}
use Rattle.sporc_play.proofs.HistoryKeys.{IsByteCommitted, changes_bytes, opened_has}
use Rattle.sporc_play.proofs.Runs.{MayAct, MayBe, no_keys}
use Rattle.sporc_play.proofs.Places.{all_both, all_each}

-- ---- the entries that are handed over

given_are : (made : List (List ℕ)) (numbers : List ℕ) → AllByRecursion AreBytes made → IfOk (entries_at made numbers) (AllByRecursion AreBytes)
given_are made [] all = tt
given_are made (n ∷ ns) all = go (entry_at made n) refl (entries_at made ns) (given_are made ns all)
  where
    go : (o : Option (List ℕ)) → entry_at made n ≡ o → (r : Result (List (List ℕ)) ℕ) → IfOk r (AllByRecursion AreBytes) → IfOk (with_entry n o r) (AllByRecursion AreBytes)
    go None at r rest = tt
    go (Some bytes) at (Ok entries) rest = (made_has AreBytes made n bytes all at, rest)
    go (Some bytes) at (Err missing) rest = tt

-- ---- keys

record IsKey (key : List ℕ) : Type 0 where
  bytes : AreBytes key
  size : length key ≡ 32

masked : (key : List ℕ) (stream : ℕ) (sealed : List ℕ) → IsKey sealed → IsKey (mask_of key stream sealed)
masked key stream sealed is = record { bytes = bytes_mask key stream sealed is.bytes; size = length-mask_from key stream 0 sealed ∙ is.size }

abbrev AreKeys : List (ℕ × List ℕ) → Type 0
AreKeys keys = AllByRecursion (λ (e : ℕ × List ℕ). IsKey e.1) keys

-- ---- changes

record IsSound (c : CommittedChange) : Type 0 where
  bytes : IsByteCommitted c
  typed : IsTypedCommitted c

reversed : (xs : List CommittedChange) → AllByRecursion IsSound xs → AllByRecursion IsSound (reverse xs)
reversed [] all = tt
reversed (x ∷ xs) all = subst (AllByRecursion IsSound) (sym (reverse-append (x ∷ []) xs)) (all_append IsSound (reverse xs) (x ∷ []) (reversed xs all.1) (all.0, tt))

reverse_map : {X Y : Type 0} (f : X → Y) (xs : List X) → reverse (map f xs) ≡ map f (reverse xs)
reverse_map f [] = refl
reverse_map {Y = Y} f (x ∷ xs) =
    reverse-append (f x ∷ []) (map f xs) ∙ ap (λ (ys : List Y). ys ++ f x ∷ []) (reverse_map f xs) ∙ sym (map-append f (reverse xs) (x ∷ [])) ∙ ap (map f) (sym (reverse-append (x ∷ []) xs))

-- ---- keys back

back_are : (epoch : ℕ) (key : List ℕ) (cs : List CommittedChange) → IsKey key → AllByRecursion IsSound cs → IfOk (keys_back epoch key (map start_by cs)) AreKeys
unfolding keys_back
back_are epoch key [] is all = (is, tt)
back_are epoch key (c ∷ cs) is all =
    let old = mask_of key (previous_stream epoch) c.body.previous in
    let old_is : IsKey old = masked key (previous_stream epoch) c.body.previous (record { bytes = all.0.bytes.previous; size = all.0.typed.previous }) in
    go (is_of (start_by c) epoch) (is_committed (start_by c) epoch key) (keys_back c.header.epoch old (map start_by cs)) (back_are c.header.epoch old cs old_is all.1)
    (keys_back epoch key (map start_by cs)) (back_are epoch key cs is all.1)
  where
    go : (here met : Bool) → (a : Result (List (ℕ × List ℕ)) HintFault) → IfOk a AreKeys → (b : Result (List (ℕ × List ℕ)) HintFault) → IfOk b AreKeys
        → IfOk (cond here (cond met (with_key epoch key a) (Err (WrongKey epoch))) b) AreKeys
    go true true (Ok keys) first b rest = (is, first)
    go true true (Err fault) first b rest = tt
    go true false a first b rest = tt
    go false met a first b rest = rest

abbrev HoldsKeys : Keys → Type 0
HoldsKeys ring = (epoch : ℕ) → IfSome (get ring epoch) IsKey

with_are : (ring : Keys) (keys : List (ℕ × List ℕ)) → HoldsKeys ring → AreKeys keys → HoldsKeys (with_keys ring keys)
with_are ring [] holds all = holds
with_are ring ((e, k) ∷ keys) holds all = with_are (insert ring e k) keys (λ epoch. subst (λ (o : Option (List ℕ)). IfSome o IsKey) (sym (get-insert nat_cmp_total ring e k epoch)) (go epoch (eq_by_cmp nat_cmp epoch e))) all.1
  where
    go : (epoch : ℕ) (b : Bool) → IfSome (cond b (Some k) (get ring epoch)) IsKey
    go epoch true = all.0
    go epoch false = holds epoch

none_held : HoldsKeys no_keys
none_held epoch = subst (λ (o : Option (List ℕ)). IfSome o IsKey) (sym (get-empty nat_cmp epoch)) tt

ring_are : (r : Result (List (ℕ × List ℕ)) HintFault) → IfOk r AreKeys → IfOk (ring_of no_keys r) HoldsKeys
ring_are (Ok keys) all = with_are no_keys keys none_held all
ring_are (Err fault) all = tt

-- ---- hints

opened_is : (c : CommittedChange) (author stream me : ℕ) (pairs : Keys) → IsSound c → IfSome (wrap_opened c.body author stream me pairs) IsKey
opened_is c author stream me pairs is = opened_has IsKey masked c.body author stream me pairs
    (all_both (λ (w : Wrap). AreBytes w.sealed) IsWrap (λ (w : Wrap). IsKey w.sealed) c.body.wraps (λ w bytes is. record { bytes = bytes; size = is.sealed }) is.bytes.wraps is.typed.wraps)

under_is : (c : CommittedChange) (cs : List CommittedChange) (o : Option (List ℕ)) → IsSound c → AllByRecursion IsSound cs → IfSome o IsKey → IfOk (hints_under c (map start_by cs) o) HoldsKeys
under_is c cs None is all key = tt
under_is c cs (Some k) is all key = ring_are (keys_back (c.header.epoch + 1) k (map start_by (c ∷ cs))) (back_are (c.header.epoch + 1) k (c ∷ cs) key (is, all))

at_is : (me : ℕ) (pairs : Keys) (cs : List CommittedChange) (o : Option CommittedChange) → AllByRecursion IsSound cs → IfSome o IsSound → IfOk (hints_at me pairs (map start_by cs) o) HoldsKeys
at_is me pairs cs None all is = tt
at_is me pairs cs (Some c) all is = under_is c cs (wrap_opened c.body c.header.author (stream_of c.header) me pairs) is all (opened_is c c.header.author (stream_of c.header) me pairs is)

hints_are : (entries : List (List ℕ)) (me : ℕ) (pairs : Keys) → AllByRecursion AreBytes entries → IfOk (hints_of entries me pairs) HoldsKeys
unfolding hints_of
hints_are entries me pairs all =
    let typed = all_each AreBytes IsBytes entries is_bytes all in
    let cs = changes entries in
    let sound : AllByRecursion IsSound cs =
    all_both IsByteCommitted IsTypedCommitted IsSound cs (λ c bytes typed. record { bytes = bytes; typed = typed }) (changes_bytes entries typed) (changes_typed entries typed) in
    let before = take_while (λ (c : CommittedChange). not (joins_by me c)) cs in
    subst (λ starts. IfOk (hints_at me pairs starts (joining me cs)) HoldsKeys) (sym (reverse_map start_by before))
    (at_is me pairs (reverse before) (joining me cs) (reversed before (all_take IsSound _ cs sound)) (found_typed IsSound (joins_by me) cs sound))

-- ---- the opening

meets : (g : Genesis) (key : Option (List ℕ)) → first_of (open_checks g key) ≡ None → Meets g 0 key g.commitment
meets g None none = absurd cc
meets g (Some key) none = go (bytes_eq (commitment_of g.document 0 key) g.commitment) refl none
  where
    go : (b : Bool) → bytes_eq (commitment_of g.document 0 key) g.commitment ≡ b → first_of (unless true line_faults.NoKey ∷ unless b line_faults.WrongKey ∷ []) ≡ None → commitment_of g.document 0 key ≡ g.commitment
    go true is none = (bytes_eq-Decides (commitment_of g.document 0 key) g.commitment).0 is
    go false is none = absurd cc

sizes : (ring : Keys) → HoldsKeys ring → AreEpochKeys ring
sizes ring holds epoch = IfSome_then (get ring epoch) (holds epoch) (λ key is. is.size)

byte_keys : (ring : Keys) → HoldsKeys ring → AreByteKeys ring
byte_keys ring holds epoch = IfSome_then (get ring epoch) (holds epoch) (λ key is. is.bytes)

with_acts : (s : Setup) (scene : Scene) (who : Device) (ring : Keys) (fault : Option LineOpenFault) → Contains s.devices who → HoldsKeys ring → first_of (open_checks s.genesis (get ring 0)) ≡ fault → MayAct s scene (joins who (joining_with ring fault))
with_acts s scene who ring None member holds none = one_move s scene _ (member, meets s.genesis (get ring 0) none) (sizes ring holds) (byte_keys ring holds)
with_acts s scene who ring (Some fault) member holds some = no_act s scene

by_acts : (s : Setup) (scene : Scene) (who : Device) (hints : Result Keys HintFault) → Contains s.devices who → IfOk hints HoldsKeys → MayAct s scene (joins who (joining_by s hints))
by_acts s scene who (Ok ring) member holds = with_acts s scene who ring (first_of (open_checks s.genesis (get ring 0))) member holds refl
by_acts s scene who (Err fault) member holds = no_act s scene

pub join_acts : (s : Setup) (j : Join) → Contains s.devices j.device → MayBe s (λ scene. commands.Join j)
join_acts s j member moves scene come = go (scene.world.clients j.device) (entries_at scene.made j.entries) (given_are scene.made j.entries come.made)
  where
    go : (o : Option PlainClient) (r : Result (List (List ℕ)) ℕ) → IfOk r (AllByRecursion AreBytes) → MayAct s scene (joins j.device (joining_of s j.device r o))
    go (Some c) r all = no_act s scene
    go None (Err missing) all = no_act s scene
    go None (Ok entries) all = let who = j.device in by_acts s scene who (hints_of entries who.member (s.pairs who)) member (hints_are entries who.member (s.pairs who) all)
