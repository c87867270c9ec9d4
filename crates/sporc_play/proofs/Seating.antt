-- Seats, rogues and whole states after what a command did.
use Rattle.std.proofs.Common.{◌≡◌, ◌≢◌, ℕ, List, [], ◌++◌, map, sym, ap, ◌∙◌, subst, Option, None, Some, option_map, refl, append-nil, Bool, cond, ◌∷◌, append_assoc, arith}
use Rattle.sporc_play.proofs.Common.{AllByRecursion, SignerModel, MemoryDiskModel, ClientModel, state_of, Logged, PlainClient, Setup, Move, after_all, replay, Device, PlayLine, Rogue, Seat, PlayState}
use Rattle.sporc_play.proofs.Common.{setup_of, logs_after, Scene, if_open, AreDrawn, IsReady, IsRogueAt, IsSeatAt, rogue_devices, seated, HasSameMembers, Holds, IsCastOf, IsRogueOf, IsSeatOf}
use Rattle.sporc_play.proofs.Common.{IsSignerOf, StandsFor, Effect, nothing, ⊤, same_device, one_same, Keys, opened, World, Open, Happen, Give, Restart, given, opening_of, replay_from, step}
use Rattle.sporc_play.proofs.Common.{refusal_of, gives_to, happens_to, restarted, put_other, put_same, log_after, mover_of, set}
use Rattle.sporc_play.proofs.Places.{AreDistinct, IsNotIn, are_distinct, all_others, all_set, apart_back, apart_front, not_across, not_behind, numbers_set, all_each, same_or_not}
use Rattle.sporc_client.specs.Run.{after}
use Rattle.sporc_client.proofs.Reached.{restarts}

-- ---- what the moves of one client change

-- moves that are all of one device's client
abbrev pub AreOf : Device → List Move → Type 0
AreOf who [] = ⊤
AreOf who (move ∷ moves) = (mover_of move ≡ who) × AreOf who moves

pub happens_of : (who : Device) (events : List Logged) → AreOf who (map (Happen who) events)
happens_of who [] = tt
happens_of who (e ∷ es) = (refl, happens_of who es)

-- ---- other clients

pub client_other : (s : Setup) (w : World) (move : Move) (other : Device) → other ≢ mover_of move → (after s w move).clients other ≡ w.clients other
client_other s w move other differs = grind (arith, put_other)

pub clients_other : (s : Setup) (w : World) (moves : List Move) (who other : Device) → AreOf who moves → other ≢ who → (after_all s w moves).clients other ≡ w.clients other
clients_other s w [] who other are differs = refl
clients_other s w (move ∷ moves) who other are differs =
    clients_other s (after s w move) moves who other are.1 differs ∙ client_other s w move other (λ same. differs (same ∙ are.0))

-- the logs with that of a move's client after it
abbrev logs_with : World → (Device → List Logged) → Move → Device → List Logged
logs_with w logs move who = cond (same_device who (mover_of move)) (log_after w (logs who) move) (logs who)

log_other : (w : World) (logs : Device → List Logged) (move : Move) (other : Device) → other ≢ mover_of move → logs_with w logs move other ≡ logs other
log_other w logs move other differs = ap (λ (same : Bool). cond same (log_after w (logs other) move) (logs other)) (same_or_not other (mover_of move) differs)

log_own : (w : World) (logs : Device → List Logged) (move : Move) → logs_with w logs move (mover_of move) ≡ log_after w (logs (mover_of move)) move
log_own w logs move = ap (λ (same : Bool). cond same (log_after w (logs (mover_of move)) move) (logs (mover_of move))) (one_same (mover_of move))

pub logs_other : (s : Setup) (w : World) (logs : Device → List Logged) (moves : List Move) (who other : Device) → AreOf who moves → other ≢ who → logs_after s w logs moves other ≡ logs other
logs_other s w logs [] who other are differs = refl
logs_other s w logs (move ∷ moves) who other are differs =
    logs_other s (after s w move) (logs_with w logs move) moves who other are.1 differs ∙ log_other w logs move other (λ same. differs (same ∙ are.0))

-- ---- the client itself

there : (w : World) (who : Device) (c : PlainClient) (event : Logged) → w.clients who ≡ Some c → (happens_to w who event (w.clients who)).clients who ≡ Some (step c event)
there w who c event at = ap (λ (o : Option PlainClient). (happens_to w who event o).clients who) at ∙ put_same w.clients who (step c event)

pub client_happens : (s : Setup) (w : World) (who : Device) (c : PlainClient) (events : List Logged) → w.clients who ≡ Some c
    → (after_all s w (map (Happen who) events)).clients who ≡ Some (replay_from c events)
client_happens s w who c [] at = at
client_happens s w who c (e ∷ es) at = client_happens s (happens_to w who e (w.clients who)) who (step c e) es (there w who c e at)

pub log_happens : (s : Setup) (w : World) (logs : Device → List Logged) (who : Device) (events : List Logged) → logs_after s w logs (map (Happen who) events) who ≡ logs who ++ events
log_happens s w logs who [] = sym (append-nil (logs who))
log_happens s w logs who (e ∷ es) =
    log_happens s (after s w (Happen who e)) (logs_with w logs (Happen who e)) who es
    ∙ ap (λ (l : List Logged). l ++ es) (log_own w logs (Happen who e)) ∙ append_assoc (logs who) (e ∷ []) es

pub client_given : (s : Setup) (w : World) (who : Device) (position : ℕ) (c : PlainClient) (bytes : List ℕ) → w.clients who ≡ Some c
    → (after_all s w (Give who position bytes ∷ [])).clients who ≡ Some (given c bytes (refusal_of c position bytes))
client_given s w who position c bytes at = ap (λ (o : Option PlainClient). (gives_to w who position bytes o).clients who) at ∙ put_same w.clients who (given c bytes (refusal_of c position bytes))

pub client_restarted : (s : Setup) (w : World) (who : Device) (k : ℕ) (c : PlainClient) → w.clients who ≡ Some c → (after_all s w (Restart who k ∷ [])).clients who ≡ Some (restarted c k)
client_restarted s w who k c at = ap (λ (o : Option PlainClient). (restarts w who k o).clients who) at ∙ put_same w.clients who (restarted c k)

pub client_opened : (s : Setup) (w : World) (who : Device) (ring : Keys) → (after_all s w (Open who ring ∷ [])).clients who ≡ Some (opened (opening_of s who ring))
client_opened s w who ring = put_same w.clients who (opened (opening_of s who ring))

pub log_moved : (s : Setup) (w : World) (logs : Device → List Logged) (move : Move) → logs_after s w logs (move ∷ []) (mover_of move) ≡ log_after w (logs (mover_of move)) move
log_moved s w logs move = log_own w logs move

-- what holds of nothing, and of what a client does, holds of it if there is one
pub if_open_has : (P : Effect → Type 0) (o : Option PlainClient) (act : PlainClient → Effect) → P nothing → ((c : PlainClient) → o ≡ Some c → P (act c)) → P (if_open o act)
if_open_has P None act none each = none
if_open_has P (Some c) act none each = each c refl

-- ---- scenes

-- a scene after what a command did, if it was no submission or signature
abbrev pub acted : Setup → Scene → Effect → Scene
acted s scene act = record {
  world = after_all s scene.world act.moves;
  logs = logs_after s scene.world scene.logs act.moves;
  made = scene.made ++ act.entries;
  last = scene.last;
  asked = scene.asked;
  leaves = scene.leaves;
}

-- nothing of a device has changed
pub record IsSameAt (who : Device) (scene scene' : Scene) : Type 0 where
  pub client : scene'.world.clients who ≡ scene.world.clients who
  pub log : scene'.logs who ≡ scene.logs who
  pub last : scene'.last who ≡ scene.last who
  pub asked : scene'.asked who ≡ scene.asked who
  pub leaves : scene'.leaves who ≡ scene.leaves who

pub same_for_others : (s : Setup) (scene : Scene) (act : Effect) (who other : Device) → AreOf who act.moves → other ≢ who → IsSameAt other scene (acted s scene act)
same_for_others s scene act who other are differs = record {
  client = clients_other s scene.world act.moves who other are differs;
  log = logs_other s scene.world scene.logs act.moves who other are differs;
  last = refl;
  asked = refl;
  leaves = refl;
}

pub same_for_all : (s : Setup) (scene : Scene) (entries : List (List ℕ)) (who : Device) → IsSameAt who scene (acted s scene (record { moves = []; entries = entries }))
same_for_all s scene entries who = record { client = refl; log = refl; last = refl; asked = refl; leaves = refl }

-- ---- seats of which nothing changes

signer_kept : {D : Type 0} (s : Setup) (scene scene' : Scene) (who : Device) (signer : SignerModel D) → IsSameAt who scene scene' → IsSignerOf s scene who signer → IsSignerOf s scene' who signer
signer_kept s scene scene' who signer same is = record {
  key = is.key;
  leaves = subst (λ (n : ℕ). AreDrawn (s.private who) n signer.leaves) (sym same.leaves) is.leaves;
}

holds_kept : {D : Type 0} (s : Setup) (scene scene' : Scene) (who : Device) (signer : Option (SignerModel D)) (client : Option (ClientModel D)) → IsSameAt who scene scene' → Holds s scene who signer client → Holds s scene' who signer client
holds_kept s scene scene' who signer (Some c) same is = record {
  ring = is.ring;
  opening = is.opening;
  log = same.log ∙ is.log;
  ready = subst (λ (n : ℕ). IsReady (s.private who) n c) (sym same.leaves) is.ready;
}
holds_kept s scene scene' who (Some signer) None same is = signer_kept s scene scene' who signer same is
holds_kept s scene scene' who None None same is = absurd is

pub seat_kept : (s : Setup) (scene scene' : Scene) (seat : Seat) → IsSameAt seat.device scene scene' → IsSeatOf s scene seat → IsSeatOf s scene' seat
seat_kept s scene scene' seat same is = record {
  asked = is.asked ∙ sym same.asked;
  last = is.last ∙ sym same.last;
  client = same.client ∙ is.client;
  holds = holds_kept s scene scene' seat.device seat.signer seat.client same is.holds;
}

pub rogue_kept : (s : Setup) (scene scene' : Scene) (rogue : Rogue) → IsSameAt rogue.device scene scene' → IsRogueOf s scene rogue → IsRogueOf s scene' rogue
rogue_kept s scene scene' rogue same is = record {
  asked = is.asked ∙ sym same.asked;
  signer = signer_kept s scene scene' rogue.device rogue.signer same is.signer;
}

-- ---- the seat whose client moves

abbrev pub with_client : Seat → Option (ClientModel MemoryDiskModel) → Seat
with_client seat client = record seat { client = client }

-- moves lead a client to this log
pub record Leads (s : Setup) (scene : Scene) (who : Device) (c : ClientModel MemoryDiskModel) (moves : List Move) (log : List Logged) : Type 0 where
  pub client : (after_all s scene.world moves).clients who ≡ Some (replay c.opening log)
  pub logs : logs_after s scene.world scene.logs moves who ≡ log

client_moved : (s : Setup) (scene : Scene) (act : Effect) (seat : Seat) (c : ClientModel MemoryDiskModel) (log : List Logged) → IsSeatOf s scene (with_client seat (Some c)) → Leads s scene seat.device c act.moves log
    → IsSeatOf s (acted s scene act) (with_client seat (Some (record c { log = log })))
client_moved s scene act seat c log is did = record {
  asked = is.asked;
  last = is.last;
  client = did.client;
  holds = record {
    ring = is.holds.ring;
    opening = is.holds.opening;
    log = did.logs;
    ready = record { key = is.holds.ready.key; leaves = is.holds.ready.leaves; no_ticket = is.holds.ready.no_ticket };
  };
}

-- a seat whose client, if there is one, has another log now
abbrev pub seat_acted : (ClientModel MemoryDiskModel → List Logged) → Seat → Seat
seat_acted log_of seat = record seat { client = option_map (λ (c : ClientModel MemoryDiskModel). record c { log = log_of c }) seat.client }

-- what a client does, if there is one, leads it to a log
abbrev pub LeadsTo : Setup → Scene → (PlainClient → Effect) → (ClientModel MemoryDiskModel → List Logged) → Device → Type 0
LeadsTo s scene act log_of who = (c : ClientModel MemoryDiskModel) → scene.world.clients who ≡ Some (state_of c) → scene.logs who ≡ c.log → Leads s scene who c (act (state_of c)).moves (log_of c)

pub seat_acts : (s : Setup) (scene : Scene) (seat : Seat) (act : PlainClient → Effect) (log_of : ClientModel MemoryDiskModel → List Logged) → IsSeatOf s scene seat → LeadsTo s scene act log_of seat.device
    → IsSeatOf s (acted s scene (if_open (scene.world.clients seat.device) act)) (seat_acted log_of seat)
seat_acts s scene seat act log_of is leads = subst T (sym is.client) (go seat.client is)
  where
    T : Option PlainClient → Type 0
    T o = IsSeatOf s (acted s scene (if_open o act)) (seat_acted log_of seat)

    go : (o : Option (ClientModel MemoryDiskModel)) → IsSeatOf s scene (with_client seat o) → IsSeatOf s (acted s scene (if_open (option_map state_of o) act)) (seat_acted log_of (with_client seat o))
    go None is = seat_kept s scene (acted s scene nothing) (with_client seat None) (same_for_all s scene [] seat.device) is
    go (Some c) is = client_moved s scene (act (state_of c)) seat c (log_of c) is (leads c is.client is.holds.log)

-- ---- whole states

-- a state whose seat at a place is another one now
pub record ChangesSeat (i : ℕ) (seat : Seat) (old new : PlayState) : Type 0 where
  pub genesis : new.genesis ≡ old.genesis
  pub cast : new.cast ≡ old.cast
  pub rogues : new.rogues.items ≡ old.rogues.items
  pub seats : new.seats.items ≡ set old.seats.items i seat

seats_apart : (script : List PlayLine) (scene : Scene) (state : PlayState) → StandsFor script scene state → AreDistinct (seated state.seats.items ++ rogue_devices state.rogues.items)
seats_apart script scene state stands =
    subst (λ (ds : List Device). AreDistinct (ds ++ rogue_devices state.rogues.items)) (sym stands.seated)
    (subst (λ (ds : List Device). AreDistinct ((setup_of script).devices ++ ds)) (sym stands.rogue_devices) (are_distinct _ stands.declared.distinct))

pub stands_seat : (script : List PlayLine) (scene scene' : Scene) (state state' : PlayState) (i : ℕ) (who : Device) (seat new : Seat) → StandsFor script scene state → IsSeatAt state.seats.items i who seat
    → ((other : Device) → other ≢ who → IsSameAt other scene scene') → IsSeatOf (setup_of script) scene' new → new.device ≡ seat.device → ChangesSeat i new state state'
    → map (λ bytes. bytes.items) state'.made.items ≡ scene'.made → StandsFor script scene' state'
stands_seat script scene scene' state state' i who seat new stands at others is own changed made =
    let s = setup_of script in
    let apart = seats_apart script scene state stands in
    let seats = state.seats.items in
    record {
      genesis = changed.genesis ∙ stands.genesis;
      cast = subst (IsCastOf s) (sym changed.cast) stands.cast;
      seats = subst (AllByRecursion (IsSeatOf s scene')) (sym changed.seats)
          (all_set (λ (x : Seat). x.device) (IsSeatOf s scene) (IsSeatOf s scene') seats i seat new (apart_front (seated seats) (rogue_devices state.rogues.items) apart) at.there
          (λ y differs was. seat_kept s scene scene' y (others y.device (λ same. differs (same ∙ sym at.own))) was) is stands.seats);
      rogues = subst (AllByRecursion (IsRogueOf s scene')) (sym changed.rogues)
          (all_others (λ (x : Rogue). x.device) (IsRogueOf s scene) (IsRogueOf s scene') who state.rogues.items
          (subst (λ (other : Device). IsNotIn other (rogue_devices state.rogues.items)) at.own (not_behind (λ (x : Seat). x.device) seats (rogue_devices state.rogues.items) i seat apart at.there))
          (λ y differs was. rogue_kept s scene scene' y (others y.device differs) was) stands.rogues);
      seated = ap seated changed.seats ∙ numbers_set (λ (x : Seat). x.device) seats i seat new at.there own ∙ stands.seated;
      rogue_devices = ap rogue_devices changed.rogues ∙ stands.rogue_devices;
      declared = stands.declared;
      made = made;
    }

-- a state whose rogue at a place is another one now
pub record ChangesRogue (i : ℕ) (rogue : Rogue) (old new : PlayState) : Type 0 where
  pub genesis : new.genesis ≡ old.genesis
  pub cast : new.cast ≡ old.cast
  pub seats : new.seats.items ≡ old.seats.items
  pub rogues : new.rogues.items ≡ set old.rogues.items i rogue

pub stands_rogue : (script : List PlayLine) (scene scene' : Scene) (state state' : PlayState) (i : ℕ) (who : Device) (rogue new : Rogue) → StandsFor script scene state → IsRogueAt state.rogues.items i who rogue
    → ((other : Device) → other ≢ who → IsSameAt other scene scene') → IsRogueOf (setup_of script) scene' new → new.device ≡ rogue.device → ChangesRogue i new state state'
    → map (λ bytes. bytes.items) state'.made.items ≡ scene'.made → StandsFor script scene' state'
stands_rogue script scene scene' state state' i who rogue new stands at others is own changed made =
    let s = setup_of script in
    let apart = seats_apart script scene state stands in
    let rogues = state.rogues.items in
    record {
      genesis = changed.genesis ∙ stands.genesis;
      cast = subst (IsCastOf s) (sym changed.cast) stands.cast;
      seats = subst (AllByRecursion (IsSeatOf s scene')) (sym changed.seats)
          (all_others (λ (x : Seat). x.device) (IsSeatOf s scene) (IsSeatOf s scene') who state.seats.items
          (subst (λ (other : Device). IsNotIn other (seated state.seats.items)) at.own (not_across (λ (x : Rogue). x.device) (seated state.seats.items) rogues i rogue apart at.there))
          (λ y differs was. seat_kept s scene scene' y (others y.device differs) was) stands.seats);
      rogues = subst (AllByRecursion (IsRogueOf s scene')) (sym changed.rogues)
          (all_set (λ (x : Rogue). x.device) (IsRogueOf s scene) (IsRogueOf s scene') rogues i rogue new (apart_back (seated state.seats.items) (rogue_devices rogues) apart) at.there
          (λ y differs was. rogue_kept s scene scene' y (others y.device (λ same. differs (same ∙ sym at.own))) was) is stands.rogues);
      seated = ap seated changed.seats ∙ stands.seated;
      rogue_devices = ap rogue_devices changed.rogues ∙ numbers_set (λ (x : Rogue). x.device) rogues i rogue new at.there own ∙ stands.rogue_devices;
      declared = stands.declared;
      made = made;
    }

-- a state of which only the entries that were made have changed
pub stands_made : (script : List PlayLine) (scene scene' : Scene) (state state' : PlayState) → StandsFor script scene state → ((who : Device) → IsSameAt who scene scene') → HasSameMembers state state'
    → map (λ bytes. bytes.items) state'.made.items ≡ scene'.made → StandsFor script scene' state'
stands_made script scene scene' state state' stands all same made =
    let s = setup_of script in
    record {
      genesis = same.genesis ∙ stands.genesis;
      cast = subst (IsCastOf s) (sym same.cast) stands.cast;
      seats = subst (AllByRecursion (IsSeatOf s scene')) (sym same.seats) (all_each (IsSeatOf s scene) (IsSeatOf s scene') state.seats.items (λ x. seat_kept s scene scene' x (all x.device)) stands.seats);
      rogues = subst (AllByRecursion (IsRogueOf s scene')) (sym same.rogues) (all_each (IsRogueOf s scene) (IsRogueOf s scene') state.rogues.items (λ x. rogue_kept s scene scene' x (all x.device)) stands.rogues);
      seated = ap seated same.seats ∙ stands.seated;
      rogue_devices = ap rogue_devices same.rogues ∙ stands.rogue_devices;
      declared = stands.declared;
      made = made;
    }

-- one device's client alone acts, and makes no entries
pub record IsQuiet (who : Device) (act : Effect) : Type 0 where
  pub moves : AreOf who act.moves
  pub entries : act.entries ≡ []

pub stands_acted : (script : List PlayLine) (scene : Scene) (state state' : PlayState) (i : ℕ) (who : Device) (seat new : Seat) (act : Effect) → StandsFor script scene state → IsSeatAt state.seats.items i who seat
    → IsQuiet who act → IsSeatOf (setup_of script) (acted (setup_of script) scene act) new → new.device ≡ seat.device → ChangesSeat i new state state'
    → map (λ bytes. bytes.items) state'.made.items ≡ map (λ bytes. bytes.items) state.made.items → StandsFor script (acted (setup_of script) scene act) state'
stands_acted script scene state state' i who seat new act stands at quiet is own changed same =
    stands_seat script scene (acted (setup_of script) scene act) state state' i who seat new stands at (λ other differs. same_for_others (setup_of script) scene act who other quiet.moves differs) is own changed
    (same ∙ stands.made ∙ sym (append-nil scene.made) ∙ ap (λ (es : List (List ℕ)). scene.made ++ es) (sym quiet.entries))
