-- Commands that act on one client, on the state and on the scene that it stands for.
use Rattle.std.proofs.Common.{◌≡◌, ℕ, Bool, true, false, cond, List, [], ◌∷◌, ◌++◌, length, map, refl, sym, ap, ◌∙◌, subst, append-nil, Option, None, Some, arith, Result, option_map}
use Rattle.sporc_play.proofs.Common.{nat_le, MemoryDiskModel, Refusal, journal_has_room, refusal_of, ClientModel, state_of, Logged, Opening, PlainClient, Setup, Give, Restart, given, log_of_first}
use Rattle.sporc_play.proofs.Common.{replay_from, restarted, replay_append, replay_opening, Device, PlayLine, Seat, PlayState, setup_of, accepted_event, events_by, first_accepts, given_by}
use Rattle.sporc_play.proofs.Common.{given_events, line_by, Scene, adds, if_open, nothing, restarts, IsSeatAt, plain_in, seat_logged, seat_restarted, IsSeatOf, StandsFor, Effect, SignerModel}
use Rattle.sporc_play.proofs.Common.{LmsPrivate, Keys, opened, Open, opening_of, client_with, seat_joined, seat_open}
use Rattle.sporc_play.proofs.Common.{Joining, Opens, joining_from, joining_of, joins, Holds, IsSignerOf, moved, restarted_log}
use Rattle.sporc_client.specs.Step.{replay}
use Rattle.sporc_play.specs.Scene.{gives}
use Rattle.sporc_play.proofs.Seating.{client_given, client_restarted as client_goes_back, happens_of, log_moved, client_happens, log_happens, if_open_has, client_opened, ChangesSeat, IsQuiet, Leads}
use Rattle.sporc_play.proofs.Seating.{LeadsTo, acted, seat_acted, seat_acts, stands_acted, same_for_all, seat_kept, with_client}
use Rattle.sporc_play.proofs.Places.{at_place}

-- ---- the seat that a command names

pub seat_there : (script : List PlayLine) (scene : Scene) (state : PlayState) (i : ℕ) (who : Device) (seat : Seat) → StandsFor script scene state → IsSeatAt state.seats.items i who seat → IsSeatOf (setup_of script) scene seat
seat_there script scene state i who seat stands at = at_place (IsSeatOf (setup_of script) scene) state.seats.items i seat stands.seats at.there

pub client_there : (script : List PlayLine) (scene : Scene) (state : PlayState) (i : ℕ) (who : Device) (seat : Seat) → StandsFor script scene state → IsSeatAt state.seats.items i who seat → scene.world.clients who ≡ plain_in seat
client_there script scene state i who seat stands at = ap scene.world.clients (sym at.own) ∙ (seat_there script scene state i who seat stands at).client

-- the line that a client tells
pub told : (script : List PlayLine) (scene : Scene) (state : PlayState) (i : ℕ) (who : Device) (seat : Seat) (line : PlainClient → List ℕ) (old new : List ℕ) → StandsFor script scene state → IsSeatAt state.seats.items i who seat
    → new ≡ old ++ line_by who (plain_in seat) line → (l : List ℕ) × (l ≡ line_by who (scene.world.clients who) line) × (new ≡ old ++ l)
told script scene state i who seat line old new stands at is =
    (line_by who (plain_in seat) line, ap (λ (o : Option PlainClient). line_by who o line) (sym (client_there script scene state i who seat stands at)), is)

-- ---- what one client does

acted_stands : (script : List PlayLine) (scene : Scene) (state state' : PlayState) (i : ℕ) (who : Device) (seat new : Seat) (act : PlainClient → Effect) (log_of : ClientModel MemoryDiskModel → List Logged) → StandsFor script scene state
    → IsSeatAt state.seats.items i who seat → ((c : PlainClient) → IsQuiet who (act c)) → LeadsTo (setup_of script) scene act log_of who → new ≡ seat_acted log_of seat → ChangesSeat i new state state'
    → map (λ bytes. bytes.items) state'.made.items ≡ map (λ bytes. bytes.items) state.made.items → StandsFor script (acted (setup_of script) scene (if_open (scene.world.clients who) act)) state'
acted_stands script scene state state' i who seat new act log_of stands at quiet leads is changed same =
    let s = setup_of script in
    let seats : IsSeatOf s (acted s scene (if_open (scene.world.clients seat.device) act)) new =
    subst (IsSeatOf s (acted s scene (if_open (scene.world.clients seat.device) act))) (sym is)
    (seat_acts s scene seat act log_of (seat_there script scene state i who seat stands at) (subst (LeadsTo s scene act log_of) (sym at.own) leads)) in
    stands_acted script scene state state' i who seat new (if_open (scene.world.clients who) act) stands at
    (if_open_has (IsQuiet who) (scene.world.clients who) act (record { moves = tt; entries = refl }) (λ c at. quiet c))
    (subst (λ (d : Device). IsSeatOf s (acted s scene (if_open (scene.world.clients d) act)) new) at.own seats) (ap (λ (x : Seat). x.device) is) changed same

-- ---- what adds events

pub adds_stand : (script : List PlayLine) (scene : Scene) (state state' : PlayState) (i : ℕ) (who : Device) (seat new : Seat) (events : PlainClient → List Logged) → StandsFor script scene state → IsSeatAt state.seats.items i who seat
    → new ≡ seat_logged events seat → ChangesSeat i new state state' → map (λ bytes. bytes.items) state'.made.items ≡ map (λ bytes. bytes.items) state.made.items
    → StandsFor script (acted (setup_of script) scene (if_open (scene.world.clients who) (λ c. adds who (events c)))) state'
adds_stand script scene state state' i who seat new events stands at is changed same =
    acted_stands script scene state state' i who seat new (λ c. adds who (events c)) (λ c. c.log ++ events (state_of c)) stands at
    (λ c. record { moves = happens_of who (events c); entries = refl })
    (λ c there log. record {
      client = client_happens (setup_of script) scene.world who (state_of c) (events (state_of c)) there ∙ ap Some (replay_append c.opening c.log (events (state_of c)));
      logs = log_happens (setup_of script) scene.world scene.logs who (events (state_of c)) ∙ ap (λ (l : List Logged). l ++ events (state_of c)) log;
    }) is changed same

-- ---- entries that are handed out

given_is : (c : PlainClient) (bytes : List ℕ) (r : Option Refusal) → given c bytes r ≡ replay_from c (accepted_event bytes (journal_has_room c) r)
given_is c bytes r = grind arith

give_quiet : (who : Device) (position : ℕ) (entry : Option (List ℕ)) → IsQuiet who (gives who position entry)
give_quiet who position None = record { moves = tt; entries = refl }
give_quiet who position (Some bytes) = record { moves = (refl, tt); entries = refl }

give_leads : (s : Setup) (scene : Scene) (who : Device) (position : ℕ) (entry : Option (List ℕ)) → LeadsTo s scene (λ c. gives who position entry) (λ c. c.log ++ given_by position entry (state_of c)) who
give_leads s scene who position None c there log =
    record { client = there ∙ ap (λ (l : List Logged). Some (replay c.opening l)) (sym (append-nil c.log)); logs = log ∙ sym (append-nil c.log) }
give_leads s scene who position (Some bytes) c there log =
    let added = given_events (state_of c) position bytes in
    record {
      client = client_given s scene.world who position (state_of c) bytes there
          ∙ ap Some (given_is (state_of c) bytes (refusal_of (state_of c) position bytes) ∙ replay_append c.opening c.log added);
      logs = log_moved s scene.world scene.logs (Give who position bytes)
          ∙ ap (λ (o : Option PlainClient). scene.logs who ++ events_by (λ c. given_events c position bytes) o) there ∙ ap (λ (l : List Logged). l ++ added) log;
    }

pub give_stands : (script : List PlayLine) (scene : Scene) (state state' : PlayState) (i : ℕ) (who : Device) (position : ℕ) (entry : Option (List ℕ)) (seat new : Seat) → StandsFor script scene state → IsSeatAt state.seats.items i who seat
    → new ≡ seat_logged (given_by position entry) seat → ChangesSeat i new state state' → map (λ bytes. bytes.items) state'.made.items ≡ map (λ bytes. bytes.items) state.made.items
    → StandsFor script (acted (setup_of script) scene (if_open (scene.world.clients who) (λ c. gives who position entry))) state'
give_stands script scene state state' i who position entry seat new stands at is changed same =
    acted_stands script scene state state' i who seat new (λ c. gives who position entry) (λ c. c.log ++ given_by position entry (state_of c)) stands at
    (λ c. give_quiet who position entry) (give_leads (setup_of script) scene who position entry) is changed same

-- ---- going back

restart_quiet : (who : Device) (k : ℕ) (c : PlainClient) → IsQuiet who (restarts who k c)
restart_quiet who k c = go (nat_le k (length c.entries))
  where
    go : (b : Bool) → IsQuiet who (cond b (moved (Restart who k ∷ [])) nothing)
    go true = record { moves = (refl, tt); entries = refl }
    go false = record { moves = tt; entries = refl }

back_is : (o : Opening) (log : List Logged) (k : ℕ) → restarted (replay o log) k ≡ replay o (log_of_first k (replay o log))
back_is o log k = ap (λ (p : Opening). replay p (log_of_first k (replay o log))) (replay_opening o log)

restart_leads : (s : Setup) (scene : Scene) (who : Device) (k : ℕ) → LeadsTo s scene (restarts who k) (λ c. restarted_log c.log k (state_of c)) who
restart_leads s scene who k c there log = go (nat_le k (length (state_of c).entries))
  where
    go : (b : Bool) → Leads s scene who c (cond b (moved (Restart who k ∷ [])) nothing).moves (cond b (log_of_first k (state_of c)) c.log)
    go true = record {
      client = client_goes_back s scene.world who k (state_of c) there ∙ ap Some (back_is c.opening c.log k);
      logs = log_moved s scene.world scene.logs (Restart who k) ∙ ap (λ (o : Option PlainClient). first_accepts o k) there;
    }
    go false = record { client = there; logs = log }

pub restart_stands : (script : List PlayLine) (scene : Scene) (state state' : PlayState) (i : ℕ) (who : Device) (k : ℕ) (seat new : Seat) → StandsFor script scene state → IsSeatAt state.seats.items i who seat
    → new ≡ seat_restarted k seat → ChangesSeat i new state state' → map (λ bytes. bytes.items) state'.made.items ≡ map (λ bytes. bytes.items) state.made.items
    → StandsFor script (acted (setup_of script) scene (if_open (scene.world.clients who) (restarts who k))) state'
restart_stands script scene state state' i who k seat new stands at is changed same =
    acted_stands script scene state state' i who seat new (restarts who k) (λ c. restarted_log c.log k (state_of c)) stands at (restart_quiet who k) (restart_leads (setup_of script) scene who k) is changed same

-- ---- joiners, on the state and on the scene that it stands for

joins_quiet : (who : Device) (joining : Joining) → IsQuiet who (joins who joining)
joins_quiet who (Opens ring) = record { moves = (refl, tt); entries = refl }
joins_quiet who joining = record { moves = tt; entries = refl }

-- ---- the seat

abbrev pub no_client : Option (ClientModel MemoryDiskModel)
no_client = None

opened_is : (o : Opening) → opened o ≡ replay o []
unfolding replay
opened_is o = refl

abbrev with_key : Setup → Device → Keys → LmsPrivate → Opening
with_key s who ring key = record { genesis = s.genesis; kit = record { me = who; ring = ring; pairs = s.pairs who }; key = key }

-- a seat whose client opens
pub seat_opens : (s : Setup) (scene : Scene) (seat : Seat) (ring : Keys) (signer : Option (SignerModel MemoryDiskModel)) → seat.signer ≡ signer → IsSeatOf s scene (with_client seat None)
    → IsSeatOf s (acted s scene (moved (Open seat.device ring ∷ []))) (seat_open s ring (with_client seat None) signer)
seat_opens s scene seat ring None signed is = absurd (subst (λ (o : Option (SignerModel MemoryDiskModel)). Holds s scene seat.device o no_client) signed is.holds)
seat_opens s scene seat ring (Some signer) signed is =
    let held : IsSignerOf s scene seat.device signer = subst (λ (o : Option (SignerModel MemoryDiskModel)). Holds s scene seat.device o no_client) signed is.holds in
    let c = client_with s seat.device ring signer in
    let opening : c.opening ≡ opening_of s seat.device ring = ap (with_key s seat.device ring) held.key in
    record {
      asked = is.asked;
      last = is.last;
      client = client_opened s scene.world seat.device ring ∙ ap Some (opened_is (opening_of s seat.device ring) ∙ ap (λ (o : Opening). replay o []) (sym opening));
      holds = record {
        ring = ring;
        opening = opening;
        log = log_moved s scene.world scene.logs (Open seat.device ring);
        ready = record { key = held.key; leaves = held.leaves; no_ticket = refl };
      };
    }

seat_stays : (s : Setup) (scene : Scene) (seat : Seat) → IsSeatOf s scene seat → IsSeatOf s (acted s scene nothing) seat
seat_stays s scene seat is = seat_kept s scene (acted s scene nothing) seat (same_for_all s scene [] seat.device) is

seat_joins : (s : Setup) (scene : Scene) (seat : Seat) (entries : Result (List (List ℕ)) ℕ) → IsSeatOf s scene seat
    → IsSeatOf s (acted s scene (joins seat.device (joining_of s seat.device entries (plain_in seat)))) (seat_joined s seat (joining_of s seat.device entries (plain_in seat)))
seat_joins s scene seat entries is = go seat.client is
  where
    closed : (joining : Joining) → IsSeatOf s scene (with_client seat None) → IsSeatOf s (acted s scene (joins seat.device joining)) (seat_joined s (with_client seat None) joining)
    closed (Opens ring) is = seat_opens s scene seat ring seat.signer refl is
    closed joining is = seat_stays s scene (with_client seat None) is

    go : (o : Option (ClientModel MemoryDiskModel)) → IsSeatOf s scene (with_client seat o)
        → IsSeatOf s (acted s scene (joins seat.device (joining_of s seat.device entries (option_map state_of o)))) (seat_joined s (with_client seat o) (joining_of s seat.device entries (option_map state_of o)))
    go (Some c) is = seat_stays s scene (with_client seat (Some c)) is
    go None is = closed (joining_from s seat.device entries) is

-- a seat that joined is the same member's
pub own_open : (s : Setup) (ring : Keys) (seat : Seat) (signer : Option (SignerModel MemoryDiskModel)) → (seat_open s ring seat signer).device ≡ seat.device
own_open s ring seat signer = grind arith

own_joined : (s : Setup) (seat : Seat) (joining : Joining) → (seat_joined s seat joining).device ≡ seat.device
own_joined s seat (Opens ring) = own_open s ring seat seat.signer
own_joined s seat joining = refl

-- ---- the state

pub join_stands : (script : List PlayLine) (scene : Scene) (state state' : PlayState) (i : ℕ) (who : Device) (seat new : Seat) (entries : Result (List (List ℕ)) ℕ) → StandsFor script scene state → IsSeatAt state.seats.items i who seat
    → new ≡ seat_joined (setup_of script) seat (joining_of (setup_of script) seat.device entries (plain_in seat)) → ChangesSeat i new state state' → map (λ bytes. bytes.items) state'.made.items ≡ map (λ bytes. bytes.items) state.made.items
    → StandsFor script (acted (setup_of script) scene (joins who (joining_of (setup_of script) who entries (scene.world.clients who)))) state'
join_stands script scene state state' i who seat new entries stands at joined changed same =
    let s = setup_of script in
    let joining = joining_of s seat.device entries (plain_in seat) in
    let joining_is : joining ≡ joining_of s who entries (scene.world.clients who) =
    ap (λ (d : Device). joining_of s d entries (plain_in seat)) at.own ∙ ap (joining_of s who entries) (sym (client_there script scene state i who seat stands at)) in
    subst (λ (j : Joining). StandsFor script (acted s scene (joins who j)) state') joining_is
    (stands_acted script scene state state' i who seat new (joins who joining) stands at (joins_quiet who joining)
    (subst (λ (d : Device). IsSeatOf s (acted s scene (joins d joining)) new) at.own
    (subst (IsSeatOf s (acted s scene (joins seat.device joining))) (sym joined) (seat_joins s scene seat entries (seat_there script scene state i who seat stands at))))
    (ap (λ (x : Seat). x.device) joined ∙ own_joined s seat joining) changed same)
