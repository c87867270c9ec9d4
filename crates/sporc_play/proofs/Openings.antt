-- The clients of the founders open, one line after another.
use Rattle.std.proofs.Common.{◌≡◌, ℕ, zero, suc, ◌+◌, ◌<◌, Bool, true, false, cond, List, [], ◌∷◌, ◌++◌, length, take, get_or, map, refl, sym, ap, ◌∙◌, subst, arith, append-nil, Option, None, Some}
use Rattle.std.proofs.Common.{option_map, ap₂}
use Rattle.sporc_play.proofs.Common.{Contains, filter_map, if◌then◌else◌, cons_option, filter_map-append, MemoryDiskModel, ClientModel, state_of, Logged, Setup, World, Move, Open, after_all, start}
use Rattle.sporc_play.proofs.Common.{after_append, Device, Founder, same_device, Command, PlayLine, Seat, PlayState, device_by, first_ring, founders_of, is_founder, opener_by, openers_by, seat_open}
use Rattle.sporc_play.proofs.Common.{log_after, logs_after, mover_of, Scene, openings, scene_moved, scene_opened, IsSeatAt, IsSeatOf, StandsFor, moved, map-append}
use Rattle.sporc_client.specs.Run.{after}
use Rattle.sporc_script.specs.declared.command.Command.TheVariants as commands
use Rattle.sporc_play.proofs.Places.{AreDistinct, IsNotIn, are_distinct, among_here, among_more, apart_front, not_in_contains}
use Rattle.sporc_play.specs.Cast.{setup_of}
use Rattle.sporc_play.proofs.Becoming.{entries_of}
use Rattle.sporc_play.proofs.Commands.{seat_there, own_open, seat_opens}
use Rattle.sporc_play.proofs.Seating.{client_other, ChangesSeat, acted, stands_acted, with_client}
use Rattle.sporc_play.proofs.Reported.{take_more}

-- the devices that have or may get a client, by these lines
abbrev devices : List PlayLine → List Device
devices lines = filter_map (λ (l : PlayLine). device_by l.command) lines

-- ---- devices apart

pub device_among : (lines : List PlayLine) (i : ℕ) (who : Device) (l : PlayLine) → i < length lines → l ≡ get_or lines i l → device_by l.command ≡ Some who → Contains (filter_map (λ (l : PlayLine). device_by l.command) lines) who
device_among [] i who l low is own = absurd (omega (arith, low))
device_among (x ∷ xs) zero who l low is own = among_here who (device_by x.command) (devices xs) (ap (λ (y : PlayLine). device_by y.command) (sym is) ∙ own)
device_among (x ∷ xs) (suc i) who l low is own = among_more who (device_by x.command) (devices xs) (device_among xs i who l (omega (arith, low)) is own)

first_apart : (who : Device) (o : Option Device) (ds before : List Device) → AreDistinct (cons_option o ds) → Contains ds who → IsNotIn who before → IsNotIn who (cons_option o before)
first_apart who None ds before apart among rest = rest
first_apart who (Some k) ds before apart among rest = ((λ same. not_in_contains k ds apart.0 (subst (Contains ds) (sym same) among)), rest)

rest_apart : (o : Option Device) (ds : List Device) → AreDistinct (cons_option o ds) → AreDistinct ds
rest_apart None ds apart = apart
rest_apart (Some k) ds apart = apart.1

devices_before : (lines : List PlayLine) (i : ℕ) (who : Device) (l : PlayLine) → i < length lines → l ≡ get_or lines i l → device_by l.command ≡ Some who → AreDistinct (devices lines) → IsNotIn who (devices (take i lines))
devices_before [] i who l low is own apart = absurd (omega (arith, low))
devices_before (x ∷ xs) zero who l low is own apart = tt
devices_before (x ∷ xs) (suc i) who l low is own apart =
    first_apart who (device_by x.command) (devices xs) (devices (take i xs)) apart (device_among xs i who l (omega (arith, low)) is own)
    (devices_before xs i who l (omega (arith, low)) is own (rest_apart (device_by x.command) (devices xs) apart))

-- an opener is a device that the line declares
pub opener_device : (fs : List Founder) (c : Command) (who : Device) → opener_by fs c ≡ Some who → device_by c ≡ Some who
opener_device fs c who is = grind arith

opener_or_not : (fs : List Founder) (who : Device) (c : Command) (ds os : List Device) → IsNotIn who (cons_option (device_by c) ds) → (IsNotIn who ds → IsNotIn who os) → IsNotIn who (cons_option (opener_by fs c) os)
opener_or_not fs who (commands.Member f) ds os apart rest = (apart.0, rest apart.1)
opener_or_not fs who (commands.Joiner j) ds os apart rest = rest apart.1
opener_or_not fs who (commands.Device d) ds os apart rest = go (is_founder fs d.member)
  where
    go : (founds : Bool) → IsNotIn who (cons_option (cond founds (Some d) None) os)
    go true = (apart.0, rest apart.1)
    go false = rest apart.1
opener_or_not fs who c ds os apart rest = rest apart

not_opener : (fs : List Founder) (who : Device) (lines : List PlayLine) → IsNotIn who (devices lines) → IsNotIn who (openers_by fs lines)
not_opener fs who [] apart = tt
not_opener fs who (l ∷ ls) apart = opener_or_not fs who l.command (devices ls) (openers_by fs ls) apart (not_opener fs who ls)

-- ---- worlds

unopened : (s : Setup) (w : World) (device : Device) (ds : List Device) → IsNotIn device ds → (after_all s w (map (λ (who : Device). Open who first_ring) ds)).clients device ≡ w.clients device
unopened s w device [] apart = refl
unopened s w device (x ∷ xs) apart =
    unopened s (after s w (Open x first_ring)) device xs apart.1 ∙ client_other s w (Open x first_ring) device (λ same. apart.0 (sym same))

openings_append : (fs : List Founder) (xs ys : List PlayLine) → openings fs (xs ++ ys) ≡ openings fs xs ++ openings fs ys
openings_append fs xs ys = ap (map (λ (who : Device). Open who first_ring)) (filter_map-append (λ (l : PlayLine). opener_by fs l.command) xs ys)
    ∙ map-append (λ (who : Device). Open who first_ring) (openers_by fs xs) (openers_by fs ys)

logs_append : (s : Setup) (w : World) (logs : Device → List Logged) (xs ys : List Move) → logs_after s w logs (xs ++ ys) ≡ logs_after s (after_all s w xs) (logs_after s w logs xs) ys
logs_append s w logs [] ys = refl
logs_append s w logs (move ∷ xs) ys = logs_append s (after s w move) (λ (who : Device). if same_device who (mover_of move) then log_after w (logs who) move else logs who) xs ys

scene_more : (script : List PlayLine) (xs ys : List Move) → scene_moved script (xs ++ ys) ≡ acted (setup_of script) (scene_moved script xs) (moved ys)
scene_more script xs ys =
    ap₂ (λ (w : World) (logs : Device → List Logged). let scene : Scene = record { world = w; logs = logs; made = []; last = λ who. 0; asked = λ who. 0; leaves = λ who. 0 } in scene)
    (after_append (setup_of script) start xs ys) (logs_append (setup_of script) start (λ who. []) xs ys)

-- ---- one line

no_client_in : (o : Option (ClientModel MemoryDiskModel)) → option_map state_of o ≡ None → o ≡ None
no_client_in o is = grind arith

opening_of_one : (fs : List Founder) (l : PlayLine) (who : Device) → opener_by fs l.command ≡ Some who → openings fs (l ∷ []) ≡ Open who first_ring ∷ []
opening_of_one fs l who is = ap (λ (o : Option Device). map (λ (d : Device). Open d first_ring) (cons_option o [])) is

seat_opened : (s : Setup) (scene : Scene) (x : Seat) → IsSeatOf s scene x → x.client ≡ None → IsSeatOf s (acted s scene (moved (Open x.device first_ring ∷ []))) (seat_open s first_ring x x.signer)
seat_opened s scene x was closed =
    let same : with_client x None ≡ x = ap (with_client x) (sym closed) in
    subst (λ (y : Seat). IsSeatOf s (acted s scene (moved (Open x.device first_ring ∷ []))) (seat_open s first_ring y x.signer)) same
    (seat_opens s scene x first_ring x.signer refl (subst (IsSeatOf s scene) (sym same) was))

devices_are : (script : List PlayLine) → (setup_of script).devices ≡ filter_map (λ (l : PlayLine). device_by l.command) script
unfolding setup_of
devices_are script = refl

-- a device that a line declares is one of the script
pub device_there : (script : List PlayLine) (i : ℕ) (l : PlayLine) (who : Device) → i < length script → l ≡ get_or script i l → device_by l.command ≡ Some who → Contains (setup_of script).devices who
device_there script i l who low is own = subst (λ (ds : List Device). Contains ds who) (sym (devices_are script)) (device_among script i who l low is own)

-- the founders that a state keeps are those of the script
pub founders_are : (script : List PlayLine) (scene : Scene) (state : PlayState) → StandsFor script scene state → state.cast.founders.items ≡ founders_of script
unfolding setup_of
founders_are script scene state stands = stands.cast.founders

pub founder_stands : (script : List PlayLine) (state state' : PlayState) (i k : ℕ) (l : PlayLine) (who : Device) (x x' : Seat) → i < length script → l ≡ get_or script i l → opener_by (founders_of script) l.command ≡ Some who
    → StandsFor script (scene_opened script i) state → IsSeatAt state.seats.items k who x → x' ≡ seat_open (setup_of script) first_ring x x.signer → ChangesSeat k x' state state'
    → entries_of state' ≡ entries_of state → StandsFor script (scene_opened script (i + 1)) state'
founder_stands script state state' i k l who x x' low is opener stands at opens changed same =
    let s = setup_of script in
    let fs = founders_of script in
    let scene = scene_opened script i in
    let apart : AreDistinct (devices script) = subst (λ (ds : List Device). AreDistinct ds) (devices_are script) (apart_front s.devices _ (are_distinct _ stands.declared.distinct)) in
    let before : IsNotIn who (openers_by fs (take i script)) = not_opener fs who (take i script) (devices_before script i who l low is (opener_device fs l.command who opener) apart) in
    let closed : scene.world.clients who ≡ None = unopened s start who (openers_by fs (take i script)) before in
    let was = seat_there script scene state k who x stands at in
    let unopen : x.client ≡ None = no_client_in x.client (sym was.client ∙ ap scene.world.clients at.own ∙ closed) in
    let moves : openings fs (take (i + 1) script) ≡ openings fs (take i script) ++ Open who first_ring ∷ [] =
    ap (openings fs) (take_more script i l low is) ∙ openings_append fs (take i script) (l ∷ []) ∙ ap (λ (ms : List Move). openings fs (take i script) ++ ms) (opening_of_one fs l who opener) in
    subst (λ (next : Scene). StandsFor script next state') (sym (ap (scene_moved script) moves ∙ scene_more script (openings fs (take i script)) (Open who first_ring ∷ [])))
    (stands_acted script scene state state' k who x x' (moved (Open who first_ring ∷ [])) stands at (record { moves = (refl, tt); entries = refl })
    (subst (IsSeatOf s (acted s scene (moved (Open who first_ring ∷ [])))) (sym opens)
    (subst (λ (d : Device). IsSeatOf s (acted s scene (moved (Open d first_ring ∷ []))) (seat_open s first_ring x x.signer)) at.own (seat_opened s scene x was unopen)))
    (ap (λ (y : Seat). y.device) opens ∙ own_open s first_ring x x.signer) changed same)

-- a line that is no founder's opens no client
pub other_stands : (script : List PlayLine) (state : PlayState) (i : ℕ) (l : PlayLine) → i < length script → l ≡ get_or script i l → opener_by (founders_of script) l.command ≡ None
    → StandsFor script (scene_opened script i) state → StandsFor script (scene_opened script (i + 1)) state
other_stands script state i l low is other stands =
    let fs = founders_of script in
    let nothing : openings fs (l ∷ []) ≡ [] = ap (λ (o : Option Device). map (λ (who : Device). Open who first_ring) (cons_option o [])) other in
    subst (λ (moves : List Move). StandsFor script (scene_moved script moves) state)
    (sym (append-nil (openings fs (take i script))) ∙ ap (λ (moves : List Move). openings fs (take i script) ++ moves) (sym nothing) ∙ sym (openings_append fs (take i script) (l ∷ [])) ∙ sym (ap (openings fs) (take_more script i l low is)))
    stands
