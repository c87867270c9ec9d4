-- Plays in which clients make all entries are closed: what is handed out was signed by a client of the play.
use Rattle.std.proofs.Common.{◌≡◌, ℕ, Bool, true, false, cond, List, [], ◌∷◌, ◌++◌, length, map, refl, sym, subst, arith, Option, None, Some, Result, Ok, Err, ap, ◌∙◌, append_assoc, ◌≤◌, inr}
use Rattle.sporc_play.proofs.Common.{Contains, if◌then◌else◌, nat_le, AllByRecursion, Contains-append_right, Device, Founder, first_device, insert_by}
use Rattle.sporc_play.proofs.Common.{SubmitFault, Submitted, change_fault, discard_fault, edit_fault, Logged, Change, Discard, Edit, Submit, PlainClient, IsTypedRun}
use Rattle.sporc_play.proofs.Common.{Setup, World, Move, Give, Happen, Open, Restart, after_all, start, happens_to, Mark, IsPlayScript, Command, Tree, MemberRole, all_added, PlayLine, first_ring}
use Rattle.sporc_play.proofs.Common.{founder_of, founders_of, has_admin, member_change, openers_by, public_of, tree_of, change_events, discard_events, edit_logged, logged_unless, moves_from, moves_of}
use Rattle.sporc_play.proofs.Common.{Effect, Scene, effect_of, adds, commands_of, delta_by, edit_events, entry_at, if_open, Joining, Opens, joining_in, joins, nothing, opening, opening_moves, openings}
use Rattle.sporc_play.proofs.Common.{restarts, seen_by, submission_in, all_append, and_parts, InRange, declarations, may_follow, names_performers, Join, IsOneRun, Consumes, IsAtEnd, IfErr}
use Rattle.sporc_play.proofs.Common.{OnOk, OnErr, MAX_SCRIPT, IsWriteCause, PlayOutcome, ReadsScript, ReadsWhole, Reports, ReportsPrefix, Genuine, RosterChange, PlayFault, stay_signed}
use Rattle.sporc_client.specs.Closed.{AreClosed, HasItsKey, IsClosedMove, IsSigned}
use Rattle.sporc_client.specs.Run.{after}
use Rattle.sporc_client.proofs.ClosedRuns.{closed_runs_are_genuine}
use Rattle.sporc_play.specs.Cast.{setup_of}
use Rattle.sporc_play.specs.OwnPlays.{AreByClients, IsByClients}
use Rattle.sporc_play.specs.Scene.{gives, submits}
use Rattle.sporc_play.proofs.Founders.{founders, inserted}
use Rattle.sporc_play.proofs.Places.{all_each}
use Rattle.sporc_play.proofs.Seating.{if_open_has}
use Rattle.sporc_play.proofs.Acts.{change_acts, cut_acts, discard_acts, edit_acts, flip_acts, give_acts, no_act, restart_acts, made_has}
use Rattle.sporc_play.proofs.FirstMoves.{first_run}
use Rattle.sporc_play.proofs.Runs.{MayBe, one_run_of, typed_play}
use Rattle.sporc_play.proofs.SubmitActs.{sign_acts, submit_acts}
use Rattle.sporc_play.proofs.JoinActs.{join_acts}
use Rattle.sporc_play.proofs.Scripts.{Follows, joiner_before, script_follows}
use Rattle.sporc_outside.specs.Uses.{Use}
use Rattle.sporc_outside.specs.Streams.{StreamTold}
use Rattle.sporc_client.specs.declared.submitted.Submitted.TheVariants as submitted
use Rattle.sporc_script.specs.declared.command.Command.TheVariants as commands
use Rattle.sporc_script.specs.declared.roster_change.RosterChange.TheVariants as changes
use Rattle.sporc_play.specs.Scene as scenes
use Rattle.sporc_play.specs.declared.fault.PlayFault.TheVariants as faults

-- ---- a script's play is one run

-- ---- all commands

command_acts : (script : List PlayLine) (c : Command) → InRange c → ((j : Join) → c ≡ commands.Join j → Contains (setup_of script).devices j.device) → MayBe (setup_of script) (λ scene. c)
command_acts script (commands.Edit e) fits among = edit_acts (setup_of script) e fits.2
command_acts script (commands.Change e) fits among = change_acts script e fits.1
command_acts script (commands.Discard who) fits among = discard_acts (setup_of script) who
command_acts script (commands.Submit who) fits among = submit_acts script who
command_acts script (commands.Give g) fits among = give_acts (setup_of script) g
command_acts script (commands.Restart r) fits among = restart_acts (setup_of script) r
command_acts script (commands.Join j) fits among = join_acts (setup_of script) j (among j refl)
command_acts script (commands.Flip f) fits among = flip_acts (setup_of script) f
command_acts script (commands.Cut n) fits among = cut_acts (setup_of script) n
command_acts script (commands.Sign f) fits among = sign_acts script f fits
command_acts script c fits among = λ moves scene come. no_act (setup_of script) scene

-- one whom a line lets join has a device that may open
joiner_there : (before lines : List PlayLine) (c : Command) → may_follow (declarations before) c ≡ true → (j : Join) → c ≡ commands.Join j → Contains (setup_of (before ++ lines)).devices j.device
unfolding setup_of
joiner_there before lines c may j is =
    let here : may_follow (declarations before) (commands.Join j) ≡ true = ap (may_follow (declarations before)) (sym is) ∙ may in
    joiner_before before lines j.device (and_parts (declarations before).has_admin (names_performers (declarations before) (commands.Join j)) here).1

all_act : (script before lines : List PlayLine) → before ++ lines ≡ script → Follows before lines → AllByRecursion (MayBe (setup_of script)) (commands_of lines)
all_act script before [] whole all = tt
all_act script before (l ∷ ls) whole all = (
  command_acts script l.command all.1 (λ j is. subst (λ (s : List PlayLine). Contains (setup_of s).devices j.device) whole (joiner_there before (l ∷ ls) l.command all.0 j is)),
  all_act script (before ++ l ∷ []) ls (append_assoc before (l ∷ []) ls ∙ whole) all.2,
)

pub typed_run : (text : List ℕ) (script : List PlayLine) → IsPlayScript text script → has_admin script ≡ true → IsTypedRun (setup_of script) (moves_of script (commands_of script))
typed_run text script is founded =
    let all = script_follows text script is in typed_play script (commands_of script) (first_run script all founded) (all_act script [] script refl all)

pub one_run : (text : List ℕ) (script : List PlayLine) → IsPlayScript text script → has_admin script ≡ true → IsOneRun script (commands_of script)
one_run text script is founded = one_run_of script (commands_of script) (typed_run text script is founded)

-- ---- what was signed stays signed

stays_signed : (s : Setup) (w : World) (move : Move) (bytes : List ℕ) → IsSigned w bytes → IsSigned (after s w move) bytes
stays_signed s w move bytes (x, there, entry) = (x, stay_signed s w move x there, entry)

all_stay : (s : Setup) (w : World) (moves : List Move) (made : List (List ℕ)) → AllByRecursion (IsSigned w) made → AllByRecursion (IsSigned (after_all s w moves)) made
all_stay s w [] made all = all
all_stay s w (move ∷ moves) made all = all_stay s (after s w move) moves made (all_each (IsSigned w) (IsSigned (after s w move)) made (stays_signed s w move) all)

-- ---- what single commands do

record IsOwn (s : Setup) (scene : Scene) (act : Effect) : Type 0 where
  closed : AreClosed s scene.world act.moves
  made : AllByRecursion (IsSigned (after_all s scene.world act.moves)) act.entries

no_own : (s : Setup) (scene : Scene) → IsOwn s scene nothing
no_own s scene = record { closed = tt; made = tt }

own_if_open : (s : Setup) (scene : Scene) (who : Device) (act : PlainClient → Effect) → ((c : PlainClient) → scene.world.clients who ≡ Some c → IsOwn s scene (act c)) → IsOwn s scene (if_open (scene.world.clients who) act)
own_if_open s scene who act each = if_open_has (IsOwn s scene) (scene.world.clients who) act (no_own s scene) each

own_event : {F : Type 0} (s : Setup) (scene : Scene) (who : Device) (fault : Option F) (event : Logged) → IsClosedMove s scene.world (Happen who event) → IsOwn s scene (adds who (logged_unless fault event))
own_event s scene who None event closed = record { closed = (closed, tt); made = tt }
own_event s scene who (Some fault) event closed = no_own s scene

own_edit : (s : Setup) (scene : Scene) (who : Device) (c : PlainClient) (seen : ℕ) (o : Option (List Mark)) → IsOwn s scene (adds who (edit_logged c seen o))
own_edit s scene who c seen None = no_own s scene
own_edit s scene who c seen (Some marks) = own_event s scene who (edit_fault c seen marks) (Edit 0 seen marks) tt

own_change : (s : Setup) (scene : Scene) (who : Device) (change : RosterChange) → IsClosedMove s scene.world (Happen who (Change 0 (member_change s change)))
own_change s scene who (changes.Add r) = λ among. refl
own_change s scene who (changes.AddDevice d) = λ among. refl
own_change s scene who change = tt

signed_now : (s : Setup) (w : World) (device : Device) (c : PlainClient) (bytes : List ℕ) → w.clients device ≡ Some c → IsSigned (after s w (Happen device (Submit 0 bytes))) bytes
signed_now s w device c bytes at = subst (λ (o : Option PlainClient). IsSigned (happens_to w device (Submit 0 bytes) o) bytes) (sym at)
    (record { who = device; entry = bytes; client = c }, Contains-append_right w.signed (record { who = device; entry = bytes; client = c } ∷ []) (record { who = device; entry = bytes; client = c }) (0, omega arith, refl), refl)

own_submission : (s : Setup) (scene : Scene) (who : Device) (c : PlainClient) (r : Result Submitted SubmitFault) → scene.world.clients who ≡ Some c → IsOwn s scene (submits who r)
own_submission s scene who c (Ok (submitted.Entry bytes)) at = record { closed = (tt, tt); made = (signed_now s scene.world who c bytes at, tt) }
own_submission s scene who c (Ok (submitted.Dropped fault)) at = record { closed = (tt, tt); made = tt }
own_submission s scene who c answer at = no_own s scene

own_give : (s : Setup) (scene : Scene) (who : Device) (position number : ℕ) (o : Option (List ℕ)) → AllByRecursion (IsSigned scene.world) scene.made → entry_at scene.made number ≡ o → IsOwn s scene (gives who position o)
own_give s scene who position number None all at = no_own s scene
own_give s scene who position number (Some bytes) all at = record { closed = (made_has (IsSigned scene.world) scene.made number bytes all at, tt); made = tt }

own_restart : (s : Setup) (scene : Scene) (who : Device) (k : ℕ) (c : PlainClient) → IsOwn s scene (restarts who k c)
own_restart s scene who k c = go (nat_le k (length c.entries))
  where
    go : (b : Bool) → IsOwn s scene (cond b (record { moves = Restart who k ∷ []; entries = [] }) nothing)
    go true = record { closed = (tt, tt); made = tt }
    go false = no_own s scene

own_join : (s : Setup) (scene : Scene) (who : Device) (joining : Joining) → IsOwn s scene (joins who joining)
own_join s scene who (Opens ring) = record { closed = (tt, tt); made = tt }
own_join s scene who joining = no_own s scene

own_act : (s : Setup) (scene : Scene) (c : Command) → IsByClients c → AllByRecursion (IsSigned scene.world) scene.made → IsOwn s scene (effect_of s scene c)
own_act s scene (commands.Edit e) by all = own_if_open s scene e.device (λ c. adds e.device (edit_events e c)) (λ c at. own_edit s scene e.device c (seen_by c e.seen) (delta_by c (seen_by c e.seen) e.change))
own_act s scene (commands.Change e) by all =
    own_if_open s scene e.device (λ c. adds e.device (change_events (member_change s e.change) c))
    (λ c at. own_event s scene e.device (change_fault c) (Change 0 (member_change s e.change)) (own_change s scene e.device e.change))
own_act s scene (commands.Discard who) by all = own_if_open s scene who (λ c. adds who (discard_events c)) (λ c at. own_event s scene who (discard_fault c) (Discard 0) tt)
own_act s scene (commands.Submit who) by all =
    own_if_open s scene who (λ c. submits who (submission_in s scene who c)) (λ c at. own_submission s scene who c (submission_in s scene who c) at)
own_act s scene (commands.Give g) by all =
    own_if_open s scene g.device (λ c. gives g.device g.position (entry_at scene.made g.entry)) (λ c at. own_give s scene g.device g.position g.entry (entry_at scene.made g.entry) all refl)
own_act s scene (commands.Restart r) by all = own_if_open s scene r.device (restarts r.device r.entries) (λ c at. own_restart s scene r.device r.entries c)
own_act s scene (commands.Join j) by all = own_join s scene j.device (joining_in s scene j)
own_act s scene (commands.Flip f) by all = absurd by
own_act s scene (commands.Cut n) by all = absurd by
own_act s scene (commands.Sign f) by all = absurd by
own_act s scene c by all = no_own s scene

-- ---- all commands

closed_append : (s : Setup) (w : World) (xs ys : List Move) → AreClosed s w xs → AreClosed s (after_all s w xs) ys → AreClosed s w (xs ++ ys)
closed_append s w [] ys a b = b
closed_append s w (x ∷ xs) ys a b = (a.0, closed_append s (after s w x) xs ys a.1 b)

-- whatever it sees, it makes no entry but by a client's submission
abbrev pub AlwaysByClients : (Scene → Command) → Type 0
AlwaysByClients command = (scene : Scene) → IsByClients (command scene)

lines_by_clients : (lines : List PlayLine) → AreByClients lines → AllByRecursion AlwaysByClients (commands_of lines)
lines_by_clients [] by = tt
lines_by_clients (l ∷ ls) by = (λ scene. by.0, lines_by_clients ls by.1)

closed_from : (s : Setup) (scene : Scene) (asked : List (Scene → Command)) → AllByRecursion AlwaysByClients asked → AllByRecursion (IsSigned scene.world) scene.made → AreClosed s scene.world (moves_from s scene asked)
closed_from s scene [] by all = tt
closed_from s scene (command ∷ asked) by all =
    let act = effect_of s scene (command scene) in
    let own = own_act s scene (command scene) (by.0 scene) all in
    let world = after_all s scene.world act.moves in
    closed_append s scene.world act.moves (moves_from s (scenes.after s scene (command scene)) asked) own.closed
    (closed_from s (scenes.after s scene (command scene)) asked by.1 (all_append (IsSigned world) scene.made act.entries (all_stay s scene.world act.moves scene.made all) own.made))

openings_closed : (s : Setup) (w : World) (ds : List Device) → AreClosed s w (map (λ (who : Device). Open who first_ring) ds)
openings_closed s w [] = tt
openings_closed s w (who ∷ ds) = (tt, openings_closed s (after s w (Open who first_ring)) ds)

first_closed : (s : Setup) (script : List PlayLine) → AreClosed s start (opening_moves script)
first_closed s script = go (has_admin script)
  where
    go : (b : Bool) → AreClosed s start (if b then openings (founders_of script) script else [])
    go true = openings_closed s start (openers_by (founders_of script) script)
    go false = tt

-- ---- the founders

founders_own : (tree : Tree) (fs : List Founder) (ms : List MemberRole) → AllByRecursion (λ (f : Founder). f.key ≡ public_of tree (first_device f.member)) fs
    → AllByRecursion (λ (f : Founder). f.key ≡ public_of tree (first_device f.member)) (inserted tree fs ms)
founders_own tree fs [] all = all
founders_own tree fs (m ∷ ms) all =
    founders_own tree (insert_by (λ (f : Founder). f.member) (founder_of tree m) fs) ms
    (all_added (λ (f : Founder). f.key ≡ public_of tree (first_device f.member)) (λ (f : Founder). f.member) (founder_of tree m) fs refl all)

founders_keys : (script : List PlayLine) → AllByRecursion (HasItsKey (setup_of script)) (setup_of script).genesis.founders
unfolding setup_of
founders_keys script =
    all_each (λ (f : Founder). f.key ≡ public_of (tree_of script) (first_device f.member)) (HasItsKey (setup_of script)) (inserted (tree_of script) [] (founders script)) (λ f is. λ among. is)
    (founders_own (tree_of script) [] (founders script) tt)

-- no one forges in a run of commands that make no entry but by a client's submission
pub own_commands : (script : List PlayLine) (asked : List (Scene → Command)) → IsTypedRun (setup_of script) (moves_of script asked) → AllByRecursion AlwaysByClients asked → Genuine (setup_of script) (moves_of script asked)
own_commands script asked run by =
    let s = setup_of script in
    closed_runs_are_genuine s (moves_of script asked) run (record {
      founders = founders_keys script;
      closed = closed_append s start (opening_moves script) (moves_from s (opening script) asked) (first_closed s script) (closed_from s (opening script) asked by tt);
    })

pub own_play : (text : List ℕ) (script : List PlayLine) → IsPlayScript text script → has_admin script ≡ true → AreByClients script → Genuine (setup_of script) (moves_of script (commands_of script))
own_play text script is founded by = own_commands script (commands_of script) (typed_run text script is founded) (lines_by_clients script by)

-- ---- what a play did, from what its parts did

reads_script : (source : Use StreamTold) (text : List ℕ) (script : List PlayLine) → ReadsWhole source text → IsPlayScript text script → ReadsScript source script
reads_script source text script whole is = record { text = text; whole = whole; reads = is; one_run = one_run text script is; genuine = own_play text script is }

-- a script whose report was written, or a prefix of it
reported : {T : Type 0} (source : Use StreamTold) (out : Use StreamTold) (script : List PlayLine) (r : Result T PlayFault) → ReadsScript source script
    → OnOk r (Reports script out.before.written out.after.written) → OnErr r (ReportsPrefix script out.before.written out.after.written)
    → IfErr r (IsWriteCause out.before.faults out.after.faults) → PlayOutcome source out r
reported source out script (Ok done) reads ok err cause = (script, reads, ok)
reported source out script (Err faults.Memory) reads ok err cause = inr (script, reads, err)
reported source out script (Err faults.WriteFault) reads ok err cause = (cause, (script, reads, err))
reported source out script r reads ok err cause = absurd cause

pub played : {T : Type 0} (source : Use StreamTold) (out : Use StreamTold) (text seen : List ℕ) (script performed : List PlayLine) (r : Result T PlayFault)
    → Consumes source.before.left source.after.left text → IsAtEnd source.after.left → length text ≤ MAX_SCRIPT → seen ≡ text → IsPlayScript seen script → performed ≡ script
    → OnOk r (Reports performed out.before.written out.after.written) → OnErr r (ReportsPrefix performed out.before.written out.after.written)
    → IfErr r (IsWriteCause out.before.faults out.after.faults) → PlayOutcome source out r
played source out text seen script performed r all ended within same is one ok err cause =
    let whole : ReadsWhole source text = record { all = all; ended = ended; within = within } in
    let reads = reads_script source text performed whole (subst (λ (t : List ℕ). IsPlayScript t performed) same (subst (λ (s : List PlayLine). IsPlayScript seen s) (sym one) is)) in
    reported source out performed r reads ok err cause
