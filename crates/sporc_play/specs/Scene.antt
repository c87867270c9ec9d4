-- What the commands of a script do: each acts on the clients by its moves.
use Rattle.std.specs.Prelude.{ℕ, zero, suc, ◌+◌, ◌-◌, ◌^◌, nat_le, nat_lt, List, [], ◌∷◌, ◌++◌}
use Rattle.std.specs.Prelude.{length, map, take, fold, set, slice_get, bit_xor, Option, None, Some}
use Rattle.std.specs.Prelude.{Result, Ok, Err, if◌then◌else◌}
use Rattle.std.specs.FinMap.{get}
use Rattle.std.specs.Str.{encode_utf8_all}
use Rattle.lms_leaf.specs.declared.faults.LeafFault.{LeafFault}
use Rattle.lms_leaf.specs.declared.faults.LeafFault.TheVariants.{Exhausted}
use Rattle.lms_tree.specs.LmsPrivate.{LmsPrivate}
use Rattle.lms_tree.specs.LmsType.{height_of}
use Rattle.sporc_base.specs.FirstFault.{first_of}
use Rattle.sporc_delta.specs.Marks.{Mark, insertion, removal}
use Rattle.sporc_member.specs.declared.device.Device.{Device}
use Rattle.sporc_member.specs.declared.founder.Founder.{Founder}
use Rattle.sporc_member.specs.Device.{first_device, same_device}
use Rattle.sporc_epoch.specs.Hints.{hints_of}
use Rattle.sporc_epoch.specs.Keys.{Keys}
use Rattle.sporc_epoch.specs.declared.fault.HintFault.{HintFault}
use Rattle.sporc_line.specs.Openings.{open_checks}
use Rattle.sporc_line.specs.declared.fault.LineOpenFault.{LineOpenFault}
use Rattle.sporc_client.specs.declared.fault.SubmitFault.{SubmitFault}
use Rattle.sporc_client.specs.declared.submitted.Submitted.{Submitted}
use Rattle.sporc_client.specs.ClientModel.{ClientModel}
use Rattle.sporc_client.specs.Log.{Logged}
use Rattle.sporc_client.specs.PlainClient.{PlainClient, shown_after}
use Rattle.sporc_client.specs.Run.{Setup, World, Move, Open, Happen, Give, Restart, after_all}
use Rattle.sporc_client.specs.Run.{start}
use Rattle.sporc_client.specs.Submissions.{entries_made, submission, submission_added}
use Rattle.sporc_script.specs.declared.command.Command.{Command}
use Rattle.sporc_script.specs.declared.command.Command.TheVariants as commands
use Rattle.sporc_script.specs.declared.command.Edit.{Edit}
use Rattle.sporc_script.specs.declared.command.Join.{Join}
use Rattle.sporc_script.specs.declared.play_line.PlayLine.{PlayLine}
use Rattle.sporc_script.specs.declared.text_edit.TextEdit.{TextEdit}
use Rattle.sporc_script.specs.declared.text_edit.TextEdit.TheVariants.{Insert, Remove}
use Rattle.sporc_script.specs.declared.sign.What.{What}
use Rattle.sporc_script.specs.declared.sign.What.TheVariants as whats
use Rattle.sporc_play.specs.Cast.{first_ring, founders_of, has_admin, member_change, openers_by}
use Rattle.sporc_play.specs.Cast.{setup_of}
use Rattle.sporc_play.specs.Derived.{random_of}
use Rattle.sporc_play.specs.Forged.{forged_entry}
use Rattle.sporc_play.specs.Logs.{change_events, discard_events, edit_logged, logs_after}

pub record Scene : Type 0 where
  -- the clients of devices, and all that they signed
  pub world : World
  -- the log of each client
  pub logs : Device → List Logged
  -- all entries, in the order in which they were made
  pub made : List (List ℕ)
  -- the number of the entry that each client made last
  pub last : Device → ℕ
  -- how often each device was to submit or to sign, and how many of its leaves have signed
  pub asked : Device → ℕ
  pub leaves : Device → ℕ

-- what a command does to the clients, and the entries that it makes
pub record Effect : Type 0 where
  pub moves : List Move
  pub entries : List (List ℕ)

abbrev pub nothing : Effect
nothing = record { moves = []; entries = [] }

abbrev pub moved : List Move → Effect
moved moves = record { moves = moves; entries = [] }

abbrev pub made_entry : List ℕ → Effect
made_entry bytes = record { moves = []; entries = bytes ∷ [] }

-- a client adds these events
abbrev pub adds : Device → List Logged → Effect
adds who events = moved (map (Happen who) events)

-- entry E, counted from 1
abbrev pub entry_at : List (List ℕ) → ℕ → Option (List ℕ)
entry_at made zero = None
entry_at made (suc n) = slice_get made n

-- ---- edits and changes

-- the delta of an edit of a text of this length, unless the edit lies outside it
abbrev pub marks_of : TextEdit → ℕ → Option (List Mark)
marks_of (Insert e) len = if nat_le e.at len then Some (insertion len e.at e.text) else None
marks_of (Remove e) len =
    if nat_le (e.at + e.count) len then Some (removal len e.at e.count) else None

-- how many bytes the text of an edit has
abbrev pub edit_size : TextEdit → ℕ
edit_size (Insert e) = length (encode_utf8_all e.text)
edit_size (Remove e) = 0

-- how many events an edit has seen: all, unless it says so
abbrev pub seen_by : PlainClient → Option ℕ → ℕ
seen_by c None = length c.shown
seen_by c (Some seen) = seen

-- the delta that a client is called with. One who has seen more events than there are asks for the
-- empty delta
abbrev pub delta_by : PlainClient → ℕ → TextEdit → Option (List Mark)
delta_by c seen edit =
    if nat_lt (length c.shown) seen then Some [] else marks_of edit (length (shown_after seen c))

-- what an edit adds to the log of its client
abbrev pub edit_events : Edit → PlainClient → List Logged
edit_events e c = edit_logged c (seen_by c e.seen) (delta_by c (seen_by c e.seen) e.change)

-- ---- submissions

-- the leaf that a signer with this key draws after so many
abbrev pub leaf_after : LmsPrivate → ℕ → Result ℕ LeafFault
leaf_after key n = if nat_lt n (2 ^ height_of key.lms) then Ok n else Err (Exhausted n)

-- the leaf that a client draws next
abbrev pub leaf_next : {D : Type 0} → ClientModel D → Result ℕ LeafFault
leaf_next c = leaf_after c.opening.key c.leaves.next

-- the answer to a submission in a scene
abbrev pub submission_in : Setup → Scene → Device → PlainClient → Result Submitted SubmitFault
submission_in s scene who c = submission c (random_of who (scene.asked who + 1))
    (leaf_after (s.private who) (scene.leaves who))

abbrev pub submits : Device → Result Submitted SubmitFault → Effect
submits who answer =
    record { moves = map (Happen who) (submission_added 0 answer); entries = entries_made answer }

-- ---- what is handed out

abbrev pub gives : Device → ℕ → Option (List ℕ) → Effect
gives who position None = nothing
gives who position (Some bytes) = moved (Give who position bytes ∷ [])

abbrev pub restarts : Device → ℕ → PlainClient → Effect
restarts who k c = if nat_le k (length c.entries) then moved (Restart who k ∷ []) else nothing

-- ---- joiners

-- entries by their numbers, or the first number that none has
abbrev pub with_entry : ℕ → Option (List ℕ) → Result (List (List ℕ)) ℕ → Result (List (List ℕ)) ℕ
with_entry number None rest = Err number
with_entry number (Some bytes) (Ok entries) = Ok (bytes ∷ entries)
with_entry number (Some bytes) (Err missing) = Err missing

abbrev pub entries_at : List (List ℕ) → List ℕ → Result (List (List ℕ)) ℕ
entries_at made [] = Ok []
entries_at made (number ∷ numbers) =
    with_entry number (entry_at made number) (entries_at made numbers)

-- what becomes of a device that joins
pub data Joining : Type 0 where
  -- it has a client already
  AlreadyOpen : Joining
  -- the first number that no entry has
  NoEntry : ℕ → Joining
  -- why the entries give no hints
  NoHints : HintFault → Joining
  -- why its line does not open with the ring that they give
  NotOpened : LineOpenFault → Joining
  -- its client opens with that ring
  Opens : Keys → Joining

abbrev pub joining_with : Keys → Option LineOpenFault → Joining
joining_with ring None = Opens ring
joining_with ring (Some fault) = NotOpened fault

abbrev pub joining_by : Setup → Result Keys HintFault → Joining
joining_by s (Ok ring) = joining_with ring (first_of (open_checks s.genesis (get ring 0)))
joining_by s (Err fault) = NoHints fault

abbrev pub joining_from : Setup → Device → Result (List (List ℕ)) ℕ → Joining
joining_from s who (Ok entries) = joining_by s (hints_of entries who.member (s.pairs who))
joining_from s who (Err missing) = NoEntry missing

-- one that has a client already does not join
abbrev pub joining_of : Setup → Device → Result (List (List ℕ)) ℕ → Option PlainClient → Joining
joining_of s who entries (Some c) = AlreadyOpen
joining_of s who entries None = joining_from s who entries

abbrev pub joining_in : Setup → Scene → Join → Joining
joining_in s scene j =
    joining_of s j.device (entries_at scene.made j.entries) (scene.world.clients j.device)

abbrev pub joins : Device → Joining → Effect
joins who (Opens ring) = moved (Open who ring ∷ [])
joins who joining = nothing

-- ---- entries that are changed

-- a byte with its lowest bit changed
abbrev pub flipped : ℕ → ℕ
flipped byte = bit_xor byte 1

abbrev pub flip_byte : List ℕ → ℕ → Option ℕ → Effect
flip_byte bytes at None = nothing
flip_byte bytes at (Some byte) = made_entry (set bytes at (flipped byte))

abbrev pub flips : ℕ → Option (List ℕ) → Effect
flips at None = nothing
flips at (Some bytes) = flip_byte bytes at (slice_get bytes at)

abbrev pub cuts : Option (List ℕ) → Effect
cuts None = nothing
cuts (Some bytes) = made_entry (take (length bytes - 1) bytes)

-- ---- rogues

abbrev pub signs_by : Option (List ℕ) → Effect
signs_by None = nothing
signs_by (Some bytes) = made_entry bytes

-- ---- commands

-- what a call of a client does, if there is one
abbrev pub if_open : Option PlainClient → (PlainClient → Effect) → Effect
if_open None effect = nothing
if_open (Some c) effect = effect c

abbrev pub effect_of : Setup → Scene → Command → Effect
effect_of s scene (commands.Edit e) =
    if_open (scene.world.clients e.device) (λ c. adds e.device (edit_events e c))
effect_of s scene (commands.Change e) = if_open (scene.world.clients e.device)
    (λ c. adds e.device (change_events (member_change s e.change) c))
effect_of s scene (commands.Discard who) =
    if_open (scene.world.clients who) (λ c. adds who (discard_events c))
effect_of s scene (commands.Submit who) =
    if_open (scene.world.clients who) (λ c. submits who (submission_in s scene who c))
effect_of s scene (commands.Give g) = if_open (scene.world.clients g.device)
    (λ c. gives g.device g.position (entry_at scene.made g.entry))
effect_of s scene (commands.Restart r) =
    if_open (scene.world.clients r.device) (restarts r.device r.entries)
effect_of s scene (commands.Join j) = joins j.device (joining_in s scene j)
effect_of s scene (commands.Flip f) = flips f.at (entry_at scene.made f.entry)
effect_of s scene (commands.Cut entry) = cuts (entry_at scene.made entry)
effect_of s scene (commands.Sign f) =
    let rogue = first_device f.member in
    if_open (scene.world.clients f.from) (λ c. signs_by (forged_entry s c f (scene.asked rogue + 1)
    (leaf_after (s.private rogue) (scene.leaves rogue))))
effect_of s scene command = nothing

-- how many bytes the text or the payload of a command has
abbrev pub what_size : What → ℕ
what_size (whats.Insert e) = length (encode_utf8_all e.text)
what_size (whats.Raw payload) = length payload
what_size (whats.Change change) = 0

abbrev pub text_size : Command → ℕ
text_size (commands.Edit e) = edit_size e.change
text_size (commands.Sign f) = what_size f.signed.what
text_size command = 0

-- who is to submit or to sign by a command
abbrev pub signer_of : Command → Option Device
signer_of (commands.Submit who) = Some who
signer_of (commands.Sign f) = Some (first_device f.member)
signer_of command = None

-- counts, with so many more of one device's
abbrev pub with_more : (Device → ℕ) → Option Device → ℕ → Device → ℕ
with_more counts None more other = counts other
with_more counts (Some who) more other =
    if same_device other who then counts other + more else counts other

-- the number of the entry that a device's client made last, if it has just made these
abbrev pub last_made : (Device → ℕ) → Device → ℕ → List (List ℕ) → Device → ℕ
last_made last who next [] other = last other
last_made last who next (entry ∷ entries) other = if same_device other who then next else last other

-- those numbers after a command whose entries get numbers from the next on
abbrev pub last_by : (Device → ℕ) → Command → ℕ → List (List ℕ) → Device → ℕ
last_by last (commands.Submit who) next entries = last_made last who next entries
last_by last command next entries = last

-- a scene after a command
abbrev pub performed : Setup → Scene → Command → Effect → Scene
performed s scene command effect = record {
  world = after_all s scene.world effect.moves;
  logs = logs_after s scene.world scene.logs effect.moves;
  made = scene.made ++ effect.entries;
  last = last_by scene.last command (length scene.made + 1) effect.entries;
  asked = with_more scene.asked (signer_of command) 1;
  leaves = with_more scene.leaves (signer_of command) (length effect.entries);
}

abbrev pub after : Setup → Scene → Command → Scene
after s scene command = performed s scene command (effect_of s scene command)

-- the devices of these founders that these lines declare open their clients
abbrev pub openings : List Founder → List PlayLine → List Move
openings founders lines = map (λ who. Open who first_ring) (openers_by founders lines)

-- the scene after moves of the members of a script, before any command
abbrev pub scene_moved : List PlayLine → List Move → Scene
scene_moved script moves = record {
  world = after_all (setup_of script) start moves;
  logs = logs_after (setup_of script) start (λ who. []) moves;
  made = [];
  last = λ who. 0;
  asked = λ who. 0;
  leaves = λ who. 0;
}

-- the founders open their clients, if one of them is an admin
abbrev pub opening_moves : List PlayLine → List Move
opening_moves script = if has_admin script then openings (founders_of script) script else []

abbrev pub opening : List PlayLine → Scene
opening script = scene_moved script (opening_moves script)

-- the scene in which the clients of the first n lines of a script are open
abbrev pub scene_opened : List PlayLine → ℕ → Scene
scene_opened script n = scene_moved script (openings (founders_of script) (take n script))

-- a scene after commands, each of which may depend on the scene that it is performed in
abbrev pub after_each : Setup → Scene → List (Scene → Command) → Scene
after_each s scene commands = fold (λ now command. after s now (command now)) scene commands

-- the commands of a script, which depend on no scene
abbrev pub commands_of : List PlayLine → List (Scene → Command)
commands_of script = map (λ line scene. line.command) script
