-- The lines that the commands of a script write.
use Rattle.std.specs.Prelude.{◌≡◌, ℕ, ◌+◌, nat_lt, Bool, true, false, List, [], ◌∷◌, ◌++◌, length}
use Rattle.std.specs.Prelude.{codes, slice_get, take, Option, Some, None, Result, Ok, Err, is_ok}
use Rattle.std.specs.Fmt.{decimal}
use Rattle.std.specs.Io.KnownBytes.{Appends}
use Rattle.lms_leaf.specs.declared.faults.LeafFault.{LeafFault}
use Rattle.sporc_delta.specs.Marks.{Mark}
use Rattle.sporc_entry.specs.Genesis.{genesis_bytes}
use Rattle.sporc_hash.specs.Chain.{chain}
use Rattle.sporc_hash.specs.declared.verdict.Verdict.{Verdict}
use Rattle.sporc_member.specs.declared.device.Device.{Device}
use Rattle.sporc_member.specs.ChangeFault.{change_fault_name}
use Rattle.sporc_member.specs.Device.{first_device}
use Rattle.sporc_outside.specs.Writing.{AppendsPrefix}
use Rattle.sporc_client.specs.declared.fault.AcceptFault.{AcceptFault}
use Rattle.sporc_client.specs.declared.fault.EditFault.{EditFault}
use Rattle.sporc_client.specs.declared.fault.SubmitFault.{SubmitFault}
use Rattle.sporc_client.specs.declared.submitted.Submitted.{Submitted}
use Rattle.sporc_client.specs.declared.submitted.Submitted.TheVariants as submitted
use Rattle.sporc_client.specs.Answers.{accept_fault, change_fault, discard_fault, edit_fault}
use Rattle.sporc_client.specs.Log.{journal_of}
use Rattle.sporc_client.specs.PlainClient.{PlainClient, shown_after}
use Rattle.sporc_client.specs.Run.{Setup}
use Rattle.sporc_script.specs.declared.command.Command.{Command}
use Rattle.sporc_script.specs.declared.command.Command.TheVariants as commands
use Rattle.sporc_script.specs.declared.command.Edit.{Edit}
use Rattle.sporc_script.specs.declared.command.DevicePair.{DevicePair}
use Rattle.sporc_script.specs.declared.play_line.PlayLine.{PlayLine}
use Rattle.sporc_script.specs.Spelling.{device_text}
use Rattle.sporc_report.specs.ClientLines.{Stands, compare_line, hash_line, members_line, show_line}
use Rattle.sporc_report.specs.JournalLines.{journal_lines}
use Rattle.sporc_report.specs.Names.{accept_fault_name, edit_fault_name, hint_fault_name}
use Rattle.sporc_report.specs.Names.{open_fault_name, submit_fault_name}
use Rattle.sporc_play.specs.Cast.{setup_of}
use Rattle.sporc_play.specs.Scene.{Joining, AlreadyOpen, NoEntry, NoHints, NotOpened, Opens, Scene}
use Rattle.sporc_play.specs.Scene.{after, delta_by, entry_at, joining_in, leaf_after, opening}
use Rattle.sporc_play.specs.Scene.{seen_by, submission_in}

-- ---- lines that several commands write

abbrev pub not_open_line : Device → List ℕ
not_open_line who = device_text who ++ codes " not open\n"

abbrev pub no_entry_line : ℕ → List ℕ
no_entry_line number = codes "no entry " ++ (decimal number ++ codes "\n")

-- the number of an entry that was made of another
abbrev pub entry_line : ℕ → List ℕ
entry_line next = codes "entry " ++ (decimal next ++ codes "\n")

-- a call that adds an event, unless it is refused; the journal has so many with it
abbrev pub event_line : Device → List ℕ → ℕ → Option EditFault → List ℕ
event_line who word events None =
    device_text who ++ (codes " " ++ (word ++ (codes " event " ++ (decimal events ++ codes "\n"))))
event_line who word events (Some fault) = device_text who
    ++ (codes " " ++ (word ++ (codes " refused " ++ (edit_fault_name fault ++ codes "\n"))))

-- ---- edits, changes and discards

abbrev pub edit_line : Device → PlainClient → ℕ → Option (List Mark) → List ℕ
edit_line who c seen None = device_text who
    ++ (codes " edit outside " ++ (decimal (length (shown_after seen c)) ++ codes "\n"))
edit_line who c seen (Some marks) =
    event_line who (codes "edit") (length c.shown + 1) (edit_fault c seen marks)

-- of what a member sees, or saw
abbrev pub edited_line : Edit → PlainClient → List ℕ
edited_line e c = edit_line e.device c (seen_by c e.seen) (delta_by c (seen_by c e.seen) e.change)

abbrev pub change_line : Device → PlainClient → List ℕ
change_line who c = event_line who (codes "change") (length c.shown + 1) (change_fault c)

abbrev pub discard_line : Device → PlainClient → List ℕ
discard_line who c = event_line who (codes "discard") (length c.shown + 1) (discard_fault c)

-- ---- submissions: the next entry that is made has this number, and the client's last one has that

abbrev pub submit_line : Device → ℕ → ℕ → Result Submitted SubmitFault → List ℕ
submit_line who next last (Ok (submitted.Entry entry)) =
    device_text who ++ (codes " submit entry " ++ (decimal next ++ codes "\n"))
submit_line who next last (Ok submitted.Nothing) = device_text who ++ codes " submit nothing\n"
submit_line who next last (Ok submitted.Waiting) =
    device_text who ++ (codes " submit waiting " ++ (decimal last ++ codes "\n"))
submit_line who next last (Ok (submitted.Dropped fault)) =
    device_text who ++ (codes " submit dropped " ++ (change_fault_name fault ++ codes "\n"))
submit_line who next last (Err fault) =
    device_text who ++ (codes " submit refused " ++ (submit_fault_name fault ++ codes "\n"))

-- ---- what is handed out, and going back

abbrev pub accept_line : Device → ℕ → Option AcceptFault → List ℕ
accept_line who position None =
    device_text who ++ (codes " accept " ++ (decimal position ++ codes " ok\n"))
accept_line who position (Some fault) = device_text who ++ (codes " accept "
    ++ (decimal position ++ (codes " refused " ++ (accept_fault_name fault ++ codes "\n"))))

abbrev pub give_line : Device → ℕ → PlainClient → Option (List ℕ) → List ℕ
give_line who position c None =
    device_text who ++ (codes " accept " ++ (decimal position ++ codes " no entry\n"))
give_line who position c (Some bytes) = accept_line who position (accept_fault c position bytes)

abbrev pub restart_answer : Bool → Device → ℕ → ℕ → List ℕ
restart_answer true who k len = device_text who
    ++ (codes " restart " ++ (decimal k ++ (codes " ahead " ++ (decimal len ++ codes "\n"))))
restart_answer false who k len =
    device_text who ++ (codes " restart " ++ (decimal k ++ codes " ok\n"))

abbrev pub restart_line : Device → ℕ → PlainClient → List ℕ
restart_line who k c = restart_answer (nat_lt (length c.entries) k) who k (length c.entries)

-- ---- joiners

abbrev pub join_line : Device → Joining → List ℕ
join_line who AlreadyOpen = device_text who ++ codes " already open\n"
join_line who (NoEntry number) = no_entry_line number
join_line who (NoHints fault) =
    device_text who ++ (codes " join refused " ++ (hint_fault_name fault ++ codes "\n"))
join_line who (NotOpened fault) =
    device_text who ++ (codes " join refused " ++ (open_fault_name fault ++ codes "\n"))
join_line who (Opens ring) = device_text who ++ codes " join ok\n"

-- ---- how the history of one client stands to another's

abbrev pub hashes_of : PlainClient → List (List ℕ)
hashes_of c = chain (genesis_bytes c.opening.genesis) c.entries

-- if values of both chains meet again after they parted, any place at which they part may stand in
-- the line
abbrev pub Compares : DevicePair → Option PlainClient → Option PlainClient → List ℕ → Type 0
Compares p (Some a) (Some b) line =
    (v : Verdict) × Stands (hashes_of a) (hashes_of b) v × (line ≡ compare_line p v)
Compares p None b line = line ≡ not_open_line p.first
Compares p (Some a) None line = line ≡ not_open_line p.second

-- ---- entries that are changed or forged

abbrev pub flipped_line : ℕ → ℕ → Option ℕ → List ℕ
flipped_line next at None = codes "no byte " ++ (decimal at ++ codes "\n")
flipped_line next at (Some byte) = entry_line next

abbrev pub flip_line : ℕ → ℕ → ℕ → Option (List ℕ) → List ℕ
flip_line next number at None = no_entry_line number
flip_line next number at (Some bytes) = flipped_line next at (slice_get bytes at)

abbrev pub cut_line : ℕ → ℕ → Option (List ℕ) → List ℕ
cut_line next number None = no_entry_line number
cut_line next number (Some bytes) = entry_line next

-- whether a rogue signed
abbrev pub signed_line : Device → ℕ → Bool → List ℕ
signed_line who next true =
    device_text who ++ (codes " sign entry " ++ (decimal next ++ codes "\n"))
signed_line who next false = device_text who ++ codes " sign exhausted\n"

-- by the leaf that it draws
abbrev pub sign_line : Device → ℕ → Result ℕ LeafFault → List ℕ
sign_line who next leaf = signed_line who next (is_ok leaf)

-- ---- commands

-- the line of a call of a client, if there is one
abbrev pub line_by : Device → Option PlainClient → (PlainClient → List ℕ) → List ℕ
line_by who None line = not_open_line who
line_by who (Some c) line = line c

-- the number of the next entry that is made
abbrev pub next_number : Scene → ℕ
next_number scene = length scene.made + 1

-- the line that a command writes in a scene, but for a comparison; a declaration writes none
abbrev pub line_of : Setup → Scene → Command → List ℕ
line_of s scene (commands.Edit e) = line_by e.device (scene.world.clients e.device) (edited_line e)
line_of s scene (commands.Change e) =
    line_by e.device (scene.world.clients e.device) (change_line e.device)
line_of s scene (commands.Discard who) = line_by who (scene.world.clients who) (discard_line who)
line_of s scene (commands.Submit who) = line_by who (scene.world.clients who)
    (λ c. submit_line who (next_number scene) (scene.last who) (submission_in s scene who c))
line_of s scene (commands.Give g) = line_by g.device (scene.world.clients g.device)
    (λ c. give_line g.device g.position c (entry_at scene.made g.entry))
line_of s scene (commands.Restart r) =
    line_by r.device (scene.world.clients r.device) (restart_line r.device r.entries)
line_of s scene (commands.Join j) = join_line j.device (joining_in s scene j)
line_of s scene (commands.Show who) = line_by who (scene.world.clients who) (show_line who)
line_of s scene (commands.Members who) = line_by who (scene.world.clients who) (members_line who)
line_of s scene (commands.Journal who) =
    line_by who (scene.world.clients who) (λ c. journal_lines (journal_of (scene.logs who)))
line_of s scene (commands.Hash who) = line_by who (scene.world.clients who) (hash_line who)
line_of s scene (commands.Flip f) =
    flip_line (next_number scene) f.entry f.at (entry_at scene.made f.entry)
line_of s scene (commands.Cut number) =
    cut_line (next_number scene) number (entry_at scene.made number)
line_of s scene (commands.Sign f) =
    let rogue = first_device f.member in
    line_by f.from (scene.world.clients f.from)
    (λ c. sign_line rogue (next_number scene) (leaf_after (s.private rogue) (scene.leaves rogue)))
line_of s scene command = []

-- a line that the command may write
abbrev pub Writes : Setup → Scene → Command → List ℕ → Type 0
Writes s scene (commands.Compare p) line =
    Compares p (scene.world.clients p.first) (scene.world.clients p.second) line
Writes s scene command line = line ≡ line_of s scene command

-- ---- scripts

-- the lines of commands, performed one after another from a scene on
abbrev pub ReportsFrom : Setup → Scene → List PlayLine → List ℕ → Type 0
ReportsFrom s scene [] report = report ≡ []
ReportsFrom s scene (l ∷ ls) report =
    (line : List ℕ) × (rest : List ℕ) × Writes s scene l.command line
    × ReportsFrom s (after s scene l.command) ls rest × (report ≡ line ++ rest)

-- the report of a script was written, nothing else
abbrev pub Reports : List PlayLine → Option (List ℕ) → Option (List ℕ) → Type 0
Reports script written written' = (report : List ℕ)
    × ReportsFrom (setup_of script) (opening script) script report × Appends written written' report

-- a prefix of the report of its first n lines was written, nothing else
abbrev pub ReportsPrefix : List PlayLine → Option (List ℕ) → Option (List ℕ) → Type 0
ReportsPrefix script written written' = (n : ℕ) × (report : List ℕ)
    × ReportsFrom (setup_of script) (opening script) (take n script) report
    × AppendsPrefix written written' report
