-- The lines of a play script: how each is spelled, and how it is read.
use Rattle.std.specs.Prelude.{◌≡◌, ℕ, List, ◌++◌, codes, Option, option_map}
use Rattle.std.specs.Fmt.{decimal}
use Rattle.sporc_script.specs.declared.command.Command.{Command}
use Rattle.sporc_script.specs.declared.command.Command.TheVariants as commands
use Rattle.sporc_script.specs.declared.command.Keyword.{Keyword}
use Rattle.sporc_script.specs.declared.command.Keyword.TheVariants as keywords
use Rattle.sporc_script.specs.Edits.{edit_of, roster_edit_of}
use Rattle.sporc_script.specs.Numbers.{JoinInRange, join_of, join_spelling}
use Rattle.sporc_script.specs.Plain.{flip_of, further_device_of, give_of, keyword_of}
use Rattle.sporc_script.specs.Plain.{member_role_of, restart_of, tree_of, two_devices_of}
use Rattle.sporc_script.specs.Plain.{two_members_of}
use Rattle.sporc_script.specs.Readers.{device_of, keyed_of, member_of}
use Rattle.sporc_script.specs.Signs.{ForgeryInRange, forgery_of, forgery_spelling}
use Rattle.sporc_member.specs.Device.{IsMember}
use Rattle.sporc_script.specs.Spelling.{DeviceInRange, DevicePairInRange, EditInRange, FlipInRange}
use Rattle.sporc_script.specs.Spelling.{FurtherInRange, GiveInRange, IsU64, PairInRange}
use Rattle.sporc_script.specs.Spelling.{RestartInRange, RosterEditInRange, device_pair_spelling}
use Rattle.sporc_script.specs.Spelling.{device_text, edit_spelling, flip_spelling, give_spelling}
use Rattle.sporc_script.specs.Spelling.{member_device_spelling, member_role_spelling, pair_spelling}
use Rattle.sporc_script.specs.Spelling.{restart_spelling, roster_edit_spelling, tree_spelling}
use Rattle.sporc_script.specs.Words.{number_of}

abbrev pub spelling : Command → List ℕ
spelling (commands.Tree t) = codes "tree " ++ tree_spelling t
spelling (commands.Member m) = codes "member " ++ member_role_spelling m
spelling (commands.Rogue m) = codes "rogue " ++ member_role_spelling m
spelling (commands.Joiner m) = codes "joiner " ++ decimal m
spelling (commands.Unpaired p) = codes "unpaired " ++ pair_spelling p
spelling (commands.Edit e) = codes "edit " ++ edit_spelling e
spelling (commands.Change e) = codes "change " ++ roster_edit_spelling e
spelling (commands.Discard d) = codes "discard " ++ device_text d
spelling (commands.Submit d) = codes "submit " ++ device_text d
spelling (commands.Give g) = codes "give " ++ give_spelling g
spelling (commands.Restart r) = codes "restart " ++ restart_spelling r
spelling (commands.Join j) = codes "join " ++ join_spelling j
spelling (commands.Show d) = codes "show " ++ device_text d
spelling (commands.Members d) = codes "members " ++ device_text d
spelling (commands.Hash d) = codes "hash " ++ device_text d
spelling (commands.Journal d) = codes "journal " ++ device_text d
spelling (commands.Compare p) = codes "compare " ++ device_pair_spelling p
spelling (commands.Flip f) = codes "flip " ++ flip_spelling f
spelling (commands.Cut e) = codes "cut " ++ decimal e
spelling (commands.Sign f) = codes "sign " ++ forgery_spelling f
spelling (commands.Device d) = codes "device " ++ member_device_spelling d

-- numbers fit their types, and texts and bytes are such
abbrev pub InRange : Command → Type 0
InRange (commands.Tree t) = Unit {0}
InRange (commands.Member m) = IsMember m.member
InRange (commands.Rogue m) = IsMember m.member
InRange (commands.Joiner m) = IsMember m
InRange (commands.Unpaired p) = PairInRange p
InRange (commands.Edit e) = EditInRange e
InRange (commands.Change e) = RosterEditInRange e
InRange (commands.Discard d) = DeviceInRange d
InRange (commands.Submit d) = DeviceInRange d
InRange (commands.Give g) = GiveInRange g
InRange (commands.Restart r) = RestartInRange r
InRange (commands.Join j) = JoinInRange j
InRange (commands.Show d) = DeviceInRange d
InRange (commands.Members d) = DeviceInRange d
InRange (commands.Hash d) = DeviceInRange d
InRange (commands.Journal d) = DeviceInRange d
InRange (commands.Compare p) = DevicePairInRange p
InRange (commands.Flip f) = FlipInRange f
InRange (commands.Cut e) = IsU64 e
InRange (commands.Sign f) = ForgeryInRange f
InRange (commands.Device d) = FurtherInRange d

-- the bytes are the spelling of the command
abbrev pub Spells : List ℕ → Command → Type 0
Spells bytes command = InRange command × (bytes ≡ spelling command)

-- ---- reading

abbrev pub command_with : Keyword → List ℕ → Option Command
command_with keywords.Tree words = option_map commands.Tree (tree_of words)
command_with keywords.Member words = option_map commands.Member (member_role_of words)
command_with keywords.Rogue words = option_map commands.Rogue (member_role_of words)
command_with keywords.Joiner words = option_map commands.Joiner (member_of words)
command_with keywords.Unpaired words = option_map commands.Unpaired (two_members_of words)
command_with keywords.Edit words = option_map commands.Edit (edit_of words)
command_with keywords.Change words = option_map commands.Change (roster_edit_of words)
command_with keywords.Discard words = option_map commands.Discard (device_of words)
command_with keywords.Submit words = option_map commands.Submit (device_of words)
command_with keywords.Give words = option_map commands.Give (give_of words)
command_with keywords.Restart words = option_map commands.Restart (restart_of words)
command_with keywords.Join words = option_map commands.Join (join_of words)
command_with keywords.Show words = option_map commands.Show (device_of words)
command_with keywords.Members words = option_map commands.Members (device_of words)
command_with keywords.Hash words = option_map commands.Hash (device_of words)
command_with keywords.Journal words = option_map commands.Journal (device_of words)
command_with keywords.Compare words = option_map commands.Compare (two_devices_of words)
command_with keywords.Flip words = option_map commands.Flip (flip_of words)
command_with keywords.Cut words = option_map commands.Cut (number_of words)
command_with keywords.Sign words = option_map commands.Sign (forgery_of words)
command_with keywords.Device words = option_map commands.Device (further_device_of words)

-- the command that the line spells
unfoldable pub command_of : List ℕ → Option Command
command_of line = keyed_of keyword_of command_with line
