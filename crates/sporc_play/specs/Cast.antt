-- What the declarations of a script say: who takes part, and what each was given.
use Rattle.std.specs.Prelude.{ℕ, ◌==◌, Bool, ◌&&◌, ◌||◌, List, [], ◌∷◌, fold, filter_map, Option}
use Rattle.std.specs.Prelude.{None, Some, if◌then◌else◌}
use Rattle.std.specs.FinMap.{empty, insert}
use Rattle.std.specs.List.{list_any}
use Rattle.lms_ots.specs.declared.ots_type.OtsType.{OtsType}
use Rattle.lms_ots.specs.declared.ots_type.OtsType.TheVariants.{W4, W8}
use Rattle.lms_tree.specs.declared.lms_type.LmsType.{LmsType}
use Rattle.lms_tree.specs.declared.lms_type.LmsType.TheVariants.{H5, H10}
use Rattle.lms_tree.specs.LmsPrivate.{LmsPrivate, lms_public_of}
use Rattle.lms_tree.specs.LmsPublic.{public_key_bytes}
use Rattle.sporc_hash.specs.Chain.{commitment_of}
use Rattle.sporc_member.specs.declared.change.Change.{Change as MemberChange}
use Rattle.sporc_member.specs.declared.change.Change.TheVariants as member_changes
use Rattle.sporc_member.specs.declared.device.Device.{Device}
use Rattle.sporc_member.specs.declared.founder.Founder.{Founder}
use Rattle.sporc_member.specs.Device.{first_device}
use Rattle.sporc_member.specs.Lists.{insert_by}
use Rattle.sporc_entry.specs.declared.genesis.Genesis.{Genesis}
use Rattle.sporc_entry.specs.Genesis.{has_admin_founder}
use Rattle.sporc_epoch.specs.Keys.{Keys}
use Rattle.sporc_client.specs.Run.{Setup, key_of_device}
use Rattle.sporc_script.specs.declared.command.Command.{Command}
use Rattle.sporc_script.specs.declared.command.Command.TheVariants as commands
use Rattle.sporc_script.specs.declared.command.Height.{Height}
use Rattle.sporc_script.specs.declared.command.Height.TheVariants.{Five, Ten}
use Rattle.sporc_script.specs.declared.command.Pair.{Pair}
use Rattle.sporc_script.specs.declared.command.Tree.{Tree}
use Rattle.sporc_script.specs.declared.command.Width.{Width}
use Rattle.sporc_script.specs.declared.command.Width.TheVariants.{Four, Eight}
use Rattle.sporc_script.specs.declared.member_role.MemberRole.{MemberRole}
use Rattle.sporc_script.specs.declared.roster_change.RosterChange.{RosterChange}
use Rattle.sporc_script.specs.declared.roster_change.RosterChange.TheVariants as changes
use Rattle.sporc_script.specs.declared.play_line.PlayLine.{PlayLine}
use Rattle.sporc_play.specs.Derived.{document_number, first_key, identifier_of, pair_key, seed_of}

-- ---- what single lines declare

-- a founder's number and role
abbrev pub founder_by : Command → Option MemberRole
founder_by (commands.Member m) = Some m
founder_by (commands.Rogue m) = Some m
founder_by command = None

-- a device that has or may get a client
abbrev pub device_by : Command → Option Device
device_by (commands.Member m) = Some (first_device m.member)
device_by (commands.Joiner m) = Some (first_device m)
device_by (commands.Device device) = Some device
device_by command = None

-- the device of one for whom the script signs
abbrev pub rogue_by : Command → Option Device
rogue_by (commands.Rogue m) = Some (first_device m.member)
rogue_by command = None

-- anyone who is declared
abbrev pub declared_member : Command → Option ℕ
declared_member (commands.Member m) = Some m.member
declared_member (commands.Rogue m) = Some m.member
declared_member (commands.Joiner m) = Some m
declared_member command = None

abbrev pub unpaired_by : Command → Option Pair
unpaired_by (commands.Unpaired p) = Some p
unpaired_by command = None

-- ---- the trees of signatures

abbrev pub lms_type_of : Height → LmsType
lms_type_of Five = H5
lms_type_of Ten = H10

abbrev pub ots_type_of : Width → OtsType
ots_type_of Four = W4
ots_type_of Eight = W8

-- the sizes that the first line says, or else 5 and 4
abbrev pub tree_by : Command → Tree
tree_by (commands.Tree t) = t
tree_by command = record { height = Five; width = Four }

abbrev pub tree_of : List PlayLine → Tree
tree_of [] = record { height = Five; width = Four }
tree_of (line ∷ lines) = tree_by line.command

abbrev pub private_of : Tree → Device → LmsPrivate
private_of tree device = record {
  lms = lms_type_of tree.height;
  ots = ots_type_of tree.width;
  id = identifier_of device;
  seed = seed_of device;
}

abbrev pub public_of : Tree → Device → List ℕ
public_of tree device = public_key_bytes (lms_public_of (private_of tree device))

-- ---- the members

abbrev pub founder_of : Tree → MemberRole → Founder
founder_of tree m =
    record { member = m.member; role = m.role; key = public_of tree (first_device m.member) }

-- the founders of these lines, in ascending order of their numbers
abbrev pub founders_by : Tree → List PlayLine → List Founder
founders_by tree lines = fold (λ founders m. insert_by (λ f. f.member) (founder_of tree m) founders)
    [] (filter_map (λ l. founder_by l.command) lines)

abbrev pub founders_of : List PlayLine → List Founder
founders_of script = founders_by (tree_of script) script

-- without an admin there is no document, and no command may follow
abbrev pub has_admin : List PlayLine → Bool
has_admin script = has_admin_founder (founders_of script)

abbrev pub is_founder : List Founder → ℕ → Bool
is_founder founders member = list_any (λ f. f.member == member) founders

-- the devices that have a client from the beginning, if a founder is an admin: those of founders
abbrev pub opener_by : List Founder → Command → Option Device
opener_by founders (commands.Member m) = Some (first_device m.member)
opener_by founders (commands.Device device) =
    if is_founder founders device.member then Some device else None
opener_by founders command = None

abbrev pub openers_by : List Founder → List PlayLine → List Device
openers_by founders lines = filter_map (λ l. opener_by founders l.command) lines

-- the devices of those for whom the script signs
abbrev pub rogues_of : List PlayLine → List Device
rogues_of script = filter_map (λ l. rogue_by l.command) script

-- ---- the keys that members share

abbrev pub is_pair : ℕ → ℕ → Pair → Bool
is_pair one other p = (p.first == one && p.second == other) || (p.first == other && p.second == one)

-- keys with the one for another member, unless the two are unpaired
abbrev pub with_pair : List Pair → ℕ → Keys → ℕ → Keys
with_pair unpaired member keys other =
    if list_any (is_pair member other) unpaired then keys
    else insert keys other (pair_key member other)

-- those that a member shares with all of these, but for the pairs that have none
abbrev pub pairs_among : List ℕ → List Pair → ℕ → Keys
pairs_among members unpaired member = fold (with_pair unpaired member) empty members

-- with everyone who is declared, unless a line takes the key away
abbrev pub pairs_of : List PlayLine → ℕ → Keys
pairs_of script member = pairs_among (filter_map (λ l. declared_member l.command) script)
    (filter_map (λ l. unpaired_by l.command) script) member

-- ---- the document

abbrev pub first_ring : Keys
first_ring = insert empty 0 first_key

abbrev pub genesis_by : List Founder → Genesis
genesis_by founders = record {
  document = document_number;
  commitment = commitment_of document_number 0 first_key;
  founders = founders;
}

abbrev pub genesis_of : List PlayLine → Genesis
genesis_of script = genesis_by (founders_of script)

-- what the clients of a script are opened with
unfoldable pub setup_of : List PlayLine → Setup
setup_of script = record {
  genesis = genesis_of script;
  devices = filter_map (λ l. device_by l.command) script;
  pairs = λ who. pairs_of script who.member;
  private = private_of (tree_of script);
}

-- a change of the members; the key of a new one, and of a further device, is its own
abbrev pub member_change : Setup → RosterChange → MemberChange
member_change s (changes.Add m) =
    member_changes.Add m.member m.role (key_of_device s (first_device m.member))
member_change s (changes.Remove member) = member_changes.Remove member
member_change s (changes.SetRole m) = member_changes.SetRole m.member m.role
member_change s (changes.AddDevice device) =
    member_changes.AddDevice device.member device.number (key_of_device s device)
member_change s (changes.DropDevice device) = member_changes.DropDevice device.member device.number
member_change s changes.Upgrade = member_changes.Upgrade
