-- How the lines of a play script are spelled: words with one space between them, numbers in
-- decimal.
use Rattle.std.specs.Prelude.{◌≡◌, ℕ, ◌^◌, ◌<◌, ◌==◌, if◌then◌else◌, List, ◌++◌, codes, true}
use Rattle.std.specs.Prelude.{Option, None, Some}
use Rattle.std.specs.Fmt.{decimal}
use Rattle.std.specs.Str.{all_scalars}
use Rattle.sporc_member.specs.declared.device.Device.{Device}
use Rattle.sporc_member.specs.declared.device.TheConstants.{FIRST_DEVICE}
use Rattle.sporc_member.specs.Device.{IsMember}
use Rattle.sporc_member.specs.Role.{role_name}
use Rattle.sporc_script.specs.declared.command.DevicePair.{DevicePair}
use Rattle.sporc_script.specs.declared.command.Edit.{Edit}
use Rattle.sporc_script.specs.declared.command.Flip.{Flip}
use Rattle.sporc_script.specs.declared.command.Give.{Give}
use Rattle.sporc_script.specs.declared.command.Height.{Height}
use Rattle.sporc_script.specs.declared.command.Height.TheVariants.{Five, Ten}
use Rattle.sporc_script.specs.declared.command.Keyword.{Keyword}
use Rattle.sporc_script.specs.declared.command.Keyword.TheVariants as keywords
use Rattle.sporc_script.specs.declared.member_role.MemberRole.{MemberRole}
use Rattle.sporc_script.specs.declared.command.Pair.{Pair}
use Rattle.sporc_script.specs.declared.command.Restart.{Restart}
use Rattle.sporc_script.specs.declared.roster_change.RosterChange.{RosterChange}
use Rattle.sporc_script.specs.declared.roster_change.RosterChange.TheVariants.{Add, Remove as Leave}
use Rattle.sporc_script.specs.declared.roster_change.RosterChange.TheVariants.{SetRole, AddDevice}
use Rattle.sporc_script.specs.declared.roster_change.RosterChange.TheVariants.{DropDevice, Upgrade}
use Rattle.sporc_script.specs.declared.command.RosterEdit.{RosterEdit}
use Rattle.sporc_script.specs.declared.command.Tree.{Tree}
use Rattle.sporc_script.specs.declared.command.Width.{Width}
use Rattle.sporc_script.specs.declared.command.Width.TheVariants.{Four, Eight}
use Rattle.sporc_script.specs.declared.text_edit.TextEdit.{TextEdit}
use Rattle.sporc_script.specs.declared.text_edit.TextEdit.TheVariants.{Insert, Remove}
use Rattle.sporc_script.specs.declared.text_edit.TextWord.{TextWord}
use Rattle.sporc_script.specs.declared.text_edit.TextWord.TheVariants as text_words
use Rattle.sporc_script.specs.declared.roster_change.RosterWord.{RosterWord}
use Rattle.sporc_script.specs.declared.roster_change.RosterWord.TheVariants as roster_words
use Rattle.sporc_script.specs.Quoted.{quoted}

-- ---- names

abbrev pub keyword_name : Keyword → List ℕ
keyword_name keywords.Tree = codes "tree"
keyword_name keywords.Member = codes "member"
keyword_name keywords.Rogue = codes "rogue"
keyword_name keywords.Joiner = codes "joiner"
keyword_name keywords.Unpaired = codes "unpaired"
keyword_name keywords.Edit = codes "edit"
keyword_name keywords.Change = codes "change"
keyword_name keywords.Discard = codes "discard"
keyword_name keywords.Submit = codes "submit"
keyword_name keywords.Give = codes "give"
keyword_name keywords.Restart = codes "restart"
keyword_name keywords.Join = codes "join"
keyword_name keywords.Show = codes "show"
keyword_name keywords.Members = codes "members"
keyword_name keywords.Hash = codes "hash"
keyword_name keywords.Journal = codes "journal"
keyword_name keywords.Compare = codes "compare"
keyword_name keywords.Flip = codes "flip"
keyword_name keywords.Cut = codes "cut"
keyword_name keywords.Sign = codes "sign"
keyword_name keywords.Device = codes "device"

abbrev pub text_word_name : TextWord → List ℕ
text_word_name text_words.Insert = codes "insert"
text_word_name text_words.Remove = codes "remove"

abbrev pub roster_word_name : RosterWord → List ℕ
roster_word_name roster_words.Add = codes "add"
roster_word_name roster_words.Remove = codes "remove"
roster_word_name roster_words.Role = codes "role"
roster_word_name roster_words.Device = codes "device"
roster_word_name roster_words.DropDevice = codes "drop-device"

abbrev pub height_name : Height → List ℕ
height_name Five = codes "5"
height_name Ten = codes "10"

abbrev pub width_name : Width → List ℕ
width_name Four = codes "4"
width_name Eight = codes "8"

-- ---- devices

-- a device as a word: its member's number alone for the first one
abbrev pub device_text : Device → List ℕ
device_text d =
    if d.number == FIRST_DEVICE then decimal d.member
    else decimal d.member ++ (codes "." ++ decimal d.number)

-- as two words
abbrev pub member_device_spelling : Device → List ℕ
member_device_spelling d = decimal d.member ++ (codes " " ++ decimal d.number)

-- ---- what follows the first word

abbrev pub tree_spelling : Tree → List ℕ
tree_spelling t = height_name t.height ++ (codes " " ++ width_name t.width)

abbrev pub member_role_spelling : MemberRole → List ℕ
member_role_spelling m = decimal m.member ++ (codes " " ++ role_name m.role)

abbrev pub pair_spelling : Pair → List ℕ
pair_spelling p = decimal p.first ++ (codes " " ++ decimal p.second)

abbrev pub device_pair_spelling : DevicePair → List ℕ
device_pair_spelling p = device_text p.first ++ (codes " " ++ device_text p.second)

abbrev pub give_spelling : Give → List ℕ
give_spelling g =
    device_text g.device ++ (codes " " ++ (decimal g.position ++ (codes " " ++ decimal g.entry)))

abbrev pub restart_spelling : Restart → List ℕ
restart_spelling r = device_text r.device ++ (codes " " ++ decimal r.entries)

abbrev pub flip_spelling : Flip → List ℕ
flip_spelling f = decimal f.entry ++ (codes " " ++ decimal f.at)

abbrev pub text_edit_spelling : TextEdit → List ℕ
text_edit_spelling (Insert e) = codes "insert " ++ (decimal e.at ++ (codes " " ++ quoted e.text))
text_edit_spelling (Remove e) = codes "remove " ++ (decimal e.at ++ (codes " " ++ decimal e.count))

-- an edit, and what it is stated on
abbrev pub stated_spelling : Option ℕ → TextEdit → List ℕ
stated_spelling None change = text_edit_spelling change
stated_spelling (Some seen) change =
    codes "seen " ++ (decimal seen ++ (codes " " ++ text_edit_spelling change))

abbrev pub edit_spelling : Edit → List ℕ
edit_spelling e = device_text e.device ++ (codes " " ++ stated_spelling e.seen e.change)

abbrev pub roster_change_spelling : RosterChange → List ℕ
roster_change_spelling (Add m) = codes "add " ++ member_role_spelling m
roster_change_spelling (Leave m) = codes "remove " ++ decimal m
roster_change_spelling (SetRole m) = codes "role " ++ member_role_spelling m
roster_change_spelling (AddDevice d) = codes "device " ++ member_device_spelling d
roster_change_spelling (DropDevice d) = codes "drop-device " ++ member_device_spelling d
roster_change_spelling Upgrade = codes "upgrade"

abbrev pub roster_edit_spelling : RosterEdit → List ℕ
roster_edit_spelling e = device_text e.device ++ (codes " " ++ roster_change_spelling e.change)

-- ---- the values: numbers fit their types, a member's is not 0, and characters are Unicode scalar
-- values

abbrev pub IsDeviceNumber : ℕ → Type 0
IsDeviceNumber n = n < 2 ^ 8

-- of a further device
abbrev pub IsFurtherNumber : ℕ → Type 0
IsFurtherNumber n = (0 < n) × (n < 2 ^ 8)

abbrev pub DeviceInRange : Device → Type 0
DeviceInRange d = IsMember d.member × IsDeviceNumber d.number

abbrev pub FurtherInRange : Device → Type 0
FurtherInRange d = IsMember d.member × IsFurtherNumber d.number

abbrev pub IsU64 : ℕ → Type 0
IsU64 n = n < 2 ^ 64

abbrev pub PairInRange : Pair → Type 0
PairInRange p = IsMember p.first × IsMember p.second

abbrev pub DevicePairInRange : DevicePair → Type 0
DevicePairInRange p = DeviceInRange p.first × DeviceInRange p.second

abbrev pub GiveInRange : Give → Type 0
GiveInRange g = DeviceInRange g.device × (g.position < 2 ^ 32) × IsU64 g.entry

abbrev pub RestartInRange : Restart → Type 0
RestartInRange r = DeviceInRange r.device × IsU64 r.entries

abbrev pub FlipInRange : Flip → Type 0
FlipInRange f = IsU64 f.entry × IsU64 f.at

abbrev pub TextEditInRange : TextEdit → Type 0
TextEditInRange (Insert e) = IsU64 e.at × (all_scalars e.text ≡ true)
TextEditInRange (Remove e) = IsU64 e.at × IsU64 e.count

abbrev pub SeenInRange : Option ℕ → Type 0
SeenInRange None = Unit {0}
SeenInRange (Some seen) = IsU64 seen

abbrev pub EditInRange : Edit → Type 0
EditInRange e = DeviceInRange e.device × SeenInRange e.seen × TextEditInRange e.change

abbrev pub RosterChangeInRange : RosterChange → Type 0
RosterChangeInRange (Add m) = IsMember m.member
RosterChangeInRange (Leave m) = IsMember m
RosterChangeInRange (SetRole m) = IsMember m.member
RosterChangeInRange (AddDevice d) = DeviceInRange d
RosterChangeInRange (DropDevice d) = DeviceInRange d
RosterChangeInRange Upgrade = Unit {0}

abbrev pub RosterEditInRange : RosterEdit → Type 0
RosterEditInRange e = DeviceInRange e.device × RosterChangeInRange e.change
