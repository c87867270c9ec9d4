-- The lines that tell what a client shows, who its members are, and how its history stands to
-- another's.
use Rattle.std.specs.Prelude.{ℕ, ◌==◌, ◌&&◌, if◌then◌else◌, Bool, true, false, List, [], ◌∷◌, ◌++◌}
use Rattle.std.specs.Prelude.{length, codes, flat_map, Option, None, Some}
use Rattle.std.specs.Fmt.{decimal}
use Rattle.hex.specs.Hex.{encode_lower}
use Rattle.sporc_hash.specs.declared.verdict.Verdict.{Verdict}
use Rattle.sporc_hash.specs.declared.verdict.Verdict.TheVariants.{Same, Prefix, Longer, ForkedAfter}
use Rattle.sporc_hash.specs.Verdict.{SameTip, TipIsIn, DivergesAfter}
use Rattle.sporc_head.specs.History.{hash_of, roster_of}
use Rattle.sporc_member.specs.declared.device.Device.{Device}
use Rattle.sporc_member.specs.declared.device.TheConstants.{FIRST_DEVICE}
use Rattle.sporc_member.specs.declared.member.Member.{Member}
use Rattle.sporc_member.specs.Role.{role_name}
use Rattle.sporc_member.specs.Roster.{Roster, devices_of}
use Rattle.sporc_client.specs.Answers.{is_out}
use Rattle.sporc_client.specs.PlainClient.{PlainClient, shown_of}
use Rattle.sporc_script.specs.Quoted.{quoted}
use Rattle.sporc_script.specs.Spelling.{device_text}
use Rattle.sporc_script.specs.declared.command.DevicePair.{DevicePair}

-- ---- what a client shows

abbrev pub if_removed : Bool → List ℕ
if_removed true = codes " removed"
if_removed false = []

abbrev pub place_text : Device → PlainClient → List ℕ
place_text device c = device_text device ++ (codes " at "
    ++ (decimal (length c.entries) ++ (codes " pending " ++ decimal (length c.pending))))

abbrev pub show_line : Device → PlainClient → List ℕ
show_line device c = place_text device c
    ++ (codes " text " ++ (quoted (shown_of c) ++ (if_removed (is_out c) ++ codes "\n")))

abbrev pub further_text : ℕ → List ℕ
further_text number = codes "," ++ decimal number

-- the numbers of a member's live devices, of which there is one at least, unless there is the first
-- one alone
abbrev pub devices_text : List ℕ → List ℕ
devices_text [] = []
devices_text (number ∷ more) =
    if (number == FIRST_DEVICE) && (length more == 0) then []
    else codes ":" ++ (decimal number ++ flat_map further_text more)

abbrev pub member_text : Roster → Member → List ℕ
member_text roster m = codes " " ++ (decimal m.member
    ++ (codes "=" ++ (role_name m.role ++ devices_text (devices_of roster m.member))))

abbrev pub text_of_member : Roster → Option Member → List ℕ
text_of_member roster None = []
text_of_member roster (Some m) = member_text roster m

-- a text for each member
abbrev pub members_text : Roster → List ℕ
members_text roster = flat_map (member_text roster) roster.members

abbrev pub members_line : Device → PlainClient → List ℕ
members_line device c = device_text device
    ++ (codes " members" ++ (members_text (roster_of c.opening.genesis c.entries) ++ codes "\n"))

abbrev pub hash_line : Device → PlainClient → List ℕ
hash_line device c = device_text device
    ++ (codes " hash " ++ (encode_lower (hash_of c.opening.genesis c.entries) ++ codes "\n"))

-- ---- how the history of one client stands to another's

abbrev pub Stands : List (List ℕ) → List (List ℕ) → Verdict → Type 0
Stands a b Same = SameTip a b
Stands a b Prefix = TipIsIn a b
Stands a b Longer = TipIsIn b a
Stands a b (ForkedAfter k) = DivergesAfter a b k

abbrev pub compare_line : DevicePair → Verdict → List ℕ
compare_line p Same =
    device_text p.first ++ (codes " " ++ (device_text p.second ++ codes " same\n"))
compare_line p Prefix =
    device_text p.first ++ (codes " " ++ (device_text p.second ++ codes " prefix\n"))
compare_line p Longer =
    device_text p.first ++ (codes " " ++ (device_text p.second ++ codes " longer\n"))
compare_line p (ForkedAfter k) = device_text p.first ++ (codes " "
    ++ (device_text p.second ++ (codes " forked after " ++ (decimal k ++ codes "\n"))))
