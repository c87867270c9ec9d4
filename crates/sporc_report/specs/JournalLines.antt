-- The lines of a journal.
use Rattle.std.specs.Prelude.{ℕ, List, [], ◌∷◌, ◌++◌, codes, flat_map}
use Rattle.std.specs.Fmt.{decimal}
use Rattle.hex.specs.Hex.{encode_lower}
use Rattle.sporc_delta.specs.declared.part.Part.{Part}
use Rattle.sporc_delta.specs.declared.part.Part.TheVariants as parts
use Rattle.sporc_delta.specs.Marks.{Mark}
use Rattle.sporc_delta.specs.Parts.{runs}
use Rattle.sporc_member.specs.declared.change.Change.{Change as MemberChange}
use Rattle.sporc_member.specs.declared.change.Change.TheVariants as changes
use Rattle.sporc_member.specs.ChangeFault.{change_fault_name}
use Rattle.sporc_member.specs.Role.{role_name}
use Rattle.sporc_client.specs.declared.event.Event.{Event}
use Rattle.sporc_client.specs.declared.event.Event.TheVariants as events
use Rattle.sporc_script.specs.Quoted.{quoted}

-- a part of a delta: so many characters kept, a text inserted, so many removed
abbrev pub part_text : Part → List ℕ
part_text (parts.Keep count) = codes "k" ++ decimal count
part_text (parts.Insert text) = codes "i" ++ quoted text
part_text (parts.Remove count) = codes "r" ++ decimal count

abbrev pub spaced_part : Part → List ℕ
spaced_part part = codes " " ++ part_text part

-- the parts with a space between them, or `-` if there is none
abbrev pub parts_text : List Part → List ℕ
parts_text [] = codes "-"
parts_text (part ∷ more) = part_text part ++ flat_map spaced_part more

abbrev pub delta_text : List Mark → List ℕ
delta_text marks = parts_text (runs marks)

abbrev pub change_text : MemberChange → List ℕ
change_text (changes.Add member role key) = codes "add "
    ++ (decimal member ++ (codes " " ++ (role_name role ++ (codes " " ++ encode_lower key))))
change_text (changes.Remove member) = codes "remove " ++ decimal member
change_text (changes.SetRole member role) =
    codes "role " ++ (decimal member ++ (codes " " ++ role_name role))
change_text (changes.AddDevice member device key) = codes "device "
    ++ (decimal member ++ (codes " " ++ (decimal device ++ (codes " " ++ encode_lower key))))
change_text (changes.DropDevice member device) =
    codes "drop-device " ++ (decimal member ++ (codes " " ++ decimal device))
change_text changes.Upgrade = codes "upgrade"

abbrev pub event_text : Event → List ℕ
event_text (events.Edit by seen marks) = codes "edit "
    ++ (decimal by ++ (codes " " ++ (decimal seen ++ (codes " " ++ delta_text marks))))
event_text (events.Change by change) =
    codes "change " ++ (decimal by ++ (codes " " ++ change_text change))
event_text (events.Submit by entry) =
    codes "submit " ++ (decimal by ++ (codes " " ++ encode_lower entry))
event_text (events.Dropped by fault) =
    codes "dropped " ++ (decimal by ++ (codes " " ++ change_fault_name fault))
event_text (events.Accept by place) =
    codes "accept " ++ (decimal by ++ (codes " " ++ decimal place))
event_text (events.Discard by) = codes "discard " ++ decimal by

-- a line for each event
abbrev pub journal_lines : List Event → List ℕ
journal_lines journal = flat_map (λ event. event_text event ++ codes "\n") journal
