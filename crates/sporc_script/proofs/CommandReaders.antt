-- A line is read as the one command that it spells.
use Rattle.std.proofs.Common.{◌≡◌, ℕ, List, ◌∷◌, ◌++◌, Some, option_map, refl, ap}
use Rattle.sporc_script.proofs.Common.{codes, decimal, Device, Command, Keyword, MemberRole, InRange, spelling, edit_of, roster_edit_of, flip_of, further_device_of, give_of, keyword_of}
use Rattle.sporc_script.proofs.Common.{member_role_of, restart_of, tree_of, two_devices_of, two_members_of, device_of, member_of, forgery_of, forgery_spelling, device_pair_spelling, device_text}
use Rattle.sporc_script.proofs.Common.{edit_spelling, flip_spelling, give_spelling, keyword_name, member_device_spelling, member_role_spelling, pair_spelling, restart_spelling, roster_edit_spelling}
use Rattle.sporc_script.proofs.Common.{tree_spelling, number_of, DevicePair, Edit, Flip, Give, Join, Pair, Restart, RosterEdit, Tree, Forgery, join_of, join_spelling}
use Rattle.sporc_script.specs.declared.command.Command.TheVariants as commands
use Rattle.sporc_script.specs.declared.command.Keyword.TheVariants as keywords
use Rattle.sporc_script.specs.Commands.{command_of, command_with}
use Rattle.sporc_script.proofs.DeviceWords.{device_exact}
use Rattle.sporc_script.proofs.EditReaders.{edit_exact, roster_edit_exact}
use Rattle.sporc_script.proofs.Exact.{IsExact}
use Rattle.sporc_script.proofs.Keyed.{Begins, keyed_exact, variant_sound}
use Rattle.sporc_script.proofs.NumberReaders.{join_exact}
use Rattle.sporc_script.proofs.PlainReaders.{flip_exact, further_device_exact, give_exact, keyword_exact, keyword_words, member_role_exact, restart_exact, tree_exact, two_devices_exact, two_members_exact}
use Rattle.sporc_script.proofs.SignReaders.{forgery_exact}
use Rattle.sporc_script.proofs.TextWords.{member_exact, number_exact}

command_sound : (k : Keyword) (bytes : List ℕ) (c : Command) → command_with k bytes ≡ Some c → InRange c × (keyword_name k ++ 32 ∷ bytes ≡ spelling c)
command_sound keywords.Tree bytes c is = variant_sound Tree Command _ _ tree_of tree_exact InRange spelling (codes "tree") commands.Tree (λ a h. h) (λ a. refl) bytes c is
command_sound keywords.Member bytes c is = variant_sound MemberRole Command _ _ member_role_of member_role_exact InRange spelling (codes "member") commands.Member (λ a h. h) (λ a. refl) bytes c is
command_sound keywords.Rogue bytes c is = variant_sound MemberRole Command _ _ member_role_of member_role_exact InRange spelling (codes "rogue") commands.Rogue (λ a h. h) (λ a. refl) bytes c is
command_sound keywords.Joiner bytes c is = variant_sound ℕ Command _ _ member_of member_exact InRange spelling (codes "joiner") commands.Joiner (λ a h. h) (λ a. refl) bytes c is
command_sound keywords.Unpaired bytes c is = variant_sound Pair Command _ _ two_members_of two_members_exact InRange spelling (codes "unpaired") commands.Unpaired (λ a h. h) (λ a. refl) bytes c is
command_sound keywords.Edit bytes c is = variant_sound Edit Command _ _ edit_of edit_exact InRange spelling (codes "edit") commands.Edit (λ a h. h) (λ a. refl) bytes c is
command_sound keywords.Change bytes c is = variant_sound RosterEdit Command _ _ roster_edit_of roster_edit_exact InRange spelling (codes "change") commands.Change (λ a h. h) (λ a. refl) bytes c is
command_sound keywords.Discard bytes c is = variant_sound Device Command _ _ device_of device_exact InRange spelling (codes "discard") commands.Discard (λ a h. h) (λ a. refl) bytes c is
command_sound keywords.Submit bytes c is = variant_sound Device Command _ _ device_of device_exact InRange spelling (codes "submit") commands.Submit (λ a h. h) (λ a. refl) bytes c is
command_sound keywords.Give bytes c is = variant_sound Give Command _ _ give_of give_exact InRange spelling (codes "give") commands.Give (λ a h. h) (λ a. refl) bytes c is
command_sound keywords.Restart bytes c is = variant_sound Restart Command _ _ restart_of restart_exact InRange spelling (codes "restart") commands.Restart (λ a h. h) (λ a. refl) bytes c is
command_sound keywords.Join bytes c is = variant_sound Join Command _ _ join_of join_exact InRange spelling (codes "join") commands.Join (λ a h. h) (λ a. refl) bytes c is
command_sound keywords.Show bytes c is = variant_sound Device Command _ _ device_of device_exact InRange spelling (codes "show") commands.Show (λ a h. h) (λ a. refl) bytes c is
command_sound keywords.Members bytes c is = variant_sound Device Command _ _ device_of device_exact InRange spelling (codes "members") commands.Members (λ a h. h) (λ a. refl) bytes c is
command_sound keywords.Hash bytes c is = variant_sound Device Command _ _ device_of device_exact InRange spelling (codes "hash") commands.Hash (λ a h. h) (λ a. refl) bytes c is
command_sound keywords.Journal bytes c is = variant_sound Device Command _ _ device_of device_exact InRange spelling (codes "journal") commands.Journal (λ a h. h) (λ a. refl) bytes c is
command_sound keywords.Compare bytes c is = variant_sound DevicePair Command _ _ two_devices_of two_devices_exact InRange spelling (codes "compare") commands.Compare (λ a h. h) (λ a. refl) bytes c is
command_sound keywords.Flip bytes c is = variant_sound Flip Command _ _ flip_of flip_exact InRange spelling (codes "flip") commands.Flip (λ a h. h) (λ a. refl) bytes c is
command_sound keywords.Cut bytes c is = variant_sound ℕ Command _ _ number_of number_exact InRange spelling (codes "cut") commands.Cut (λ a h. h) (λ a. refl) bytes c is
command_sound keywords.Sign bytes c is = variant_sound Forgery Command _ _ forgery_of forgery_exact InRange spelling (codes "sign") commands.Sign (λ a h. h) (λ a. refl) bytes c is
command_sound keywords.Device bytes c is = variant_sound Device Command _ _ further_device_of further_device_exact InRange spelling (codes "device") commands.Device (λ a h. h) (λ a. refl) bytes c is

pub command_begins : (c : Command) → InRange c → Begins Keyword Command keyword_name spelling command_with c
command_begins (commands.Tree x) range = record { word = keywords.Tree; rest = tree_spelling x; spelled = refl; reads = ap (option_map commands.Tree) (tree_exact.complete x range) }
command_begins (commands.Member x) range = record { word = keywords.Member; rest = member_role_spelling x; spelled = refl; reads = ap (option_map commands.Member) (member_role_exact.complete x range) }
command_begins (commands.Rogue x) range = record { word = keywords.Rogue; rest = member_role_spelling x; spelled = refl; reads = ap (option_map commands.Rogue) (member_role_exact.complete x range) }
command_begins (commands.Joiner x) range = record { word = keywords.Joiner; rest = decimal x; spelled = refl; reads = ap (option_map commands.Joiner) (member_exact.complete x range) }
command_begins (commands.Unpaired x) range = record { word = keywords.Unpaired; rest = pair_spelling x; spelled = refl; reads = ap (option_map commands.Unpaired) (two_members_exact.complete x range) }
command_begins (commands.Edit x) range = record { word = keywords.Edit; rest = edit_spelling x; spelled = refl; reads = ap (option_map commands.Edit) (edit_exact.complete x range) }
command_begins (commands.Change x) range = record { word = keywords.Change; rest = roster_edit_spelling x; spelled = refl; reads = ap (option_map commands.Change) (roster_edit_exact.complete x range) }
command_begins (commands.Discard x) range = record { word = keywords.Discard; rest = device_text x; spelled = refl; reads = ap (option_map commands.Discard) (device_exact.complete x range) }
command_begins (commands.Submit x) range = record { word = keywords.Submit; rest = device_text x; spelled = refl; reads = ap (option_map commands.Submit) (device_exact.complete x range) }
command_begins (commands.Give x) range = record { word = keywords.Give; rest = give_spelling x; spelled = refl; reads = ap (option_map commands.Give) (give_exact.complete x range) }
command_begins (commands.Restart x) range = record { word = keywords.Restart; rest = restart_spelling x; spelled = refl; reads = ap (option_map commands.Restart) (restart_exact.complete x range) }
command_begins (commands.Join x) range = record { word = keywords.Join; rest = join_spelling x; spelled = refl; reads = ap (option_map commands.Join) (join_exact.complete x range) }
command_begins (commands.Show x) range = record { word = keywords.Show; rest = device_text x; spelled = refl; reads = ap (option_map commands.Show) (device_exact.complete x range) }
command_begins (commands.Members x) range = record { word = keywords.Members; rest = device_text x; spelled = refl; reads = ap (option_map commands.Members) (device_exact.complete x range) }
command_begins (commands.Hash x) range = record { word = keywords.Hash; rest = device_text x; spelled = refl; reads = ap (option_map commands.Hash) (device_exact.complete x range) }
command_begins (commands.Journal x) range = record { word = keywords.Journal; rest = device_text x; spelled = refl; reads = ap (option_map commands.Journal) (device_exact.complete x range) }
command_begins (commands.Compare x) range = record { word = keywords.Compare; rest = device_pair_spelling x; spelled = refl; reads = ap (option_map commands.Compare) (two_devices_exact.complete x range) }
command_begins (commands.Flip x) range = record { word = keywords.Flip; rest = flip_spelling x; spelled = refl; reads = ap (option_map commands.Flip) (flip_exact.complete x range) }
command_begins (commands.Cut x) range = record { word = keywords.Cut; rest = decimal x; spelled = refl; reads = ap (option_map commands.Cut) (number_exact.complete x range) }
command_begins (commands.Sign x) range = record { word = keywords.Sign; rest = forgery_spelling x; spelled = refl; reads = ap (option_map commands.Sign) (forgery_exact.complete x range) }
command_begins (commands.Device x) range = record { word = keywords.Device; rest = member_device_spelling x; spelled = refl; reads = ap (option_map commands.Device) (further_device_exact.complete x range) }

pub command_exact : IsExact Command InRange spelling command_of
unfolding command_of
command_exact = keyed_exact Keyword Command keyword_name keyword_of keyword_exact keyword_words InRange spelling command_with command_sound command_begins
