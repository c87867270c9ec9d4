-- Worked examples: devices as words, and which lines of a play may declare or name them, as docs/FORMATS.md has them.
use Rattle.std.proofs.Common.{◌≡◌, ℕ, true, false, [], ◌∷◌, codes, Some, None, refl}
use Rattle.sporc_script.proofs.Common.{Device, spelling, Declared, declared_after, may_follow, none_declared, device_text, Admin, Editor, editor_spelling}
use Rattle.std.specs.Fmt.{digits}
use Rattle.sporc_script.specs.declared.command.Command.TheVariants as commands
use Rattle.sporc_script.specs.declared.editor_line.EditorCommand.TheVariants as editor_commands
use Rattle.sporc_script.specs.declared.roster_change.RosterChange.TheVariants as changes
use Rattle.sporc_script.specs.declared.sign.Suffix.TheVariants as suffixes
use Rattle.sporc_script.specs.declared.sign.What.TheVariants as whats
use Rattle.sporc_script.specs.Readers.{device_number_of, device_of, further_number_of, member_of}
use Rattle.sporc_script.specs.Words.{number_of, split_at}

abbrev device : ℕ → ℕ → Device
device member number = record { member = member; number = number }

-- ---- devices as words

a_first_device : device_text (device 12 0) ≡ codes "12"
unfolding digits
a_first_device = refl

a_further_device : device_text (device 2 255) ≡ codes "2.255"
unfolding digits
a_further_device = refl

first_is_read : device_of (codes "12") ≡ Some (device 12 0)
unfolding device_of member_of number_of split_at digits
first_is_read = refl

further_is_read : device_of (codes "2.255") ≡ Some (device 2 255)
unfolding device_of further_number_of member_of number_of split_at digits
further_is_read = refl

-- the first device has one word, and a number has no zero in front
no_zero : device_of (codes "2.0") ≡ None
unfolding device_of further_number_of member_of number_of split_at digits
no_zero = refl

no_zero_in_front : device_of (codes "2.01") ≡ None
unfolding device_of further_number_of member_of number_of split_at digits
no_zero_in_front = refl

no_larger_number : device_of (codes "2.256") ≡ None
unfolding device_of further_number_of member_of number_of split_at digits
no_larger_number = refl

no_point_alone : device_of (codes "2.") ≡ None
unfolding device_of further_number_of member_of number_of split_at digits
no_point_alone = refl

-- alone, the number of the first device is a word
a_number : device_number_of (codes "0") ≡ Some 0
unfolding device_number_of number_of digits
a_number = refl

-- ---- lines

a_declaration : spelling (commands.Device (device 2 1)) ≡ codes "device 2 1"
unfolding digits
a_declaration = refl

a_change : spelling (commands.Change (record { device = device 2 1; change = changes.DropDevice (device 2 0) })) ≡ codes "change 2.1 drop-device 2 0"
unfolding digits
a_change = refl

an_upgrade : spelling (commands.Change (record { device = device 1 0; change = changes.Upgrade })) ≡ codes "change 1 upgrade"
unfolding digits
an_upgrade = refl

a_signed_upgrade : spelling (commands.Sign (record { member = 3; from = device 2 1; signed = record { what = whats.Change changes.Upgrade; suffix = Some (suffixes.Version 2) } }))
    ≡ codes "sign 3 from 2.1 upgrade with version 2"
unfolding digits
a_signed_upgrade = refl

an_editors_line : editor_spelling (editor_commands.DropDevice (device 2 1)) ≡ codes "drop-device 2 1"
unfolding digits
an_editors_line = refl

-- ---- which of them may follow `member 1 admin`, `rogue 3 editor` and `joiner 4`

abbrev three : Declared
three =
    declared_after
    (declared_after (declared_after none_declared (commands.Member (record { member = 1; role = Admin }))) (commands.Rogue (record { member = 3; role = Editor })))
    (commands.Joiner 4)

abbrev with_one : Declared
with_one = declared_after three (commands.Device (device 1 1))

may_declare_one : may_follow three (commands.Device (device 1 1)) ≡ true
may_declare_one = refl

not_twice : may_follow with_one (commands.Device (device 1 1)) ≡ false
not_twice = refl

not_of_a_rogue : may_follow three (commands.Device (device 3 1)) ≡ false
not_of_a_rogue = refl

not_of_another : may_follow three (commands.Device (device 2 1)) ≡ false
not_of_another = refl

only_a_declared_one_edits : may_follow three (commands.Submit (device 1 1)) ≡ false
only_a_declared_one_edits = refl

a_declared_one_edits : may_follow with_one (commands.Submit (device 1 1)) ≡ true
a_declared_one_edits = refl

-- a device that is changed needs no declaration
another_is_added : may_follow three (commands.Change (record { device = device 1 0; change = changes.AddDevice (device 4 7) })) ≡ true
another_is_added = refl

a_joiners_device_joins : may_follow (declared_after three (commands.Device (device 4 2))) (commands.Join (record { device = device 4 2; entries = 1 ∷ [] })) ≡ true
a_joiners_device_joins = refl
