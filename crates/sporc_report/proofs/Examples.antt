-- Worked examples: lines of a journal, and of what a client shows, as docs/FORMATS.md has them.
use Rattle.std.proofs.Common.{◌≡◌, ℕ, [], ◌∷◌, codes, refl}
use Rattle.sporc_report.proofs.Common.{Device, Roster, after_change, founded, compare_line, members_text, delta_text, event_text, journal_lines, Remove, Insert, Keep}
use Rattle.std.specs.Fmt.{digits}
use Rattle.hex.specs.Hex.{encode_with}
use Rattle.sporc_hash.specs.declared.verdict.Verdict.TheVariants.{ForkedAfter, Prefix}
use Rattle.sporc_member.specs.declared.change.Change.TheVariants as changes
use Rattle.sporc_member.specs.declared.change.ChangeFault.TheVariants as change_faults
use Rattle.sporc_member.specs.declared.role.Role.TheVariants.{Editor, Reader}
use Rattle.sporc_client.specs.declared.event.Event.TheVariants as events

-- ---- a journal

-- two characters are kept, one is inserted, and one is removed
an_edit : event_text (events.Edit 0 12 (Keep ∷ Keep ∷ Insert 34 ∷ Remove ∷ [])) ≡ codes "edit 0 12 k2 i\"\\\"\" r1"
unfolding digits
an_edit = refl

no_parts : delta_text [] ≡ codes "-"
no_parts = refl

two_changes : journal_lines (events.Change 1 (changes.Add 4 Reader (0 ∷ 171 ∷ [])) ∷ events.Change 1 (changes.SetRole 65535 Editor) ∷ [])
    ≡ codes "change 1 add 4 reader 00ab\nchange 1 role 65535 editor\n"
unfolding digits encode_with
two_changes = refl

devices : journal_lines (events.Change 1 changes.Upgrade ∷ events.Change 1 (changes.AddDevice 2 255 (0 ∷ 171 ∷ [])) ∷ events.Change 1 (changes.DropDevice 2 0) ∷ [])
    ≡ codes "change 1 upgrade\nchange 1 device 2 255 00ab\nchange 1 drop-device 2 0\n"
unfolding digits encode_with
devices = refl

a_round : journal_lines (events.Submit 2 (1 ∷ 255 ∷ []) ∷ events.Accept 0 10 ∷ events.Discard 2 ∷ events.Dropped 2 change_faults.LastAdmin ∷ [])
    ≡ codes "submit 2 01ff\naccept 0 10\ndiscard 2\ndropped 2 last-admin\n"
unfolding digits encode_with
a_round = refl

-- ---- what a client shows

abbrev device : ℕ → ℕ → Device
device member number = record { member = member; number = number }

abbrev by_one : Roster
by_one = founded (record { member = 2; role = Editor; key = [] } ∷ [])

a_member : members_text by_one ≡ codes " 2=editor"
unfolding digits
a_member = refl

its_devices : members_text (after_change by_one (changes.AddDevice 2 1 [])) ≡ codes " 2=editor:0,1"
unfolding digits
its_devices = refl

-- a device that was dropped is not told
one_left : members_text (after_change (after_change by_one (changes.AddDevice 2 1 [])) (changes.DropDevice 2 0)) ≡ codes " 2=editor:1"
unfolding digits
one_left = refl

a_prefix : compare_line (record { first = device 1 0; second = device 2 1 }) Prefix ≡ codes "1 2.1 prefix\n"
unfolding digits
a_prefix = refl

a_fork : compare_line (record { first = device 1 0; second = device 2 0 }) (ForkedAfter 0) ≡ codes "1 2 forked after 0\n"
unfolding digits
a_fork = refl
