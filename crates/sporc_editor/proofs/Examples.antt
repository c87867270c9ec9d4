-- Worked examples: the lines of an editor and of what it is told, as docs/FORMATS.md has them.
use Rattle.std.proofs.Common.{◌≡◌, ℕ, [], ◌∷◌, codes, Some, None, refl}
use Rattle.std.specs.Fmt.{digits}
use Rattle.sporc_client.specs.declared.fault.EditFault.TheVariants as edits
use Rattle.sporc_delta.specs.Marks.{Insert, Keep, Remove}
use Rattle.sporc_member.specs.declared.change.Change.TheVariants as changes
use Rattle.sporc_member.specs.declared.change.ChangeFault.TheVariants as change_faults
use Rattle.sporc_member.specs.declared.device.Device.{Device}
use Rattle.sporc_member.specs.declared.role.Role.TheVariants.{Admin}
use Rattle.sporc_screen.specs.declared.fault.ScreenFault.TheVariants as screens
use Rattle.sporc_screen.specs.declared.lines.Numbers.{Numbers}
use Rattle.sporc_script.specs.Edits.{removal_of}
use Rattle.sporc_script.specs.EditorLines.{editor_of, editor_word_of}
use Rattle.sporc_script.specs.Words.{cut_at, number_of}
use Rattle.sporc_editor.specs.declared.asked.Asked.TheVariants as asks
use Rattle.sporc_editor.specs.declared.said.Cause.TheVariants as causes
use Rattle.sporc_editor.specs.declared.said.Said.TheVariants as saids
use Rattle.sporc_editor.specs.AskedLines.{asked_change_of, asked_of, asked_removal_of, asked_spelling}
use Rattle.sporc_editor.specs.Authors.{authors_text, distinct}
use Rattle.sporc_editor.specs.SaidLines.{said_line}

-- ---- what an editor asks for

an_insertion : asked_spelling (asks.Insert 12 (record { at = 0; text = 34 ∷ 10 ∷ [] })) ≡ codes "insert 12 0 \"\\\"\\n\""
unfolding digits
an_insertion = refl

a_removal : asked_spelling (asks.Remove 0 (record { at = 3; count = 2 })) ≡ codes "remove 0 3 2"
unfolding digits
a_removal = refl

a_member_leaves : asked_spelling (asks.Change (changes.Remove 7)) ≡ codes "drop 7"
unfolding digits
a_member_leaves = refl

another_role : asked_spelling (asks.Change (changes.SetRole 2 Admin)) ≡ codes "role 2 admin"
unfolding digits
another_role = refl

a_removal_is_read : asked_of (codes "remove 0 3 2") ≡ Some (asks.Remove 0 (record { at = 3; count = 2 }))
unfolding asked_of asked_removal_of removal_of cut_at number_of digits
a_removal_is_read = refl

a_word_is_read : asked_of (codes "sync") ≡ Some asks.Sync
unfolding asked_of cut_at
a_word_is_read = refl

-- an edit names a line, and a number has no zero in front
no_line_is_named : asked_of (codes "remove 3 2") ≡ None
unfolding asked_of asked_removal_of removal_of cut_at number_of digits
no_line_is_named = refl

no_zero_in_front : asked_of (codes "remove 00 3 2") ≡ None
unfolding asked_of asked_removal_of removal_of cut_at number_of digits
no_zero_in_front = refl

no_space_behind : asked_of (codes "sync ") ≡ None
unfolding asked_of asked_change_of editor_of editor_word_of cut_at
no_space_behind = refl

-- ---- what it is told

abbrev numbers : ℕ → ℕ → Numbers
numbers line own = record { line = line; own = own }

abbrev device : ℕ → ℕ → Device
device member number = record { member = member; number = number }

the_empty_text : said_line (saids.Text (numbers 0 0) []) ≡ codes "text 0 0 \"\"\n"
unfolding digits
the_empty_text = refl

-- nobody else's edit came
an_own_edit : said_line (saids.Shown (record { numbers = numbers 1 1; delta = Keep ∷ Keep ∷ [] }) []) ≡ codes "shown 1 1 - k2\n"
unfolding digits
an_own_edit = refl

two_authors : said_line (saids.Shown (record { numbers = numbers 12 1; delta = Keep ∷ Insert 10 ∷ Remove ∷ [] }) (device 2 0 ∷ device 3 1 ∷ [])) ≡ codes "shown 12 1 2,3.1 k1 i\"\\n\" r1\n"
unfolding digits
two_authors = refl

-- each once, in the order in which they first come
each_once : authors_text (distinct (device 5 0 ∷ device 2 0 ∷ device 5 0 ∷ device 5 1 ∷ device 2 0 ∷ [])) ≡ codes "5,2,5.1"
unfolding digits
each_once = refl

four_authors : authors_text (distinct (device 2 0 ∷ device 3 1 ∷ device 4 0 ∷ device 5 0 ∷ [])) ≡ codes "2,3.1,4,5"
unfolding digits
four_authors = refl

-- and more
five_authors : authors_text (distinct (device 2 0 ∷ device 3 1 ∷ device 4 0 ∷ device 5 0 ∷ device 3 0 ∷ [])) ≡ codes "2,3.1,4,5,.."
unfolding digits
five_authors = refl

where_it_stands : said_line (saids.At 16 2) ≡ codes "at 16 pending 2\n"
unfolding digits
where_it_stands = refl

by_the_screen : said_line (saids.Refused 3 (causes.Screen screens.Seen)) ≡ codes "refused 3 seen\n"
unfolding digits
by_the_screen = refl

by_the_client : said_line (saids.Refused 10 (causes.Client edits.NoRight)) ≡ codes "refused 10 no-right\n"
unfolding digits
by_the_client = refl

a_change_is_dropped : said_line (saids.Dropped change_faults.LastAdmin) ≡ codes "dropped last-admin\n"
a_change_is_dropped = refl

the_history_is_saved : said_line (saids.Saved 16) ≡ codes "saved 16\n"
unfolding digits
the_history_is_saved = refl
