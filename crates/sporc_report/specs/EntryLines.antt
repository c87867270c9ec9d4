-- The lines of a history's entries.
use Rattle.std.specs.Prelude.{ℕ, suc, ◌-◌, List, [], ◌∷◌, ◌++◌, codes, drop, Option, None, Some}
use Rattle.std.specs.Prelude.{Result, Ok, Err}
use Rattle.std.specs.Fmt.{decimal}
use Rattle.sporc_delta.specs.Marks.{Mark, apply}
use Rattle.sporc_member.specs.declared.device.Device.{Device}
use Rattle.sporc_member.specs.Device.{first_device}
use Rattle.sporc_entry.specs.declared.entry.Entry.{Entry}
use Rattle.sporc_entry.specs.declared.change.ChangeBody.{ChangeBody}
use Rattle.sporc_entry.specs.declared.genesis.Genesis.{Genesis}
use Rattle.sporc_entry.specs.Entry.{author_device, entry_of, change_of}
use Rattle.sporc_line.specs.Kit.{Kit}
use Rattle.sporc_line.specs.LineModel.{LineModel}
use Rattle.sporc_line.specs.Operations.{Operation, What, Edited, Changed, Unread}
use Rattle.sporc_line.specs.Document.{forms_of}
use Rattle.sporc_script.specs.Spelling.{device_text}
use Rattle.sporc_report.specs.JournalLines.{change_text, delta_text}

-- ---- what entries did

-- what an entry with this form did: of an edit the form stands for its marks
abbrev pub done_by : Option ChangeBody → List Mark → What
done_by None form = Edited form
done_by (Some c) form = Changed c.change

abbrev pub committed_by : Result Entry ℕ → List Mark → Operation
committed_by (Ok e) form = record {
  author = author_device e.header;
  number = e.header.number;
  base = e.header.base;
  what = done_by (change_of e) form;
}
committed_by (Err at) form = record { author = first_device 0; number = 0; base = 0; what = Unread }

-- entries with their forms
abbrev pub committed_with : List (List ℕ) → List (List Mark) → List Operation
committed_with [] forms = []
committed_with (b ∷ bs) [] = []
committed_with (b ∷ bs) (f ∷ fs) = committed_by (entry_of b) f ∷ committed_with bs fs

-- the operations of a history's entries, as they came into the text
unfoldable pub committed : Genesis → Kit → List (List ℕ) → List Operation
committed genesis kit entries = committed_with entries (forms_of genesis kit entries)

-- the text behind an operation, which needs no text but the one before it
abbrev pub text_behind : What → List ℕ → List ℕ
text_behind (Edited form) text = apply form text
text_behind (Changed c) text = text
text_behind Unread text = text

abbrev pub followed : List ℕ → Operation → List ℕ
followed text o = text_behind o.what text

-- ---- their lines

-- nothing of an entry that can't be read: no history that was accepted has one
abbrev pub what_text : What → List ℕ
what_text (Edited marks) = codes "edit " ++ delta_text marks
what_text (Changed c) = codes "change " ++ change_text c
what_text Unread = []

-- position, author's device, number and base
abbrev pub origin_text : ℕ → Device → ℕ → ℕ → List ℕ
origin_text position author number base = decimal position ++ (codes " "
    ++ (device_text author ++ (codes " " ++ (decimal number ++ (codes " " ++ decimal base)))))

-- these, and what the entry did
abbrev pub entry_line : ℕ → Operation → List ℕ
entry_line position o =
    origin_text position o.author o.number o.base ++ (codes " " ++ (what_text o.what ++ codes "\n"))

-- a line for each operation, of which the first stands behind so many
unfoldable pub lines_after : ℕ → List Operation → List ℕ
lines_after n [] = []
lines_after n (o ∷ os) = entry_line (suc n) o ++ lines_after (suc n) os

-- the lines behind the first so many operations
abbrev pub lines_behind : ℕ → List Operation → List ℕ
lines_behind n os = lines_after n (drop n os)

-- those of a member's entries behind the first so many
abbrev pub lines_left : ℕ → LineModel → List ℕ
lines_left n line = lines_behind n (committed line.genesis line.kit line.entries)

-- the lines of a history's entries from a position on
abbrev pub entry_lines : ℕ → Genesis → Kit → List (List ℕ) → List ℕ
entry_lines from genesis kit entries = lines_behind (from - 1) (committed genesis kit entries)
