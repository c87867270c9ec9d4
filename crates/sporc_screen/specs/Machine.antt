-- An editor and a screen with a pipe each way, in which edits and lines take their time.
use Rattle.std.specs.Prelude.{◌≡◌, ℕ, ◌+◌, ◌<◌, ◌==◌, Bool, true, List, [], ◌∷◌, ◌++◌, length}
use Rattle.std.specs.Prelude.{if◌then◌else◌, ⊤}
use Rattle.sporc_delta.specs.Marks.{Mark, apply, base_len}
use Rattle.sporc_screen.specs.declared.edit.Edit.{Edit}
use Rattle.sporc_screen.specs.declared.limits.TheConstants.{MAX_NAMED}
use Rattle.sporc_screen.specs.declared.lines.Written.{Written}
use Rattle.sporc_screen.specs.Edits.{edit_marks, is_in_bounds, seen_len}
use Rattle.sporc_screen.specs.Screens.{ScreenModel, came, edited, knows, last_line, lines_behind}
use Rattle.sporc_screen.specs.Screens.{opened, taken}

-- an editor: its text, the number of the line that it applied last, and how many edits it sent
pub record Editor : Type 0 where
  pub text : List ℕ
  pub seen : ℕ
  pub sent : ℕ

-- an edit under way, and the line that it names
pub record Sent : Type 0 where
  pub seen : ℕ
  pub edit : Edit

-- a line under way, and the text that was shown as it was written
pub record Line : Type 0 where
  pub written : Written
  pub shown : List ℕ

-- the client's text without the draft, the screen, the editor, and what is under way, oldest first
pub record Sides : Type 0 where
  pub client : List ℕ
  pub screen : ScreenModel
  pub editor : Editor
  pub edits : List Sent
  pub lines : List Line

-- both begin with one text
abbrev pub begun : List ℕ → Sides
begun text = record {
  client = text;
  screen = opened (length text);
  editor = record { text = text; seen = 0; sent = 0 };
  edits = [];
  lines = [];
}

-- the text shown: the client's, and then the draft
abbrev pub shown : Sides → List ℕ
shown s = apply s.screen.draft s.client

-- ---- moves

-- the user edits the editor's text; the screen does the next edit; another's delta comes to the
-- client; the editor reads the next line; the client takes the draft
pub data Move : Type 0 where
  Change : Edit → Move
  DoNext : Move
  Come : List Mark → Move
  ReadNext : Move
  TakeDraft : Move

-- the text with an edit
abbrev pub with_edit : List ℕ → Edit → List ℕ
with_edit text edit = apply (edit_marks (length text) edit) text

-- an edit of the user's, if it is in bounds of the editor's text
abbrev pub changed : Edit → Sides → Sides
changed edit s = if is_in_bounds (length s.editor.text) edit
    then record s {
      editor = record s.editor {
        text = with_edit s.editor.text edit;
        sent = s.editor.sent + 1;
      };
      edits = s.edits ++ record { seen = s.editor.seen; edit = edit } ∷ [];
    }
    else s

-- the screen's last line goes under way
abbrev pub written : Sides → Sides
written s = record s {
  lines = s.lines ++ record { written = last_line s.screen; shown = shown s } ∷ [];
}

-- the screen does the next edit
abbrev pub done : List Sent → Sides → Sides
done [] s = s
done (e ∷ es) s = written (record s { screen = edited s.screen e.seen e.edit; edits = es })

-- another's delta comes, if it is one of the client's text
abbrev pub come : List Mark → Sides → Sides
come form s = if base_len form == length s.client
    then written (record s { client = apply form s.client; screen = came s.screen form })
    else s

-- whether a line has all edits that an editor sent
abbrev pub is_due : Editor → Line → Bool
is_due editor line = line.written.numbers.own == editor.sent

-- the editor's rule: it applies a line that has all its edits, and ignores every other
abbrev pub after_line : Editor → Line → Editor
after_line editor line = if is_due editor line
    then record editor {
      text = apply line.written.delta editor.text;
      seen = line.written.numbers.line;
    }
    else editor

-- the editor reads the next line
abbrev pub read : List Line → Sides → Sides
read [] s = s
read (l ∷ ls) s = record s { editor = after_line s.editor l; lines = ls }

-- the client takes the draft
abbrev pub take_draft : Sides → Sides
take_draft s = record s { client = shown s; screen = taken s.screen }

abbrev pub moved : Move → Sides → Sides
moved (Change edit) s = changed edit s
moved DoNext s = done s.edits s
moved (Come form) s = come form s
moved ReadNext s = read s.lines s
moved TakeDraft s = take_draft s

abbrev pub after : List Move → Sides → Sides
after [] s = s
after (m ∷ ms) s = after ms (moved m s)

-- ---- what holds

-- fewer lines stand behind the one that the editor applied last, or else behind its last edit that
-- was done, than may be named
abbrev pub IsNear : Sides → Type 0
IsNear s = length (lines_behind s.screen s.editor.seen) < MAX_NAMED

-- so it is after each of these moves
abbrev pub StaysNear : List Move → Sides → Type 0
StaysNear [] s = ⊤
StaysNear (m ∷ ms) s = IsNear (moved m s) × StaysNear ms (moved m s)

-- the next edit that the screen does names a line that it knows, and is in bounds of the text there
abbrev pub NextIsKnown : Sides → Type 0
NextIsKnown s = (e : Sent) (es : List Sent) → s.edits ≡ e ∷ es
    → (knows s.screen e.seen ≡ true)
    × (is_in_bounds (seen_len s.screen.draft (lines_behind s.screen e.seen)) e.edit ≡ true)

-- if the editor applies the next line, it comes to the text that was shown as that was written
abbrev pub NextLeads : Sides → Type 0
NextLeads s = (l : Line) (ls : List Line) → s.lines ≡ l ∷ ls → is_due s.editor l ≡ true
    → (after_line s.editor l).text ≡ l.shown

-- if nothing is under way, the editor's text is the text shown
abbrev pub AreOne : Sides → Type 0
AreOne s = s.edits ≡ [] → s.lines ≡ [] → s.editor.text ≡ shown s

pub record Agree (s : Sides) : Type 0 where
  pub known : NextIsKnown s
  pub leads : NextLeads s
  pub one : AreOne s
