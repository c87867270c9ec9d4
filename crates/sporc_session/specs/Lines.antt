-- What an editor does, line by line.
use Rattle.std.specs.Prelude.{◌≡◌, ℕ, ◌+◌, ◌-◌, min, List, [], ◌∷◌, ◌++◌, length, take, drop}
use Rattle.std.specs.Prelude.{Option, None, Some, ⊤}
use Rattle.sporc_delta.specs.Marks.{Mark, insertion, removal}
use Rattle.sporc_member.specs.declared.change.Change.{Change as MemberChange}
use Rattle.sporc_member.specs.declared.change.Change.TheVariants.{Add, Remove, SetRole, AddDevice}
use Rattle.sporc_member.specs.declared.change.Change.TheVariants.{DropDevice, Upgrade}
use Rattle.sporc_script.specs.declared.editor_line.EditorCommand.{EditorCommand}
use Rattle.sporc_script.specs.declared.editor_line.EditorCommand.TheVariants as commands
use Rattle.sporc_script.specs.declared.editor_line.EditorLine.{EditorLine}
use Rattle.sporc_turn.specs.declared.limits.TheConstants.{MAX_TICKETS}
use Rattle.sporc_turn.specs.Log.{own}
use Rattle.sporc_client.specs.declared.fault.EditFault.{EditFault}
use Rattle.sporc_client.specs.declared.fault.EditFault.TheVariants as edits
use Rattle.sporc_client.specs.Answers.{change_fault, edit_fault}
use Rattle.sporc_client.specs.Log.{Edit, Change}
use Rattle.sporc_client.specs.PlainClient.{PlainClient, shown_of}
use Rattle.sporc_shared.specs.Items.{Item, Happened, by_of}
use Rattle.sporc_session.specs.declared.fault.SessionFault.{SessionFault}
use Rattle.sporc_session.specs.declared.fault.SessionFault.TheVariants as faults
use Rattle.sporc_session.specs.Points.{IsClientAt, IsPoint}

-- what a line asks for: an edit of a text of this length, its place and its count cut down to what
-- is there, or a change
pub data Asked : Type 0 where
  Edits : (ℕ → List Mark) → Asked
  Changes : MemberChange → Asked

abbrev pub asked_by : EditorCommand → Asked
asked_by (commands.Insert e) = Edits (λ len. insertion len (min e.at len) e.text)
asked_by (commands.Remove e) =
    Edits (λ len. removal len (min e.at len) (min e.count (len - min e.at len)))
asked_by (commands.Add f) = Changes (Add f.member f.role f.key)
asked_by (commands.Drop member) = Changes (Remove member)
asked_by (commands.SetRole r) = Changes (SetRole r.member r.role)
asked_by (commands.AddDevice d) = Changes (AddDevice d.device.member d.device.number d.key)
asked_by (commands.DropDevice d) = Changes (DropDevice d.member d.number)
asked_by commands.Upgrade = Changes Upgrade

-- The edit of an editor with this number, which had added these items, at a front: it is stated on
-- the text that was shown there
pub record IsEditAt (log : List Item) (start number : ℕ) (mine : List Item) (edit : ℕ → List Mark)
    (seen : ℕ) (marks : List Mark) : Type 0 where
  pub client : PlainClient
  pub is_point : IsPoint log start number mine (seen + 1)
  pub is_client : IsClientAt log (seen + 1) client
  pub marks_are : marks ≡ edit (length (shown_of client))

-- The item is the line's, of the editor with this number, who had added these items: an edit names
-- a front after all of them
abbrev pub IsDone : List Item → ℕ → ℕ → List Item → Asked → Item → Type 0
IsDone log start number mine (Edits edit) item = (seen : ℕ) × (marks : List Mark)
    × IsEditAt log start number mine edit seen marks × (item ≡ Happened (Edit number seen marks))
IsDone log start number mine (Changes change) item = item ≡ Happened (Change number change)

-- the items are those of the lines, in order
abbrev pub AreLinesDone : List Item → ℕ → ℕ → List Item → List EditorLine → List Item → Type 0
AreLinesDone log start number mine [] [] = ⊤
AreLinesDone log start number mine [] (item ∷ items) = ⊥
AreLinesDone log start number mine (line ∷ lines) [] = ⊥
AreLinesDone log start number mine (line ∷ lines) (item ∷ items) =
    IsDone log start number mine (asked_by line.command) item
    × AreLinesDone log start number (mine ++ item ∷ []) lines items

-- the client answers so, at a point after the editor's earlier items and before its next one
pub record AnswersAt (log : List Item) (start number : ℕ) (mine : List Item)
    (answers : PlainClient → Option EditFault) (fault : EditFault) : Type 0 where
  pub point : ℕ
  pub client : PlainClient
  pub is_point : IsPoint log start number mine point
  pub is_client : IsClientAt log point client
  pub is : answers client ≡ Some fault

-- it answers so to what a line asks for
abbrev pub LineGives : List Item → ℕ → ℕ → List Item → Asked → EditFault → Type 0
LineGives log start number mine (Edits edit) fault =
    (seen : ℕ) × (marks : List Mark) × IsEditAt log start number mine edit seen marks
    × AnswersAt log start number mine (λ client. edit_fault client seen marks) fault
LineGives log start number mine (Changes change) fault =
    AnswersAt log start number mine change_fault fault

-- the faults for which a session names an editor's line
abbrev pub IsOfLine : EditFault → Type 0
IsOfLine edits.Removed = ⊤
IsOfLine edits.NoRight = ⊤
IsOfLine (edits.SeenAhead len) = ⊥
IsOfLine edits.WrongLength = ⊥
IsOfLine (edits.TooLong len) = ⊤
IsOfLine edits.PendingFull = ⊤
IsOfLine edits.JournalFull = ⊥
IsOfLine edits.Memory = ⊥

-- why an editor with this number doesn't do its line with this number, by what the client answers
-- to it
abbrev pub LineFails : (number line : ℕ) → (EditFault → Type 0) → SessionFault → Type 0
LineFails number line Gives (faults.EditRefused editor l fault) =
    (editor ≡ number) × (l ≡ line) × IsOfLine fault × Gives fault
LineFails number line Gives faults.JournalFull = Gives edits.JournalFull
LineFails number line Gives (faults.Worn ticket) = ticket ≡ MAX_TICKETS
LineFails number line Gives faults.Memory = ⊤
LineFails number line Gives _ = ⊥

-- why it stops before the first of these lines
abbrev pub LineCause : List Item → ℕ → ℕ → List Item → List EditorLine → SessionFault → Type 0
LineCause log start number mine [] fault = ⊥
LineCause log start number mine (line ∷ lines) fault =
    LineFails number line.number (LineGives log start number mine (asked_by line.command)) fault

-- why it stops, if it does
abbrev pub LineEnd : List Item → ℕ → ℕ → List Item → List EditorLine → Option SessionFault → Type 0
LineEnd log start number mine lines None = lines ≡ []
LineEnd log start number mine lines (Some fault) = LineCause log start number mine lines fault

-- The log's items of the editor with this number are those of its first lines: of all of them, or a
-- fault says why the next one wasn't done
pub record EditorDid (log : List Item) (start number : ℕ) (lines : List EditorLine)
    (fault : Option SessionFault) : Type 0 where
  pub count : ℕ
  pub done : AreLinesDone log start number [] (take count lines) (own by_of number start log)
  pub end : LineEnd log start number (own by_of number start log) (drop count lines) fault
