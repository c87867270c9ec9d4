-- What the steps of an editor come to.
use Rattle.std.specs.Prelude.{◌≡◌, ◌≤◌, ℕ, ◌+◌, List, [], ◌∷◌, ◌++◌, length, take, drop}
use Rattle.std.specs.Prelude.{Option, Result, Ok, Err, MatchResult, ⊤}
use Rattle.sporc_delta.specs.declared.limits.TheConstants.{MAX_COUNT}
use Rattle.sporc_delta.specs.Marks.{Mark}
use Rattle.sporc_script.specs.declared.editor_line.EditorLine.{EditorLine}
use Rattle.sporc_turn.specs.declared.known.Known.{Known}
use Rattle.sporc_turn.specs.declared.limits.TheConstants.{MAX_TICKETS}
use Rattle.sporc_turn.specs.declared.pass.Pass.{Pass}
use Rattle.sporc_turn.specs.declared.turn.Worn.{Worn}
use Rattle.sporc_client.specs.Answers.{edit_fault}
use Rattle.sporc_client.specs.Log.{Edit}
use Rattle.sporc_client.specs.PlainClient.{shown_after, shown_of}
use Rattle.sporc_shared.specs.declared.answered.Answered.{Answered}
use Rattle.sporc_shared.specs.declared.look.Look.{Look}
use Rattle.sporc_shared.specs.Items.{Item, Happened, Past, client_of, items_of}
use Rattle.sporc_session.specs.declared.editor.Seen.{Seen}
use Rattle.sporc_session.specs.declared.fault.SessionFault.{SessionFault}
use Rattle.sporc_session.specs.declared.fault.SessionFault.TheVariants as faults
use Rattle.sporc_session.specs.Traces.{KnowsMore}
use Rattle.sporc_session.specs.Lines.{AnswersAt, AreLinesDone, Asked, IsDone, LineEnd, LineFails}
use Rattle.sporc_session.specs.Lines.{LineGives, asked_by}
use Rattle.sporc_session.specs.Points.{IsPoint}

-- the front of a look's reply with the length of the text, or that no ticket was left, and the pass
abbrev pub seen_of : Result (Answered Look) (Pass Item × Worn)
    → Result Seen SessionFault × Pass Item
seen_of (Ok r) = (Ok (record { front = r.front; len = r.answer.len }), r.pass)
seen_of (Err e) = (Err (faults.Worn e.1.0), e.0)

-- no ticket was left
abbrev pub IsWornFault : SessionFault → Type 0
IsWornFault fault = fault ≡ faults.Worn MAX_TICKETS

-- the pass saw the client last at this front, where its text was so long, and has added nothing
-- since
pub record IsAtFront (k : Known Item) (events len : ℕ) : Type 0 where
  pub past : Past
  pub seen_is : k.seen ≡ items_of past
  pub is_point : IsPoint k.seen k.start k.number k.mine (events + 1)
  pub events_are : events ≡ length past.log
  pub len_is : len ≡ length (shown_of (client_of past))
  pub front_is : len ≡ length (shown_after events (client_of past))
  pub short : len ≤ MAX_COUNT

-- it made an edit that is stated at a front, or why not
abbrev pub StatedDid : Known Item → Known Item → ℕ → ℕ → List Mark → Result ⊤ SessionFault → Type 0
StatedDid k k' line seen marks result =
    MatchResult result (λ x. KnowsMore k k' (Happened (Edit k.number seen marks) ∷ []))
    (λ f. KnowsMore k k' [] × LineFails k.number line
    (AnswersAt k'.seen k.start k.number k.mine (λ client. edit_fault client seen marks)) f)

-- it did what a line asks for, with an item, or why not
abbrev pub AskedDid : Known Item → Known Item → ℕ → Asked → Result ⊤ SessionFault → Type 0
AskedDid k k' line asked result = MatchResult result (λ x. (item : Item)
    × KnowsMore k k' (item ∷ []) × IsDone k'.seen k.start k.number k.mine asked item)
    (λ f. KnowsMore k k' []
    × LineFails k.number line (LineGives k'.seen k.start k.number k.mine asked) f)

-- it did a line, or why not
abbrev pub LineDid : Known Item → Known Item → EditorLine → Result ⊤ SessionFault → Type 0
LineDid k k' line result = AskedDid k k' line.number (asked_by line.command) result

-- it did lines, with these items
pub record LinesDone (k k' : Known Item) (lines : List EditorLine)
    (items : List Item) : Type 0 where
  pub knows : KnowsMore k k' items
  pub done : AreLinesDone k'.seen k.start k.number k.mine lines items

-- it did so many of the lines, and then all were done, or a fault came
pub record LinesDid (k k' : Known Item) (lines : List EditorLine)
    (fault : Option SessionFault) : Type 0 where
  pub count : ℕ
  pub items : List Item
  pub first : LinesDone k k' (take count lines) items
  pub end : LineEnd k'.seen k.start k.number (k.mine ++ items) (drop count lines) fault
