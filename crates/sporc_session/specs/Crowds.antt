-- What the receiver and the editors did in the first phase, once the editors were joined.
use Rattle.std.specs.Prelude.{◌≡◌, ℕ, ◌+◌, ◌<◌, ◌^◌, List, [], ◌∷◌, ◌++◌, length, take, drop}
use Rattle.std.specs.Prelude.{Option, None, Some, Result, IfErr, ⊤}
use Rattle.std.specs.Result.{result_err}
use Rattle.sporc_base.specs.FirstFault.{first_of}
use Rattle.sporc_outside.specs.Chances.{ChanceTold}
use Rattle.sporc_outside.specs.Streams.{StreamTold}
use Rattle.sporc_outside.specs.Uses.{Use}
use Rattle.sporc_script.specs.declared.editor_line.EditorLine.{EditorLine}
use Rattle.sporc_turn.specs.declared.known.Joined.{Joined}
use Rattle.sporc_turn.specs.declared.pass.Pass.{Pass}
use Rattle.sporc_turn.specs.Passes.{known_of}
use Rattle.sporc_shared.specs.declared.shared_client.SharedClient.{SharedClient}
use Rattle.sporc_shared.specs.Items.{Item}
use Rattle.sporc_shared.specs.Passes.{IsPassOf}
use Rattle.sporc_session.specs.declared.crowd.Ends.{Ends}
use Rattle.sporc_session.specs.declared.fault.SessionFault.{SessionFault}
use Rattle.sporc_session.specs.Traces.{CountsSame, Stand, stand_at}
use Rattle.sporc_session.specs.Editing.{LinesDid}
use Rattle.sporc_session.specs.Lines.{AreLinesDone, LineEnd}
use Rattle.sporc_session.specs.Replies.{HasReadFor}
use Rattle.sporc_session.specs.Sessions.{FirstPhase}
use Rattle.sporc_exchange.specs.Wires.{InboxModel}

-- these are the items of the first lines
pub record EditorPart (log : List Item) (start number : ℕ) (lines : List EditorLine)
    (items : List Item) (end : Option SessionFault) : Type 0 where
  pub count : ℕ
  pub done : AreLinesDone log start number [] (take count lines) items
  pub ended : LineEnd log start number items (drop count lines) end

-- each editor was joined, the last one first
abbrev pub CrowdDid : List Item → ℕ → ℕ → List (List EditorLine) → List (Option SessionFault)
    → List (Joined Item) → Type 0
CrowdDid log start number [] ends js = (ends ≡ []) × (js ≡ [])
CrowdDid log start number (script ∷ scripts) (end ∷ ends) (j ∷ js) =
    (j.number ≡ number) × EditorPart log start number script j.items end
    × CrowdDid log start (number + 1) scripts ends js
CrowdDid log start number (script ∷ scripts) _ _ = ⊥

pub record IsCrowd (a b : Stand) (rounds : ℕ) (scripts : List (List EditorLine))
    (receiver fault : Option SessionFault) : Type 0 where
  pub phase : FirstPhase a b rounds receiver
  pub ends : List (Option SessionFault)
  pub joined : List (Joined Item)
  pub did : CrowdDid b.known.seen a.known.start (a.known.splits + 1) scripts ends joined
  pub first : first_of ends ≡ fault
  pub joined_are : b.known.joined ≡ joined ++ a.known.joined
  pub splits_are : b.known.splits ≡ a.known.splits + length joined

-- the receiver's thread took a pass of this client, and gives one back
abbrev pub CrowdEnds : {D : Type 0} → SharedClient D → Pass Item → Pass Item → Use StreamTold
    → InboxModel → InboxModel → Use ChanceTold → ℕ → List (List EditorLine) → Ends → Type 0
CrowdEnds shared p q link inbox inbox' chance rounds scripts ends =
    IsPassOf shared q × ((known_of q).number ≡ 0)
    × IsCrowd (stand_at p link.before inbox chance.before)
    (stand_at q link.after inbox' chance.after)
    rounds scripts (result_err ends.receiver) (result_err ends.editors)
    × (link.after.is_shut ≡ link.before.is_shut)
    × IfErr ends.receiver (HasReadFor q) × IfErr ends.editors (HasReadFor q)

-- an editor's thread did
abbrev pub EditorEnds : {D : Type 0} → SharedClient D → Pass Item → Pass Item
    → List EditorLine → Result ⊤ SessionFault → Type 0
EditorEnds shared p q lines result =
    IsPassOf shared q × CountsSame (known_of p) (known_of q)
    × LinesDid (known_of p) (known_of q) lines (result_err result)
    × IfErr result (HasReadFor q)

-- the pass that a thread is to take: number 0, which may still be split so often
abbrev pub IsFirst : {D : Type 0} → SharedClient D → Option (Pass Item) → ℕ → Type 0
IsFirst shared None more = ⊥
IsFirst shared (Some p) more =
    IsPassOf shared p × ((known_of p).number ≡ 0) × ((known_of p).splits + more < 2 ^ 32)

-- the pass that an editor's thread is to take
abbrev pub IsEditors : {D : Type 0} → SharedClient D → Option (Pass Item) → Type 0
IsEditors shared None = ⊥
IsEditors shared (Some p) = IsPassOf shared p
