-- What a session is.
use Rattle.std.specs.Prelude.{◌≡◌, ℕ, ◌+◌, ◌≤◌, List, [], ◌∷◌, ◌++◌, length, drop, All, Option}
use Rattle.std.specs.Prelude.{None, Some, Result, Ok, Err, ⊤, true, false}
use Rattle.sporc_base.specs.FirstFault.{first_of}
use Rattle.sporc_outside.specs.Chances.{ChanceTold}
use Rattle.sporc_outside.specs.Streams.{StreamTold}
use Rattle.sporc_outside.specs.Uses.{Use}
use Rattle.sporc_script.specs.declared.editor_line.EditorLine.{EditorLine}
use Rattle.sporc_turn.specs.declared.pass.Pass.{Pass}
use Rattle.sporc_client.specs.PlainClient.{PlainClient}
use Rattle.sporc_shared.specs.Calls.{IsLegal}
use Rattle.sporc_shared.specs.Items.{Item, Past, by_of, items_of}
use Rattle.sporc_session.specs.declared.fault.SessionFault.{SessionFault}
use Rattle.sporc_session.specs.declared.fault.SessionFault.TheVariants as faults
use Rattle.sporc_session.specs.Acts.{Look}
use Rattle.sporc_session.specs.Traces.{Stand, Trace, stand_at}
use Rattle.sporc_session.specs.Endings.{Did, Stopped}
use Rattle.sporc_session.specs.Lines.{EditorDid}
use Rattle.sporc_session.specs.Protocol.{Asking, Between, always, is_unsettled}
use Rattle.sporc_exchange.specs.Wires.{InboxModel, empty_inbox}

-- the first phase: the receiver does its rounds, or stops with a fault
abbrev pub FirstPhase : Stand → Stand → ℕ → Option SessionFault → Type 0
FirstPhase a b rounds None = Did always a b Asking (Between rounds)
FirstPhase a b rounds (Some fault) = Stopped always a b Asking rounds fault

-- rounds of the second phase, and then a look at the client, at the end of its journal
pub record Rounds (a b : Stand) (until done at pending : ℕ) : Type 0 where
  pub between : Stand
  pub did : Did (is_unsettled until) a between (Between 0) (Between done)
  pub last : Trace between b (Look (length b.known.seen) at pending ∷ []) [] [] []

-- The second phase. It ends when the client is settled, if it isn't after all rounds, or with a
-- fault in a round
pub data SecondPhase (a b : Stand) (rounds until : ℕ) : Result ⊤ SessionFault → Type 0 where
  settles : {done at pending : ℕ} → done ≤ rounds → Rounds a b until done at pending
      → is_unsettled until at pending ≡ false → SecondPhase a b rounds until (Ok tt)
  doesnt_settle : {at pending : ℕ} → Rounds a b until rounds at pending
      → is_unsettled until at pending ≡ true
      → SecondPhase a b rounds until (Err (faults.NotSettled pending at))
  stops : {fault : SessionFault} → Stopped (is_unsettled until) a b (Between 0) rounds fault
      → SecondPhase a b rounds until (Err fault)

-- what each editor did, from this number on
abbrev pub EditorsDid : List Item → ℕ → ℕ → List (List EditorLine)
    → List (Option SessionFault) → Type 0
EditorsDid log start number [] ends = ends ≡ []
EditorsDid log start number (script ∷ scripts) [] = ⊥
EditorsDid log start number (script ∷ scripts) (end ∷ ends) =
    EditorDid log start number script end × EditorsDid log start (number + 1) scripts ends

-- the receiver's fault goes before an editor's, and the lower editor's first
abbrev pub SessionEnds : Stand → Stand → ℕ → ℕ → Option SessionFault
    → Result ⊤ SessionFault → Type 0
SessionEnds middle b rounds until (Some fault) result = (result ≡ Err fault) × (b ≡ middle)
SessionEnds middle b rounds until None result = SecondPhase middle b rounds until result

-- A session over a client that a pass with number 0 knew at a, and knows at b
pub record IsSession (a b : Stand) (rounds until : ℕ) (scripts : List (List EditorLine))
    (result : Result ⊤ SessionFault) : Type 0 where
  -- the moment at which all editors were joined
  pub middle : Stand
  pub receiver : Option SessionFault
  pub editors : List (Option SessionFault)
  pub first : FirstPhase a middle rounds receiver
  pub edited : EditorsDid b.known.seen a.known.start 1 scripts editors
  pub ends : SessionEnds middle b rounds until (first_of (receiver ∷ editors)) result
  -- the log is legal, and has no other items than those of the receiver and of the editors; after
  -- the first phase, only the receiver's
  pub past : Past
  pub log_is : b.known.seen ≡ items_of past
  pub legal : IsLegal past a.known.start a.known.seen 0 b.known.mine
  pub others : All (λ item. by_of item ≤ length scripts) (drop a.known.start b.known.seen)
  pub alone : (more : List Item) × (b.known.seen ≡ middle.known.seen ++ more)
      × All (λ item. by_of item ≡ 0) more

-- a session with this pass, from an empty inbox on, over a link and a chance
abbrev pub HasSession : Pass Item → Pass Item → Use StreamTold → Use ChanceTold → ℕ → ℕ
    → List (List EditorLine) → Result ⊤ SessionFault → Type 0
HasSession pass pass' link chance rounds until scripts result = (inbox : InboxModel)
    × IsSession (stand_at pass link.before empty_inbox chance.before)
    (stand_at pass' link.after inbox chance.after) rounds until scripts result

-- a session, by where it began and where it ended, what was wanted of it, and its answer
pub record Session : Type 0 where
  pub before : Stand
  pub after : Stand
  pub rounds : ℕ
  pub until : ℕ
  pub scripts : List (List EditorLine)
  pub result : Result ⊤ SessionFault
  pub is : IsSession before after rounds until scripts result

-- nothing is pending in a client, and its history has at least so many entries
pub record IsSettled (until : ℕ) (client : PlainClient) : Type 0 where
  pub pending : length client.pending ≡ 0
  pub entries : until ≤ length client.entries
