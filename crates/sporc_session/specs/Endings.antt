-- Why a receiver stops before its rounds are done.
use Rattle.std.specs.Prelude.{◌≡◌, ◌≢◌, ◌⊎◌, ℕ, ◌+◌, ◌≤◌, Bool, List, [], ◌∷◌, ◌++◌, length, map}
use Rattle.std.specs.Prelude.{take, Some, Result, Err, ⊤}
use Rattle.std.specs.Io.KnownBytes.{IsAtEnd}
use Rattle.lms_leaf.specs.declared.faults.LeafFault.{LeafFault}
use Rattle.lms_leaf.specs.declared.faults.LeafFault.TheVariants as leaves
use Rattle.sporc_outside.specs.Counts.{Rose}
use Rattle.sporc_turn.specs.declared.known.Known.{Known}
use Rattle.sporc_turn.specs.declared.limits.TheConstants.{MAX_TICKETS}
use Rattle.sporc_wire.specs.declared.to_client.ToClient.{ToClient}
use Rattle.sporc_wire.specs.declared.to_server.ToServer.{ToServer}
use Rattle.sporc_client.specs.declared.fault.AcceptFault.{AcceptFault}
use Rattle.sporc_client.specs.declared.fault.AcceptFault.TheVariants as accepts
use Rattle.sporc_client.specs.declared.fault.SubmitFault.{SubmitFault}
use Rattle.sporc_client.specs.declared.fault.SubmitFault.TheVariants as submits
use Rattle.sporc_client.specs.declared.submitted.Submitted.{Submitted}
use Rattle.sporc_client.specs.Answers.{accept_fault}
use Rattle.sporc_client.specs.Drawing.{MayDraw}
use Rattle.sporc_client.specs.PlainClient.{PlainClient}
use Rattle.sporc_client.specs.Submissions.{submission, submission_added}
use Rattle.sporc_shared.specs.Items.{Item, Happened}
use Rattle.sporc_exchange.specs.Replies.{IsAnswer}
use Rattle.sporc_session.specs.declared.fault.SessionFault.{SessionFault}
use Rattle.sporc_session.specs.declared.fault.SessionFault.TheVariants as faults
use Rattle.sporc_session.specs.Acts.{Act, Take, Submit}
use Rattle.sporc_session.specs.Acts.{all_of, items_by, Fits}
use Rattle.sporc_session.specs.Traces.{Stand, Trace, KnowsMore}
use Rattle.sporc_session.specs.Points.{IsClientAt, IsPoint}
use Rattle.sporc_session.specs.Protocol.{Mode, Taking, Stuck, Then, Submits, Leads, message_due}
use Rattle.sporc_session.specs.Protocol.{rounds_begun}
use Rattle.sporc_exchange.specs.Wires.{IsBadFrame, IsCut, IsLastFrom, spelled}

-- the next act is that this entry is accepted as the one at this position
abbrev pub IsTaking : Mode → ℕ → List ℕ → Type 0
IsTaking m position entry = (n : ℕ) × (at : ℕ) × (es : List (List ℕ)) × (next : Then)
    × (m ≡ Taking n at (entry ∷ es) next) × (position ≡ at + 1)

-- the next act is a submission
abbrev pub IsSubmitting : Mode → Type 0
IsSubmitting m = (n : ℕ) × (at : ℕ) × (m ≡ Taking n at [] Submits)

-- the client answers so to the entry, at a point before the next item of the receiver
pub record AcceptGives (k : Known Item) (position : ℕ) (entry : List ℕ)
    (fault : AcceptFault) : Type 0 where
  pub point : ℕ
  pub client : PlainClient
  pub is_point : IsPoint k.seen k.start 0 k.mine point
  pub is_client : IsClientAt k.seen point client
  pub gives : accept_fault client position entry ≡ Some fault

-- the client answers so to a submission with the words that were drawn, by what the drawing of a
-- leaf may have answered
pub record SubmitGives (k : Known Item) (drawn : List (List ℕ)) (fault : SubmitFault) : Type 0 where
  pub point : ℕ
  pub client : PlainClient
  pub first : List ℕ
  pub second : List ℕ
  pub leaf : Result ℕ LeafFault
  pub is_point : IsPoint k.seen k.start 0 k.mine point
  pub is_client : IsClientAt k.seen point client
  pub may : MayDraw client leaf
  pub drawn_are : drawn ≡ first ∷ second ∷ []
  pub gives : submission client (first ++ second) leaf ≡ Err fault

-- a message came that is no answer to the one that was sent; the place is that of its frame's start
pub record IsWrongAnswer (b : Stand) (m : Mode) (written : List ℕ) (answers : List ToClient)
    (place : ℕ) : Type 0 where
  pub message : ToServer
  pub answer : ToClient
  pub due : message_due m ≡ message ∷ []
  pub sent : written ≡ spelled (message ∷ [])
  pub came : answers ≡ answer ∷ []
  pub wrong : ¬ IsAnswer message answer
  pub starts : IsLastFrom place answer b.link.inbox

-- a frame came that is no message
pub record IsNoMessage (b : Stand) (m : Mode) (written : List ℕ) (answers : List ToClient)
    (place : ℕ) : Type 0 where
  pub due : message_due m ≢ []
  pub sent : written ≡ spelled (message_due m)
  pub came : answers ≡ []
  pub frame : IsBadFrame b.link.inbox place

-- What a fault says of the mode in which the receiver stopped: of the bytes that were written and
-- the answers that came beside its acts, and of the words that were drawn beside them
abbrev pub Cause : Stand → Stand → Mode → List ℕ → List ToClient → List (List ℕ)
    → SessionFault → Type 0
Cause a b m written answers words faults.LinkFault =
    Rose a.link.faults b.link.faults × (message_due m ≢ [])
Cause a b m written answers words (faults.LinkEnded taken) =
    IsAtEnd b.link.left × (message_due m ≢ []) × (written ≡ spelled (message_due m))
    × (answers ≡ []) × IsCut b.link.inbox × (taken ≡ b.link.inbox.taken)
Cause a b m written answers words (faults.BadMessage place) =
    IsWrongAnswer b m written answers place ⊎ IsNoMessage b m written answers place
Cause a b m written answers words (faults.Refused position refusal) = (entry : List ℕ)
    × IsTaking m position entry × AcceptGives b.known position entry (accepts.Refused refusal)
Cause a b m written answers words faults.JournalFull = ((position : ℕ) × (entry : List ℕ)
    × IsTaking m position entry × AcceptGives b.known position entry accepts.JournalFull)
    ⊎ (IsSubmitting m × SubmitGives b.known words submits.JournalFull)
Cause a b m written answers words faults.HistoryFull =
    IsSubmitting m × SubmitGives b.known words submits.HistoryFull
Cause a b m written answers words (faults.Leaf (leaves.Exhausted next)) =
    IsSubmitting m × SubmitGives b.known words (submits.Exhausted next)
Cause a b m written answers words (faults.Leaf leaves.DiskFault) =
    IsSubmitting m × SubmitGives b.known words submits.LeafFault
Cause a b m written answers words faults.ChanceFault =
    IsSubmitting m × Rose a.chance_faults b.chance_faults
Cause a b m written answers words (faults.ServerRejected refusal) = (n : ℕ) × (m ≡ Stuck n refusal)
Cause a b m written answers words (faults.Worn ticket) = ticket ≡ MAX_TICKETS
Cause a b m written answers words faults.Memory = ⊤
Cause a b m written answers words (faults.NotSettled pending at) = ⊥
Cause a b m written answers words (faults.EditRefused editor line fault) = ⊥

-- only a prefix of the message that was due was written, only an answer that is none to it came
-- beside the acts, and at most two words were drawn, for a submission
pub record IsBeside (m : Mode) (written : List ℕ) (answers : List ToClient)
    (words : List (List ℕ)) : Type 0 where
  pub sent_due : (n : ℕ) × (written ≡ take n (spelled (message_due m)))
  pub came : (answers ≡ []) ⊎ ((message : ToServer) × (answer : ToClient)
      × (message_due m ≡ message ∷ []) × (answers ≡ answer ∷ []) × ¬ IsAnswer message answer)
  pub few : length words ≤ 2
  pub drawn : ¬ IsSubmitting m → words ≡ []

-- The receiver did acts that lead from one mode to another, and so it stands there
pub record Did (ready : ℕ → ℕ → Bool) (a b : Stand) (m m' : Mode) : Type 0 where
  pub acts : List Act
  pub trace : Trace a b acts [] [] []
  pub leads : Leads ready m acts m'

-- The receiver did acts, and stopped with this fault in the mode to which they lead, with no more
-- rounds begun than these
pub record Stopped (ready : ℕ → ℕ → Bool) (a b : Stand) (m : Mode) (rounds : ℕ)
    (fault : SessionFault) : Type 0 where
  pub acts : List Act
  pub reached : Mode
  pub written : List ℕ
  pub answers : List ToClient
  pub words : List (List ℕ)
  pub trace : Trace a b acts written answers words
  pub leads : Leads ready m acts reached
  pub within : rounds_begun reached ≤ rounds
  pub beside : IsBeside reached written answers words
  pub cause : Cause a b reached written answers words fault

-- why an entry wasn't accepted
abbrev pub TakeCause : Known Item → ℕ → List ℕ → SessionFault → Type 0
TakeCause k position entry (faults.Refused p refusal) =
    (p ≡ position) × AcceptGives k position entry (accepts.Refused refusal)
TakeCause k position entry faults.JournalFull = AcceptGives k position entry accepts.JournalFull
TakeCause k position entry (faults.Worn ticket) = ticket ≡ MAX_TICKETS
TakeCause k position entry faults.Memory = ⊤
TakeCause k position entry _ = ⊥

-- why a submission ends the session; the count of the chance's faults went from one number to
-- another
abbrev pub SubmitCause : Known Item → List (List ℕ) → ℕ → ℕ → SessionFault → Type 0
SubmitCause k drawn before after faults.JournalFull = SubmitGives k drawn submits.JournalFull
SubmitCause k drawn before after (faults.Worn ticket) = ticket ≡ MAX_TICKETS
SubmitCause k drawn before after faults.Memory = ⊤
SubmitCause k drawn before after (faults.Leaf (leaves.Exhausted next)) =
    SubmitGives k drawn (submits.Exhausted next)
SubmitCause k drawn before after (faults.Leaf leaves.DiskFault) =
    SubmitGives k drawn submits.LeafFault
SubmitCause k drawn before after faults.HistoryFull = SubmitGives k drawn submits.HistoryFull
SubmitCause k drawn before after faults.ChanceFault = Rose before after
SubmitCause k drawn before after _ = ⊥

-- the receiver accepts these entries after so many others
abbrev pub takes_of : ℕ → List (List ℕ) → List Act
takes_of at [] = []
takes_of at (entry ∷ entries) = Take (at + 1) entry ∷ takes_of (at + 1) entries

-- it accepted some of them, and then a fault came
pub record TakingStopped (k k' : Known Item) (at : ℕ) (entries : List (List ℕ))
    (fault : SessionFault) : Type 0 where
  pub front : List (List ℕ)
  pub entry : List ℕ
  pub rest : List (List ℕ)
  pub are : entries ≡ front ++ entry ∷ rest
  pub knows : KnowsMore k k' (all_of items_by (takes_of at front))
  pub cause : TakeCause k' (at + length front + 1) entry fault

-- a submission was answered
pub record Submission (k k' : Known Item) (drawn : List (List ℕ))
    (answer : Result Submitted SubmitFault) : Type 0 where
  pub point : ℕ
  pub later : length k.seen ≤ point
  pub first : List ℕ
  pub second : List ℕ
  pub knows : KnowsMore k k' (map Happened (submission_added 0 answer))
  pub fits : Fits k'.seen k.start k.mine (Submit point first second answer)
  pub drawn_are : drawn ≡ first ∷ second ∷ []
