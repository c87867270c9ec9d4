-- What the receiver of a session does, as a list of acts, and what each act adds to the log, the
-- link and the chance.
use Rattle.std.specs.Prelude.{◌≡◌, ◌≤◌, ℕ, ◌+◌, Bool, List, [], ◌∷◌, ◌++◌, drop, length, map}
use Rattle.std.specs.Prelude.{Result, ⊤}
use Rattle.sporc_base.specs.Lists.{StartsWith}
use Rattle.lms_leaf.specs.declared.faults.LeafFault.{LeafFault}
use Rattle.sporc_wire.specs.declared.to_client.ToClient.{ToClient}
use Rattle.sporc_wire.specs.declared.to_server.ToServer.{ToServer}
use Rattle.sporc_wire.specs.declared.to_server.ToServer.TheVariants as to_server
use Rattle.sporc_exchange.specs.Replies.{ServerReply, handed_out, reply_message}
use Rattle.sporc_client.specs.declared.fault.SubmitFault.{SubmitFault}
use Rattle.sporc_client.specs.declared.submitted.Submitted.{Submitted}
use Rattle.sporc_client.specs.Drawing.{MayDraw}
use Rattle.sporc_client.specs.Log.{Accept}
use Rattle.sporc_client.specs.PlainClient.{Opening, PlainClient}
use Rattle.sporc_client.specs.Step.{is_flight}
use Rattle.sporc_client.specs.Submissions.{submission, submission_added}
use Rattle.sporc_shared.specs.Items.{Item, Opened, Happened}
use Rattle.sporc_session.specs.Points.{IsClientAt, IsPoint}

pub data Act : Type 0 where
  -- the client was asked for its document and its member
  Ask : (document : List ℕ) (member : ℕ) → Act
  -- Hello was sent
  Greet : (document : List ℕ) (member : ℕ) → Act
  -- the client was looked at: its history had so many entries, and so many items were pending
  Look : (point at pending : ℕ) → Act
  -- a Pull was sent, and these entries came
  Pull : (from : ℕ) → List (List ℕ) → Act
  -- an entry was accepted as the one at a position
  Take : (position : ℕ) → List ℕ → Act
  -- a submission, with two random words, and its answer
  Submit : (point : ℕ) (first second : List ℕ) → Result Submitted SubmitFault → Act
  -- an entry was sent, and this answer came
  Send : List ℕ → ServerReply → Act
  -- it was seen whether this entry is still on its way
  Check : (point : ℕ) → List ℕ → Bool → Act

-- the items that an act adds to the log
abbrev pub items_by : Act → List Item
items_by (Ask document member) = []
items_by (Greet document member) = []
items_by (Look point at pending) = []
items_by (Pull from came) = []
items_by (Take position entry) = Happened (Accept 0 entry) ∷ []
items_by (Submit point first second answer) = map Happened (submission_added 0 answer)
items_by (Send entry reply) = []
items_by (Check point entry stays) = []

-- the messages that it sends
abbrev pub messages_by : Act → List ToServer
messages_by (Ask document member) = []
messages_by (Greet document member) = to_server.Hello document member ∷ []
messages_by (Look point at pending) = []
messages_by (Pull from came) = to_server.Pull from ∷ []
messages_by (Take position entry) = []
messages_by (Submit point first second answer) = []
messages_by (Send entry reply) = to_server.Submit entry ∷ []
messages_by (Check point entry stays) = []

-- the answers that it receives
abbrev pub answers_by : Act → List ToClient
answers_by (Ask document member) = []
answers_by (Greet document member) = []
answers_by (Look point at pending) = []
answers_by (Pull from came) = handed_out from came ∷ []
answers_by (Take position entry) = []
answers_by (Submit point first second answer) = []
answers_by (Send entry reply) = reply_message reply ∷ []
answers_by (Check point entry stays) = []

-- the random words that it draws
abbrev pub words_by : Act → List (List ℕ)
words_by (Ask document member) = []
words_by (Greet document member) = []
words_by (Look point at pending) = []
words_by (Pull from came) = []
words_by (Take position entry) = []
words_by (Submit point first second answer) = first ∷ second ∷ []
words_by (Send entry reply) = []
words_by (Check point entry stays) = []

-- the moment at which an act saw the client, or, if it didn't look at it, the one before
abbrev pub moment_after : ℕ → Act → ℕ
moment_after n (Look point at pending) = point
moment_after n (Submit point first second answer) = point
moment_after n (Check point entry stays) = point
moment_after n _ = n

-- no act saw the client at a moment before this one, nor at one before that of an earlier act
abbrev pub AreInOrder : ℕ → List Act → Type 0
AreInOrder n [] = ⊤
AreInOrder n (act ∷ acts) = (n ≤ moment_after n act) × AreInOrder (moment_after n act) acts

-- each of a list of acts, in order
abbrev pub all_of : {X : Type 0} → (Act → List X) → List Act → List X
all_of f [] = []
all_of f (act ∷ acts) = f act ++ all_of f acts

-- the client was opened for this document and this member
abbrev pub IsFor : List Item → List ℕ → ℕ → Type 0
IsFor log document member =
    (opening : Opening) × (first_leaf : ℕ) × StartsWith log (Opened opening first_leaf ∷ [])
    × (document ≡ opening.genesis.document) × (member ≡ opening.kit.me.member)

-- what a look tells of a client
pub record Looked (client : PlainClient) (at pending : ℕ) : Type 0 where
  pub at_is : at ≡ length client.entries
  pub pending_is : pending ≡ length client.pending

-- An act fits the log, where the receiver had added these items: what it saw is so at a point after
-- them, and before its next item, and the item that it added follows that point
abbrev pub Fits : List Item → ℕ → List Item → Act → Type 0
Fits log start mine (Ask document member) = IsFor log document member
Fits log start mine (Greet document member) = ⊤
Fits log start mine (Look point at pending) = IsPoint log start 0 mine point
    × ((client : PlainClient) × IsClientAt log point client × Looked client at pending)
Fits log start mine (Pull from came) = ⊤
Fits log start mine (Take position entry) = ⊤
Fits log start mine (Submit point first second answer) = IsPoint log start 0 mine point
    × ((client : PlainClient) × (leaf : Result ℕ LeafFault) × IsClientAt log point client
    × MayDraw client leaf × (answer ≡ submission client (first ++ second) leaf))
    × StartsWith (drop point log) (map Happened (submission_added 0 answer))
Fits log start mine (Send entry reply) = ⊤
Fits log start mine (Check point entry stays) = IsPoint log start 0 mine point
    × ((client : PlainClient) × IsClientAt log point client × (stays ≡ is_flight client entry))

-- each of a list of acts does, in order
abbrev pub FitAll : List Item → ℕ → List Item → List Act → Type 0
FitAll log start mine [] = ⊤
FitAll log start mine (act ∷ acts) =
    Fits log start mine act × FitAll log start (mine ++ items_by act) acts
