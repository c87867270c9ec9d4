-- One call of a shared client.
use Rattle.std.specs.Prelude.{◌≡◌, ℕ, List, [], ◌++◌, map, Option, Result}
use Rattle.sporc_base.specs.FirstFault.{AnswersUnless}
use Rattle.sporc_base.specs.Lists.{StartsWith}
use Rattle.sporc_base.specs.Outcome.{GivesUnless}
use Rattle.lms_leaf.specs.declared.faults.LeafFault.{LeafFault}
use Rattle.sporc_turn.specs.declared.known.Known.{Known}
use Rattle.sporc_turn.specs.Log.{Agrees, own}
use Rattle.sporc_client.specs.declared.fault.SubmitFault.{SubmitFault}
use Rattle.sporc_client.specs.declared.fault.SubmitFault.TheVariants.{Memory}
use Rattle.sporc_client.specs.declared.submitted.Submitted.{Submitted}
use Rattle.sporc_client.specs.Answers.{added}
use Rattle.sporc_client.specs.Drawing.{MayDraw}
use Rattle.sporc_client.specs.Log.{Logged}
use Rattle.sporc_client.specs.PlainClient.{PlainClient}
use Rattle.sporc_client.specs.Submissions.{submission}
use Rattle.sporc_shared.specs.Items.{Item, Happened, Past, IsAllowed, by_of, client_of, items_of}
use Rattle.sporc_shared.specs.Items.{with_events}

-- the past of a client that its own calls can have, whose log begins with what a pass had seen, and
-- has the pass's own items, in order, and no others with its number after the start
pub record IsLegal (past : Past) (start : ℕ) (seen : List Item) (number : ℕ)
    (mine : List Item) : Type 0 where
  pub allowed : IsAllowed past
  pub begins : StartsWith (items_of past) seen
  pub mine_are : own by_of number start (items_of past) ≡ mine

-- A call through a pass that knew k, and knows k' afterwards. The client then had this past, and
-- the call added these events: none, or its one event
pub record IsCall (k k' : Known Item) (before : Past) (added : List Logged) : Type 0 where
  pub known : k'
      ≡ record k { seen = items_of (with_events before added); mine = k.mine ++ map Happened added }
  pub legal : IsLegal (with_events before added) k.start k.seen k.number
      (k.mine ++ map Happened added)
  pub found : Agrees by_of k (items_of before)
  pub agrees : Agrees by_of k' (items_of (with_events before added))

-- A call answered as a definition says of the client that it found, unless memory ran out. If it is
-- Ok it added this event
abbrev pub CallGives : {F : Type 0} → Known Item → Known Item → Logged → F
    → (PlainClient → Option F) → Result ℕ F → Type 0
CallGives k k' event memory fault answer = (before : Past) × IsCall k k' before (added answer event)
    × AnswersUnless memory answer (fault (client_of before))

-- a call added nothing, and this is so of the client that it found
abbrev pub CallTells : Known Item → Known Item → (Past → Type 0) → Type 0
CallTells k k' Is = (before : Past) × IsCall k k' before [] × Is before

-- a submission's answer, by what the drawing of the leaf may have answered, if one was due
pub record SubmitsAt (before : Past) (random : List ℕ)
    (answer : Result Submitted SubmitFault) : Type 0 where
  pub leaf : Result ℕ LeafFault
  pub may : MayDraw (client_of before) leaf
  pub gives : GivesUnless Memory (λ s. s) answer (submission (client_of before) random leaf)
