-- A fetch of all entries that a server has.
use Rattle.std.specs.Prelude.{◌≡◌, ◌≢◌, ℕ, ◌+◌, ◌<◌, List, [], ◌∷◌, length, take, All, Result, Ok}
use Rattle.std.specs.Prelude.{Err}
use Rattle.std.specs.List.{flat_map}
use Rattle.sporc_head.specs.declared.limits.TheConstants.{MAX_ENTRIES}
use Rattle.sporc_wire.specs.declared.to_server.ToServer.TheVariants as to_server
use Rattle.sporc_session.specs.declared.fault.SessionFault.{SessionFault}
use Rattle.sporc_session.specs.declared.fault.SessionFault.TheVariants as faults
use Rattle.sporc_session.specs.Acts.{Act, Greet, Pull, all_of, answers_by, messages_by}
use Rattle.sporc_session.specs.Asking.{AskFails, Unsent}
use Rattle.sporc_exchange.specs.Wires.{Exchanged, LinkStand, spelled}

-- Pulls in a row, by the entries that came at each. A Pull is from the number of entries that came
-- before it
abbrev pub pulls_from : ℕ → List (List (List ℕ)) → List Act
pulls_from at [] = []
pulls_from at (came ∷ more) = Pull at came ∷ pulls_from (at + length came) more

-- all entries that came
abbrev pub all_came : List (List (List ℕ)) → List (List ℕ)
all_came pulled = flat_map (λ came. came) pulled

-- After these pulls one more is due: entries came at each, and fewer in all than a history can have
pub record IsPullDue (pulled : List (List (List ℕ))) : Type 0 where
  pub found : All (λ came. came ≢ []) pulled
  pub few : length (all_came pulled) < MAX_ENTRIES

-- Hello was sent and then Pulls, each as it was due after those before it, and these entries came
pub record Pulled (a b : LinkStand) (document : List ℕ) (member : ℕ)
    (pulled : List (List (List ℕ))) : Type 0 where
  pub due : (n : ℕ) → n < length pulled → IsPullDue (take n pulled)
  pub did :
      let acts : List Act = Greet document member ∷ pulls_from 0 pulled in
      Exchanged a b (spelled (all_of messages_by acts)) (all_of answers_by acts)

-- these entries came, and no further Pull is due
pub record FetchEnds (a b : LinkStand) (document : List ℕ) (member : ℕ)
    (entries : List (List ℕ)) : Type 0 where
  pub pulled : List (List (List ℕ))
  pub did : Pulled a b document member pulled
  pub ends : ¬ IsPullDue pulled
  pub are : entries ≡ all_came pulled

-- a further Pull was due at a moment between, and was not answered
pub record FetchStops (a b : LinkStand) (document : List ℕ) (member : ℕ)
    (fault : SessionFault) : Type 0 where
  pub pulled : List (List (List ℕ))
  pub middle : LinkStand
  pub did : Pulled a middle document member pulled
  pub due : IsPullDue pulled
  pub fails : AskFails middle b (to_server.Pull (length (all_came pulled))) fault

-- entries came, and memory ran out
pub record FetchLoses (a b : LinkStand) (document : List ℕ) (member : ℕ)
    (fault : SessionFault) : Type 0 where
  pub pulled : List (List (List ℕ))
  pub did : Pulled a b document member pulled
  pub is : fault ≡ faults.Memory

-- a fetch failed: Hello was not sent, a Pull was not answered, or there was no room for what came
pub data FetchFails (a b : LinkStand) (document : List ℕ) (member : ℕ)
    (fault : SessionFault) : Type 0 where
  not_greeted : Unsent a b (to_server.Hello document member) fault
      → FetchFails a b document member fault
  stops : FetchStops a b document member fault → FetchFails a b document member fault
  loses : FetchLoses a b document member fault → FetchFails a b document member fault

-- A fetch of a document's entries in the name of a member, over a link: its entries, or why it
-- failed
abbrev pub IsFetch : LinkStand → LinkStand → List ℕ → ℕ
    → Result (List (List ℕ)) SessionFault → Type 0
IsFetch a b document member (Ok entries) = FetchEnds a b document member entries
IsFetch a b document member (Err fault) = FetchFails a b document member fault
