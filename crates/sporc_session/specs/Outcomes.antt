-- What the steps of a receiver come to.
use Rattle.std.specs.Prelude.{◌≡◌, ◌+◌, ◌≤◌, ℕ, List, [], ◌∷◌, ◌++◌, length, Option, None, Some}
use Rattle.std.specs.Prelude.{Result, MatchResult, ⊤, Ok, Bool}
use Rattle.sporc_outside.specs.Told.{AppendsItems}
use Rattle.sporc_head.specs.declared.limits.TheConstants.{MAX_ENTRIES}
use Rattle.sporc_turn.specs.declared.known.Known.{Known}
use Rattle.sporc_client.specs.declared.fault.SubmitFault.{SubmitFault}
use Rattle.sporc_client.specs.declared.submitted.Submitted.{Submitted}
use Rattle.sporc_client.specs.declared.submitted.Submitted.TheVariants as submitted
use Rattle.sporc_client.specs.Log.{Accept}
use Rattle.sporc_shared.specs.Items.{Item, Happened}
use Rattle.sporc_session.specs.declared.fault.SessionFault.{SessionFault}
use Rattle.sporc_session.specs.declared.fault.SessionFault.TheVariants as faults
use Rattle.sporc_session.specs.Acts.{all_of, items_by}
use Rattle.sporc_session.specs.Asking.{Gathered, GatherStopped}
use Rattle.sporc_session.specs.Traces.{Stand, KnowsMore, stand}
use Rattle.sporc_session.specs.Endings.{TakeCause, TakingStopped, takes_of, SubmitCause, Submission}
use Rattle.sporc_session.specs.Endings.{Did, Stopped}
use Rattle.sporc_session.specs.Protocol.{Mode, IsQuiet, always, rounds_begun}
use Rattle.sporc_exchange.specs.Wires.{LinkStand}

-- an entry was accepted after so many others, or why not
abbrev pub TookOne : Known Item → Known Item → ℕ → List ℕ → Result ⊤ SessionFault → Type 0
TookOne k k' at entry result =
    MatchResult result
    (λ x. KnowsMore k k' (Happened (Accept 0 entry) ∷ []) × (at + 1 ≤ MAX_ENTRIES))
    (λ f. KnowsMore k k' [] × TakeCause k' (at + 1) entry f)

-- entries were
abbrev pub TookAll : Known Item → Known Item → ℕ → List (List ℕ) → Result ⊤ SessionFault → Type 0
TookAll k k' at entries result = MatchResult result
    (λ x. KnowsMore k k' (all_of items_by (takes_of at entries))
    × (at + length entries ≤ MAX_ENTRIES)) (λ f. TakingStopped k k' at entries f)

-- what a submission's answer says of the entry that it made
abbrev pub IsMade : Option (List ℕ) → Result Submitted SubmitFault → Type 0
IsMade None answer = IsQuiet answer
IsMade (Some entry) answer = answer ≡ Ok (submitted.Entry entry)

-- a submission, and the entry that it made
abbrev pub SubmittedOne : Known Item → Known Item → Option (List (List ℕ)) → Option (List (List ℕ))
    → ℕ → ℕ → Result (Option (List ℕ)) SessionFault → Type 0
SubmittedOne k k' words words' count count' result = MatchResult result
    (λ made. (answer : Result Submitted SubmitFault) × (drawn : List (List ℕ))
    × Submission k k' drawn answer × AppendsItems words words' drawn × IsMade made answer)
    (λ f. (drawn : List (List ℕ)) × (length drawn ≤ 2) × AppendsItems words words' drawn
    × KnowsMore k k' [] × SubmitCause k' drawn count count' f)

-- entries were pulled and accepted, and how many there are now
pub record GatheredAll (k k' : Known Item) (a b : LinkStand) (at : ℕ)
    (result : Result ℕ SessionFault) : Type 0 where
  pub ends : MatchResult result (λ now. (came : List (List ℕ)) × (now ≡ at + length came)
      × (now ≤ MAX_ENTRIES) × Gathered k k' a b at came) (λ f. GatherStopped k k' a b at f)

-- the receiver came from one mode to another, or stopped
pub record DidOrStopped (ready : ℕ → ℕ → Bool) (a b : Stand) (m m' : Mode)
    (result : Result ⊤ SessionFault) : Type 0 where
  pub ends : MatchResult result (λ x. Did ready a b m m')
      (λ f. Stopped ready a b m (rounds_begun m') f)

-- it did so in a round of either phase, whichever it is: each mode is given by the round's number
abbrev pub RoundDid : Stand → Stand → (ℕ → Mode) → (ℕ → Mode) → Result ⊤ SessionFault → Type 0
RoundDid a b from to result =
    (ready : ℕ → ℕ → Bool) (n : ℕ) → DidOrStopped ready a b (from n) (to n) result

-- and it drew nothing, whatever the chance is
abbrev pub LinkDid : Known Item → Known Item → LinkStand → LinkStand → (ℕ → Mode) → (ℕ → Mode)
    → Result ⊤ SessionFault → Type 0
LinkDid k k' a b from to result = (words : Option (List (List ℕ))) (count : ℕ)
    → RoundDid (stand k a words count) (stand k' b words count) from to result

-- it did so in the first phase
abbrev pub FirstDid : Stand → Stand → Mode → Mode → Result ⊤ SessionFault → Type 0
FirstDid a b from to result = DidOrStopped always a b from to result

-- two words were drawn, which make this string
abbrev pub Drew : Option (List (List ℕ)) → Option (List (List ℕ)) → List ℕ → Type 0
Drew given given' random = (first : List ℕ) × (second : List ℕ) × (random ≡ first ++ second)
    × AppendsItems given given' (first ∷ second ∷ [])

-- the chance failed, before both words were drawn
abbrev pub DrewFew : Option (List (List ℕ)) → Option (List (List ℕ)) → SessionFault → Type 0
DrewFew given given' fault = (fault ≡ faults.ChanceFault)
    × ((drawn : List (List ℕ)) × (length drawn ≤ 2) × AppendsItems given given' drawn)
