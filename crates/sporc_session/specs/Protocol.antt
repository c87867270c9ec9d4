-- The order of a receiver's acts.
use Rattle.std.specs.Prelude.{◌≡◌, ℕ, ◌+◌, nat_lt, ◌||◌, Bool, true, false, List, [], ◌∷◌, Result}
use Rattle.std.specs.Prelude.{Ok, Err, ⊤}
use Rattle.sporc_head.specs.declared.refusal.Refusal.{Refusal}
use Rattle.sporc_wire.specs.declared.to_server.ToServer.{ToServer}
use Rattle.sporc_wire.specs.declared.to_server.ToServer.TheVariants as to_server
use Rattle.sporc_client.specs.declared.fault.SubmitFault.{SubmitFault}
use Rattle.sporc_client.specs.declared.fault.SubmitFault.TheVariants as submits
use Rattle.sporc_client.specs.declared.submitted.Submitted.{Submitted}
use Rattle.sporc_client.specs.declared.submitted.Submitted.TheVariants as submitted
use Rattle.sporc_session.specs.Acts.{Act, Ask, Greet, Look, Pull, Take, Submit, Send, Check}
use Rattle.sporc_exchange.specs.Replies.{Ordered, Rejected}

-- what follows once all entries that came are accepted: a submission, or, if this entry was
-- rejected, a further pull
pub data Then : Type 0 where
  Submits : Then
  Drains : List ℕ → Refusal → Then

-- What the receiver does next. `rounds` were done, and the history has `at` entries
pub data Mode : Type 0 where
  -- it asks the client for its document and its member
  Asking : Mode
  -- it says Hello
  Greeting : (document : List ℕ) (member : ℕ) → Mode
  -- it looks at the client, and a round begins
  Between : (rounds : ℕ) → Mode
  -- it pulls
  Pulling : (rounds at : ℕ) → Mode
  -- it accepts these entries, and then goes on
  Taking : (rounds at : ℕ) → List (List ℕ) → Then → Mode
  -- it sends this entry
  Sending : (rounds at : ℕ) → List ℕ → Mode
  -- it sees whether the entry that was rejected is still on its way
  Checking : (rounds : ℕ) → List ℕ → Refusal → Mode
  -- the server rejected an entry that is still on its way
  Stuck : (rounds : ℕ) → Refusal → Mode

-- a submission that sends nothing, after which the session goes on
abbrev pub IsQuiet : Result Submitted SubmitFault → Type 0
IsQuiet (Ok submitted.Waiting) = ⊤
IsQuiet (Ok submitted.Nothing) = ⊤
IsQuiet (Ok (submitted.Dropped fault)) = ⊤
IsQuiet (Ok (submitted.Entry entry)) = ⊥
IsQuiet (Err submits.Removed) = ⊤
IsQuiet (Err submits.NoRight) = ⊤
IsQuiet (Err submits.HistoryFull) = ⊥
IsQuiet (Err submits.JournalFull) = ⊥
IsQuiet (Err (submits.HeadTooLong len)) = ⊤
IsQuiet (Err (submits.NoPairKey member)) = ⊤
IsQuiet (Err (submits.Exhausted next)) = ⊥
IsQuiet (Err submits.LeafFault) = ⊥
IsQuiet (Err submits.Memory) = ⊥

-- One act leads from what was next to what is next. A round begins where `ready` holds of the
-- history's length and the number pending
pub data Goes (ready : ℕ → ℕ → Bool) : Mode → Act → Mode → Type 0 where
  asks : {document : List ℕ} {member : ℕ}
      → Goes ready Asking (Ask document member) (Greeting document member)
  greets : {document : List ℕ} {member : ℕ}
      → Goes ready (Greeting document member) (Greet document member) (Between 0)
  looks : {n point at pending : ℕ} → ready at pending ≡ true
      → Goes ready (Between n) (Look point at pending) (Pulling n at)
  pulls : {n at : ℕ} {came : List (List ℕ)}
      → Goes ready (Pulling n at) (Pull at came) (Taking n at came Submits)
  takes : {n at : ℕ} {e : List ℕ} {es : List (List ℕ)} {next : Then}
      → Goes ready (Taking n at (e ∷ es) next) (Take (at + 1) e) (Taking n (at + 1) es next)
  submits_entry : {n at point : ℕ} {first second e : List ℕ} → Goes ready (Taking n at [] Submits)
      (Submit point first second (Ok (submitted.Entry e))) (Sending n at e)
  submits_none : {n at point : ℕ} {first second : List ℕ} {answer : Result Submitted SubmitFault}
      → IsQuiet answer
      → Goes ready (Taking n at [] Submits) (Submit point first second answer) (Between (n + 1))
  sends : {n at position : ℕ} {e : List ℕ}
      → Goes ready (Sending n at e) (Send e (Ordered position)) (Between (n + 1))
  rejected : {n at : ℕ} {e : List ℕ} {r : Refusal}
      → Goes ready (Sending n at e) (Send e (Rejected r)) (Taking n at [] (Drains e r))
  drains : {n at : ℕ} {e c : List ℕ} {cs : List (List ℕ)} {r : Refusal} → Goes ready
      (Taking n at [] (Drains e r)) (Pull at (c ∷ cs)) (Taking n at (c ∷ cs) (Drains e r))
  drained : {n at : ℕ} {e : List ℕ} {r : Refusal}
      → Goes ready (Taking n at [] (Drains e r)) (Pull at []) (Checking n e r)
  is_gone : {n point : ℕ} {e : List ℕ} {r : Refusal}
      → Goes ready (Checking n e r) (Check point e false) (Between (n + 1))
  is_there : {n point : ℕ} {e : List ℕ} {r : Refusal}
      → Goes ready (Checking n e r) (Check point e true) (Stuck n r)

-- acts in order lead from the one to the other
abbrev pub Leads : (ℕ → ℕ → Bool) → Mode → List Act → Mode → Type 0
Leads ready m [] m' = m ≡ m'
Leads ready m (act ∷ acts) m' = (k : Mode) × Goes ready m act k × Leads ready k acts m'

-- in the first phase a round always begins
abbrev pub always : ℕ → ℕ → Bool
always at pending = true

-- in the second one only if something is pending, or the history is shorter than it is to be
abbrev pub is_unsettled : ℕ → ℕ → ℕ → Bool
is_unsettled until at pending = nat_lt 0 pending || nat_lt at until

-- how many rounds were begun
abbrev pub rounds_begun : Mode → ℕ
rounds_begun Asking = 0
rounds_begun (Greeting document member) = 0
rounds_begun (Between n) = n
rounds_begun (Pulling n at) = n + 1
rounds_begun (Taking n at came next) = n + 1
rounds_begun (Sending n at e) = n + 1
rounds_begun (Checking n e r) = n + 1
rounds_begun (Stuck n r) = n + 1

-- the message that is to be sent next, if it is one
abbrev pub message_due : Mode → List ToServer
message_due Asking = []
message_due (Greeting document member) = to_server.Hello document member ∷ []
message_due (Between n) = []
message_due (Pulling n at) = to_server.Pull at ∷ []
message_due (Taking n at [] Submits) = []
message_due (Taking n at [] (Drains e r)) = to_server.Pull at ∷ []
message_due (Taking n at (c ∷ cs) next) = []
message_due (Sending n at e) = to_server.Submit e ∷ []
message_due (Checking n e r) = []
message_due (Stuck n r) = []
