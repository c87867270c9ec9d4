-- Rounds of a receiver as whole lists of acts.
use Rattle.std.specs.Prelude.{◌≡◌, ◌≢◌, ℕ, ◌+◌, Bool, true, false, List, [], ◌∷◌, ◌++◌, All}
use Rattle.std.specs.Prelude.{flat_map, length, Result, Ok}
use Rattle.sporc_head.specs.declared.refusal.Refusal.{Refusal}
use Rattle.sporc_client.specs.declared.fault.SubmitFault.{SubmitFault}
use Rattle.sporc_client.specs.declared.submitted.Submitted.{Submitted}
use Rattle.sporc_client.specs.declared.submitted.Submitted.TheVariants as submitted
use Rattle.sporc_session.specs.Acts.{Act, Ask, Greet, Look, Pull, Submit, Send, Check}
use Rattle.sporc_exchange.specs.Replies.{Ordered}
use Rattle.sporc_exchange.specs.Replies.{Rejected}
use Rattle.sporc_session.specs.Endings.{takes_of}
use Rattle.sporc_session.specs.Protocol.{IsQuiet}

-- it pulls the entries after so many, and accepts those that came
abbrev pub pulled : ℕ → List (List ℕ) → List Act
pulled at came = Pull at came ∷ takes_of at came

-- it does so for each of these, and then no more come
abbrev pub pulled_all : ℕ → List (List (List ℕ)) → List Act
pulled_all at [] = Pull at [] ∷ []
pulled_all at (came ∷ more) = pulled at came ++ pulled_all (at + length came) more

-- What follows a submission, after so many entries. The entry that it made is sent, if it made one.
-- If the server rejects that, all entries that there are are pulled, and then it is no longer on
-- its way
pub data IsSent (at : ℕ) : Result Submitted SubmitFault → List Act → Type 0 where
  nothing : {answer : Result Submitted SubmitFault} → IsQuiet answer → IsSent at answer []
  is_ordered : {entry : List ℕ} {position : ℕ}
      → IsSent at (Ok (submitted.Entry entry)) (Send entry (Ordered position) ∷ [])
  is_rejected : {entry : List ℕ} {refusal : Refusal} (all : List (List (List ℕ))) (point : ℕ)
      → All (λ came. came ≢ []) all → IsSent at (Ok (submitted.Entry entry))
      (Send entry (Rejected refusal) ∷ pulled_all at all ++ Check point entry false ∷ [])

-- a look at the client, where a round is to begin; a pull; a submission, and what follows it
pub record IsRound (ready : ℕ → ℕ → Bool) (acts : List Act) : Type 0 where
  pub looked_at : ℕ
  pub at : ℕ
  pub pending : ℕ
  pub begins : ready at pending ≡ true
  pub came : List (List ℕ)
  pub submitted_at : ℕ
  pub first : List ℕ
  pub second : List ℕ
  pub answer : Result Submitted SubmitFault
  pub rest : List Act
  pub is_sent : IsSent (at + length came) answer rest
  pub are : acts
      ≡ Look looked_at at pending ∷ pulled at came ++ Submit submitted_at first second answer ∷ rest

-- so many rounds, one after the other
pub record AreRounds (ready : ℕ → ℕ → Bool) (n : ℕ) (acts : List Act) : Type 0 where
  pub rounds : List (List Act)
  pub number : length rounds ≡ n
  pub each : All (IsRound ready) rounds
  pub are : acts ≡ flat_map (λ round. round) rounds

-- the client is asked for its document and its member, Hello says so, and then come so many rounds
pub record IsFirstPhase (ready : ℕ → ℕ → Bool) (n : ℕ) (acts : List Act) : Type 0 where
  pub document : List ℕ
  pub member : ℕ
  pub rest : List Act
  pub rounds : AreRounds ready n rest
  pub are : acts ≡ Ask document member ∷ Greet document member ∷ rest
