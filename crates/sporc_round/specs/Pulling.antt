-- Pulls of a client over a link.
use Rattle.std.specs.Prelude.{◌≡◌, ◌⊎◌, ℕ, nat_lt, Bool, true, List, [], ◌∷◌, ◌++◌, length, Result}
use Rattle.std.specs.Prelude.{IfErr, IfOk, OnOk, ⊤}
use Rattle.sporc_wire.specs.declared.to_client.ToClient.{ToClient}
use Rattle.sporc_wire.specs.declared.to_server.ToServer.{ToServer}
use Rattle.sporc_wire.specs.declared.to_server.ToServer.TheVariants as to_server
use Rattle.sporc_exchange.specs.declared.fault.ExchangeFault.{ExchangeFault}
use Rattle.sporc_exchange.specs.Asking.{AskFails}
use Rattle.sporc_exchange.specs.Replies.{handed_out}
use Rattle.sporc_exchange.specs.Wires.{Exchanged, LinkStand, spelled}
use Rattle.sporc_client.specs.Answers.{is_out}
use Rattle.sporc_client.specs.ClientModel.{ClientModel, state_of, with_events}
use Rattle.sporc_client.specs.PlainClient.{PlainClient}
use Rattle.sporc_client.specs.Step.{log_of_entries, replay_from}
use Rattle.sporc_round.specs.declared.fault.RoundFault.{RoundFault}
use Rattle.sporc_round.specs.declared.fault.RoundFault.TheVariants as faults
use Rattle.sporc_round.specs.Taking.{StopsAt, entries_taken}

-- what a client asks by a pull
abbrev pub pull_of : PlainClient → ToServer
pull_of c = to_server.Pull (length c.entries)

-- the entries behind those of a client were asked for, and these came
abbrev pub Came : PlainClient → LinkStand → LinkStand → List (List ℕ) → Type 0
Came c a b came =
    Exchanged a b (spelled (pull_of c ∷ [])) (handed_out (length c.entries) came ∷ [])

-- entries came, and the client took them
pub record Gathers {D : Type 0} (c c' : ClientModel D) (a b : LinkStand)
    (came : List (List ℕ)) : Type 0 where
  pub did : Came (state_of c) a b came
  pub log : c' ≡ with_events c (log_of_entries (entries_taken (state_of c) came))

-- none came, or one of them was not accepted
pub data GatherStopped {D : Type 0} (c c' : ClientModel D) (a b : LinkStand)
    (fault : RoundFault) : Type 0 where
  asking : (cause : ExchangeFault) → c' ≡ c → AskFails a b (pull_of (state_of c)) cause
      → fault ≡ faults.Exchange cause → GatherStopped c c' a b fault
  taking : (came : List (List ℕ)) → Came (state_of c) a b came → StopsAt c c' came fault
      → GatherStopped c c' a b fault

-- the entries behind those of a client were pulled and accepted, and whether any came; or why not
pub record GatherEnds {D : Type 0} (c c' : ClientModel D) (a b : LinkStand)
    (result : Result Bool RoundFault) : Type 0 where
  pub ok : IfOk result (λ more. (came : List (List ℕ)) × Gathers c c' a b came
      × (more ≡ nat_lt 0 (length came)))
  pub err : IfErr result (GatherStopped c c' a b)

-- a client that took of entries that came
abbrev pub after_batch : PlainClient → List (List ℕ) → PlainClient
after_batch c came = replay_from c (log_of_entries (entries_taken c came))

-- Pulls one behind another are told by the entries that each of them brought. What was asked:
abbrev pub pulls_in : PlainClient → List (List (List ℕ)) → List ToServer
pulls_in c [] = []
pulls_in c (came ∷ batches) = pull_of c ∷ pulls_in (after_batch c came) batches

-- what was answered
abbrev pub answers_in : PlainClient → List (List (List ℕ)) → List ToClient
answers_in c [] = []
answers_in c (came ∷ batches) =
    handed_out (length c.entries) came ∷ answers_in (after_batch c came) batches

-- and which entries the client took
abbrev pub taken_in : PlainClient → List (List (List ℕ)) → List (List ℕ)
taken_in c [] = []
taken_in c (came ∷ batches) = entries_taken c came ++ taken_in (after_batch c came) batches

-- pulls brought these entries in turn
pub record Pulled {D : Type 0} (c c' : ClientModel D) (a b : LinkStand)
    (batches : List (List (List ℕ))) : Type 0 where
  pub did : Exchanged a b (spelled (pulls_in (state_of c) batches))
      (answers_in (state_of c) batches)
  pub log : c' ≡ with_events c (log_of_entries (taken_in (state_of c) batches))

-- nothing is left to be pulled: the device is removed, or the last pull brought nothing
abbrev pub IsPulled : PlainClient → List (List (List ℕ)) → Type 0
IsPulled c batches = (is_out c ≡ true)
    ⊎ ((before : List (List (List ℕ))) × (batches ≡ before ++ [] ∷ []))

-- pulls brought entries in turn, and the one behind them stopped
pub record PullStopped {D : Type 0} (c c' : ClientModel D) (a b : LinkStand)
    (fault : RoundFault) : Type 0 where
  pub batches : List (List (List ℕ))
  pub client : ClientModel D
  pub link : LinkStand
  pub pulled : Pulled c client a link batches
  pub stopped : GatherStopped client c' link b fault

-- all entries behind those of a client were pulled and accepted, or why not
pub record PullsEnd {D : Type 0} (c c' : ClientModel D) (a b : LinkStand)
    (result : Result ⊤ RoundFault) : Type 0 where
  pub ok : OnOk result ((batches : List (List (List ℕ))) × Pulled c c' a b batches
      × IsPulled (state_of c') batches)
  pub err : IfErr result (PullStopped c c' a b)
