-- Entries that a client takes.
use Rattle.std.specs.Prelude.{◌≡◌, ◌≢◌, ℕ, ◌+◌, List, [], ◌∷◌, ◌++◌, length, Some, Result, ⊤}
use Rattle.std.specs.Prelude.{IfErr, OnOk, if◌then◌else◌}
use Rattle.sporc_base.specs.Lists.{StartsWith}
use Rattle.sporc_client.specs.declared.fault.AcceptFault.{AcceptFault}
use Rattle.sporc_client.specs.declared.fault.AcceptFault.TheVariants as accepts
use Rattle.sporc_client.specs.Answers.{accept_fault, is_out}
use Rattle.sporc_client.specs.ClientModel.{ClientModel, state_of, with_events}
use Rattle.sporc_client.specs.PlainClient.{PlainClient}
use Rattle.sporc_client.specs.Step.{accepted, log_of_entries}
use Rattle.sporc_round.specs.declared.fault.RoundFault.{RoundFault}
use Rattle.sporc_round.specs.declared.fault.RoundFault.TheVariants as faults

-- those of these entries that a client takes: all, or up to one that removes its member or drops
-- its device
abbrev pub entries_taken : PlainClient → List (List ℕ) → List (List ℕ)
entries_taken c [] = []
entries_taken c (entry ∷ entries) =
    if is_out c then [] else entry ∷ entries_taken (accepted c entry) entries

-- why a client does not accept an entry behind those that it has
pub record IsTakeFault (c : PlainClient) (entry : List ℕ) (fault : RoundFault) : Type 0 where
  pub cause : AcceptFault
  pub is : fault ≡ faults.Accept (length c.entries + 1) cause
  pub gives : cause ≢ accepts.Memory → accept_fault c (length c.entries + 1) entry ≡ Some cause

-- an entry was accepted behind those that there were, or why not
pub record TakesOne {D : Type 0} (c c' : ClientModel D) (entry : List ℕ)
    (result : Result ⊤ RoundFault) : Type 0 where
  pub ok : OnOk result (c' ≡ with_events c (log_of_entries (entry ∷ [])))
  pub unchanged : IfErr result (λ fault. c' ≡ c)
  pub err : IfErr result (IsTakeFault (state_of c) entry)

-- entries were accepted, and the next one was not
pub record StopsAt {D : Type 0} (c c' : ClientModel D) (entries : List (List ℕ))
    (fault : RoundFault) : Type 0 where
  pub taken : List (List ℕ)
  pub entry : List ℕ
  pub first : StartsWith entries (taken ++ entry ∷ [])
  pub log : c' ≡ with_events c (log_of_entries taken)
  pub cause : IsTakeFault (state_of c') entry fault

-- entries were accepted, up to one that removes the device, or why not
pub record TakesAll {D : Type 0} (c c' : ClientModel D) (entries : List (List ℕ))
    (result : Result ⊤ RoundFault) : Type 0 where
  pub ok : OnOk result (c' ≡ with_events c (log_of_entries (entries_taken (state_of c) entries)))
  pub err : IfErr result (StopsAt c c' entries)
