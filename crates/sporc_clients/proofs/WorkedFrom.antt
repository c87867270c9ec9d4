-- Work that began with a client of which more is known.
use Rattle.std.proofs.Common.{◌≡◌, ℕ, ◌+◌, ◌-◌, ◌≤◌, List, None, length, ap, ◌∙◌, arith, subst}
use Rattle.sporc_clients.proofs.Common.{Result, ⊤, ChanceTold, NetTold, Use, LeavesModel, ClientModel, leaves_of, Past, past_of, SessionFault, Fault, IsWork, NotBegun, out_of_memory, unreached, Wanted}
use Rattle.sporc_client.proofs.AcceptedHistories.{leaves_of_accepts}
use Rattle.sporc_client.specs.PlainClient.{Opening}
use Rattle.sporc_client.specs.Step.{log_of_entries}

pub work_from : (wanted : Wanted) (address : List ℕ) (before from after : Past) (net : Use NetTold) (chance : Use ChanceTold) (result : Result ⊤ SessionFault)
    → before ≡ from → IsWork wanted address before after net chance result → IsWork wanted address from after net chance result
work_from wanted address before from after net chance result same work =
    subst (λ (p : Past). IsWork wanted address p after net chance result) same work

-- a log that was resumed has no submissions, so the next leaf is its first
module _ {D : Type 0} (opening : Opening) (leaves : LeavesModel D) (entries : List (List ℕ)) where
  pub past_resumed : (client : ClientModel D) → client ≡ record { opening = opening; log = log_of_entries entries; leaves = leaves; ticket = None }
      → past_of client ≡ record { opening = opening; first_leaf = leaves.next; log = log_of_entries entries }
  past_resumed client is =
      let first : leaves.next - (length (leaves_of (log_of_entries entries)) + 0) ≡ leaves.next = ap (λ (ns : List ℕ). leaves.next - (length ns + 0)) (leaves_of_accepts entries) ∙ omega arith in
      ap past_of is ∙ (λ i. record { opening = opening; first_leaf = first i; log = log_of_entries entries })

-- no session began over a net whose count of faults had risen before
pub begun_later : (address : List ℕ) (net : Use NetTold) (low mid : ℕ) (fault : Fault) → low ≤ mid → NotBegun address net mid fault → NotBegun address net low fault
begun_later address net low mid fault more (unreached none rose is) = unreached none (omega (arith, more, rose)) is
begun_later address net low mid fault more (out_of_memory unused is) = out_of_memory unused is
