-- The past of a client after a call, and the count of the disk of its leaves.
use Rattle.std.proofs.Common.{◌≡◌, ℕ, List, [], ◌++◌, None, refl, ap, Result, Ok, Err}
use Rattle.sporc_shared.proofs.Common.{added, ClientModel, first_leaf_of, leaf_in, leaves_of, Logged, submission_added, past_of, with_events}
use Rattle.sporc_client.specs.Drawing.{gives_entry, kept_after}
use Rattle.sporc_client.specs.LeafUses.{IsUse, leaf_given, supply_of}
use Rattle.sporc_client.specs.declared.fault.SubmitFault.{SubmitFault}
use Rattle.sporc_client.specs.declared.submitted.Submitted.{Submitted}
use Rattle.sporc_client.proofs.Leaves.{first_leaf-same, first_leaf-submitted}

no_leaves : {X F : Type 0} (answer : Result X F) (event : Logged) → leaf_in event ≡ None → leaves_of (added answer event) ≡ []
no_leaves (Ok x) event none = rw none refl
no_leaves (Err fault) event none = refl

module _ {D : Type 0} (old new : ClientModel D) where
  is_past : (more : List Logged) → new.opening ≡ old.opening → new.log ≡ old.log ++ more → first_leaf_of new ≡ first_leaf_of old
      → past_of new ≡ with_events (past_of old) more
  is_past more opening log first = λ i. record { opening = opening i; first_leaf = first i; log = log i }

  -- an event that signs nothing
  pub past_added : {X F : Type 0} (answer : Result X F) (event : Logged) → leaf_in event ≡ None → new ≡ record old { log = old.log ++ added answer event }
      → past_of new ≡ with_events (past_of old) (added answer event)
  past_added answer event none is =
      let more = added answer event in
      is_past more (ap (λ (c : ClientModel D). c.opening) is) (ap (λ (c : ClientModel D). c.log) is) (first_leaf-same old new more is (no_leaves answer event none))

  -- a submission
  pub past_submitted : (by : ℕ) (answer : Result Submitted SubmitFault)
      → new ≡ record old { log = old.log ++ submission_added by answer; leaves = new.leaves; ticket = kept_after old.ticket old.leaves new.leaves (gives_entry answer) }
      → IsUse (supply_of old) (leaf_given answer) (supply_of new) → past_of new ≡ with_events (past_of old) (submission_added by answer)
  past_submitted by answer is did =
      let log : new.log ≡ old.log ++ submission_added by answer = ap (λ (c : ClientModel D). c.log) is in
      is_past (submission_added by answer) (ap (λ (c : ClientModel D). c.opening) is) log (first_leaf-submitted old new by answer log did)
