-- What taking entries does to a client.
use Rattle.std.proofs.Common.{◌≡◌, ℕ, Bool, true, false, cond, List, [], ◌∷◌, ◌++◌, refl, sym, ap, ◌∙◌, subst, append_assoc, Result, Ok, Err}
use Rattle.std.specs.Prelude.{⊤}
use Rattle.std.proofs.lemmas.List.{append-nil}
use Rattle.sporc_client.specs.Answers.{is_out}
use Rattle.sporc_client.specs.ClientModel.{ClientModel, state_of, with_events}
use Rattle.sporc_client.specs.Log.{Logged, Accept}
use Rattle.sporc_client.specs.Step.{accepted, log_of_entries}
use Rattle.sporc_client.proofs.Calls.{replay_append}
use Rattle.sporc_round.specs.declared.fault.RoundFault.{RoundFault}
use Rattle.sporc_round.specs.Taking.{IsTakeFault, TakesAll, TakesOne, entries_taken}

-- no events more change nothing
pub no_events : {D : Type 0} (c : ClientModel D) → with_events c [] ≡ c
no_events c = ap (λ (log : List Logged). record c { log = log }) (append-nil c.log)

pub events_then : {D : Type 0} (c : ClientModel D) (xs ys : List Logged) → with_events (with_events c xs) ys ≡ with_events c (xs ++ ys)
events_then c xs ys = ap (λ (log : List Logged). record c { log = log }) (append_assoc c.log xs ys)

-- a client that accepted an entry
pub state_then : {D : Type 0} (c : ClientModel D) (entry : List ℕ) → state_of (with_events c (log_of_entries (entry ∷ []))) ≡ accepted (state_of c) entry
state_then c entry = sym (replay_append c.opening c.log (Accept 0 entry ∷ []))

-- none of them
pub takes_none : {D : Type 0} (c : ClientModel D) → TakesAll c c [] (Ok tt)
takes_none c = record { ok = sym (no_events c); err = tt }

-- none of them, since the device is removed
pub takes_no_more : {D : Type 0} (c : ClientModel D) (entries : List (List ℕ)) → is_out (state_of c) ≡ true → TakesAll c c entries (Ok tt)
takes_no_more c [] out = takes_none c
takes_no_more c (entry ∷ entries) out = record {
  ok = sym (no_events c) ∙ ap (λ (b : Bool). with_events c (log_of_entries (cond b [] (entry ∷ entries_taken (accepted (state_of c) entry) entries)))) (sym out);
  err = tt;
}

-- the first is not accepted
pub first_stops : {D : Type 0} (c c' : ClientModel D) (entry : List ℕ) (entries : List (List ℕ)) (fault : RoundFault) → TakesOne c c' entry (Err fault) → TakesAll c c' (entry ∷ entries) (Err fault)
first_stops c c' entry entries fault one = record {
  ok = tt;
  err = record {
    taken = [];
    entry = entry;
    first = (entries, refl);
    log = one.unchanged ∙ sym (no_events c);
    cause = subst (λ x. IsTakeFault (state_of x) entry fault) (sym one.unchanged) one.err;
  };
}

-- the first is accepted, and then others
pub first_then : {D : Type 0} (c c1 c' : ClientModel D) (entry : List ℕ) (entries : List (List ℕ)) (result : Result ⊤ RoundFault) → is_out (state_of c) ≡ false → TakesOne c c1 entry (Ok tt) → TakesAll c1 c' entries result
    → TakesAll c c' (entry ∷ entries) result
first_then c c1 c' entry entries (Ok tt) inside one rest = record {
  ok = rest.ok
      ∙ ap (λ x. with_events x (log_of_entries (entries_taken (state_of x) entries))) one.ok
      ∙ events_then c (Accept 0 entry ∷ []) (log_of_entries (entries_taken (state_of (with_events c (Accept 0 entry ∷ []))) entries))
      ∙ ap (λ s. with_events c (Accept 0 entry ∷ log_of_entries (entries_taken s entries))) (state_then c entry)
      ∙ ap (λ (b : Bool). with_events c (log_of_entries (cond b [] (entry ∷ entries_taken (accepted (state_of c) entry) entries)))) (sym inside);
  err = tt;
}
first_then c c1 c' entry entries (Err fault) inside one rest = record {
  ok = tt;
  err = record {
    taken = entry ∷ rest.err.taken;
    entry = rest.err.entry;
    first = (rest.err.first.0, ap (λ (es : List (List ℕ)). entry ∷ es) rest.err.first.1);
    log = rest.err.log ∙ ap (λ x. with_events x (log_of_entries rest.err.taken)) one.ok ∙ events_then c (Accept 0 entry ∷ []) (log_of_entries rest.err.taken);
    cause = rest.err.cause;
  };
}
