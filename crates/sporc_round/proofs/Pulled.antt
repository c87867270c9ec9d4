-- Pulls one behind another.
use Rattle.std.proofs.Common.{◌≡◌, ℕ, ◌+◌, ◌<◌, Bool, true, false, cond, List, [], ◌∷◌, ◌++◌, length, Ok, Err, refl, sym, ap, ◌∙◌, subst, append_assoc, arith, nat_lt, inl, inr, map, Vec, Global}
use Rattle.std.proofs.lemmas.Bool.{ltb-false, ltb-true}
use Rattle.std.proofs.lemmas.List.{append-nil, length-append, map-append}
use Rattle.std.proofs.lemmas.List.Sums.{fold-append}
use Rattle.sporc_wire.specs.declared.to_client.ToClient.{ToClient}
use Rattle.sporc_wire.specs.declared.to_server.ToServer.{ToServer}
use Rattle.sporc_wire.specs.declared.to_server.ToServer.TheVariants as to_server
use Rattle.sporc_exchange.specs.Asking.{AskFails}
use Rattle.sporc_exchange.specs.declared.fault.ExchangeFault.{ExchangeFault}
use Rattle.sporc_exchange.specs.Replies.{handed_out}
use Rattle.sporc_exchange.specs.Wires.{Exchanged, LinkStand, spelled}
use Rattle.sporc_exchange.proofs.Exchanging.{exchanged_none, exchanged_then, spelled_append}
use Rattle.sporc_client.specs.Answers.{is_out}
use Rattle.sporc_client.specs.ClientModel.{ClientModel, state_of, with_events}
use Rattle.sporc_client.specs.Log.{Logged, Accept}
use Rattle.sporc_client.specs.PlainClient.{PlainClient}
use Rattle.sporc_client.specs.Step.{accepted, log_of_entries, replay_from, step}
use Rattle.sporc_client.proofs.Calls.{replay_append}
use Rattle.sporc_client.proofs.Events.{accepted_as}
use Rattle.sporc_round.specs.Pulling.{GatherEnds, GatherStopped, asking, taking, Gathers, Pulled, PullsEnd, after_batch, answers_in, pull_of, pulls_in, taken_in}
use Rattle.sporc_round.specs.Taking.{StopsAt, entries_taken}
use Rattle.sporc_round.specs.declared.fault.RoundFault.{RoundFault}
use Rattle.sporc_round.specs.declared.fault.RoundFault.TheVariants as faults
use Rattle.sporc_round.proofs.Taken.{events_then, no_events}

-- a client behind batches
abbrev pub after_batches : PlainClient → List (List (List ℕ)) → PlainClient
after_batches c [] = c
after_batches c (came ∷ batches) = after_batches (after_batch c came) batches

accepts_append : (xs ys : List (List ℕ)) → log_of_entries (xs ++ ys) ≡ log_of_entries xs ++ log_of_entries ys
accepts_append xs ys = map-append (Accept 0) xs ys

after_taken : (c : PlainClient) (batches : List (List (List ℕ))) → replay_from c (log_of_entries (taken_in c batches)) ≡ after_batches c batches
after_taken c [] = refl
after_taken c (came ∷ batches) =
    ap (replay_from c) (accepts_append (entries_taken c came) (taken_in (after_batch c came) batches))
    ∙ fold-append step c (log_of_entries (entries_taken c came)) (log_of_entries (taken_in (after_batch c came) batches))
    ∙ after_taken (after_batch c came) batches

-- what a client with these events more is
pub state_more : {D : Type 0} (c : ClientModel D) (events : List Logged) → state_of (with_events c events) ≡ replay_from (state_of c) events
state_more c events = sym (replay_append c.opening c.log events)

state_pulled : {D : Type 0} (c c' : ClientModel D) (batches : List (List (List ℕ))) → c' ≡ with_events c (log_of_entries (taken_in (state_of c) batches)) → state_of c' ≡ after_batches (state_of c) batches
state_pulled c c' batches log = ap (λ x. state_of x) log ∙ state_more c (log_of_entries (taken_in (state_of c) batches)) ∙ after_taken (state_of c) batches

-- ---- one batch more

pulls_more : (c : PlainClient) (batches : List (List (List ℕ))) (came : List (List ℕ)) → pulls_in c (batches ++ came ∷ []) ≡ pulls_in c batches ++ pull_of (after_batches c batches) ∷ []
pulls_more c [] came = refl
pulls_more c (first ∷ batches) came = ap (λ (ms : List ToServer). pull_of c ∷ ms) (pulls_more (after_batch c first) batches came)

answers_more : (c : PlainClient) (batches : List (List (List ℕ))) (came : List (List ℕ))
    → answers_in c (batches ++ came ∷ []) ≡ answers_in c batches ++ handed_out (length (after_batches c batches).entries) came ∷ []
answers_more c [] came = refl
answers_more c (first ∷ batches) came = ap (λ (ms : List ToClient). handed_out (length c.entries) first ∷ ms) (answers_more (after_batch c first) batches came)

taken_more : (c : PlainClient) (batches : List (List (List ℕ))) (came : List (List ℕ)) → taken_in c (batches ++ came ∷ []) ≡ taken_in c batches ++ entries_taken (after_batches c batches) came
taken_more c [] came = append-nil (entries_taken c came)
taken_more c (first ∷ batches) came =
    ap (λ (es : List (List ℕ)). entries_taken c first ++ es) (taken_more (after_batch c first) batches came)
    ∙ sym (append_assoc (entries_taken c first) (taken_in (after_batch c first) batches) (entries_taken (after_batches (after_batch c first) batches) came))

pub pulled_none : {D : Type 0} (c : ClientModel D) (a : LinkStand) → Pulled c c a a []
pulled_none c a = record { did = exchanged_none a; log = sym (no_events c) }

pub pulled_more : {D : Type 0} (c c1 c2 : ClientModel D) (a b1 b2 : LinkStand) (batches : List (List (List ℕ))) (came : List (List ℕ)) → Pulled c c1 a b1 batches → Gathers c1 c2 b1 b2 came
    → Pulled c c2 a b2 (batches ++ came ∷ [])
pulled_more c c1 c2 a b1 b2 batches came before one =
    let s = state_of c in
    let there : state_of c1 ≡ after_batches s batches = state_pulled c c1 batches before.log in
    let last : Exchanged b1 b2 (spelled (pull_of (after_batches s batches) ∷ [])) (handed_out (length (after_batches s batches).entries) came ∷ []) =
    subst (λ (x : PlainClient). Exchanged b1 b2 (spelled (pull_of x ∷ [])) (handed_out (length x.entries) came ∷ [])) there one.did in
    let all = exchanged_then a b1 b2 (spelled (pulls_in s batches)) (spelled (pull_of (after_batches s batches) ∷ []))
    (answers_in s batches) (handed_out (length (after_batches s batches).entries) came ∷ []) before.did last in
    let written : spelled (pulls_in s batches) ++ spelled (pull_of (after_batches s batches) ∷ []) ≡ spelled (pulls_in s (batches ++ came ∷ [])) =
    sym (spelled_append (pulls_in s batches) (pull_of (after_batches s batches) ∷ [])) ∙ ap spelled (sym (pulls_more s batches came)) in
    record {
      did = subst (λ (ms : List ToClient). Exchanged a b2 (spelled (pulls_in s (batches ++ came ∷ []))) ms) (sym (answers_more s batches came))
          (subst (λ (w : List ℕ). Exchanged a b2 w (answers_in s batches ++ handed_out (length (after_batches s batches).entries) came ∷ [])) written all);
      log = one.log
          ∙ ap (λ (x : PlainClient). with_events c1 (log_of_entries (entries_taken x came))) there
          ∙ ap (λ x. with_events x (log_of_entries (entries_taken (after_batches s batches) came))) before.log
          ∙ events_then c (log_of_entries (taken_in s batches)) (log_of_entries (entries_taken (after_batches s batches) came))
          ∙ ap (with_events c) (sym (accepts_append (taken_in s batches) (entries_taken (after_batches s batches) came)) ∙ ap log_of_entries (sym (taken_more s batches came)));
    }

-- ---- a pull that brings entries makes a history longer

entries_after : (c : PlainClient) (entries : List (List ℕ)) → length (replay_from c (log_of_entries entries)).entries ≡ length c.entries + length entries
entries_after c [] = omega arith
entries_after c (entry ∷ entries) =
    let rest = entries_after (accepted c entry) entries in
    let one : length (accepted c entry).entries ≡ length c.entries + 1 = ap length (accepted_as c entry).entries ∙ length-append c.entries (entry ∷ []) in
    omega (arith, rest, one)

taken_some : (c : PlainClient) (came : List (List ℕ)) → is_out c ≡ false → 0 < length came → 0 < length (entries_taken c came)
taken_some c [] inside some = absurd (omega (arith, some))
taken_some c (entry ∷ came) inside some =
    subst (λ (b : Bool). 0 < length (cond b [] (entry ∷ entries_taken (accepted c entry) came))) (sym inside) (omega arith)

pub gathers_more : {D : Type 0} (c c' : ClientModel D) (a b : LinkStand) (came : List (List ℕ)) → Gathers c c' a b came → is_out (state_of c) ≡ false → 0 < length came
    → length (state_of c).entries < length (state_of c').entries
gathers_more c c' a b came did inside some =
    let ts = entries_taken (state_of c) came in
    let same : state_of c' ≡ replay_from (state_of c) (log_of_entries ts) = ap (λ x. state_of x) did.log ∙ state_more c (log_of_entries ts) in
    omega (arith, ap (λ (x : PlainClient). length x.entries) same, entries_after (state_of c) ts, taken_some (state_of c) came inside some)

-- ---- how a pull stops

pub asking_stops : {D : Type 0} (c : ClientModel D) (a b : LinkStand) (n : ℕ) (cause : ExchangeFault) → n ≡ length (state_of c).entries → AskFails a b (to_server.Pull n) cause
    → GatherEnds c c a b (Err (faults.Exchange cause))
asking_stops c a b n cause is fails = record { ok = tt; err = asking cause refl (subst (λ (m : ℕ). AskFails a b (to_server.Pull m) cause) is fails) refl }

pub taking_stops : {D : Type 0} (c c' : ClientModel D) (a b : LinkStand) (n : ℕ) (came : List (List ℕ)) (vectors : List (Vec ℕ Global)) (fault : RoundFault) → n ≡ length (state_of c).entries
    → Exchanged a b (spelled (to_server.Pull n ∷ [])) (handed_out n came ∷ []) → map (λ v. v.items) vectors ≡ came → StopsAt c c' (map (λ v. v.items) vectors) fault → GatherEnds c c' a b (Err fault)
taking_stops c c' a b n came vectors fault is did same stops = record {
  ok = tt;
  err = taking came (subst (λ (m : ℕ). Exchanged a b (spelled (to_server.Pull m ∷ [])) (handed_out m came ∷ [])) is did) (subst (λ (es : List (List ℕ)). StopsAt c c' es fault) same stops);
}

-- ---- how pulls end

brought_none : (came : List (List ℕ)) → nat_lt 0 (length came) ≡ false → came ≡ []
brought_none [] none = refl
brought_none (entry ∷ came) none = absurd (omega (arith, ltb-false 0 (length (entry ∷ came)) none))

pub removed_ends : {D : Type 0} (c c' : ClientModel D) (a b : LinkStand) (batches : List (List (List ℕ))) → Pulled c c' a b batches → is_out (state_of c') ≡ true → PullsEnd c c' a b (Ok tt)
removed_ends c c' a b batches pulled out = record { ok = (batches, pulled, inl out); err = tt }

pub empty_ends : {D : Type 0} (c c1 c' : ClientModel D) (a b1 b : LinkStand) (batches : List (List (List ℕ))) (came : List (List ℕ)) → Pulled c c1 a b1 batches → Gathers c1 c' b1 b came → nat_lt 0 (length came) ≡ false
    → PullsEnd c c' a b (Ok tt)
empty_ends c c1 c' a b1 b batches came pulled did none = record {
  ok = (batches ++ came ∷ [], pulled_more c c1 c' a b1 b batches came pulled did, inr (batches, ap (λ (es : List (List ℕ)). batches ++ es ∷ []) (brought_none came none)));
  err = tt;
}

pub stop_ends : {D : Type 0} (c c1 c' : ClientModel D) (a b1 b : LinkStand) (batches : List (List (List ℕ))) (fault : RoundFault) → Pulled c c1 a b1 batches → GatherStopped c1 c' b1 b fault → PullsEnd c c' a b (Err fault)
stop_ends c c1 c' a b1 b batches fault pulled stopped =
    record { ok = tt; err = record { batches = batches; client = c1; link = b1; pulled = pulled; stopped = stopped } }

-- after a pull that brought entries, a client that is not removed has more of them
pub longer : {D : Type 0} (c c' : ClientModel D) (a b : LinkStand) (came : List (List ℕ)) (more : Bool) → Gathers c c' a b came → more ≡ nat_lt 0 (length came) → more ≡ true → is_out (state_of c) ≡ false
    → length (state_of c).entries < length (state_of c').entries
longer c c' a b came more did is there inside = gathers_more c c' a b came did inside (ltb-true 0 (length came) (sym is ∙ there))
