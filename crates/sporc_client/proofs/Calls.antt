-- Every call of a client is moves of it, or changes nothing.
use Rattle.std.proofs.Common.{◌≡◌, ℕ, ◌≤◌, Bool, true, false, cond, List, [], ◌∷◌, ◌++◌, length, refl, ap, sym, ◌∙◌, subst, Option, Some}
use Rattle.sporc_client.proofs.Common.{◌≢◌, IsSomeAnd, and_parts, fold-append, Device, same_device, same_one, Keys, can_log, can_log_all, Logged, Opening, PlainClient, opened, Setup, World, May, Move}
use Rattle.sporc_client.proofs.Common.{Open, Restart, IsRun, after, after_all, opening_of, log_of_first, replay_from, step}
use Rattle.sporc_client.specs.Allowed.{is_allowed}
use Rattle.sporc_client.specs.Calls.{LeadTo, events_of}
use Rattle.sporc_client.specs.Step.{replay}
use Rattle.sporc_client.proofs.Reached.{happens_to, restarted, restarts, with_client, put_same}
use Rattle.sporc_client.proofs.Events.{step_opening}

-- ---- runs one after another

pub after_append : (s : Setup) (w : World) (xs ys : List Move) → after_all s w (xs ++ ys) ≡ after_all s (after_all s w xs) ys
after_append s w [] ys = refl
after_append s w (move ∷ xs) ys = after_append s (after s w move) xs ys

pub run_append : (s : Setup) (w : World) (xs ys : List Move) → IsRun s w xs → IsRun s (after_all s w xs) ys → IsRun s w (xs ++ ys)
run_append s w [] ys first second = second
run_append s w (move ∷ xs) ys first second = (first.0, run_append s (after s w move) xs ys first.1 second)

-- ---- one client's moves

pub put_other : (clients : Device → Option PlainClient) (who : Device) (c : PlainClient) (other : Device) → other ≢ who → with_client clients who c other ≡ clients other
put_other clients who c other differs = go (same_device other who) refl
  where
    go : (same : Bool) → same_device other who ≡ same → cond same (Some c) (clients other) ≡ clients other
    go true is = absurd (differs (same_one other who is))
    go false is = refl

-- events that a client allows, one after another
events_lead : (s : Setup) (w : World) (who : Device) (c : PlainClient) (added : List Logged) → w.clients who ≡ Some c → can_log_all c added ≡ true → LeadTo s w (events_of who added) who (replay_from c added)
events_lead s w who c [] at may = record { run = tt; client = at; others = λ other differs. refl }
events_lead s w who c (event ∷ added) at may =
    let p = and_parts (can_log c event) (can_log_all (step c event) added) may in
    let there : (happens_to w who event (w.clients who)).clients who ≡ Some (step c event) =
    ap (λ (o : Option PlainClient). (happens_to w who event o).clients who) at ∙ put_same w.clients who (step c event) in
    let rest = events_lead s (happens_to w who event (w.clients who)) who (step c event) added there p.1 in
    record {
      run = (subst (λ (o : Option PlainClient). IsSomeAnd o (λ c. can_log c event ≡ true)) (sym at) p.0, rest.run);
      client = rest.client;
      others = λ other differs. rest.others other differs ∙ ap (λ (o : Option PlainClient). (happens_to w who event o).clients other) at ∙ put_other w.clients who (step c event) other differs;
    }

-- ---- logs

allowed_rest : (c : PlainClient) (log added : List Logged) → can_log_all c (log ++ added) ≡ true → can_log_all (replay_from c log) added ≡ true
allowed_rest c [] added may = may
allowed_rest c (event ∷ log) added may = allowed_rest (step c event) log added (and_parts (can_log c event) (can_log_all (step c event) (log ++ added)) may).1

pub replay_append : (o : Opening) (log added : List Logged) → replay_from (replay o log) added ≡ replay o (log ++ added)
unfolding replay
replay_append o log added = sym (fold-append step (opened o) log added)

replay_from_opening : (c : PlainClient) (log : List Logged) → (replay_from c log).opening ≡ c.opening
replay_from_opening c [] = refl
replay_from_opening c (event ∷ log) = replay_from_opening (step c event) log ∙ step_opening c event

pub replay_opening : (o : Opening) (log : List Logged) → (replay o log).opening ≡ o
unfolding replay
replay_opening o log = replay_from_opening (opened o) log

-- ---- calls

-- a call that adds to the log
pub added_lead : (s : Setup) (w : World) (who : Device) (o : Opening) (log added : List Logged) → w.clients who ≡ Some (replay o log) → is_allowed o (log ++ added) ≡ true
    → LeadTo s w (events_of who added) who (replay o (log ++ added))
unfolding replay is_allowed
added_lead s w who o log added at may =
    subst (LeadTo s w (events_of who added) who) (replay_append o log added)
    (events_lead s w who (replay o log) added at (allowed_rest (opened o) log added may))

-- a call that goes back to the first k entries
pub restart_leads : (s : Setup) (w : World) (who : Device) (o : Opening) (log : List Logged) (k : ℕ) → w.clients who ≡ Some (replay o log) → k ≤ length (replay o log).entries
    → LeadTo s w (Restart who k ∷ []) who (replay o (log_of_first k (replay o log)))
restart_leads s w who o log k at within =
    let c = replay o log in
    let same : restarted c k ≡ replay o (log_of_first k c) = ap (λ (o : Opening). replay o (log_of_first k c)) (replay_opening o log) in
    record {
      run = (subst (λ (x : Option PlainClient). IsSomeAnd x (λ c. k ≤ length c.entries)) (sym at) within, tt);
      client = ap (λ (x : Option PlainClient). (restarts w who k x).clients who) at ∙ put_same w.clients who (restarted c k) ∙ ap Some same;
      others = λ other differs. ap (λ (x : Option PlainClient). (restarts w who k x).clients other) at ∙ put_other w.clients who (restarted c k) other differs;
    }

-- a call that opens a client, with the entries of a history or with none
pub opening_leads : (s : Setup) (w : World) (who : Device) (ring : Keys) (log : List Logged) → May s w (Open who ring)
    → is_allowed (opening_of s who ring) log ≡ true → LeadTo s w (Open who ring ∷ events_of who log) who (replay (opening_of s who ring) log)
unfolding replay is_allowed
opening_leads s w who ring log opens may =
    let c = opened (opening_of s who ring) in
    let v = after s w (Open who ring) in
    let rest = events_lead s v who c log (put_same w.clients who c) may in
    record {
      run = (opens, rest.run);
      client = rest.client;
      others = λ other differs. rest.others other differs ∙ put_other w.clients who c other differs;
    }
