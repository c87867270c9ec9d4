-- One round.
use Rattle.std.proofs.Common.{◌≡◌, ◌≢◌, ◌≤◌, ◌+◌, ℕ, Bool, true, false, true≢false, not, ◌==◌, eq-eqb, eqb-true, List, [], ◌∷◌, length, Option, Some, None, Ok, Err, refl, sym, ap, ◌∙◌, subst, arith, append-nil}
use Rattle.sporc_session.proofs.Common.{Result, IfOk, IfErr, ⊤, not-true, not-false, nil_from_length, Pass, Worn, known_of, Known, MAX_ENTRIES, Refusal, is_flight, Answered, IsCall, Item, Past}
use Rattle.sporc_session.proofs.Common.{client_of, SessionFault, Pull, Send, ServerReply, Ordered, Rejected, handed_out, reply_message, AskFails, Gathered, IsReply, taking, Stand, stand, Trace, Did}
use Rattle.sporc_session.proofs.Common.{Stopped, TookAll, GatheredAll, SubmittedOne, DidOrStopped, Mode, Between, Pulling, Taking, Sending, Checking, Submits, Drains, Goes, pulls, drains, sends}
use Rattle.sporc_session.proofs.Common.{rejected, plain_of, checked_of, Exchanged, LinkStand, spelled}
use Rattle.sporc_outside.proofs.Growing.{words_none}
use Rattle.sporc_wire.specs.declared.to_server.ToServer.TheVariants as to_server
use Rattle.sporc_session.proofs.Knowing.{knows_none}
use Rattle.sporc_session.proofs.Tracing.{did_then, did_stopped}
use Rattle.sporc_session.proofs.Stepping.{act_did, ask_stopped, gathered_did, drained_did, gather_stopped, quiet_did, entry_did, submit_stopped, check_did, check_stopped}
use Rattle.sporc_session.proofs.Telling.{Replied, Tells, WornAs, told}

-- ---- entries are pulled and accepted

pub gather_ok : {k k' : Known Item} {a b : LinkStand} {at now : ℕ} (entries : List (List ℕ)) {x : ⊤} {took : Result ⊤ SessionFault} → took ≡ Ok x → now ≡ at + length entries
    → Exchanged a b (spelled (to_server.Pull at ∷ [])) (handed_out at entries ∷ []) → TookAll k k' at entries took → GatheredAll k k' a b at (Ok now)
gather_ok {k} {k'} {at = at} entries is sum link h =
    let t = subst (TookAll k k' at entries) is h in
    record { ends = (entries, sum, omega (arith, sum, t.1), record { link = link; knows = t.0 }) }

pub gather_err : {k k' : Known Item} {a b : LinkStand} {at : ℕ} (entries : List (List ℕ)) {fault : SessionFault} {took : Result ⊤ SessionFault} → took ≡ Err fault
    → Exchanged a b (spelled (to_server.Pull at ∷ [])) (handed_out at entries ∷ []) → TookAll k k' at entries took → GatheredAll k k' a b at (Err fault)
gather_err {k} {k'} {at = at} entries is link h = record { ends = taking link (subst (TookAll k k' at entries) is h) }

-- ---- what that is in a round

module _ {k k' : Known Item} {a b : LinkStand} {at : ℕ} {gathered : Result ℕ SessionFault} where
  pub now_small : {now : ℕ} → gathered ≡ Ok now → GatheredAll k k' a b at gathered → (at ≤ now) × (now ≤ MAX_ENTRIES)
  now_small is h = let t = (subst (GatheredAll k k' a b at) is h).ends in (omega (arith, t.1), t.2)

  module _ {ready : ℕ → ℕ → Bool} {n : ℕ} {words : Option (List (List ℕ))} {g : ℕ} where
    -- a round begins
    pub pull_did : {now : ℕ} → gathered ≡ Ok now → GatheredAll k k' a b at gathered → Did ready (stand k a words g) (stand k' b words g) (Pulling n at) (Taking n now [] Submits)
    pull_did is h =
        let t = (subst (GatheredAll k k' a b at) is h).ends in
        subst (λ x. Did ready (stand k a words g) (stand k' b words g) (Pulling n at) (Taking n x [] Submits)) (sym t.1) (gathered_did pulls t.3)

    pub pull_stopped : {fault : SessionFault} → gathered ≡ Err fault → GatheredAll k k' a b at gathered → Stopped ready (stand k a words g) (stand k' b words g) (Pulling n at) (n + 1) fault
    pull_stopped is h = gather_stopped n Submits refl refl (λ c cs. pulls) (subst (GatheredAll k k' a b at) is h).ends

    -- pulls go on until no entries come
    module _ {entry : List ℕ} {refusal : Refusal} where
      drain_last : {now : ℕ} → now ≡ at → gathered ≡ Ok now → GatheredAll k k' a b at gathered
          → Did ready (stand k a words g) (stand k' b words g) (Taking n at [] (Drains entry refusal)) (Checking n entry refusal)
      drain_last same is h =
          let t = (subst (GatheredAll k k' a b at) is h).ends in
          let none : t.0 ≡ [] = nil_from_length t.0 (omega (arith, t.1, same)) in
          drained_did (subst (Gathered k k' a b at) none t.3)

      drain_one : {now : ℕ} → now ≢ at → gathered ≡ Ok now → GatheredAll k k' a b at gathered
          → Did ready (stand k a words g) (stand k' b words g) (Taking n at [] (Drains entry refusal)) (Taking n now [] (Drains entry refusal))
      drain_one other is h =
          let t = (subst (GatheredAll k k' a b at) is h).ends in
          subst (λ x. Did ready (stand k a words g) (stand k' b words g) (Taking n at [] (Drains entry refusal)) (Taking n x [] (Drains entry refusal))) (sym t.1)
          (gathered_did (goes t.0 (λ none. other (t.1 ∙ ap (λ (l : List (List ℕ)). at + length l) none ∙ omega arith))) t.3)
        where
          goes : (came : List (List ℕ)) → came ≢ [] → Goes ready (Taking n at [] (Drains entry refusal)) (Pull at came) (Taking n at came (Drains entry refusal))
          goes [] some = absurd (some refl)
          goes (c ∷ cs) some = drains

      pub drain_stopped : {fault : SessionFault} → gathered ≡ Err fault → GatheredAll k k' a b at gathered → Stopped ready (stand k a words g) (stand k' b words g) (Taking n at [] (Drains entry refusal)) (n + 1) fault
      drain_stopped is h = gather_stopped n (Drains entry refusal) refl refl (λ c cs. drains) (subst (GatheredAll k k' a b at) is h).ends

-- pulls go on, or are done
abbrev pub draining : Bool → ℕ → ℕ → List ℕ → Refusal → Mode
draining true n at entry refusal = Taking n at [] (Drains entry refusal)
draining false n at entry refusal = Checking n entry refusal

drain_next : {ready : ℕ → ℕ → Bool} {n : ℕ} {words : Option (List (List ℕ))} {g : ℕ} {k k' : Known Item} {a b : LinkStand} {at now : ℕ} {gathered : Result ℕ SessionFault} {entry : List ℕ} {refusal : Refusal} (more : Bool)
    → (more ≡ true → now ≢ at) → (more ≡ false → now ≡ at) → gathered ≡ Ok now → GatheredAll k k' a b at gathered
    → Did ready (stand k a words g) (stand k' b words g) (Taking n at [] (Drains entry refusal)) (draining more n now entry refusal)
drain_next true some none is h = drain_one (some refl) is h
drain_next false some none is h = drain_last (none refl) is h

-- one pull more, in a loop
module _ {ready : ℕ → ℕ → Bool} {words : Option (List (List ℕ))} {g : ℕ} {s : Stand} {m : Mode} {k : Known Item} {a : LinkStand} {at : ℕ} {more : Bool} (n : ℕ) (entry : List ℕ) (refusal : Refusal) where
  drain_so_far : more ≡ true → Did ready s (stand k a words g) m (draining more n at entry refusal) → Did ready s (stand k a words g) m (Taking n at [] (Drains entry refusal))
  drain_so_far goes_on d = subst (λ (b : Bool). Did ready s (stand k a words g) m (draining b n at entry refusal)) goes_on d

  pub drain_more : {k' : Known Item} {b : LinkStand} {now : ℕ} {gathered : Result ℕ SessionFault} → more ≡ true → Did ready s (stand k a words g) m (draining more n at entry refusal)
      → gathered ≡ Ok now → GatheredAll k k' a b at gathered → Did ready s (stand k' b words g) m (draining (not (now == at)) n now entry refusal)
  drain_more {now = now} goes_on d is h =
      did_then (drain_so_far goes_on d)
      (drain_next (not (now == at)) (λ p same. true≢false (sym (eq-eqb now at same) ∙ not-true (now == at) p)) (λ p. eqb-true now at (not-false (now == at) p)) is h)

  pub drain_fails : {k' : Known Item} {b : LinkStand} {fault : SessionFault} {gathered : Result ℕ SessionFault} → more ≡ true → Did ready s (stand k a words g) m (draining more n at entry refusal)
      → gathered ≡ Err fault → GatheredAll k k' a b at gathered → Stopped ready s (stand k' b words g) m (n + 1) fault
  drain_fails goes_on d is h = did_stopped (drain_so_far goes_on d) (drain_stopped is h)

pub drain_done : {ready : ℕ → ℕ → Bool} {a b : Stand} {m : Mode} {more : Bool} (n at : ℕ) (entry : List ℕ) (refusal : Refusal) → more ≡ false → Did ready a b m (draining more n at entry refusal) → Did ready a b m (Checking n entry refusal)
drain_done {ready} {a} {b} {m} n at entry refusal ended d = subst (λ (x : Bool). Did ready a b m (draining x n at entry refusal)) ended d

-- ---- a submission, and what was made

module _ {ready : ℕ → ℕ → Bool} {n at : ℕ} {link : LinkStand} {w w' : Option (List (List ℕ))} {c c' : ℕ} (low : c ≤ c') {k k' : Known Item} {made : Result (Option (List ℕ)) SessionFault} where
  pub made_none : made ≡ Ok None → SubmittedOne k k' w w' c c' made → Did ready (stand k link w c) (stand k' link w' c') (Taking n at [] Submits) (Between (n + 1))
  made_none is h = let t = subst (SubmittedOne k k' w w' c c') is h in quiet_did low t.2 t.3 t.4

  pub made_entry : {entry : List ℕ} → made ≡ Ok (Some entry) → SubmittedOne k k' w w' c c' made → Did ready (stand k link w c) (stand k' link w' c') (Taking n at [] Submits) (Sending n at entry)
  made_entry is h = let t = subst (SubmittedOne k k' w w' c c') is h in entry_did low t.2 t.3 t.4

  pub made_stopped : {fault : SessionFault} → made ≡ Err fault → SubmittedOne k k' w w' c c' made → Stopped ready (stand k link w c) (stand k' link w' c') (Taking n at [] Submits) (n + 1) fault
  made_stopped is h = let t = subst (SubmittedOne k k' w w' c c') is h in submit_stopped low t.0 t.1 t.2 t.3 t.4

-- ---- an entry is sent

-- it was answered so
abbrev SentFor : LinkStand → LinkStand → List ℕ → Option Refusal → Type 0
SentFor a b entry refusal = (reply : ServerReply) × IsReply refusal reply × Exchanged a b (spelled (to_server.Submit entry ∷ [])) (reply_message reply ∷ [])

sent_trace : {words : Option (List (List ℕ))} {g : ℕ} {k : Known Item} {a b : LinkStand} {entry : List ℕ} (reply : ServerReply) → Exchanged a b (spelled (to_server.Submit entry ∷ [])) (reply_message reply ∷ []) → Trace (stand k a words g) (stand k b words g) (Send entry reply ∷ []) [] [] []
sent_trace {words} {k = k} {a = a} {b = b} {entry = entry} reply x = record {
  knows = knows_none k;
  fits = (tt, tt);
  in_order = (omega arith, tt);
  link = subst (λ (w : List ℕ). Exchanged a b w (reply_message reply ∷ [])) (sym (append-nil (spelled (to_server.Submit entry ∷ [])))) x;
  words_are = words_none words;
  chance = omega arith;
}

module _ {ready : ℕ → ℕ → Bool} {n at : ℕ} {words : Option (List (List ℕ))} {g : ℕ} {k : Known Item} {a b : LinkStand} {entry : List ℕ} where
  pub sent_ordered : {answer : Result (Option Refusal) SessionFault} → answer ≡ Ok None
      → IfOk answer (λ refusal. (reply : ServerReply) × IsReply refusal reply × Exchanged a b (spelled (to_server.Submit entry ∷ [])) (reply_message reply ∷ []))
      → Did ready (stand k a words g) (stand k b words g) (Sending n at entry) (Between (n + 1))
  sent_ordered is ok = by (subst (λ r. IfOk r (SentFor a b entry)) is ok)
    where
      by : SentFor a b entry None → Did ready (stand k a words g) (stand k b words g) (Sending n at entry) (Between (n + 1))
      by (Ordered place, t, x) = act_did (sent_trace (Ordered place) x) sends
      by (Rejected r, t, x) = absurd t

  pub sent_rejected : {back : List ℕ} {refusal : Refusal} {answer : Result (Option Refusal) SessionFault} → back ≡ entry → answer ≡ Ok (Some refusal)
      → IfOk answer (λ refusal. (reply : ServerReply) × IsReply refusal reply × Exchanged a b (spelled (to_server.Submit entry ∷ [])) (reply_message reply ∷ []))
      → Did ready (stand k a words g) (stand k b words g) (Sending n at entry) (Taking n at [] (Drains back refusal))
  sent_rejected {refusal = refusal} same is ok =
      subst (λ e. Did ready (stand k a words g) (stand k b words g) (Sending n at entry) (Taking n at [] (Drains e refusal))) (sym same) (by (subst (λ r. IfOk r (SentFor a b entry)) is ok))
    where
      by : SentFor a b entry (Some refusal) → Did ready (stand k a words g) (stand k b words g) (Sending n at entry) (Taking n at [] (Drains entry refusal))
      by (Ordered place, t, x) = absurd t
      by (Rejected r, t, x) = subst (λ y. Did ready (stand k a words g) (stand k b words g) (Sending n at entry) (Taking n at [] (Drains entry y))) t
          (act_did (sent_trace (Rejected r) x) rejected)

  pub sent_stopped : {fault : SessionFault} {answer : Result (Option Refusal) SessionFault} → answer ≡ Err fault → IfErr answer (AskFails a b (to_server.Submit entry))
      → Stopped ready (stand k a words g) (stand k b words g) (Sending n at entry) (n + 1) fault
  sent_stopped is err = ask_stopped refl (subst (λ r. IfErr r (AskFails a b (to_server.Submit entry))) is err)

-- ---- it is seen whether an entry is still on its way

pub check_told : {k : Known Item} (entry : List ℕ) (reply : Result (Answered Bool) (Pass Item × Worn)) {plain : Result Bool SessionFault × Pass Item} → plain ≡ plain_of reply
    → IfOk reply (λ r. (before : Past) × IsCall k (known_of r.pass) before [] × (r.answer ≡ is_flight (client_of before) entry)) → WornAs k reply
    → Replied (λ p answer. Tells (λ before answer. answer ≡ is_flight (client_of before) entry) k (known_of p) answer) k plain.1 plain.0
check_told {k} entry = told (λ before answer. answer ≡ is_flight (client_of before) entry)

pub check_made : {k k' : Known Item} {entry : List ℕ} {refusal : Refusal} {is_there : Bool} {result : Result ⊤ SessionFault} → k.number ≡ 0 → result ≡ checked_of refusal is_there
    → Tells (λ before answer. answer ≡ is_flight (client_of before) entry) k k' is_there
    → (ready : ℕ → ℕ → Bool) (n : ℕ) (link : LinkStand) (words : Option (List (List ℕ))) (g : ℕ)
    → DidOrStopped ready (stand k link words g) (stand k' link words g) (Checking n entry refusal) (Between (n + 1)) result
check_made {k} {k'} {entry} {refusal} {is_there} zero' is t ready n link words g = subst P (sym is) (by is_there t)
  where
    P : Result ⊤ SessionFault → Type 0
    P r = DidOrStopped ready (stand k link words g) (stand k' link words g) (Checking n entry refusal) (Between (n + 1)) r

    by : (answer : Bool) → Tells (λ before answer. answer ≡ is_flight (client_of before) entry) k k' answer → P (checked_of refusal answer)
    by true h = record { ends = check_stopped zero' h.call h.is_so }
    by false h = record { ends = check_did zero' h.call h.is_so }
