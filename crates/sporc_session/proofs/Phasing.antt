-- The two phases.
use Rattle.std.proofs.Common.{◌≡◌, ◌≤◌, ℕ, Bool, true, false, List, [], ◌∷◌, length, Option, Ok, Err, refl, sym, ◌∙◌, subst, arith}
use Rattle.sporc_session.proofs.Common.{Result, ⊤, result_err, append-nil, MAX_ENTRIES, Known, Pass, known_of, ToServer, Item, Past, client_of, items_of, IsLookAt, membership_of, SessionFault, Looked, LookAct}
use Rattle.sporc_session.proofs.Common.{IfErr, OnOk, Unsent, Trace, Stand, stand, Did, DidOrStopped, Asking, Greeting, Between, Pulling, always, is_unsettled, greets, FirstPhase, SecondPhase}
use Rattle.sporc_session.proofs.Common.{Rounds, settles, doesnt_settle, stops, Exchanged, LinkStand, spelled}
use Rattle.sporc_outside.proofs.Growing.{words_none}
use Rattle.sporc_wire.specs.declared.to_server.ToServer.TheVariants as to_server
use Rattle.sporc_shared.specs.declared.look.Look.{Look}
use Rattle.sporc_shared.specs.declared.membership.Membership.{Membership}
use Rattle.sporc_session.specs.declared.fault.SessionFault.TheVariants as faults
use Rattle.sporc_session.proofs.Tracing.{did_then, did_stopped, stopped_within}
use Rattle.sporc_session.proofs.Knowing.{knows_none, seen_after}
use Rattle.sporc_session.proofs.Stepping.{act_did, ask_stopped, look_did, look_trace, not_sent}
use Rattle.sporc_session.proofs.Telling.{Replied, Tells, worn_stopped}

-- ---- Hello

-- whose a client with this past is
abbrev pub IsWhose : Past → Membership → Type 0
IsWhose past whose = whose ≡ membership_of past

module _ {ready : ℕ → ℕ → Bool} {words : Option (List (List ℕ))} {g : ℕ} {k : Known Item} {a b : LinkStand} where
  greeted : {document : List ℕ} {member : ℕ} → Exchanged a b (spelled (to_server.Hello document member ∷ [])) [] → Did ready (stand k a words g) (stand k b words g) (Greeting document member) (Between 0)
  greeted {document} {member} x = act_did (record {
    knows = knows_none k;
    fits = (tt, tt);
    in_order = (omega arith, tt);
    link = subst (λ (w : List ℕ). Exchanged a b w []) (sym (append-nil (spelled (to_server.Hello document member ∷ [])))) x;
    words_are = words_none words;
    chance = omega arith;
  }) greets

  pub hello_sent : {document : List ℕ} {member : ℕ} {message : ToServer} {sent : Result ⊤ SessionFault} → message ≡ to_server.Hello document member
      → OnOk sent (Exchanged a b (spelled (message ∷ [])) []) → IfErr sent (Unsent a b message) → DidOrStopped ready (stand k a words g) (stand k b words g) (Greeting document member) (Between 0) sent
  hello_sent {sent = Ok x} is ok err = record { ends = greeted (subst (λ (m : ToServer). Exchanged a b (spelled (m ∷ [])) []) is ok) }
  hello_sent {sent = Err fault} is ok err = record { ends = ask_stopped refl (not_sent (subst (λ (m : ToServer). Unsent a b m fault) is err)) }

-- Hello, and then the rounds
pub first_then : {a b c : Stand} {rounds : ℕ} {all : Result ⊤ SessionFault}
    → Did always a b Asking (Between 0) → DidOrStopped always b c (Between 0) (Between rounds) all → FirstPhase a c rounds (result_err all)
first_then {all = Ok x} d h = did_then d h.ends
first_then {all = Err fault} d h = did_stopped d h.ends

-- ---- a look at the client

module _ {k k' : Known Item} {look : Look} where
  looked : (t : Tells IsLookAt k k' look) → Looked (client_of t.before) look.at look.pending
  looked t = record { at_is = t.is_so.at; pending_is = t.is_so.pending }

  pub look_small : Tells IsLookAt k k' look → look.at ≤ MAX_ENTRIES
  look_small t = t.is_so.few

  module _ {link : LinkStand} {words : Option (List (List ℕ))} {g : ℕ} (zero' : k.number ≡ 0) (t : Tells IsLookAt k k' look) where
    -- a round begins
    pub round_begins : {ready : ℕ → ℕ → Bool} {n : ℕ} → ready look.at look.pending ≡ true → Did ready (stand k link words g) (stand k' link words g) (Between n) (Pulling n look.at)
    round_begins is_ready = look_did zero' t.call (looked t) is_ready

    -- it is the last look, after so many rounds
    rounds_before : {a : Stand} {until done : ℕ} → Did (is_unsettled until) a (stand k link words g) (Between 0) (Between done) → Rounds a (stand k' link words g) until done look.at look.pending
    rounds_before did = record {
      between = stand k link words g;
      did = did;
      last =
          subst (λ (l : List Item). Trace (stand k link words g) (stand k' link words g) (LookAct (length l) look.at look.pending ∷ []) [] [] [])
          (sym (seen_after k k' t.before [] t.call ∙ append-nil (items_of t.before))) (look_trace zero' t.call (looked t));
    }

    pub second_settles : {a : Stand} {done rounds until : ℕ} → done ≤ rounds → Did (is_unsettled until) a (stand k link words g) (Between 0) (Between done) → is_unsettled until look.at look.pending ≡ false
        → SecondPhase a (stand k' link words g) rounds until (Ok tt)
    second_settles {done = done} low did settled = settles {done = done} low (rounds_before did) settled

    pub second_spent : {a : Stand} {done rounds until : ℕ} → done ≡ rounds → Did (is_unsettled until) a (stand k link words g) (Between 0) (Between done) → is_unsettled until look.at look.pending ≡ true
        → SecondPhase a (stand k' link words g) rounds until (Err (faults.NotSettled look.pending look.at))
    second_spent {a} {until = until} all did unsettled =
        doesnt_settle (subst (λ (n : ℕ). Rounds a (stand k' link words g) until n look.at look.pending) all (rounds_before did)) unsettled

-- no ticket was left for it
pub second_worn : {link : LinkStand} {words : Option (List (List ℕ))} {g : ℕ} {a : Stand} {A : Type 0} {Call : Pass Item → A → Type 0} {k : Known Item} {p : Pass Item} {done rounds until : ℕ} {fault : SessionFault} {result : Result A SessionFault} → done ≤ rounds → result ≡ Err fault → Replied Call k p result
    → Did (is_unsettled until) a (stand k link words g) (Between 0) (Between done) → SecondPhase a (stand (known_of p) link words g) rounds until (Err fault)
second_worn {link} {words} {g} {done = done} {rounds = rounds} low is h did = stops (stopped_within done rounds low (did_stopped did (worn_stopped is h)))
