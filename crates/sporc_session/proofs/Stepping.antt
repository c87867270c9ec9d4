-- The receiver's steps as acts.
use Rattle.std.proofs.Common.{◌≡◌, ◌≢◌, ◌⊎◌, ℕ, ◌+◌, ◌≤◌, Bool, true, false, List, [], ◌∷◌, ◌++◌, length, map, take, Option, refl, sym, ap, ◌∙◌, subst, arith, inl, inr}
use Rattle.sporc_session.proofs.Common.{Result, Ok, append-nil, take_all, AppendsItems, Refusal, Known, ToClient, ToServer, SubmitFault, Submitted, Logged, is_flight, submission_added, IsCall, Item}
use Rattle.sporc_session.proofs.Common.{Happened, Past, client_of, items_of, SessionFault, Act, Ask, Look, Pull, Take, Submit, Check, AreInOrder, Fits, FitAll, Looked, all_of, answers_by, handed_out}
use Rattle.sporc_session.proofs.Common.{items_by, messages_by, moment_after, words_by, AskFails, Gathered, GatherStopped, SilentFor, Unsent, UnsentFor, asking, silent, taking, unsent, wrong, Stand, stand}
use Rattle.sporc_session.proofs.Common.{Trace, KnowsMore, Cause, IsAnswer, IsTaking, IsSubmitting, AcceptGives, TakeCause, takes_of, SubmitCause, Submission, Did, Stopped, IsPoint, Mode, Asking}
use Rattle.sporc_session.proofs.Common.{Greeting, Between, Pulling, Taking, Sending, Checking, Stuck, Then, Submits, Drains, Leads, Goes, IsQuiet, asks, looks, takes, drained, is_gone, is_there}
use Rattle.sporc_session.proofs.Common.{submits_none, submits_entry, message_due, rounds_begun, Exchanged, LinkStand, spelled}
use Rattle.lms_leaf.specs.declared.faults.LeafFault.TheVariants as leaves
use Rattle.sporc_outside.proofs.Growing.{words_none}
use Rattle.sporc_wire.specs.declared.to_server.ToServer.TheVariants as to_server
use Rattle.sporc_client.specs.declared.fault.AcceptFault.TheVariants as accepts
use Rattle.sporc_client.specs.declared.submitted.Submitted.TheVariants as submitted
use Rattle.sporc_session.specs.Endings.{IsBeside}
use Rattle.sporc_session.specs.Asking.{session_fault}
use Rattle.sporc_session.specs.declared.fault.SessionFault.TheVariants as faults
use Rattle.sporc_exchange.specs.declared.fault.ExchangeFault.{ExchangeFault}
use Rattle.sporc_exchange.specs.declared.fault.ExchangeFault.TheVariants as exchanges
use Rattle.sporc_exchange.specs.Asking as exchange
use Rattle.sporc_exchange.proofs.Exchanging.{exchanged_none}
use Rattle.sporc_session.proofs.Knowing.{call_client, call_knows, call_later, call_point, knows_none, seen_after}

at_most : (n : ℕ) → n ≤ n
at_most n = omega arith

-- the answers beside the acts: none, or one that is none to the message that was due
abbrev Came : Mode → List ToClient → Type 0
Came m answers =
    (answers ≡ [])
    ⊎ ((message : ToServer) × (answer : ToClient) × (message_due m ≡ message ∷ []) × (answers ≡ answer ∷ []) × ¬ IsAnswer message answer)

-- nothing was written, nothing came and nothing was drawn
none_beside : (m : Mode) → IsBeside m [] [] []
none_beside m = record { sent_due = (0, refl); came = inl refl; few = omega arith; drawn = λ _. refl }

-- one act leads there
pub act_did : {ready : ℕ → ℕ → Bool} {a b : Stand} {m m' : Mode} {act : Act} → Trace a b (act ∷ []) [] [] [] → Goes ready m act m' → Did ready a b m m'
act_did {m' = m'} {act = act} trace goes = record { acts = act ∷ []; trace = trace; leads = (m', goes, refl) }

-- it stops where it is, after no act
stops_here : {ready : ℕ → ℕ → Bool} {a b : Stand} {m : Mode} {written : List ℕ} {answers : List ToClient} {words : List (List ℕ)} {fault : SessionFault}
    → KnowsMore a.known b.known [] → Exchanged a.link b.link written answers → AppendsItems a.words b.words words → a.chance_faults ≤ b.chance_faults
    → IsBeside m written answers words → Cause a b m written answers words fault → Stopped ready a b m (rounds_begun m) fault
stops_here {m = m} {written = written} {answers = answers} {words = words} knows link drew low beside cause = record {
  acts = [];
  reached = m;
  written = written;
  answers = answers;
  words = words;
  trace = record { knows = knows; fits = tt; in_order = tt; link = link; words_are = drew; chance = low };
  leads = refl;
  within = omega arith;
  beside = beside;
  cause = cause;
}

point_zero : {k k' : Known Item} {before : Past} {events : List Logged} → k.number ≡ 0 → IsCall k k' before events → IsPoint k'.seen k.start 0 k.mine (length (items_of before))
point_zero {k} {k'} {before} {events} zero' c =
    subst (λ (n : ℕ). IsPoint k'.seen k.start n k.mine (length (items_of before))) zero' (call_point k k' before events c)

-- a step that touches neither the link nor the chance
module _ {link : LinkStand} {words : Option (List (List ℕ))} {g : ℕ} where
  known_trace : {k k' : Known Item} {act : Act} → KnowsMore k k' (items_by act ++ []) → Fits k'.seen k.start k.mine act → length k.seen ≤ moment_after (length k.seen) act
      → messages_by act ≡ [] → answers_by act ≡ [] → words_by act ≡ []
      → Trace (stand k link words g) (stand k' link words g) (act ∷ []) [] [] []
  known_trace {act = act} knows fits later no_message no_answer no_word = record {
    knows = knows;
    fits = (fits, tt);
    in_order = (later, tt);
    link = subst (λ (m : List ToServer). Exchanged link link (spelled (m ++ []) ++ []) ((answers_by act ++ []) ++ [])) (sym no_message)
        (subst (λ (l : List ToClient). Exchanged link link [] ((l ++ []) ++ [])) (sym no_answer) (exchanged_none link));
    words_are = subst (λ (l : List (List ℕ)). AppendsItems words words ((l ++ []) ++ [])) (sym no_word) (words_none words);
    chance = omega arith;
  }

  -- it stops before an act, having looked at the client at most
  pub known_stopped : {ready : ℕ → ℕ → Bool} {k k' : Known Item} {m : Mode} {fault : SessionFault} → KnowsMore k k' []
      → Cause (stand k link words g) (stand k' link words g) m [] [] [] fault
      → Stopped ready (stand k link words g) (stand k' link words g) m (rounds_begun m) fault
  known_stopped {m = m} knows cause = stops_here knows (exchanged_none link) (words_none words) (omega arith) (none_beside m) cause

  pub ask_did : {ready : ℕ → ℕ → Bool} {k k' : Known Item} {before : Past} → IsCall k k' before []
      → Did ready (stand k link words g) (stand k' link words g) Asking (Greeting before.opening.genesis.document before.opening.kit.me.member)
  ask_did {k = k} {k' = k'} {before = before} c =
      act_did {act = Ask before.opening.genesis.document before.opening.kit.me.member}
      (known_trace (call_knows k k' before [] c) (before.opening, before.first_leaf, (map Happened before.log ++ [], seen_after k k' before [] c), refl, refl) (at_most (length k.seen)) refl refl refl) asks

  pub look_trace : {k k' : Known Item} {before : Past} {at pending : ℕ} → k.number ≡ 0 → IsCall k k' before [] → Looked (client_of before) at pending
      → Trace (stand k link words g) (stand k' link words g) (Look (length (items_of before)) at pending ∷ []) [] [] []
  look_trace {k} {k'} {before} zero' c looked =
      known_trace (call_knows k k' before [] c) (point_zero zero' c, (client_of before, call_client k k' before [] c, looked)) (call_later k k' before [] c) refl refl refl

  pub look_did : {ready : ℕ → ℕ → Bool} {n : ℕ} {k k' : Known Item} {before : Past} {at pending : ℕ} → k.number ≡ 0 → IsCall k k' before [] → Looked (client_of before) at pending
      → ready at pending ≡ true → Did ready (stand k link words g) (stand k' link words g) (Between n) (Pulling n at)
  look_did zero' c looked is_ready = act_did (look_trace zero' c looked) (looks is_ready)

  check_trace : {k k' : Known Item} {before : Past} {entry : List ℕ} {stays : Bool} → k.number ≡ 0 → IsCall k k' before [] → stays ≡ is_flight (client_of before) entry
      → Trace (stand k link words g) (stand k' link words g) (Check (length (items_of before)) entry stays ∷ []) [] [] []
  check_trace {k} {k'} {before} zero' c is =
      known_trace (call_knows k k' before [] c) (point_zero zero' c, (client_of before, call_client k k' before [] c, is)) (call_later k k' before [] c) refl refl refl

  pub check_did : {ready : ℕ → ℕ → Bool} {n : ℕ} {r : Refusal} {k k' : Known Item} {before : Past} {entry : List ℕ} → k.number ≡ 0 → IsCall k k' before [] → false ≡ is_flight (client_of before) entry
      → Did ready (stand k link words g) (stand k' link words g) (Checking n entry r) (Between (n + 1))
  check_did zero' c is = act_did (check_trace zero' c is) is_gone

  pub check_stopped : {ready : ℕ → ℕ → Bool} {n : ℕ} {r : Refusal} {k k' : Known Item} {before : Past} {entry : List ℕ} → k.number ≡ 0 → IsCall k k' before [] → true ≡ is_flight (client_of before) entry
      → Stopped ready (stand k link words g) (stand k' link words g) (Checking n entry r) (n + 1) (faults.ServerRejected r)
  check_stopped {n = n} {r = r} {before = before} {entry = entry} zero' c is = record {
    acts = Check (length (items_of before)) entry true ∷ [];
    reached = Stuck n r;
    written = [];
    answers = [];
    words = [];
    trace = check_trace zero' c is;
    leads = (Stuck n r, is_there, refl);
    within = omega arith;
    beside = none_beside (Stuck n r);
    cause = (n, refl);
  }

-- entries that are accepted don't look at the client
takes_in_order : (n at : ℕ) (es : List (List ℕ)) → AreInOrder n (takes_of at es)
takes_in_order n at [] = tt
takes_in_order n at (e ∷ es) = (omega arith, takes_in_order n (at + 1) es)

-- entries that are accepted send, receive and draw nothing
takes_silent : {X : Type 0} (h : Act → List X) → ((position : ℕ) (e : List ℕ) → h (Take position e) ≡ []) → (at : ℕ) (es : List (List ℕ)) → all_of h (takes_of at es) ≡ []
takes_silent h none at [] = refl
takes_silent h none at (e ∷ es) = ap (λ l. l ++ all_of h (takes_of (at + 1) es)) (none (at + 1) e) ∙ takes_silent h none (at + 1) es

fits_takes : (log : List Item) (start : ℕ) (mine : List Item) (at : ℕ) (es : List (List ℕ)) → FitAll log start mine (takes_of at es)
fits_takes log start mine at [] = tt
fits_takes log start mine at (e ∷ es) = (tt, fits_takes log start (mine ++ items_by (Take (at + 1) e)) (at + 1) es)

pub leads_takes : (ready : ℕ → ℕ → Bool) (n at : ℕ) (front rest : List (List ℕ)) (next : Then) → Leads ready (Taking n at (front ++ rest) next) (takes_of at front) (Taking n (at + length front) rest next)
leads_takes ready n at [] rest next = ap (λ x. Taking n x rest next) (omega arith)
leads_takes ready n at (e ∷ es) rest next =
    (Taking n (at + 1) (es ++ rest) next, takes, subst (λ x. Leads ready (Taking n (at + 1) (es ++ rest) next) (takes_of (at + 1) es) (Taking n x rest next)) (omega arith) (leads_takes ready n (at + 1) es rest next))

-- a message that was not sent was not answered
pub not_sent : {a b : LinkStand} {message : ToServer} {fault : SessionFault} → Unsent a b message fault → AskFails a b message fault
not_sent u = (u.0, u.1, unsent u.2)

module _ {words : Option (List (List ℕ))} {g : ℕ} {a b : LinkStand} where
  -- no answer came to the message that was due
  pub ask_stopped : {ready : ℕ → ℕ → Bool} {k : Known Item} {m : Mode} {message : ToServer} {fault : SessionFault} → message_due m ≡ message ∷ [] → AskFails a b message fault
      → Stopped ready (stand k a words g) (stand k b words g) m (rounds_begun m) fault
  ask_stopped {ready} {k} {m} {message} {fault} due fails = subst (Stopped ready A B m (rounds_begun m)) (sym fails.1) (by fails.0 fails.2)
    where
      A : Stand
      A = stand k a words g

      B : Stand
      B = stand k b words g

      due_some : message_due m ≢ []
      due_some e = absurd cc

      whole : spelled (message ∷ []) ≡ take (length (spelled (message ∷ []))) (spelled (message_due m))
      whole = sym (take_all (length (spelled (message ∷ []))) (spelled (message ∷ [])) (omega arith)) ∙ ap (λ (ms : List ToServer). take (length (spelled (message ∷ []))) (spelled ms)) (sym due)

      stopped : {written : List ℕ} {answers : List ToClient} (f : SessionFault) → Exchanged a b written answers → (n : ℕ) × (written ≡ take n (spelled (message_due m))) → Came m answers
          → Cause A B m written answers [] f → Stopped ready A B m (rounds_begun m) f
      stopped f did part came cause = stops_here (knows_none k) did (words_none words) (omega arith) (record { sent_due = part; came = came; few = omega arith; drawn = λ _. refl }) cause

      unsent_cause : (written : List ℕ) (e : ExchangeFault) → UnsentFor a b e → Cause A B m written [] [] (session_fault e)
      unsent_cause written exchanges.LinkFault c = (c, due_some)
      unsent_cause written exchanges.Memory c = tt
      unsent_cause written _ c = absurd c

      silent_cause : (e : ExchangeFault) → SilentFor a b e → Cause A B m (spelled (message ∷ [])) [] [] (session_fault e)
      silent_cause exchanges.LinkFault c = (c, due_some)
      silent_cause exchanges.Memory c = tt
      silent_cause (exchanges.LinkEnded taken) c = (c.0, due_some, ap spelled (sym due), refl, c.1, c.2)
      silent_cause (exchanges.BadMessage place) c = inr (record { due = due_some; sent = ap spelled (sym due); came = refl; frame = c })

      by : (e : ExchangeFault) → exchange.AskFails a b message e → Stopped ready A B m (rounds_begun m) (session_fault e)
      by e (unsent h) =
          stopped (session_fault e) h.did (h.n, ap (λ (ms : List ToServer). take h.n (spelled ms)) (sym due)) (inl refl) (unsent_cause (take h.n (spelled (message ∷ []))) e h.cause)
      by e (silent h) = stopped (session_fault e) h.did (length (spelled (message ∷ [])), whole) (inl refl) (silent_cause e h.cause)
      by e (wrong h) =
          stopped (session_fault e) h.did (length (spelled (message ∷ [])), whole) (inr (message, h.answer, due, refl, h.wrong))
          (subst (λ (cause : ExchangeFault). Cause A B m (spelled (message ∷ [])) (h.answer ∷ []) [] (session_fault cause)) (sym h.is)
          (inl (record { message = message; answer = h.answer; due = due; sent = refl; came = refl; wrong = h.wrong; starts = h.starts })))

  -- entries were pulled and accepted
  gathered_trace : {k k' : Known Item} {at : ℕ} (came front : List (List ℕ)) → Exchanged a b (spelled (to_server.Pull at ∷ [])) (handed_out at came ∷ []) → KnowsMore k k' (all_of items_by (takes_of at front))
      → Trace (stand k a words g) (stand k' b words g) (Pull at came ∷ takes_of at front) [] [] []
  gathered_trace {k} {k'} {at} came front link knows = record {
    knows = knows;
    fits = (tt, fits_takes k'.seen k.start (k.mine ++ []) at front);
    in_order = (omega arith, takes_in_order (length k.seen) at front);
    link = subst (λ (m : List ToServer). Exchanged a b (spelled (to_server.Pull at ∷ m) ++ []) ((handed_out at came ∷ all_of answers_by (takes_of at front)) ++ [])) (sym (takes_silent messages_by (λ p e. refl) at front))
        (subst (λ (l : List ToClient). Exchanged a b (spelled (to_server.Pull at ∷ []) ++ []) ((handed_out at came ∷ l) ++ [])) (sym (takes_silent answers_by (λ p e. refl) at front))
        (subst (λ (w : List ℕ). Exchanged a b w (handed_out at came ∷ [])) (sym (append-nil (spelled (to_server.Pull at ∷ [])))) link));
    words_are = subst (λ (l : List (List ℕ)). AppendsItems words words (l ++ [])) (sym (takes_silent words_by (λ p e. refl) at front)) (words_none words);
    chance = omega arith;
  }

  pub gathered_did : {ready : ℕ → ℕ → Bool} {n : ℕ} {k k' : Known Item} {m : Mode} {at : ℕ} {came : List (List ℕ)} {next : Then} → Goes ready m (Pull at came) (Taking n at came next) → Gathered k k' a b at came
      → Did ready (stand k a words g) (stand k' b words g) m (Taking n (at + length came) [] next)
  gathered_did {ready} {n} {at = at} {came = came} {next = next} goes h = record {
    acts = Pull at came ∷ takes_of at came;
    trace = gathered_trace came came h.link h.knows;
    leads = (Taking n at came next, goes, subst (λ l. Leads ready (Taking n at l next) (takes_of at came) (Taking n (at + length came) [] next)) (append-nil came) (leads_takes ready n at came [] next));
  }

  -- no entry came
  pub drained_did : {ready : ℕ → ℕ → Bool} {n : ℕ} {k k' : Known Item} {at : ℕ} {entry : List ℕ} {r : Refusal} → Gathered k k' a b at []
      → Did ready (stand k a words g) (stand k' b words g) (Taking n at [] (Drains entry r)) (Checking n entry r)
  drained_did h = act_did (gathered_trace [] [] h.link h.knows) drained

  pub gather_stopped : {ready : ℕ → ℕ → Bool} {k k' : Known Item} {m : Mode} {at : ℕ} {fault : SessionFault} (n : ℕ) (next : Then) → message_due m ≡ to_server.Pull at ∷ []
      → rounds_begun m ≡ n + 1 → ((c : List ℕ) (cs : List (List ℕ)) → Goes ready m (Pull at (c ∷ cs)) (Taking n at (c ∷ cs) next)) → GatherStopped k k' a b at fault
      → Stopped ready (stand k a words g) (stand k' b words g) m (n + 1) fault
  gather_stopped {ready} {k} {m = m} {fault = fault} n next due begun goes (asking same fails) =
      subst (λ (z : Known Item × ℕ). Stopped ready (stand k a words g) (stand z.0 b words g) m z.1 fault) (λ i. (sym same i, begun i)) (ask_stopped due fails)
  gather_stopped {ready} {k} {k'} {m} {at} {fault} n next due begun goes (taking {came} link h) = record {
    acts = Pull at came ∷ takes_of at h.front;
    reached = M;
    written = [];
    answers = [];
    words = [];
    trace = gathered_trace came h.front link h.knows;
    leads = subst (λ l. Leads ready m (Pull at l ∷ takes_of at h.front) (Taking n (at + length h.front) (h.entry ∷ h.rest) next)) (sym h.are)
        (Taking n at (h.front ++ h.entry ∷ h.rest) next, starts h.front, leads_takes ready n at h.front (h.entry ∷ h.rest) next);
    within = omega arith;
    beside = none_beside M;
    cause = cause_of fault h.cause;
  }
    where
      starts : (front : List (List ℕ)) → Goes ready m (Pull at (front ++ h.entry ∷ h.rest)) (Taking n at (front ++ h.entry ∷ h.rest) next)
      starts [] = goes h.entry h.rest
      starts (c ∷ cs) = goes c (cs ++ h.entry ∷ h.rest)

      M : Mode
      M = Taking n (at + length h.front) (h.entry ∷ h.rest) next

      is_taking : (position : ℕ) → position ≡ at + length h.front + 1 → IsTaking M position h.entry
      is_taking position e = (n, at + length h.front, h.rest, next, refl, e)

      cause_of : (f : SessionFault) → TakeCause k' (at + length h.front + 1) h.entry f → Cause (stand k a words g) (stand k' b words g) M [] [] [] f
      cause_of (faults.Refused position refusal) c = (h.entry, is_taking position c.0, subst (λ p. AcceptGives k' p h.entry (accepts.Refused refusal)) (sym c.0) c.1)
      cause_of faults.JournalFull c = inl (at + length h.front + 1, h.entry, is_taking (at + length h.front + 1) refl, c)
      cause_of (faults.Worn ticket) c = c
      cause_of faults.Memory c = tt
      cause_of _ c = absurd c

-- a submission
module _ {link : LinkStand} {w w' : Option (List (List ℕ))} {c c' : ℕ} (low : c ≤ c') where
  submission_trace : {k k' : Known Item} {drawn : List (List ℕ)} {answer : Result Submitted SubmitFault} (s : Submission k k' drawn answer) → AppendsItems w w' drawn
      → Trace (stand k link w c) (stand k' link w' c') (Submit s.point s.first s.second answer ∷ []) [] [] []
  submission_trace {k} {k'} {answer = answer} s drew = record {
    knows = subst (KnowsMore k k') (sym (append-nil (map Happened (submission_added 0 answer)))) s.knows;
    fits = (s.fits, tt);
    in_order = (s.later, tt);
    link = exchanged_none link;
    words_are = subst (AppendsItems w w') s.drawn_are drew;
    chance = low;
  }

  pub quiet_did : {ready : ℕ → ℕ → Bool} {n at : ℕ} {k k' : Known Item} {drawn : List (List ℕ)} {answer : Result Submitted SubmitFault} → Submission k k' drawn answer → AppendsItems w w' drawn → IsQuiet answer
      → Did ready (stand k link w c) (stand k' link w' c') (Taking n at [] Submits) (Between (n + 1))
  quiet_did s drew quiet = act_did (submission_trace s drew) (submits_none quiet)

  pub entry_did : {ready : ℕ → ℕ → Bool} {n at : ℕ} {k k' : Known Item} {drawn : List (List ℕ)} {answer : Result Submitted SubmitFault} {e : List ℕ} → Submission k k' drawn answer → AppendsItems w w' drawn → answer ≡ Ok (submitted.Entry e)
      → Did ready (stand k link w c) (stand k' link w' c') (Taking n at [] Submits) (Sending n at e)
  entry_did {ready} {n} {at} {e = e} s drew is =
      act_did (submission_trace s drew) (subst (λ a. Goes ready (Taking n at [] Submits) (Submit s.point s.first s.second a) (Sending n at e)) (sym is) submits_entry)

  pub submit_stopped : {ready : ℕ → ℕ → Bool} {n at : ℕ} {k k' : Known Item} {fault : SessionFault} (drawn : List (List ℕ)) → length drawn ≤ 2 → AppendsItems w w' drawn → KnowsMore k k' [] → SubmitCause k' drawn c c' fault
      → Stopped ready (stand k link w c) (stand k' link w' c') (Taking n at [] Submits) (n + 1) fault
  submit_stopped {n = n} {at = at} {k = k} {k' = k'} {fault = fault} drawn few drew knows cause =
      stops_here knows (exchanged_none link) drew low (record { sent_due = (0, refl); came = inl refl; few = few; drawn = λ no. absurd (no is) }) (cause_of fault cause)
    where
      M : Mode
      M = Taking n at [] Submits

      is : IsSubmitting M
      is = (n, at, refl)

      cause_of : (x : SessionFault) → SubmitCause k' drawn c c' x → Cause (stand k link w c) (stand k' link w' c') M [] [] drawn x
      cause_of faults.JournalFull h = inr (is, h)
      cause_of (faults.Worn ticket) h = h
      cause_of faults.Memory h = tt
      cause_of faults.HistoryFull h = (is, h)
      cause_of (faults.Leaf (leaves.Exhausted next')) h = (is, h)
      cause_of (faults.Leaf leaves.DiskFault) h = (is, h)
      cause_of faults.ChanceFault h = (is, h)
      cause_of _ h = absurd h
