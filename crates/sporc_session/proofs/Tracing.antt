-- Traces in a row.
use Rattle.std.proofs.Common.{◌≡◌, ℕ, ◌≤◌, Bool, List, [], ◌++◌, length, refl, sym, ap, ◌∙◌, subst, append_assoc, arith}
use Rattle.sporc_session.proofs.Common.{Result, Ok, Err, ⊤, append-nil, AppendsItems, starts_length, ToClient, Item, SessionFault, Act, items_by, messages_by, answers_by, words_by, all_of}
use Rattle.sporc_session.proofs.Common.{FitAll, Stand, KnowsMore, Trace, Cause, Did, Stopped, DidOrStopped, Mode, rounds_begun, Exchanged, spelled}
use Rattle.sporc_outside.proofs.Growing.{rose_then, words_none, words_then}
use Rattle.sporc_session.specs.declared.fault.SessionFault.TheVariants as faults
use Rattle.sporc_exchange.proofs.Exchanging.{exchanged_none, exchanged_then, spelled_append}
use Rattle.sporc_session.proofs.Fitting.{all_of_append, fit_all_later, fit_all_append, in_order_append, leads_append}
use Rattle.sporc_session.proofs.Knowing.{knows_none, knows_then}

-- what acts in a row give, and what comes beside the last ones
row : {X : Type 0} (f : Act → List X) (xs ys : List Act) (more : List X) → (all_of f xs ++ []) ++ (all_of f ys ++ more) ≡ all_of f (xs ++ ys) ++ more
row f xs ys more = ap (λ l. l ++ (all_of f ys ++ more)) (append-nil (all_of f xs)) ∙ sym (append_assoc (all_of f xs) (all_of f ys) more) ∙ ap (λ l. l ++ more) (sym (all_of_append f xs ys))

spelled_row : (xs ys : List Act) (more : List ℕ) → (spelled (all_of messages_by xs) ++ []) ++ (spelled (all_of messages_by ys) ++ more) ≡ spelled (all_of messages_by (xs ++ ys)) ++ more
spelled_row xs ys more =
    ap (λ l. l ++ (spelled (all_of messages_by ys) ++ more)) (append-nil (spelled (all_of messages_by xs)))
    ∙ sym (append_assoc (spelled (all_of messages_by xs)) (spelled (all_of messages_by ys)) more)
    ∙ ap (λ l. l ++ more) (sym (spelled_append (all_of messages_by xs) (all_of messages_by ys)) ∙ ap spelled (sym (all_of_append messages_by xs ys)))

pub trace_none : (a : Stand) → Trace a a [] [] [] []
trace_none a = record {
  knows = knows_none a.known;
  fits = tt;
  in_order = tt;
  link = exchanged_none a.link;
  words_are = words_none a.words;
  chance = omega arith;
}

pub trace_then : {a b c : Stand} {xs ys : List Act} {written : List ℕ} {answers : List ToClient} {words : List (List ℕ)} → Trace a b xs [] [] [] → Trace b c ys written answers words
    → Trace a c (xs ++ ys) written answers words
trace_then {a} {b} {c} {xs} {ys} {written} {answers} {words} f g =
    let link : Exchanged a.link c.link ((spelled (all_of messages_by xs) ++ []) ++ (spelled (all_of messages_by ys) ++ written)) ((all_of answers_by xs ++ []) ++ (all_of answers_by ys ++ answers)) =
    exchanged_then a.link b.link c.link (spelled (all_of messages_by xs) ++ []) (spelled (all_of messages_by ys) ++ written) (all_of answers_by xs ++ []) (all_of answers_by ys ++ answers) f.link g.link in
    let link' : Exchanged a.link c.link (spelled (all_of messages_by (xs ++ ys)) ++ written) ((all_of answers_by xs ++ []) ++ (all_of answers_by ys ++ answers)) =
    subst (λ (w : List ℕ). Exchanged a.link c.link w ((all_of answers_by xs ++ []) ++ (all_of answers_by ys ++ answers))) (spelled_row xs ys written) link in
    record {
      knows = subst (KnowsMore a.known c.known) (sym (all_of_append items_by xs ys)) (knows_then a.known b.known c.known (all_of items_by xs) (all_of items_by ys) f.knows g.knows);
      fits = fit_all_append c.known.seen a.known.start a.known.mine xs ys (fit_all_later b.known.seen c.known.seen g.knows.begins a.known.start a.known.mine xs f.fits)
          (subst (λ (z : ℕ × List Item). FitAll c.known.seen z.0 z.1 ys) (λ i. (f.knows.start i, f.knows.mine i)) g.fits);
      in_order = in_order_append b.known.seen a.known.start (length b.known.seen) (omega arith) (length a.known.seen) a.known.mine xs ys (starts_length b.known.seen a.known.seen f.knows.begins) f.fits f.in_order g.in_order;
      link = subst (λ (l : List ToClient). Exchanged a.link c.link (spelled (all_of messages_by (xs ++ ys)) ++ written) l) (row answers_by xs ys answers) link';
      words_are = subst (AppendsItems a.words c.words) (row words_by xs ys words) (words_then a.words b.words c.words _ _ f.words_are g.words_are);
      chance = omega (arith, f.chance, g.chance);
    }

pub did_none : {ready : ℕ → ℕ → Bool} {a : Stand} {m : Mode} → Did ready a a m m
did_none {a = a} = record { acts = []; trace = trace_none a; leads = refl }

pub did_then : {ready : ℕ → ℕ → Bool} {a b c : Stand} {m k m' : Mode} → Did ready a b m k → Did ready b c k m' → Did ready a c m m'
did_then {ready} {m = m} {k = k} {m' = m'} f g = record {
  acts = f.acts ++ g.acts;
  trace = trace_then f.trace g.trace;
  leads = leads_append ready m k m' f.acts g.acts f.leads g.leads;
}

cause_earlier : (a b c : Stand) (m : Mode) (written : List ℕ) (answers : List ToClient) (words : List (List ℕ)) (fault : SessionFault)
    → a.link.faults ≤ b.link.faults → a.chance_faults ≤ b.chance_faults → Cause b c m written answers words fault → Cause a c m written answers words fault
cause_earlier a b c m written answers words faults.LinkFault low low' h = (rose_then a.link.faults b.link.faults c.link.faults low h.0, h.1)
cause_earlier a b c m written answers words faults.ChanceFault low low' h = (h.0, rose_then a.chance_faults b.chance_faults c.chance_faults low' h.1)
cause_earlier a b c m written answers words _ low low' h = h

pub did_stopped : {ready : ℕ → ℕ → Bool} {a b c : Stand} {m k : Mode} {rounds : ℕ} {fault : SessionFault} → Did ready a b m k → Stopped ready b c k rounds fault → Stopped ready a c m rounds fault
did_stopped {ready} {a} {b} {c} {m} {k} {rounds} {fault} f g = record {
  acts = f.acts ++ g.acts;
  reached = g.reached;
  written = g.written;
  answers = g.answers;
  words = g.words;
  trace = trace_then f.trace g.trace;
  leads = leads_append ready m k g.reached f.acts g.acts f.leads g.leads;
  within = g.within;
  beside = g.beside;
  cause = cause_earlier a b c g.reached g.written g.answers g.words fault f.trace.link.count f.trace.chance g.cause;
}

-- with no more rounds than these, nor than more
pub stopped_within : {ready : ℕ → ℕ → Bool} {a b : Stand} {m : Mode} {fault : SessionFault} (rounds more : ℕ) → rounds ≤ more → Stopped ready a b m rounds fault → Stopped ready a b m more fault
stopped_within rounds more low s = record {
  acts = s.acts;
  reached = s.reached;
  written = s.written;
  answers = s.answers;
  words = s.words;
  trace = s.trace;
  leads = s.leads;
  within = omega (arith, low, s.within);
  beside = s.beside;
  cause = s.cause;
}

-- what was done first, and how it ended
pub and_then : {ready : ℕ → ℕ → Bool} {a b c : Stand} {m k m' : Mode} {result : Result ⊤ SessionFault} → Did ready a b m k → DidOrStopped ready b c k m' result → DidOrStopped ready a c m m' result
and_then {result = Ok x} d h = record { ends = did_then d h.ends }
and_then {result = Err fault} d h = record { ends = did_stopped d h.ends }

-- a step that is Ok was done, and otherwise the receiver stopped in it
pub was_done : {ready : ℕ → ℕ → Bool} {a b : Stand} {m m' : Mode} {x : ⊤} {result : Result ⊤ SessionFault} → result ≡ Ok x → DidOrStopped ready a b m m' result → Did ready a b m m'
was_done {ready} {a} {b} {m} {m'} is h = (subst (DidOrStopped ready a b m m') is h).ends

pub was_stopped : {ready : ℕ → ℕ → Bool} {a b : Stand} {m m' : Mode} {fault : SessionFault} {result : Result ⊤ SessionFault} → result ≡ Err fault → DidOrStopped ready a b m m' result → Stopped ready a b m (rounds_begun m') fault
was_stopped {ready} {a} {b} {m} {m'} is h = (subst (DidOrStopped ready a b m m') is h).ends
