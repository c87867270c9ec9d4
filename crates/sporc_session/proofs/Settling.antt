-- The client that a session leaves, if it is Ok or didn't settle.
use Rattle.std.proofs.Common.{◌≡◌, ◌≤◌, ℕ, ◌+◌, true, false, List, [], ◌∷◌, length, drop, Option, Some, None, refl, sym, ap, ◌∙◌, subst, arith, nat_lt}
use Rattle.sporc_session.proofs.Common.{Result, Ok, Err, ⊤, ltb-false, take_all, first_of, EditorLine, PlainClient, Item, Past, client_of, items_of, SessionFault, Looked, Stand, Cause, LineCause}
use Rattle.sporc_session.proofs.Common.{IsClientAt, is_unsettled, EditorsDid, FirstPhase, IsSession, Rounds, SecondPhase, SessionEnds, settles, doesnt_settle, stops}
use Rattle.std.proofs.lemmas.Bool.{or_parts}
use Rattle.sporc_session.specs.declared.fault.SessionFault.TheVariants as faults
use Rattle.sporc_session.proofs.Pasts.{items_same}

-- what is so of the client that a second phase leaves
abbrev Settled : PlainClient → ℕ → Result ⊤ SessionFault → Type 0
Settled client until (Ok done) = (length client.pending ≡ 0) × (until ≤ length client.entries)
Settled client until (Err (faults.NotSettled pending at)) = (pending ≡ length client.pending) × (at ≡ length client.entries) × (is_unsettled until at pending ≡ true)
Settled client until _ = ⊤

-- the client at the end of a log is that of its past
at_end : (log : List Item) (past : Past) (client : PlainClient) → log ≡ items_of past → IsClientAt log (length log) client → client ≡ client_of past
at_end log past client is at =
    sym at.client_is ∙ ap client_of (items_same at.past past (sym at.past_is ∙ take_all (length log) log (omega arith) ∙ is))

settled_low : (until at pending : ℕ) → is_unsettled until at pending ≡ false → (pending ≡ 0) × (until ≤ at)
settled_low until at pending is =
    let t = or_parts (nat_lt 0 pending) (nat_lt at until) is in
    (omega (arith, ltb-false 0 pending t.0), ltb-false at until t.1)

module _ (past : Past) (until : ℕ) where
  last_look : (m b : Stand) (done at pending : ℕ) → b.known.seen ≡ items_of past → Rounds m b until done at pending → Looked (client_of past) at pending
  last_look m b done at pending seen r =
      let saw = r.last.fits.0.1 in
      subst (λ (c : PlainClient). Looked c at pending) (at_end b.known.seen past saw.0 seen saw.1) saw.2

  second_settled : (m b : Stand) (rounds : ℕ) (result : Result ⊤ SessionFault) → b.known.seen ≡ items_of past → SecondPhase m b rounds until result → Settled (client_of past) until result
  second_settled m b rounds result seen (settles {done} {at} {pending} few r is) =
      let look = last_look m b done at pending seen r in
      let low = settled_low until at pending is in
      (sym look.pending_is ∙ low.0, omega (arith, look.at_is, low.1))
  second_settled m b rounds result seen (doesnt_settle {at} {pending} r is) = let look = last_look m b rounds at pending seen r in (look.pending_is, look.at_is, is)
  second_settled m b rounds result seen (stops {fault} s) = by fault s.cause
    where
      by : (f : SessionFault) → Cause m b s.reached s.written s.answers s.words f → Settled (client_of past) until (Err f)
      by (faults.NotSettled pending at) c = absurd c
      by _ c = tt

-- no line of an editor ends with NotSettled
line_settles : (log : List Item) (start number : ℕ) (mine : List Item) (lines : List EditorLine) (pending at : ℕ) → ¬ LineCause log start number mine lines (faults.NotSettled pending at)
line_settles log start number mine [] pending at c = c
line_settles log start number mine (line ∷ lines) pending at c = c

editors_settle : (log : List Item) (start number : ℕ) (scripts : List (List EditorLine)) (ends : List (Option SessionFault)) (pending at : ℕ)
    → EditorsDid log start number scripts ends → ¬ (first_of ends ≡ Some (faults.NotSettled pending at))
editors_settle log start number scripts [] pending at did is = absurd cc
editors_settle log start number [] (end ∷ ends) pending at did is = absurd (omega (arith, ap length did))
editors_settle log start number (script ∷ scripts) (Some f ∷ ends) pending at did is =
    let same : f ≡ faults.NotSettled pending at = cc in
    line_settles log start number _ (drop did.0.count script) pending at (subst (LineCause log start number _ (drop did.0.count script)) same did.0.end)
editors_settle log start number (script ∷ scripts) (None ∷ ends) pending at did is = editors_settle log start (number + 1) scripts ends pending at did.1 is

pub session_settled : (past : Past) (a b : Stand) (rounds until : ℕ) (scripts : List (List EditorLine)) → b.known.seen ≡ items_of past → IsSession a b rounds until scripts (Ok tt)
    → (length (client_of past).pending ≡ 0) × (until ≤ length (client_of past).entries)
session_settled past a b rounds until scripts seen s = by (first_of (s.receiver ∷ s.editors)) s.ends
  where
    by : (fault : Option SessionFault) → SessionEnds s.middle b rounds until fault (Ok tt) → Settled (client_of past) until (Ok tt)
    by (Some f) e = let other = e.0 in absurd cc
    by None e = second_settled past until s.middle b rounds (Ok tt) seen e

pub session_unsettled : (past : Past) (a b : Stand) (rounds until pending at : ℕ) (scripts : List (List EditorLine)) → b.known.seen ≡ items_of past → IsSession a b rounds until scripts (Err (faults.NotSettled pending at))
    → (pending ≡ length (client_of past).pending) × (at ≡ length (client_of past).entries) × (is_unsettled until at pending ≡ true)
session_unsettled past a b rounds until pending at scripts seen s = by_receiver s.receiver refl s.first s.ends
  where
    by_editors : (fault : Option SessionFault) → first_of s.editors ≡ fault → s.receiver ≡ None → SessionEnds s.middle b rounds until fault (Err (faults.NotSettled pending at)) → Settled (client_of past) until (Err (faults.NotSettled pending at))
    by_editors None is none e = second_settled past until s.middle b rounds (Err (faults.NotSettled pending at)) seen e
    by_editors (Some f) is none e =
        let ends = e.0 in
        let same : f ≡ faults.NotSettled pending at = cc in
        absurd (editors_settle b.known.seen a.known.start 1 scripts s.editors pending at s.edited (is ∙ ap Some same))

    by_receiver : (receiver : Option SessionFault) → s.receiver ≡ receiver → FirstPhase a s.middle rounds receiver → SessionEnds s.middle b rounds until (first_of (receiver ∷ s.editors)) (Err (faults.NotSettled pending at))
        → Settled (client_of past) until (Err (faults.NotSettled pending at))
    by_receiver (Some f) is stopped e =
        let ends = e.0 in
        let same : f ≡ faults.NotSettled pending at = cc in
        absurd (subst (λ (x : SessionFault). FirstPhase a s.middle rounds (Some x)) same stopped).cause
    by_receiver None is did e = by_editors (first_of s.editors) refl is e
