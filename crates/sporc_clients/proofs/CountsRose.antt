-- Of which faults of a session a count tells.
use Rattle.std.proofs.Common.{◌≡◌, ℕ, ◌+◌, ◌≤◌, List, [], ◌∷◌, drop, length, Option, Some, None, refl, sym, ap, subst, arith}
use Rattle.sporc_clients.proofs.Common.{Result, Err, ⊤, count_of_both, EditorLine, Item, SessionFault, Trace, Stand}
use Rattle.std.proofs.lemmas.Option.{same_Some}
use Rattle.sporc_base.specs.FirstFault.{first_of}
use Rattle.sporc_wire.specs.declared.to_client.ToClient.{ToClient}
use Rattle.sporc_session.specs.declared.fault.SessionFault.TheVariants as faults
use Rattle.sporc_session.specs.Acts.{Act}
use Rattle.sporc_session.specs.Endings.{Cause}
use Rattle.sporc_session.specs.Lines.{LineCause}
use Rattle.sporc_session.specs.Protocol.{Mode}
use Rattle.sporc_session.specs.Sessions.{EditorsDid, FirstPhase, IsSession, SecondPhase, SessionEnds, settles, doesnt_settle, stops}
use Rattle.sporc_clients.specs.Counts.{CountsAround, RoseFor, RoseIfFailed}
use Rattle.sporc_clients.proofs.Counting.{both_rose}

-- the counts of two moments
abbrev pub counts : Stand → Stand → CountsAround
counts a b = record { links_before = a.link.faults; links_after = b.link.faults; chance_before = a.chance_faults; chance_after = b.chance_faults }

-- they did not fall
pub record AreKept (a b : Stand) : Type 0 where
  pub link : a.link.faults ≤ b.link.faults
  pub chance : a.chance_faults ≤ b.chance_faults

kept : (a b : Stand) (acts : List Act) (written : List ℕ) (answers : List ToClient) (words : List (List ℕ)) → Trace a b acts written answers words → AreKept a b
kept a b acts written answers words c = record { link = c.link.count; chance = c.chance }

kept_then : (a b c : Stand) → AreKept a b → AreKept b c → AreKept a c
kept_then a b c first then = record { link = omega (arith, first.link, then.link); chance = omega (arith, first.chance, then.chance) }

first_kept : (a m : Stand) (rounds : ℕ) (receiver : Option SessionFault) → FirstPhase a m rounds receiver → AreKept a m
first_kept a m rounds None d = kept a m d.acts [] [] [] d.trace
first_kept a m rounds (Some f) s = kept a m s.acts s.written s.answers s.words s.trace

second_kept : (m b : Stand) (rounds until : ℕ) (result : Result ⊤ SessionFault) → SecondPhase m b rounds until result → AreKept m b
second_kept m b rounds until result (settles few r is) = kept_then m r.between b (kept m r.between r.did.acts [] [] [] r.did.trace) (kept r.between b _ [] [] [] r.last)
second_kept m b rounds until result (doesnt_settle r is) = kept_then m r.between b (kept m r.between r.did.acts [] [] [] r.did.trace) (kept r.between b _ [] [] [] r.last)
second_kept m b rounds until result (stops s) = kept m b s.acts s.written s.answers s.words s.trace

ends_kept : (m b : Stand) (rounds until : ℕ) (result : Result ⊤ SessionFault) (fault : Option SessionFault) → SessionEnds m b rounds until fault result → AreKept m b
ends_kept m b rounds until result (Some f) e = subst (λ (s : Stand). AreKept m s) (sym e.1) (record { link = omega arith; chance = omega arith })
ends_kept m b rounds until result None p = second_kept m b rounds until result p

pub session_kept : (a b : Stand) (rounds until : ℕ) (scripts : List (List EditorLine)) (result : Result ⊤ SessionFault) → IsSession a b rounds until scripts result → AreKept a b
session_kept a b rounds until scripts result s =
    kept_then a s.middle b (first_kept a s.middle rounds s.receiver s.first) (ends_kept s.middle b rounds until result (first_of (s.receiver ∷ s.editors)) s.ends)

-- why a receiver stopped
cause_rose : (a b : Stand) (m : Mode) (written : List ℕ) (answers : List ToClient) (words : List (List ℕ)) (fault : SessionFault) → Cause a b m written answers words fault → RoseFor (counts a b) fault
cause_rose a b m written answers words faults.LinkFault c = c.0
cause_rose a b m written answers words faults.ChanceFault c = c.1
cause_rose a b m written answers words fault c = tt

-- and why an editor did
line_rose : (c : CountsAround) (log : List Item) (start number : ℕ) (mine : List Item) (lines : List EditorLine) (fault : SessionFault) → LineCause log start number mine lines fault → RoseFor c fault
line_rose c log start number mine [] fault is = absurd is
line_rose c log start number mine (line ∷ lines) faults.LinkFault is = absurd is
line_rose c log start number mine (line ∷ lines) faults.ChanceFault is = absurd is
line_rose c log start number mine (line ∷ lines) fault is = tt

editors_rose : (c : CountsAround) (log : List Item) (start number : ℕ) (scripts : List (List EditorLine)) (ends : List (Option SessionFault)) (fault : SessionFault)
    → EditorsDid log start number scripts ends → first_of ends ≡ Some fault → RoseFor c fault
editors_rose c log start number scripts [] fault did is = absurd cc
editors_rose c log start number [] (end ∷ ends) fault did is = absurd (omega (arith, ap length did))
editors_rose c log start number (script ∷ scripts) (Some f ∷ ends) fault did is =
    subst (RoseFor c) (same_Some _ _ is) (line_rose c log start number _ (drop did.0.count script) f did.0.end)
editors_rose c log start number (script ∷ scripts) (None ∷ ends) fault did is = editors_rose c log start (number + 1) scripts ends fault did.1 is

-- why the session ended
second_rose : (m b : Stand) (rounds until : ℕ) (result : Result ⊤ SessionFault) → SecondPhase m b rounds until result → RoseIfFailed (counts m b) result
second_rose m b rounds until result (stops s) = cause_rose m b s.reached s.written s.answers s.words _ s.cause
second_rose m b rounds until result _ = tt

wider : (a m b : Stand) → AreKept a m → (result : Result ⊤ SessionFault) → RoseIfFailed (counts m b) result → RoseIfFailed (counts a b) result
wider a m b k (Err faults.LinkFault) rose = omega (arith, k.link, rose)
wider a m b k (Err faults.ChanceFault) rose = omega (arith, k.chance, rose)
wider a m b k result rose = tt

module _ (a b : Stand) (rounds until : ℕ) (scripts : List (List EditorLine)) (result : Result ⊤ SessionFault) (s : IsSession a b rounds until scripts result) where
  -- the receiver or an editor, in the first phase
  ended_by : (fault : SessionFault) → RoseFor (counts a s.middle) fault → (result ≡ Err fault) × (b ≡ s.middle) → RoseIfFailed (counts a b) result
  ended_by fault rose e =
      subst (λ (r : Result ⊤ SessionFault). RoseIfFailed (counts a b) r) (sym e.0) (subst (λ (m : Stand). RoseFor (counts a m) fault) (sym e.1) rose)

  by_editors : (ends : Option SessionFault) → first_of s.editors ≡ ends → s.receiver ≡ None → SessionEnds s.middle b rounds until ends result → RoseIfFailed (counts a b) result
  by_editors None is none e = wider a s.middle b (first_kept a s.middle rounds s.receiver s.first) result (second_rose s.middle b rounds until result e)
  by_editors (Some f) is none e =
      ended_by f (editors_rose (counts a s.middle) b.known.seen a.known.start 1 scripts s.editors f s.edited is) e

  by_receiver : (receiver : Option SessionFault) → s.receiver ≡ receiver → FirstPhase a s.middle rounds receiver → SessionEnds s.middle b rounds until (first_of (receiver ∷ s.editors)) result
      → RoseIfFailed (counts a b) result
  by_receiver (Some f) is stopped e = ended_by f (cause_rose a s.middle stopped.reached stopped.written stopped.answers stopped.words f stopped.cause) e
  by_receiver None is did e = by_editors (first_of s.editors) refl is e

  pub session_rose : RoseIfFailed (counts a b) result
  session_rose = by_receiver s.receiver refl s.first s.ends

-- the count of a net rose that took such a link back: the link's count was 0 as it came
pub rose_at_net : (first last old new : ℕ) (chance chance' : ℕ) (result : Result ⊤ SessionFault) → first ≡ 0 → count_of_both old last ≤ new
    → RoseIfFailed (record { links_before = first; links_after = last; chance_before = chance; chance_after = chance' }) result
    → RoseIfFailed (record { links_before = old; links_after = new; chance_before = chance; chance_after = chance' }) result
rose_at_net first last old new chance chance' (Err faults.LinkFault) fresh back rose = both_rose old last new (omega (arith, fresh, rose)) back
rose_at_net first last old new chance chance' (Err faults.ChanceFault) fresh back rose = rose
rose_at_net first last old new chance chance' result fresh back rose = tt

-- and of one whose count of links is looked at earlier
pub rose_since : (old mid new chance chance' : ℕ) (result : Result ⊤ SessionFault) → old ≤ mid
    → RoseIfFailed (record { links_before = mid; links_after = new; chance_before = chance; chance_after = chance' }) result
    → RoseIfFailed (record { links_before = old; links_after = new; chance_before = chance; chance_after = chance' }) result
rose_since old mid new chance chance' (Err faults.LinkFault) kept rose = omega (arith, kept, rose)
rose_since old mid new chance chance' (Err faults.ChanceFault) kept rose = rose
rose_since old mid new chance chance' result kept rose = tt
