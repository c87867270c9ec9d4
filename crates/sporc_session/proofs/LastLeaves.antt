-- A session that ends because all leaves are drawn names the number of the key's leaves.
use Rattle.std.proofs.Common.{◌≡◌, ℕ, zero, suc, ◌+◌, ◌^◌, List, [], ◌∷◌, ◌++◌, drop, length, take, Option, Some, None, refl, sym, ap, ◌∙◌, subst, arith}
use Rattle.sporc_session.proofs.Common.{Result, Err, IfErr, ⊤, first_of, EditorLine, Known, StartsWith, ToClient, Opening, PlainClient, replay_opening, Item, Past, items_of, SessionFault, Stand, Cause}
use Rattle.sporc_session.proofs.Common.{SubmitGives, LineCause, Mode, EditorsDid, FirstPhase, IsSession, SecondPhase, SessionEnds, stops}
use Rattle.lms_leaf.specs.declared.faults.LeafFault.TheVariants as leaves
use Rattle.lms_tree.specs.LmsType.{height_of}
use Rattle.sporc_client.specs.declared.fault.SubmitFault.TheVariants as submits
use Rattle.sporc_client.specs.Drawing.{MayDraw}
use Rattle.sporc_client.proofs.Submitting.{submission_drawn}
use Rattle.sporc_session.specs.declared.fault.SessionFault.TheVariants as faults

-- if all leaves are drawn, then with their number
abbrev NamesAll : Past → SessionFault → Type 0
NamesAll past (faults.Leaf (leaves.Exhausted next)) = next ≡ 2 ^ height_of past.opening.key.lms
NamesAll past _ = ⊤

-- a point of a log that begins with a past is one of the same opening
one_opening : (log : List Item) (past p : Past) (point : ℕ) → StartsWith log (items_of past) → take point log ≡ items_of p → p.opening ≡ past.opening
one_opening log past p point begins is = go point (subst (λ (l : List Item). take point l ≡ items_of p) begins.1 is)
  where
    go : (n : ℕ) → take n (items_of past ++ begins.0) ≡ items_of p → p.opening ≡ past.opening
    go zero e = absurd cc
    go (suc n) e = let same : past.opening ≡ p.opening = cc in sym same

gives_all : (past : Past) (k : Known Item) (drawn : List (List ℕ)) (next : ℕ) → StartsWith k.seen (items_of past) → SubmitGives k drawn (submits.Exhausted next) → next ≡ 2 ^ height_of past.opening.key.lms
gives_all past k drawn next begins h =
    let at = h.is_client in
    let may : next ≡ 2 ^ height_of h.client.opening.key.lms = subst (MayDraw h.client) (submission_drawn h.client (h.first ++ h.second) h.leaf next h.gives) h.may in
    let opening : h.client.opening ≡ past.opening =
    ap (λ (c : PlainClient). c.opening) (sym at.client_is) ∙ replay_opening at.past.opening at.past.log ∙ one_opening k.seen past at.past h.point begins at.past_is in
    may ∙ ap (λ (o : Opening). 2 ^ height_of o.key.lms) opening

module _ (past : Past) where
  cause_names : (a b : Stand) (m : Mode) (written : List ℕ) (answers : List ToClient) (words : List (List ℕ)) (fault : SessionFault) → StartsWith b.known.seen (items_of past)
      → Cause a b m written answers words fault → NamesAll past fault
  cause_names a b m written answers words (faults.Leaf (leaves.Exhausted next)) begins c = gives_all past b.known words next begins c.1
  cause_names a b m written answers words _ begins c = tt

  -- no line of an editor ends so
  line_names : (log : List Item) (start number : ℕ) (mine : List Item) (lines : List EditorLine) (fault : SessionFault) → LineCause log start number mine lines fault → NamesAll past fault
  line_names log start number mine [] fault c = absurd c
  line_names log start number mine (line ∷ lines) (faults.Leaf (leaves.Exhausted next)) c = absurd c
  line_names log start number mine (line ∷ lines) _ c = tt

  editors_name : (log : List Item) (start number : ℕ) (scripts : List (List EditorLine)) (ends : List (Option SessionFault)) (fault : SessionFault)
      → EditorsDid log start number scripts ends → first_of ends ≡ Some fault → NamesAll past fault
  editors_name log start number scripts [] fault did is = absurd cc
  editors_name log start number [] (end ∷ ends) fault did is = absurd (omega (arith, ap length did))
  editors_name log start number (script ∷ scripts) (Some f ∷ ends) fault did is =
      let same : f ≡ fault = cc in
      subst (NamesAll past) same (line_names log start number _ (drop did.0.count script) f did.0.end)
  editors_name log start number (script ∷ scripts) (None ∷ ends) fault did is = editors_name log start (number + 1) scripts ends fault did.1 is

  second_names : (m b : Stand) (rounds until : ℕ) (result : Result ⊤ SessionFault) → StartsWith b.known.seen (items_of past) → SecondPhase m b rounds until result → IfErr result (NamesAll past)
  second_names m b rounds until result begins (stops s) = cause_names m b s.reached s.written s.answers s.words _ begins s.cause
  second_names m b rounds until result begins _ = tt

  module _ (a b : Stand) (rounds until : ℕ) (scripts : List (List EditorLine)) (result : Result ⊤ SessionFault) (seen : a.known.seen ≡ items_of past) (s : IsSession a b rounds until scripts result) where
    begins : StartsWith b.known.seen (items_of past)
    begins = subst (λ (l : List Item). StartsWith b.known.seen l) seen (subst (λ (l : List Item). StartsWith l a.known.seen) (sym s.log_is) s.legal.begins)

    -- the receiver or an editor, in the first phase
    ended_by : (fault : SessionFault) → NamesAll past fault → result ≡ Err fault → IfErr result (NamesAll past)
    ended_by fault names is = subst (λ (r : Result ⊤ SessionFault). IfErr r (NamesAll past)) (sym is) names

    by_editors : (ends : Option SessionFault) → first_of s.editors ≡ ends → s.receiver ≡ None → SessionEnds s.middle b rounds until ends result → IfErr result (NamesAll past)
    by_editors None is none e = second_names s.middle b rounds until result begins e
    by_editors (Some f) is none e =
        ended_by f (editors_name b.known.seen a.known.start 1 scripts s.editors f s.edited is) e.0

    by_receiver : (receiver : Option SessionFault) → s.receiver ≡ receiver → FirstPhase a s.middle rounds receiver → SessionEnds s.middle b rounds until (first_of (receiver ∷ s.editors)) result
        → IfErr result (NamesAll past)
    by_receiver (Some f) is stopped e =
        let there = subst (λ (m : Stand). StartsWith m.known.seen (items_of past)) e.1 begins in
        ended_by f (cause_names a s.middle stopped.reached stopped.written stopped.answers stopped.words f there stopped.cause) e.0
    by_receiver None is did e = by_editors (first_of s.editors) refl is e

    session_names : IfErr result (NamesAll past)
    session_names = by_receiver s.receiver refl s.first s.ends

pub session_names_all : (past : Past) (a b : Stand) (rounds until next : ℕ) (scripts : List (List EditorLine)) → a.known.seen ≡ items_of past
    → IsSession a b rounds until scripts (Err (faults.Leaf (leaves.Exhausted next))) → next ≡ 2 ^ height_of past.opening.key.lms
session_names_all past a b rounds until next scripts seen s = session_names past a b rounds until scripts (Err (faults.Leaf (leaves.Exhausted next))) seen s
