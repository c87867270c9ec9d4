-- A session goes on, or ends.
use Rattle.std.proofs.Common.{◌≡◌, ◌≢◌, ℕ, ◌≤◌, Bool, false, List, [], ◌∷◌, ◌++◌, length, take, Option, Some, None, Result, Ok, Err, refl, ap, sym, subst, ◌∙◌, append-nil, IfNone, IfSome, inl, inr}
use Rattle.sporc_serve.proofs.Common.{Consumes, Appends, Consumes-trans, Appends-trans, Genesis, Known, FrameFault, ToServer, Unread, fed, next_unless, next_frame, next_read, to_server_of, Answer}
use Rattle.sporc_serve.proofs.Common.{Close, SessionEnd, Closed, LinkEnded, LinkFault, BadFrame, Worn, Memory, Unkept, Item, bytes_of, sent_of, IsAnswered, TakesTurn, IsSendEnd, Inlet, inlet}
use Rattle.sporc_serve.proofs.Common.{IsNextEnd, IsNext, Exchange, ServerStand, answers_of, NoneCloses, Did, ServerTrace, Broken, IsEnd, GoesOn, FirstFrame, partial, too_long, whole, first_frame}
use Rattle.sporc_outside.proofs.Growing.{rose_then}
use Rattle.sporc_wire.specs.Messages.{next}
use Rattle.sporc_serve.proofs.Tracing.{did_more, answer_more, trace_taken, trace_fed, trace_unanswered}
use Rattle.std.proofs.SliceLists.{all_by_recursion_push}
use Rattle.std.proofs.lemmas.Grind.{flat_map-append}

-- a stream that waits for more stays as it is
pub next_waits : {M : Type 0} (read : List ℕ → Result M ℕ) (s : Unread) → (next read s).answer ≡ Ok None → (next read s).after ≡ s
unfolding next
next_waits {M = M} read s waits = by_fault s.fault waits
  where
    by_read : (len : ℕ) (rest : List ℕ) (r : Result M ℕ) → (next_read s len rest r).answer ≡ Ok None → (next_read s len rest r).after ≡ s
    by_read len rest (Ok m) h = absurd cc
    by_read len rest (Err place) h = absurd cc

    by_front : (f : FirstFrame) → (next_frame read s f).answer ≡ Ok None → (next_frame read s f).after ≡ s
    by_front partial h = refl
    by_front (too_long len) h = absurd cc
    by_front (whole body rest) h = by_read (length body) rest (read body) h

    by_fault : (f : Option FrameFault) → (next_unless read s f).answer ≡ Ok None → (next_unless read s f).after ≡ s
    by_fault (Some fault) h = absurd cc
    by_fault None h = by_front (first_frame s.rest) h

-- a link that was given nothing
written_as : (g : Genesis) (a b : ServerStand) (bytes : List ℕ) (xs : List Exchange) (written : Option (List ℕ)) → written ≡ b.written
    → ServerTrace g a b bytes xs → ServerTrace g a (record b { written = written }) bytes xs
written_as g a b bytes xs written same c = subst (λ (w : Option (List ℕ)). ServerTrace g a (record b { written = w }) bytes xs) (sym same) c

module _ (g : Genesis) (a b : ServerStand) (bytes : List ℕ) (xs : List Exchange) (c : ServerTrace g a b bytes xs) where
  -- nothing was taken
  trace_kept : (left : Option (List ℕ)) (faults : ℕ) → Consumes b.left left [] → b.faults ≤ faults
      → ServerTrace g a (record b { left = left; faults = faults }) bytes xs
  trace_kept left faults taken more =
      trace_taken g a b bytes bytes xs left faults b.unread c
      (subst (λ (t : List ℕ). Consumes a.left left t) (append-nil bytes) (Consumes-trans a.left b.left left bytes [] c.did.taken taken)) c.did.reads more

  pub kept : (left : Option (List ℕ)) (faults : ℕ) (written : Option (List ℕ)) → Consumes b.left left [] → b.faults ≤ faults → written ≡ b.written
      → ServerTrace g a (record b { left = left; written = written; faults = faults }) bytes xs
  kept left faults written taken more same =
      written_as g a (record b { left = left; faults = faults }) bytes xs written same (trace_kept left faults taken more)

  -- a piece more was taken
  pub goes_fed : (d : Inlet) (written : Option (List ℕ)) → IsNext (inlet b.left b.faults b.unread) d (Ok None) → written ≡ b.written → b.faults ≤ d.faults
      → GoesOn g a (record b { left = d.left; written = written; faults = d.faults; unread = d.unread }) None
  goes_fed d written h same more =
      let went = trace_fed g a b bytes h.0 xs d.left d.faults d.unread c h.1.taken more h.1.unread in
      (bytes ++ h.0, xs, written_as g a (record b { left = d.left; faults = d.faults; unread = d.unread }) (bytes ++ h.0) xs written same went)

  -- no message is to follow
  pub goes_no_further : (d : Inlet) (written : Option (List ℕ)) (end : SessionEnd) → IsNextEnd (inlet b.left b.faults b.unread) d end → written ≡ b.written
      → b.faults ≤ d.faults → IsEnd g a (record b { left = d.left; written = written; faults = d.faults; unread = d.unread }) end
  goes_no_further d written LinkEnded h same more =
      (b.unread, b.greeted, (bytes, xs, record { trace = kept d.left d.faults written h.0 more same; none_left = h.2 }, h.1))
  goes_no_further d written LinkFault h same more = (
    b.unread,
    b.greeted,
    (
      bytes,
      xs,
      inl (record { trace = kept d.left d.faults written h.0 more same; none_left = h.2 }),
      rose_then a.faults b.faults d.faults c.did.faults h.1,
    ),
  )
  goes_no_further d written BadFrame h same more =
      (b.unread, b.greeted, (bytes, xs, h.1, kept d.left d.faults written h.0 more same, h.2))
  goes_no_further d written Memory h same more =
      let unread = fed h.0 b.unread in (
        unread,
        b.greeted,
        (
          bytes ++ h.0,
          xs,
          inl (written_as g a (record b { left = d.left; faults = d.faults; unread = unread }) (bytes ++ h.0) xs written same
              (trace_fed g a b bytes h.0 xs d.left d.faults unread c h.1 more refl)),
        ),
      )
  goes_no_further d written end h same more = absurd h

  -- a turn without an answer
  pub goes_unanswered : (m : ToServer) (known : Known Item) (s : Bool) (end : SessionEnd) (unread : Unread)
      → TakesTurn g b.known known b.greeted s m (Err end) → IsEnd g a (record b { known = known; unread = unread; greeted = s }) end
  goes_unanswered m known s (Worn ticket) unread h =
      (b.unread, b.greeted, (bytes, xs, trace_unanswered g a b bytes xs known s h.0 c h.1, h.2))
  goes_unanswered m known s Memory unread h =
      (b.unread, b.greeted, (bytes, xs, inl (trace_unanswered g a b bytes xs known s h.0 c h.1)))
  goes_unanswered m known s Unkept unread h =
      (b.unread, b.greeted, (bytes, xs, trace_unanswered g a b bytes xs known s h.0 c h.1))
  goes_unanswered m known s end unread h = absurd h.2

  module _ (m : ToServer) (known : Known Item) (greeted : Bool) (answer : Answer) (found : List Item)
      (here : (next to_server_of b.unread).answer ≡ Ok (Some m)) (h : IsAnswered g b.known known b.greeted greeted m answer found)
      (written : Option (List ℕ)) (faults : ℕ) (more : b.faults ≤ faults) where
    abbrev x : Exchange
    x = record { message = m; log = found }

    abbrev b' : ServerStand
    b' = record b { known = known; written = written; faults = faults; unread = (next to_server_of b.unread).after; greeted = greeted }

    did : Did g a b' bytes (xs ++ x ∷ [])
    did = did_more g a b bytes xs m known (next to_server_of b.unread).after greeted answer found c here refl h written faults more

    answers : answers_of g false (xs ++ x ∷ []) ≡ answers_of g false xs ++ answer ∷ []
    answers = answer_more g b xs m known greeted answer found c.did.greeted h

    -- the answer was sent
    answered : answer ≢ Close → Appends b.written written (bytes_of answer) → ServerTrace g a b' bytes (xs ++ x ∷ [])
    answered no_close sent = record {
      did = did;
      none_closes = subst NoneCloses (sym answers) (all_by_recursion_push (λ (x : Answer). x ≢ Close) (answers_of g false xs) answer c.none_closes no_close);
      sent = subst (λ (t : List ℕ). Appends a.written written t)
          (ap (λ (t : List ℕ). sent_of (answers_of g false xs) ++ t) (sym (append-nil (bytes_of answer)))
          ∙ sym (flat_map-append bytes_of (answers_of g false xs) (answer ∷ [])) ∙ ap sent_of (sym answers))
          (Appends-trans a.written b.written written (sent_of (answers_of g false xs)) (bytes_of answer) c.sent sent);
    }

    pub goes_answered : answer ≢ Close → Appends b.written written (bytes_of answer) → GoesOn g a b' None
    goes_answered no_close sent = (bytes, xs ++ x ∷ [], answered no_close sent)

    -- so many bytes of it were
    cut : (n : ℕ) → Appends b.written written (take n (bytes_of answer)) → Broken g a b' bytes (xs ++ x ∷ []) (answers_of g false xs) answer n
    cut n sent = record {
      did = did;
      answers = answers;
      none_closes = c.none_closes;
      sent = Appends-trans a.written b.written written (sent_of (answers_of g false xs)) (take n (bytes_of answer)) c.sent sent;
    }

    -- it is the last one
    pub goes_cut : (end : SessionEnd) → IsSendEnd answer b.written written b.faults faults end → IsEnd g a b' end
    goes_cut Closed e = (
      (next to_server_of b.unread).after,
      greeted,
      (
        bytes,
        xs ++ x ∷ [],
        answers_of g false xs,
        subst (λ (z : Answer). Broken g a b' bytes (xs ++ x ∷ []) (answers_of g false xs) z 0) e.0 (cut 0 e.1),
      ),
    )
    goes_cut LinkFault e = (
      (next to_server_of b.unread).after,
      greeted,
      (
        bytes,
        xs ++ x ∷ [],
        inr (answers_of g false xs, answer, e.0.0, cut e.0.0 e.0.2, e.0.1),
        rose_then a.faults b.faults faults c.did.faults e.1,
      ),
    )
    goes_cut Memory e = (
      (next to_server_of b.unread).after,
      greeted,
      (bytes, xs ++ x ∷ [], inr (answers_of g false xs, answer, 0, cut 0 e.0, e.1)),
    )
    goes_cut end e = absurd e

    -- whatever became of the answer
    pub sent_goes : (left : Option (List ℕ)) (e : Option SessionEnd) → left ≡ b.left → IfNone e (Appends b.written written (bytes_of answer))
        → IfSome e (IsSendEnd answer b.written written b.faults faults) → (answer ≡ Close → e ≡ Some Closed) → GoesOn g a (record b' { left = left }) e
    sent_goes left None same none some close =
        subst (λ (l : Option (List ℕ)). GoesOn g a (record b' { left = l }) None) (sym same) (goes_answered (λ is. let clash = close is in absurd cc) none)
    sent_goes left (Some end) same none some close =
        subst (λ (l : Option (List ℕ)). GoesOn g a (record b' { left = l }) (Some end)) (sym same) (goes_cut end some)
