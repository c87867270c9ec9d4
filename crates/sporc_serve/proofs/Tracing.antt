-- A session, one message or one piece of its stream after another.
use Rattle.std.proofs.Common.{◌≡◌, ℕ, ◌≤◌, Bool, false, List, [], ◌∷◌, ◌++◌, Option, Some, Ok, refl, ap, ap₂, sym, subst, ◌∙◌, append_assoc, append-nil, arith}
use Rattle.sporc_serve.proofs.Common.{Consumes, Consumes-nil, Consumes-trans, Appends-nil, map-append, Genesis, Known, StartsWith, ToServer, Unread, HandsOut, stream_of, fed, next, to_server_of}
use Rattle.sporc_serve.proofs.Common.{Answer, Item, Placed, order_at, added_of, placed_by, IsAnswered, LeavesUnanswered, Exchange, ServerStand, stand, messages_of, step_at}
use Rattle.sporc_serve.proofs.Common.{greeted_after, answers_of, entries_of, Grows, Did, ServerTrace, HandsOut-fed, HandsOut-next}

-- ---- lists that begin with others

pub starts_same : (log : List Item) → StartsWith log log
starts_same log = ([], sym (append-nil log))

pub starts_then : (a b c : List Item) → StartsWith b a → StartsWith c b → StartsWith c a
starts_then a b c first then =
    (first.0 ++ then.0, then.1 ∙ ap (λ (l : List Item). l ++ then.0) first.1 ∙ append_assoc a first.0 then.0)

-- ---- one exchange more

module _ (g : Genesis) where
  pub answers_more : (s : Bool) (xs : List Exchange) (x : Exchange)
      → answers_of g s (xs ++ x ∷ []) ≡ answers_of g s xs ++ (step_at g (greeted_after g s xs) x).answer ∷ []
  answers_more s [] x = refl
  answers_more s (y ∷ xs) x = ap (λ (l : List Answer). (step_at g s y).answer ∷ l) (answers_more (step_at g s y).is_greeted xs x)

  pub greeted_more : (s : Bool) (xs : List Exchange) (x : Exchange)
      → greeted_after g s (xs ++ x ∷ []) ≡ (step_at g (greeted_after g s xs) x).is_greeted
  greeted_more s [] x = refl
  greeted_more s (y ∷ xs) x = greeted_more (step_at g s y).is_greeted xs x

  pub entries_more : (s : Bool) (xs : List Exchange) (x : Exchange)
      → entries_of g s (xs ++ x ∷ []) ≡ entries_of g s xs ++ added_of (order_at g x.log) (greeted_after g s xs) x.message
  entries_more s [] x = append-nil (added_of (order_at g x.log) s x.message)
  entries_more s (y ∷ xs) x =
      ap (λ (l : List (List ℕ)). added_of (order_at g y.log) s y.message ++ l) (entries_more (step_at g s y).is_greeted xs x)
      ∙ sym (append_assoc (added_of (order_at g y.log) s y.message) (entries_of g (step_at g s y).is_greeted xs)
      (added_of (order_at g x.log) (greeted_after g (step_at g s y).is_greeted xs) x.message))

  pub grows_starts : (n : ℕ) (low : List Item) (s : Bool) (xs : List Exchange) (high : List Item) → Grows g n low s xs high → StartsWith high low
  grows_starts n low s [] high h = h
  grows_starts n low s (x ∷ xs) high h =
      let items = placed_by n (added_of (order_at g x.log) s x.message) in
      starts_then low x.log high h.0
      (starts_then x.log (x.log ++ items) high (items, refl) (grows_starts n (x.log ++ items) (step_at g s x).is_greeted xs high h.1))

  pub grows_later : (n : ℕ) (low : List Item) (s : Bool) (xs : List Exchange) (high higher : List Item) → Grows g n low s xs high
      → StartsWith higher high → Grows g n low s xs higher
  grows_later n low s [] high higher h more = starts_then low high higher h more
  grows_later n low s (x ∷ xs) high higher h more =
      (h.0, grows_later n (x.log ++ placed_by n (added_of (order_at g x.log) s x.message)) (step_at g s x).is_greeted xs high higher h.1 more)

  pub grows_more : (n : ℕ) (low : List Item) (s : Bool) (xs : List Exchange) (mid : List Item) (x : Exchange) → Grows g n low s xs mid
      → StartsWith x.log mid
      → Grows g n low s (xs ++ x ∷ []) (x.log ++ placed_by n (added_of (order_at g x.log) (greeted_after g s xs) x.message))
  grows_more n low s [] mid x h begins =
      (starts_then low mid x.log h begins, starts_same (x.log ++ placed_by n (added_of (order_at g x.log) s x.message)))
  grows_more n low s (y ∷ xs) mid x h begins =
      (h.0, grows_more n (y.log ++ placed_by n (added_of (order_at g y.log) s y.message)) (step_at g s y).is_greeted xs mid x h.1 begins)

  -- ---- a session goes on

  -- nothing was done yet
  pub trace_begins : (known : Known Item) (left written : Option (List ℕ)) (faults : ℕ)
      → ServerTrace g (stand known left written faults (stream_of []) false) (stand known left written faults (stream_of []) false) [] []
  trace_begins known left written faults = record {
    did = record {
      taken = Consumes-nil left;
      reads = refl;
      greeted = refl;
      number = refl;
      start = refl;
      mine = sym (append-nil known.mine);
      grows = starts_same known.seen;
      faults = omega arith;
    };
    none_closes = tt;
    sent = Appends-nil written;
  }

  -- so much was taken of the stream, of which this is unread
  pub trace_taken : (a b : ServerStand) (bytes all : List ℕ) (xs : List Exchange) (left : Option (List ℕ)) (faults : ℕ) (unread : Unread) → ServerTrace g a b bytes xs
      → Consumes a.left left all → HandsOut to_server_of (stream_of all) (messages_of xs) unread → b.faults ≤ faults
      → ServerTrace g a (record b { left = left; faults = faults; unread = unread }) all xs
  trace_taken a b bytes all xs left faults unread c taken reads more = record {
    did = record {
      taken = taken;
      reads = reads;
      greeted = c.did.greeted;
      number = c.did.number;
      start = c.did.start;
      mine = c.did.mine;
      grows = c.did.grows;
      faults = omega (arith, c.did.faults, more);
    };
    none_closes = c.none_closes;
    sent = c.sent;
  }

  -- a piece more of the stream
  pub trace_fed : (a b : ServerStand) (bytes piece : List ℕ) (xs : List Exchange) (left : Option (List ℕ)) (faults : ℕ) (unread : Unread)
      → ServerTrace g a b bytes xs → Consumes b.left left piece → b.faults ≤ faults → unread ≡ fed piece b.unread
      → ServerTrace g a (record b { left = left; faults = faults; unread = unread }) (bytes ++ piece) xs
  trace_fed a b bytes piece xs left faults unread c taken more is =
      trace_taken a b bytes (bytes ++ piece) xs left faults unread c (Consumes-trans a.left b.left left bytes piece c.did.taken taken)
      (subst (λ (u : Unread). HandsOut to_server_of (stream_of (bytes ++ piece)) (messages_of xs) u) (sym is)
      (HandsOut-fed to_server_of (stream_of bytes) piece (messages_of xs) b.unread c.did.reads)) more

  -- a message more, answered
  pub did_more : (a b : ServerStand) (bytes : List ℕ) (xs : List Exchange) (m : ToServer) (known : Known Item) (unread : Unread) (greeted : Bool)
      (answer : Answer) (found : List Item) → ServerTrace g a b bytes xs → (next to_server_of b.unread).answer ≡ Ok (Some m)
      → unread ≡ (next to_server_of b.unread).after → IsAnswered g b.known known b.greeted greeted m answer found
      → (written : Option (List ℕ)) (faults : ℕ) → b.faults ≤ faults
      → Did g a (record b { known = known; written = written; faults = faults; unread = unread; greeted = greeted }) bytes
      (xs ++ record { message = m; log = found } ∷ [])
  did_more a b bytes xs m known unread greeted answer found c here after h written faults more =
      let x : Exchange = record { message = m; log = found } in
      let n = a.known.number in
      let items = placed_by b.known.number (added_of (order_at g found) b.greeted m) in
      let was = c.did.greeted in
      let same : items ≡ placed_by n (added_of (order_at g found) (greeted_after g false xs) m) =
      ap₂ (λ (k : ℕ) (s : Bool). placed_by k (added_of (order_at g found) s m)) c.did.number was in
      let grown = grows_more n a.known.seen false xs b.known.seen x c.did.grows h.adds.begins in
      record {
        taken = c.did.taken;
        reads = subst (λ (ms : List ToServer). HandsOut to_server_of (stream_of bytes) ms unread) (sym (map-append (λ (y : Exchange). y.message) xs (x ∷ [])))
            (subst (λ (u : Unread). HandsOut to_server_of (stream_of bytes) (messages_of xs ++ m ∷ []) u) (sym after)
            (HandsOut-next to_server_of (stream_of bytes) (messages_of xs) b.unread m c.did.reads here));
        greeted = h.greeted_is ∙ ap (λ (s : Bool). (step_at g s x).is_greeted) was ∙ sym (greeted_more false xs x);
        number = h.adds.number ∙ c.did.number;
        start = h.adds.start ∙ c.did.start;
        mine = h.adds.mine ∙ ap₂ (λ (p q : List Item). p ++ q) c.did.mine same
            ∙ append_assoc a.known.mine (placed_by n (entries_of g false xs)) (placed_by n (added_of (order_at g found) (greeted_after g false xs) m))
            ∙ ap (λ (l : List Item). a.known.mine ++ l) (sym (map-append (λ (e : List ℕ). Placed n e) (entries_of g false xs) (added_of (order_at g found) (greeted_after g false xs) m))
            ∙ ap (placed_by n) (sym (entries_more false xs x)));
        grows = subst (λ (l : List Item). Grows g n a.known.seen false (xs ++ x ∷ []) l)
            (sym (h.adds.seen ∙ ap (λ (l : List Item). found ++ l) same)) grown;
        faults = omega (arith, c.did.faults, more);
      }

  -- and its answer
  pub answer_more : (b : ServerStand) (xs : List Exchange) (m : ToServer) (known : Known Item) (greeted : Bool) (answer : Answer) (found : List Item)
      → b.greeted ≡ greeted_after g false xs → IsAnswered g b.known known b.greeted greeted m answer found
      → answers_of g false (xs ++ record { message = m; log = found } ∷ []) ≡ answers_of g false xs ++ answer ∷ []
  answer_more b xs m known greeted answer found was h =
      let x : Exchange = record { message = m; log = found } in
      answers_more false xs x ∙ ap (λ (a : Answer). answers_of g false xs ++ a ∷ []) (sym (h.answer_is ∙ ap (λ (s : Bool). (step_at g s x).answer) was))

  -- a turn without an answer changes nothing of it
  pub trace_unanswered : (a b : ServerStand) (bytes : List ℕ) (xs : List Exchange) (known : Known Item) (s : Bool) (found : List Item)
      → ServerTrace g a b bytes xs → LeavesUnanswered b.known known b.greeted s found → ServerTrace g a (record b { known = known }) bytes xs
  trace_unanswered a b bytes xs known s found c h = record {
    did = record {
      taken = c.did.taken;
      reads = c.did.reads;
      greeted = c.did.greeted;
      number = h.adds.number ∙ c.did.number;
      start = h.adds.start ∙ c.did.start;
      mine = h.adds.mine ∙ append-nil b.known.mine ∙ c.did.mine;
      grows = grows_later a.known.number a.known.seen false xs b.known.seen known.seen c.did.grows
          (starts_then b.known.seen found known.seen h.adds.begins ([], h.adds.seen));
      faults = c.did.faults;
    };
    none_closes = c.none_closes;
    sent = c.sent;
  }
