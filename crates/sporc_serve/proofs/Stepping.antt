-- A step of a session: a message that is answered, or a piece more of its stream.
use Rattle.std.proofs.Common.{◌≡◌, ◌≢◌, ◌∙◌, ℕ, ◌≤◌, Bool, false, List, [], Option, Some, None, Result, Ok, Err, IfOk, IfErr, IfNone, IfSome, MatchOption, IsOkUnless, refl, sym, subst}
use Rattle.sporc_serve.proofs.Common.{Consumes, Appends, Consumes-nil, Shuts, StreamTold, Genesis, Known, FrameFault, ToServer, Unread, stream_of, next_unless, to_server_of, Answer, Reply, Says}
use Rattle.sporc_serve.proofs.Common.{IsFramed, SessionEnd, Closed, Worn, Memory, Unkept, Item, IsLogOf, OfDocument, bytes_of, CanBeSent, HasReadLast, TakesTurn, end_of, IsSendEnd, Inlet, inlet}
use Rattle.sporc_serve.proofs.Common.{TakesMessage, IsNextEnd, IsNext, ServerStand, stand, stand_at, GoesOn, Carries, Leads, visit, IsServedSession, Unanswered}
use Rattle.sporc_base.specs.Outcome.{GivesUnless}
use Rattle.sporc_wire.specs.declared.fault.FrameFault.TheVariants as faults
use Rattle.sporc_wire.specs.Messages.{next}
use Rattle.sporc_order.specs.declared.session.Answer.TheVariants as answers
use Rattle.sporc_order.specs.declared.reply.Reply.TheVariants.{Close}
use Rattle.sporc_serve.proofs.Turning.{starts_log}
use Rattle.sporc_serve.proofs.Tracing.{grows_starts, trace_begins}
use Rattle.sporc_serve.proofs.Framed.{next_framed}
use Rattle.sporc_serve.proofs.Going.{next_waits, kept, goes_fed, goes_no_further, goes_unanswered, sent_goes}

-- ---- one turn

-- what a turn answers can be sent
pub turn_sendable : (r : Result Reply Unanswered) (result : Result Reply SessionEnd) → IfOk r CanBeSent → IfOk r (λ a. result ≡ Ok a)
    → IfErr r (λ why. result ≡ Err (end_of why)) → IfOk result CanBeSent
turn_sendable (Ok a) result sendable ok err = subst (λ (x : Result Reply SessionEnd). IfOk x CanBeSent) (sym ok) sendable
turn_sendable (Err e) result sendable ok err = subst (λ (x : Result Reply SessionEnd). IfOk x CanBeSent) (sym err) tt

-- ---- ends that no ticket's want is

-- no message is to follow
next_unworn : (a b : Inlet) (end : SessionEnd) (read : ℕ) → IsNextEnd a b end → HasReadLast read end
next_unworn a b (Worn ticket) read h = absurd h
next_unworn a b Unkept read h = absurd h
next_unworn a b end read h = tt

pub found_unworn : (a b : Inlet) (r : Result (Option ToServer) SessionEnd) (end : SessionEnd) (read : ℕ) → r ≡ Err end → IsNext a b r → HasReadLast read end
found_unworn a b r end read is found = next_unworn a b end read (subst (λ (x : Result (Option ToServer) SessionEnd). IsNext a b x) is found)

-- ---- an answer

-- what says a close is one
says_close : (reply : Reply) → Says answers.Close reply → reply ≡ Close
says_close Close says = refl
says_close reply says = absurd says

module _ (known known' : Known Item) (left left' written written' : Option (List ℕ)) (faults faults' : ℕ) (unread : Unread) (s s' : Bool) (m : ToServer)
    (r : Result Reply SessionEnd) (turn : OfDocument known.seen (λ g. TakesTurn g known known' s s' m r))
    (here : (next to_server_of unread).answer ≡ Ok (Some m)) where
  -- the turn answered, whatever became of the answer
  pub answer_goes : (reply : Reply) (e : Option SessionEnd) → r ≡ Ok reply → left' ≡ left → faults ≤ faults'
      → ((answer : Answer) → Says answer reply → IfNone e (Appends written written' (bytes_of answer)))
      → ((answer : Answer) → Says answer reply → IfSome e (IsSendEnd answer written written' faults faults')) → (reply ≡ Close → e ≡ Some Closed)
      → Carries (stand known left written faults unread s) (stand known' left' written' faults' (next to_server_of unread).after s') e
  answer_goes reply e is same more none some close g a bytes xs log c =
      let t = subst (λ (x : Result Reply SessionEnd). TakesTurn g known known' s s' m x) is (turn g log) in
      sent_goes g a (stand known left written faults unread s) bytes xs c m known' s' t.0 t.1 here t.2 written' faults' more left' e same
      (none t.0 t.3) (some t.0 t.3)
      (λ is_close. close (says_close reply (subst (λ (z : Answer). Says z reply) is_close t.3)))

  -- the turn did not answer
  pub answer_ends : (end : SessionEnd) → r ≡ Err end
      → Carries (stand known left written faults unread s) (stand known' left written faults (next to_server_of unread).after s') (Some end)
  answer_ends end is g a bytes xs log c =
      goes_unanswered g a (stand known left written faults unread s) bytes xs c m known' s' end (next to_server_of unread).after
      (subst (λ (x : Result Reply SessionEnd). TakesTurn g known known' s s' m x) is (turn g log))

-- ---- the next message

-- a stream that waits for more has no fault, so that only memory is wanting for a piece more
pub fed_unless : (s : Unread) (r : Result (Unit {0}) FrameFault) → (next to_server_of s).answer ≡ Ok None
    → MatchOption s.fault (IsOkUnless r faults.Memory) (λ fault. r ≡ Err fault) → IsOkUnless r faults.Memory
unfolding next
fed_unless s r waits is = by s.fault waits is
  where
    by : (f : Option FrameFault) → (next_unless to_server_of s f).answer ≡ Ok None → MatchOption f (IsOkUnless r faults.Memory) (λ fault. r ≡ Err fault) → IsOkUnless r faults.Memory
    by None waits is = is
    by (Some fault) waits is = absurd cc

-- no whole frame was left, and the stream stays
pub next_none : (s s' : Unread) (r : Result (Option ToServer) FrameFault) → r ≡ Ok None → GivesUnless faults.Memory (λ found. found) r (next to_server_of s).answer
    → (r ≢ Err faults.Memory → s' ≡ (next to_server_of s).after) → ((next to_server_of s).answer ≡ Ok None) × (s' ≡ s)
next_none s s' (Ok None) is gives after =
    (gives, after (λ e. absurd cc) ∙ next_waits to_server_of s gives)
next_none s s' r is gives after = absurd cc

-- a message that was found fits an order's frame
pub found_framed : (a b : Inlet) (r : Result (Option ToServer) SessionEnd) (m : ToServer) → r ≡ Ok (Some m) → IsNext a b r → IsFramed m
found_framed a b r m is found =
    let t : TakesMessage a b m = subst (λ (x : Result (Option ToServer) SessionEnd). IsNext a b x) is found in
    next_framed a.unread m t.answer

-- ---- a step

module _ (known : Known Item) (left left' written written' : Option (List ℕ)) (faults faults' : ℕ) (unread unread' : Unread) (s : Bool)
    (r : Result (Option ToServer) SessionEnd) (found : IsNext (inlet left faults unread) (inlet left' faults' unread') r) (same : written' ≡ written)
    (more : faults ≤ faults') where
  -- no message is to follow
  pub step_ends : (end : SessionEnd) → r ≡ Err end
      → Carries (stand known left written faults unread s) (stand known left' written' faults' unread' s) (Some end)
  step_ends end is g a bytes xs log c =
      goes_no_further g a (stand known left written faults unread s) bytes xs c (inlet left' faults' unread') written' end
      (subst (λ (x : Result (Option ToServer) SessionEnd). IsNext (inlet left faults unread) (inlet left' faults' unread') x) is found) same more

  -- a piece more of the stream was taken
  pub step_waits : r ≡ Ok None → Carries (stand known left written faults unread s) (stand known left' written' faults' unread' s) None
  step_waits is g a bytes xs log c =
      goes_fed g a (stand known left written faults unread s) bytes xs c (inlet left' faults' unread') written'
      (subst (λ (x : Result (Option ToServer) SessionEnd). IsNext (inlet left faults unread) (inlet left' faults' unread') x) is found) same more

  -- a message was taken and answered
  pub step_answers : (m : ToServer) (known' : Known Item) (left'' written'' : Option (List ℕ)) (faults'' : ℕ) (s' : Bool) (e : Option SessionEnd) → r ≡ Ok (Some m)
      → ((u : Unread) → (next to_server_of u).answer ≡ Ok (Some m)
      → Carries (stand known left' written' faults' u s) (stand known' left'' written'' faults'' (next to_server_of u).after s') e)
      → Carries (stand known left written faults unread s) (stand known' left'' written'' faults'' unread' s') e
  step_answers m known' left'' written'' faults'' s' e is carries g a bytes xs log c =
      let t : TakesMessage (inlet left faults unread) (inlet left' faults' unread') m =
      subst (λ (x : Result (Option ToServer) SessionEnd). IsNext (inlet left faults unread) (inlet left' faults' unread') x) is found in
      subst (λ (u : Unread). GoesOn g a (stand known' left'' written'' faults'' u s') e) (sym t.unread)
      (carries unread t.answer g a bytes xs log
      (kept g a (stand known left written faults unread s) bytes xs c left' faults' written'
      (subst (λ (l : Option (List ℕ)). Consumes left l []) (sym t.left) (Consumes-nil left)) more same))

-- ---- a session

-- no step yet
pub begun : (g : Genesis) (known : Known Item) (left written : Option (List ℕ)) (faults : ℕ) (unread : Unread) (s : Bool) → unread ≡ stream_of [] → s ≡ false
    → GoesOn g (stand known left written faults (stream_of []) false) (stand known left written faults unread s) None
begun g known left written faults unread s empty fresh =
    subst (λ (u : Unread). GoesOn g (stand known left written faults (stream_of []) false) (stand known left written faults u s) None) (sym empty)
    (subst (λ (b : Bool). GoesOn g (stand known left written faults (stream_of []) false) (stand known left written faults (stream_of []) b) None) (sym fresh)
    ([], [], trace_begins g known left written faults))

-- after some steps one step more
pub carried : (g : Genesis) (a b b' : ServerStand) (e : Option SessionEnd) → IsLogOf g a.known.seen → GoesOn g a b None → Carries b b' e → GoesOn g a b' e
carried g a b b' e log went carries =
    carries g a went.0 went.1 (starts_log g b.known.seen a.known.seen
    (grows_starts g a.known.number a.known.seen false went.1 b.known.seen went.2.did.grows) log) went.2

-- no step more, and one step more after some
pub leads_same : (b : ServerStand) → Leads b b None
leads_same b g a bytes xs log c = (bytes, xs, c)

pub leads_then : (b b' b'' : ServerStand) (e : Option SessionEnd) → Leads b b' None → Carries b' b'' e → Leads b b'' e
leads_then b b' b'' e first then g a bytes xs log c = carried g a b' b'' e log (first g a bytes xs log c) then

-- the first message was answered, of a client that was not greeted
pub first_leads : (known known' : Known Item) (left left' written written' : Option (List ℕ)) (faults faults' : ℕ) (unread unread' : Unread) (s s' : Bool) (e e' : Option SessionEnd)
    → s ≡ false → e ≡ e' → Carries (stand known left written faults unread s) (stand known' left' written' faults' unread' s') e
    → Leads (stand known left written faults unread false) (stand known' left' written' faults' unread' s') e'
first_leads known known' left left' written written' faults faults' unread unread' s s' e e' fresh is carries =
    leads_then (stand known left written faults unread false) (stand known left written faults unread false) (stand known' left' written' faults' unread' s') e'
    (leads_same (stand known left written faults unread false))
    (subst (λ (x : Option SessionEnd). Carries (stand known left written faults unread false) (stand known' left' written' faults' unread' s') x) is
    (subst (λ (x : Bool). Carries (stand known left written faults unread x) (stand known' left' written' faults' unread' s') e) fresh carries))

-- a session from its beginning
pub begins_leads : (g : Genesis) (known known' : Known Item) (left left' written written' : Option (List ℕ)) (faults faults' : ℕ) (unread unread' : Unread) (s s' : Bool) (e : Option SessionEnd)
    → IsLogOf g known.seen → unread ≡ stream_of [] → s ≡ false
    → Leads (stand known left written faults unread s) (stand known' left' written' faults' unread' s') e
    → GoesOn g (stand known left written faults (stream_of []) false) (stand known' left' written' faults' unread' s') e
begins_leads g known known' left left' written written' faults faults' unread unread' s s' e log empty fresh leads =
    let went = begun g known left written faults unread s empty fresh in
    leads g (stand known left written faults (stream_of []) false) went.0 went.1 log went.2

-- a link was shut as its session ended
pub session_ended : (g : Genesis) (first last : Known Item) (before mid after : StreamTold) (unread : Unread) (s : Bool) (end : SessionEnd)
    → GoesOn g (stand_at first before (stream_of []) false) (stand_at last mid unread s) (Some end)
    → mid.is_shut ≡ before.is_shut → Shuts (record { before = mid; after = after }) → IsServedSession g first last (visit before after end)
session_ended g first last before mid after unread s end h same shuts = (mid, record { ends = h; as_shut = same; shuts = shuts })
