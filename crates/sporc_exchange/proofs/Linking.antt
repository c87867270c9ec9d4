-- Calls on the link, as exchanges.
use Rattle.std.proofs.Common.{◌≡◌, ◌≢◌, ℕ, ◌+◌, ◌≤◌, Bool, List, [], ◌∷◌, ◌++◌, length, take, Option, None, Result, Ok, Err, refl, sym, ap, ◌∙◌, subst, append_assoc, arith}
use Rattle.sporc_exchange.proofs.Common.{le-ltb, append-nil, length-append, Appends, Consumes, Rose, IfErr, IfOk, if◌then◌else◌, Refusal, MAX_BODY, ToClient, ToServer, Unread, counted_to_end, framed}
use Rattle.sporc_exchange.proofs.Common.{frame, ExchangeFault, ServerReply, Ordered, Rejected, reply_message, AskEnds, AskFails, Asks, IsReply, IsOutcomeOf, IsSilent, ReceiveEnds, SilentFor, SubmitEnds}
use Rattle.sporc_exchange.proofs.Common.{Took, Unsent, silent, wrong, IsAnswer, Exchanged, InboxModel, IsLastFrom, LinkStand, more_taken, spelled, unread_of}
use Rattle.sporc_outside.proofs.Growing.{rose_then}
use Rattle.sporc_outside.specs.Writing.{AppendsPrefix}
use Rattle.sporc_wire.specs.declared.fault.FrameFault.TheVariants.{TooLong}
use Rattle.sporc_wire.specs.declared.to_client.ToClient.TheVariants as to_client
use Rattle.sporc_wire.specs.declared.to_server.ToServer.TheVariants as to_server
use Rattle.sporc_wire.specs.ToServer.{to_server_bytes}
use Rattle.sporc_exchange.specs.declared.fault.ExchangeFault.TheVariants as faults
use Rattle.sporc_exchange.proofs.Exchanging.{appends_none, consumes_none, exchanged_none, exchanged_then, received_nothing}

-- ---- one call

same_appends : (u v : Option (List ℕ)) → v ≡ u → Appends u v []
same_appends u v same = subst (λ (w : Option (List ℕ)). Appends u w []) (sym same) (appends_none u)

same_consumes : (u v : Option (List ℕ)) → v ≡ u → Consumes u v []
same_consumes u v same = subst (λ (w : Option (List ℕ)). Consumes u w []) (sym same) (consumes_none u)

-- bytes were written
pub wrote : (a b : LinkStand) (bytes : List ℕ) → Appends a.written b.written bytes → b.left ≡ a.left → b.inbox ≡ a.inbox → a.faults ≤ b.faults → Exchanged a b bytes []
wrote a b bytes appends left inbox count = record {
  sent = appends;
  received = received_nothing a b (same_consumes a.left b.left left) inbox;
  count = count;
}

-- a message's frame was written, or a prefix of it
module _ (a b : LinkStand) (message : ToServer) (bytes : List ℕ) (short : length (to_server_bytes message) ≤ MAX_BODY) (framed_is : framed (to_server_bytes message) ≡ Ok bytes) (left : b.left ≡ a.left) (inbox : b.inbox ≡ a.inbox) where
  is_frame : bytes ≡ spelled (message ∷ [])
  is_frame =
      let body = to_server_bytes message in
      let whole : Ok (frame body) ≡ framed body = ap (λ (long : Bool). if long then Err (TooLong (counted_to_end (length body))) else Ok (frame body)) (sym (le-ltb MAX_BODY (length body) short)) in
      let same : frame body ≡ bytes = cc (whole, framed_is) in
      sym same ∙ sym (append-nil (frame body))

  pub sent_whole : Appends a.written b.written bytes → a.faults ≤ b.faults → Exchanged a b (spelled (message ∷ [])) []
  sent_whole appends count = wrote a b (spelled (message ∷ [])) (subst (Appends a.written b.written) is_frame appends) left inbox count

  pub sent_less : AppendsPrefix a.written b.written bytes → a.faults ≤ b.faults → Rose a.faults b.faults → Unsent a b message faults.LinkFault
  sent_less appends count rose = record {
    n = appends.0;
    did = wrote a b (take appends.0 (spelled (message ∷ []))) (subst (λ (bs : List ℕ). Appends a.written b.written (take appends.0 bs)) is_frame appends.2) left inbox count;
    cause = rose;
  }

-- memory ran out before
pub sent_nothing : (a : LinkStand) (message : ToServer) → Unsent a a message faults.Memory
sent_nothing a message = record { n = 0; did = exchanged_none a; cause = tt }

-- a piece was taken
pub took_piece : (a b : LinkStand) (piece : List ℕ) → Took a b piece → Exchanged a b [] []
took_piece a b piece t = record {
  sent = same_appends a.written b.written t.written;
  received = record {
    came = piece;
    consumed = t.consumed;
    reads = ap (λ (r : List ℕ). record { at = a.inbox.at; rest = r; fault = None }) (append_assoc a.inbox.rest a.inbox.held piece) ∙ ap unread_of (sym t.inbox);
    counted = λ low. ap (λ (i : InboxModel). i.taken) t.inbox;
  };
  count = t.count;
}

-- ---- the next message

-- no whole message is there
pub waited : (a b c : LinkStand) → Exchanged a b [] [] → c.written ≡ b.written → c.left ≡ b.left → c.faults ≡ b.faults → unread_of c.inbox ≡ unread_of b.inbox → c.inbox.taken ≡ b.inbox.taken → Exchanged a c [] []
waited a b c did written left count same taken = record {
  sent = subst (λ (w : Option (List ℕ)). Appends a.written w []) (sym written) did.sent;
  received = record {
    came = did.received.came;
    consumed = subst (λ (l : Option (List ℕ)). Consumes a.left l did.received.came) (sym left) did.received.consumed;
    reads = did.received.reads ∙ sym same;
    counted = λ low. taken ∙ did.received.counted low;
  };
  count = omega (arith, did.count, count);
}

-- a piece more is taken
pub one_more : (a b c : LinkStand) (piece : List ℕ) → Exchanged a b [] [] → Took b c piece → Exchanged a c [] []
one_more a b c piece did took = exchanged_then a b c [] [] [] [] did (took_piece b c piece took)

pub more_at : (i j k : InboxModel) (piece : List ℕ) → unread_of j ≡ unread_of i → k ≡ more_taken piece j → k.at ≡ i.at
more_at i j k piece same is = ap (λ (m : InboxModel). m.at) is ∙ ap (λ (s : Unread). s.at) same

pub more_rest : (i j k : InboxModel) (piece : List ℕ) → unread_of j ≡ unread_of i → k ≡ more_taken piece j → length (k.rest ++ k.held) ≡ length (i.rest ++ i.held) + length piece
more_rest i j k piece same is =
    ap (λ (m : InboxModel). length (m.rest ++ m.held)) is ∙ ap length (sym (append_assoc j.rest j.held piece)) ∙ length-append (j.rest ++ j.held) piece ∙ ap (λ (s : Unread). length s.rest + length piece) same

-- ---- exchanges in a row

silent_from : (a b c : LinkStand) (fault : ExchangeFault) → a.faults ≤ b.faults → SilentFor b c fault → SilentFor a c fault
silent_from a b c faults.LinkFault low cause = rose_then a.faults b.faults c.faults low cause
silent_from a b c (faults.LinkEnded taken) low cause = cause
silent_from a b c (faults.BadMessage place) low cause = cause
silent_from a b c faults.Memory low cause = tt

exchanged_silent : (a b c : LinkStand) (w : List ℕ) → Exchanged a b w [] → Exchanged b c [] [] → Exchanged a c w []
exchanged_silent a b c w f g = subst (λ (v : List ℕ). Exchanged a c v []) (append-nil w) (exchanged_then a b c w [] [] [] f g)

-- still no message came
pub silent_then : (a b c : LinkStand) (fault : ExchangeFault) → Exchanged a b [] [] → IsSilent b c fault → IsSilent a c fault
silent_then a b c fault did s = record { did = exchanged_silent a b c [] did s.did; cause = silent_from a b c fault did.count s.cause }

asked : (a b c : LinkStand) (message : ToServer) (answer : ToClient) → b.inbox ≡ a.inbox → Exchanged a b (spelled (message ∷ [])) [] → Exchanged b c [] (answer ∷ []) → IsLastFrom b.inbox.at answer c.inbox → Asks a c message answer
asked a b c message answer inbox sent came starts = record {
  did = subst (λ (v : List ℕ). Exchanged a c v (answer ∷ [])) (append-nil (spelled (message ∷ []))) (exchanged_then a b c (spelled (message ∷ [])) [] [] (answer ∷ []) sent came);
  starts = subst (λ (i : InboxModel). IsLastFrom i.at answer c.inbox) inbox starts;
}

not_asked : (a b c : LinkStand) (message : ToServer) (fault : ExchangeFault) → Exchanged a b (spelled (message ∷ [])) [] → IsSilent b c fault → AskFails a c message fault
not_asked a b c message fault sent s =
    silent (record { did = exchanged_silent a b c (spelled (message ∷ [])) sent s.did; cause = silent_from a b c fault sent.count s.cause })

pub ask_ends : {a b c : LinkStand} {message : ToServer} {result : Result ToClient ExchangeFault} → Exchanged a b (spelled (message ∷ [])) [] → ReceiveEnds b c result → b.inbox ≡ a.inbox → AskEnds a c message result
ask_ends {a} {b} {c} {message} {result = Ok answer} sent came inbox = record { ok = asked a b c message answer inbox sent came.ok.0 came.ok.1; err = tt }
ask_ends {a} {b} {c} {message} {result = Err fault} sent came inbox = record { ok = tt; err = not_asked a b c message fault sent came.err }

-- the answer is none to the message
pub not_answered : (a b : LinkStand) (message : ToServer) (answer : ToClient) (place : ℕ) → Asks a b message answer → place ≡ a.inbox.at → ¬ IsAnswer message answer → AskFails a b message (faults.BadMessage place)
not_answered a b message answer place asks at none =
    wrong (record { answer = answer; place = place; did = asks.did; wrong = none; starts = subst (λ (n : ℕ). IsLastFrom n answer b.inbox) (sym at) asks.starts; is = refl })

-- ---- answers to an entry

module _ (a b : LinkStand) (entry : List ℕ) where
  abbrev pub AsksFor : Result ToClient ExchangeFault → Type 0
  AsksFor answer = IfOk answer (λ m. Asks a b (to_server.Submit entry) m)

  abbrev pub Replied : Result (Option Refusal) ExchangeFault → Type 0
  Replied result = IfOk result (λ refusal. (reply : ServerReply) × IsReply refusal reply × Exchanged a b (spelled (to_server.Submit entry ∷ [])) (reply_message reply ∷ []))

  abbrev pub FailsFor : {A : Type 0} → Result A ExchangeFault → Type 0
  FailsFor result = IfErr result (λ fault. AskFails a b (to_server.Submit entry) fault)

no_reply : (entry : List ℕ) (m : ToClient) → ((reply : ServerReply) → m ≢ reply_message reply) → ¬ IsAnswer (to_server.Submit entry) m
no_reply entry m none is = none is.0 is.1

entries_no_reply : (first : ℕ) (entries : List (List ℕ)) (reply : ServerReply) → to_client.Entries first entries ≢ reply_message reply
entries_no_reply first entries (Ordered position) = λ e. absurd cc
entries_no_reply first entries (Rejected refusal) = λ e. absurd cc

empty_no_reply : (reply : ServerReply) → to_client.Empty ≢ reply_message reply
empty_no_reply (Ordered position) = λ e. absurd cc
empty_no_reply (Rejected refusal) = λ e. absurd cc

module _ (a b : LinkStand) (entry : List ℕ) (place : ℕ) (result : Result (Option Refusal) ExchangeFault) where
  replied : (answer : Result ToClient ExchangeFault) → IsOutcomeOf place answer result → AsksFor a b entry answer → Replied a b entry result
  replied (Ok (to_client.Ordered position)) says asks = subst (Replied a b entry) (sym says) (Ordered position, tt, asks.did)
  replied (Ok (to_client.Rejected refusal)) says asks = subst (Replied a b entry) (sym says) (Rejected refusal, refl, asks.did)
  replied _ says asks = subst (Replied a b entry) (sym says) tt

  not_replied : (answer : Result ToClient ExchangeFault) → IsOutcomeOf place answer result → place ≡ a.inbox.at → AsksFor a b entry answer → FailsFor a b entry answer → FailsFor a b entry result
  not_replied (Err fault) says at asks fails = subst (FailsFor a b entry) (sym says) fails
  not_replied (Ok (to_client.Entries first entries)) says at asks fails =
      let m : ToClient = to_client.Entries first entries in
      subst (FailsFor a b entry) (sym says) (not_answered a b (to_server.Submit entry) m place asks at (no_reply entry m (entries_no_reply first entries)))
  not_replied (Ok to_client.Empty) says at asks fails =
      subst (FailsFor a b entry) (sym says) (not_answered a b (to_server.Submit entry) to_client.Empty place asks at (no_reply entry to_client.Empty empty_no_reply))
  not_replied _ says at asks fails = subst (FailsFor a b entry) (sym says) tt

  pub submit_ends : (answer : Result ToClient ExchangeFault) → IsOutcomeOf place answer result → place ≡ a.inbox.at → AskEnds a b (to_server.Submit entry) answer → SubmitEnds a b entry result
  submit_ends answer says at asks = record { ok = replied answer says asks.ok; err = not_replied answer says at asks.ok asks.err }
