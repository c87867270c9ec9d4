-- Exchanges in a row.
use Rattle.std.proofs.Common.{◌≡◌, ℕ, ◌+◌, ◌^◌, ◌<◌, List, [], ◌∷◌, ◌++◌, length, Option, Some, None, refl, sym, ap, ◌∙◌, subst, append_assoc, arith}
use Rattle.sporc_exchange.proofs.Common.{append-nil, length-append, Appends, Consumes, ToClient, ToServer, Unread, HandsOut, counted_to_end, fed, next, frame, Exchanged, InboxModel, LinkStand}
use Rattle.sporc_exchange.proofs.Common.{Received, spelled, unread_of}
use Rattle.std.proofs.lemmas.List.Concat.{flat_map-append}
use Rattle.std.proofs.KnownBytes.{Appends-trans, Consumes-trans}
use Rattle.sporc_wire.specs.ToClient.{to_client_of}
use Rattle.sporc_wire.specs.ToServer.{to_server_bytes}
use Rattle.sporc_wire.proofs.Readings.{HandsOut-fed}

pub appends_none : (u : Option (List ℕ)) → Appends u u []
appends_none None = tt
appends_none (Some xs) = sym (append-nil xs)

pub consumes_none : (u : Option (List ℕ)) → Consumes u u []
consumes_none None = tt
consumes_none (Some xs) = refl

-- messages one after the other
pub reads_append : (s t u : Unread) (xs ys : List ToClient) → HandsOut to_client_of s xs t → HandsOut to_client_of t ys u → HandsOut to_client_of s (xs ++ ys) u
reads_append s t u [] ys f g = subst (λ (r : Unread). HandsOut to_client_of r ys u) (sym f) g
reads_append s t u (x ∷ xs) ys f g = (f.0, reads_append (next to_client_of s).after t u xs ys f.1 g)

-- no bytes are fed
fed_none : (s : Unread) → fed [] s ≡ s
fed_none s = ap (λ (rest : List ℕ). record s { rest = rest }) (append-nil s.rest)

fed_then : (s : Unread) (xs ys : List ℕ) → fed ys (fed xs s) ≡ fed (xs ++ ys) s
fed_then s xs ys = ap (λ (rest : List ℕ). record s { rest = rest }) (append_assoc s.rest xs ys)

counted_then : (n a b : ℕ) → counted_to_end (counted_to_end (n + a) + b) ≡ counted_to_end (n + (a + b))
counted_then n a b = omega arith

counted_low : (n m : ℕ) → m ≡ counted_to_end n → m < 2 ^ 64
counted_low n m is = omega (arith, is)

counted_none : (n : ℕ) → n < 2 ^ 64 → n ≡ counted_to_end (n + 0)
counted_none n low = omega (arith, low)

-- nothing came
pub received_nothing : (a b : LinkStand) → Consumes a.left b.left [] → b.inbox ≡ a.inbox → Received a b []
received_nothing a b consumed same = record {
  came = [];
  consumed = consumed;
  reads = fed_none (unread_of a.inbox) ∙ ap unread_of (sym same);
  counted = λ low. ap (λ (i : InboxModel). i.taken) same ∙ counted_none a.inbox.taken low;
}

pub received_then : (a b c : LinkStand) (xs ys : List ToClient) → Received a b xs → Received b c ys → Received a c (xs ++ ys)
received_then a b c xs ys f g =
    let P : Unread → Type 0 = λ s. HandsOut to_client_of s xs (fed g.came (unread_of b.inbox)) in
    let first : HandsOut to_client_of (fed (f.came ++ g.came) (unread_of a.inbox)) xs (fed g.came (unread_of b.inbox)) =
    subst P (fed_then (unread_of a.inbox) f.came g.came) (HandsOut-fed to_client_of (fed f.came (unread_of a.inbox)) g.came xs (unread_of b.inbox) f.reads) in
    record {
      came = f.came ++ g.came;
      consumed = Consumes-trans a.left b.left c.left f.came g.came f.consumed g.consumed;
      reads = reads_append (fed (f.came ++ g.came) (unread_of a.inbox)) (fed g.came (unread_of b.inbox)) (unread_of c.inbox) xs ys first g.reads;
      counted = λ low.
          let before = f.counted low in
          g.counted (counted_low (a.inbox.taken + length f.came) b.inbox.taken before)
          ∙ ap (λ (n : ℕ). counted_to_end (n + length g.came)) before
          ∙ counted_then a.inbox.taken (length f.came) (length g.came)
          ∙ ap (λ (n : ℕ). counted_to_end (a.inbox.taken + n)) (sym (length-append f.came g.came));
    }

pub exchanged_then : (a b c : LinkStand) (w v : List ℕ) (xs ys : List ToClient) → Exchanged a b w xs → Exchanged b c v ys → Exchanged a c (w ++ v) (xs ++ ys)
exchanged_then a b c w v xs ys f g = record {
  sent = Appends-trans a.written b.written c.written w v f.sent g.sent;
  received = received_then a b c xs ys f.received g.received;
  count = omega (arith, f.count, g.count);
}

pub spelled_append : (xs ys : List ToServer) → spelled (xs ++ ys) ≡ spelled xs ++ spelled ys
spelled_append xs ys = flat_map-append (λ message. frame (to_server_bytes message)) xs ys

pub exchanged_none : (a : LinkStand) → Exchanged a a [] []
exchanged_none a = record { sent = appends_none a.written; received = received_nothing a a (consumes_none a.left) refl; count = omega arith }
