-- Entries that are fetched.
use Rattle.std.proofs.Common.{◌≡◌, ◌≢◌, ◌↔◌, IsTrue, Bool, true, ℕ, ◌+◌, ◌<◌, ◌≤◌, List, [], ◌∷◌, ◌++◌, length, take, Some, refl, sym, ap, ◌∙◌, subst, arith, inl, inr}
use Rattle.sporc_session.proofs.Common.{◌⊎◌, ⊤, IsAtEnd, cases_lt, append-nil, length-append, nil_from_length, take-append-le, take_all, All-nil, All-pop, All-push, MAX_ENTRIES, Rose, ToClient}
use Rattle.sporc_session.proofs.Common.{ToServer, SessionFault, Act, Greet, Pull, all_of, answers_by, handed_out, messages_by, AskFails, Exchanged, InboxModel, IsBadFrame, IsCut, IsLastFrom}
use Rattle.sporc_session.proofs.Common.{LinkStand, LinkTold, empty_inbox, link_stand, spelled}
use Rattle.std.proofs.lemmas.List.Concat.{flat_map-append, flat_map-cons}
use Rattle.sporc_wire.specs.declared.to_server.ToServer.TheVariants as to_server
use Rattle.sporc_session.specs.declared.fault.SessionFault.TheVariants as faults
use Rattle.sporc_session.specs.Fetches.{FetchEnds, FetchFails, IsPullDue, Pulled, all_came, loses, pulls_from, stops}
use Rattle.sporc_exchange.proofs.Exchanging.{exchanged_then, spelled_append}
use Rattle.sporc_session.proofs.Fitting.{all_of_append}

-- ---- acts in a row

-- the link was used for these acts and no others
abbrev Does : LinkStand → LinkStand → List Act → Type 0
Does a b acts = Exchanged a b (spelled (all_of messages_by acts)) (all_of answers_by acts)

does_then : (a b c : LinkStand) (xs ys : List Act) → Does a b xs → Does b c ys → Does a c (xs ++ ys)
does_then a b c xs ys f g =
    let both : Exchanged a c (spelled (all_of messages_by xs) ++ spelled (all_of messages_by ys)) (all_of answers_by xs ++ all_of answers_by ys) =
    exchanged_then a b c (spelled (all_of messages_by xs)) (spelled (all_of messages_by ys)) (all_of answers_by xs) (all_of answers_by ys) f g in
    let answered : Exchanged a c (spelled (all_of messages_by xs) ++ spelled (all_of messages_by ys)) (all_of answers_by (xs ++ ys)) =
    subst (λ (l : List ToClient). Exchanged a c (spelled (all_of messages_by xs) ++ spelled (all_of messages_by ys)) l) (sym (all_of_append answers_by xs ys)) both in
    subst (λ (w : List ℕ). Exchanged a c w (all_of answers_by (xs ++ ys))) (sym (spelled_append (all_of messages_by xs) (all_of messages_by ys)) ∙ ap spelled (sym (all_of_append messages_by xs ys))) answered

all_came_more : (pulled : List (List (List ℕ))) (came : List (List ℕ)) → all_came (pulled ++ came ∷ []) ≡ all_came pulled ++ came
all_came_more pulled came =
    flat_map-append (λ came. came) pulled (came ∷ []) ∙ ap (λ (l : List (List ℕ)). all_came pulled ++ l) (flat_map-cons (λ came. came) came [] ∙ append-nil came)

pulls_more : (at : ℕ) (pulled : List (List (List ℕ))) (came : List (List ℕ)) → pulls_from at (pulled ++ came ∷ []) ≡ pulls_from at pulled ++ Pull (at + length (all_came pulled)) came ∷ []
pulls_more at [] came = ap (λ (n : ℕ). Pull n came ∷ []) (omega arith)
pulls_more at (first ∷ pulled) came =
    let same : at + length first + length (all_came pulled) ≡ at + length (all_came (first ∷ pulled)) =
    omega (arith, ap length (flat_map-cons (λ came. came) first pulled), length-append first (all_came pulled)) in
    ap (λ (acts : List Act). Pull at first ∷ acts) (pulls_more (at + length first) pulled came ∙ ap (λ (n : ℕ). pulls_from (at + length first) pulled ++ Pull n came ∷ []) same)

-- ---- while Pulls are due

-- these entries came so far, and a further Pull is due
pub record SoFar (a b : LinkStand) (document : List ℕ) (member : ℕ) (entries : List (List ℕ)) : Type 0 where
  pub pulled : List (List (List ℕ))
  pub did : Pulled a b document member pulled
  pub due : IsPullDue pulled
  pub are : entries ≡ all_came pulled

-- Hello was sent, and no entries came yet
begun : (a b : LinkStand) (document : List ℕ) (member : ℕ) → Exchanged a b (spelled (to_server.Hello document member ∷ [])) [] → SoFar a b document member []
begun a b document member sent = record {
  pulled = [];
  did = record { due = λ n low. absurd (omega (arith, low)); did = sent };
  due = record { found = All-nil (λ came. came ≢ []); few = omega arith };
  are = refl;
}

pub greeted : (link : LinkTold) (b : LinkStand) {inbox : InboxModel} {message : ToServer} (document : List ℕ) (member : ℕ) {entries : List (List ℕ)} → inbox ≡ empty_inbox → message ≡ to_server.Hello document member → entries ≡ []
    → Exchanged (link_stand link inbox) b (spelled (message ∷ [])) [] → SoFar (link_stand link empty_inbox) b document member entries
greeted link b {inbox} {message} document member fresh hello none sent =
    let there : Exchanged (link_stand link inbox) b (spelled (to_server.Hello document member ∷ [])) [] =
    subst (λ (m : ToServer). Exchanged (link_stand link inbox) b (spelled (m ∷ [])) []) hello sent in
    let here : Exchanged (link_stand link empty_inbox) b (spelled (to_server.Hello document member ∷ [])) [] =
    subst (λ (i : InboxModel). Exchanged (link_stand link i) b (spelled (to_server.Hello document member ∷ [])) []) fresh there in
    subst (SoFar (link_stand link empty_inbox) b document member) (sym none) (begun (link_stand link empty_inbox) b document member here)

-- what came is tested for being nothing
pub is_nothing : {test : Bool} {came : List (List ℕ)} → IsTrue test ↔ (length came ≡ 0) → test ≡ true → came ≡ []
is_nothing {came = came} tests holds = nil_from_length came (tests.0 holds)

-- the next Pull was not answered
pub stopped : {a b c : LinkStand} {document : List ℕ} {member : ℕ} {entries : List (List ℕ)} {at : ℕ} {fault : SessionFault} → SoFar a b document member entries → at ≡ length entries
    → AskFails b c (to_server.Pull at) fault → FetchFails a c document member fault
stopped {b = b} {c = c} {fault = fault} s place fails =
    stops (record { pulled = s.pulled; middle = b; did = s.did; due = s.due; fails = subst (λ (n : ℕ). AskFails b c (to_server.Pull n) fault) (place ∙ ap length s.are) fails })

-- it was, and these entries came
module _ {a b c : LinkStand} {document : List ℕ} {member : ℕ} {entries : List (List ℕ)} (came : List (List ℕ)) (at : ℕ) (s : SoFar a b document member entries) (place : at ≡ length entries)
    (x : Exchanged b c (spelled (to_server.Pull at ∷ [])) (handed_out at came ∷ [])) where
  each_due : (n : ℕ) → n < length (s.pulled ++ came ∷ []) → IsPullDue (take n (s.pulled ++ came ∷ []))
  each_due n low =
      let short : n ≤ length s.pulled = omega (arith, low, length-append s.pulled (came ∷ [])) in
      subst IsPullDue (sym (take-append-le n s.pulled (came ∷ []) short)) (elim (cases_lt n (length s.pulled)) [
        | inl below ↦ s.did.due n below
        | inr all ↦ subst IsPullDue (sym (take_all n s.pulled all)) s.due
      ])

  acts_more : Does a c (Greet document member ∷ pulls_from 0 (s.pulled ++ came ∷ []))
  acts_more =
      let from : at ≡ 0 + length (all_came s.pulled) = omega (arith, place, ap length s.are) in
      let next : Does b c (Pull (0 + length (all_came s.pulled)) came ∷ []) = subst (λ (n : ℕ). Does b c (Pull n came ∷ [])) from x in
      subst (λ (acts : List Act). Does a c (Greet document member ∷ acts)) (sym (pulls_more 0 s.pulled came))
      (does_then a b c (Greet document member ∷ pulls_from 0 s.pulled) (Pull (0 + length (all_came s.pulled)) came ∷ []) s.did.did next)

  pulled_more : Pulled a c document member (s.pulled ++ came ∷ [])
  pulled_more = record { due = each_due; did = acts_more }

  pub lost : FetchFails a c document member faults.Memory
  lost = loses (record { pulled = s.pulled ++ came ∷ []; did = pulled_more; is = refl })

  -- they were kept
  module _ {after : List (List ℕ)} (kept : after ≡ entries ++ came) where
    are_more : after ≡ all_came (s.pulled ++ came ∷ [])
    are_more = kept ∙ ap (λ (l : List (List ℕ)). l ++ came) s.are ∙ sym (all_came_more s.pulled came)

    -- a further Pull is due
    pub still : came ≢ [] → length after < MAX_ENTRIES → SoFar a c document member after
    still some few = record {
      pulled = s.pulled ++ came ∷ [];
      did = pulled_more;
      due = record { found = All-push (λ came. came ≢ []) s.pulled came s.due.found some; few = omega (arith, few, ap length are_more) };
      are = are_more;
    }

    -- none is
    pub ends_empty : came ≡ [] → FetchEnds a c document member after
    ends_empty none = record {
      pulled = s.pulled ++ came ∷ [];
      did = pulled_more;
      ends = λ due. (All-pop (λ came. came ≢ []) (s.pulled ++ came ∷ []) s.pulled (Some came) refl due.found).1 none;
      are = are_more;
    }

    pub ends_full : MAX_ENTRIES ≤ length after → FetchEnds a c document member after
    ends_full full = record {
      pulled = s.pulled ++ came ∷ [];
      did = pulled_more;
      ends = λ due. absurd (omega (arith, full, due.few, ap length are_more));
      are = are_more;
    }

-- ---- what a caller reads off a fetch

-- why a fetch failed
abbrev pub FetchCause : LinkStand → LinkStand → SessionFault → Type 0
FetchCause a b faults.LinkFault = Rose a.faults b.faults
FetchCause a b (faults.LinkEnded taken) = IsAtEnd b.left × IsCut b.inbox × (taken ≡ b.inbox.taken)
FetchCause a b (faults.BadMessage place) = IsBadFrame b.inbox place ⊎ ((answer : ToClient) × IsLastFrom place answer b.inbox)
FetchCause a b faults.Memory = ⊤
FetchCause a b (faults.Refused position refusal) = ⊥
FetchCause a b (faults.NotSettled pending at) = ⊥
FetchCause a b (faults.Leaf fault) = ⊥
FetchCause a b faults.HistoryFull = ⊥
FetchCause a b (faults.ServerRejected refusal) = ⊥
FetchCause a b faults.JournalFull = ⊥
FetchCause a b (faults.EditRefused editor line fault) = ⊥
FetchCause a b (faults.Worn ticket) = ⊥
FetchCause a b faults.ChanceFault = ⊥
