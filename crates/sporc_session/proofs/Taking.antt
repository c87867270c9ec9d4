-- Entries that are accepted one after the other.
use Rattle.std.proofs.Common.{◌≡◌, ◌≢◌, ◌+◌, ℕ, List, [], ◌∷◌, length, Some, Ok, Err, refl, sym, ap, ◌∙◌, subst, arith, append-nil}
use Rattle.sporc_session.proofs.Common.{Result, IfOk, ⊤, Known, Pass, Worn, known_of, AcceptFault, accept_fault, Accept, Answered, CallGives, IsCall, Item, Happened, Past}
use Rattle.sporc_session.proofs.Common.{client_of, items_of, SessionFault, IsWornFault, all_of, items_by, KnowsMore, AcceptGives, TakeCause, takes_of, TookAll, TookOne, IsPoint, plain_of, taken_of}
use Rattle.sporc_client.specs.declared.fault.AcceptFault.TheVariants as accepts
use Rattle.sporc_session.proofs.Knowing.{call_client, call_knows, call_point, knows_then}
use Rattle.sporc_session.proofs.Positions.{accept_position}
use Rattle.sporc_session.proofs.Telling.{Replied, WornAs, replied}

-- what a pass knows after a call that added nothing: the point at which the client was found
pub none_point : (k k' : Known Item) (before : Past) → k.number ≡ 0 → IsCall k k' before [] → IsPoint k'.seen k'.start 0 k'.mine (length (items_of before))
none_point k k' before zero' c =
    let start' : k'.start ≡ k.start = ap (λ (x : Known Item). x.start) c.known in
    let mine' : k'.mine ≡ k.mine = ap (λ (x : Known Item). x.mine) c.known ∙ append-nil k.mine in
    subst (λ (z : ℕ × ℕ × List Item). IsPoint k'.seen z.0 z.1 z.2 (length (items_of before))) (λ i. (sym start' i, zero' i, sym mine' i)) (call_point k k' before [] c)

-- what a call that wasn't Ok tells
pub accept_stops : (k k' : Known Item) (position number : ℕ) (entry : List ℕ) (fault : AcceptFault) → k.number ≡ 0 → fault ≢ accepts.Memory
    → (before : Past) × IsCall k k' before [] × (fault ≢ accepts.Memory → accept_fault (client_of before) position entry ≡ Some fault)
    → KnowsMore k k' [] × AcceptGives k' position entry fault
accept_stops k k' position number entry fault zero' other h = (
  call_knows k k' h.0 [] h.1,
  record {
    point = length (items_of h.0);
    client = client_of h.0;
    is_point = none_point k k' h.0 zero' h.1;
    is_client = call_client k k' h.0 [] h.1;
    gives = h.2 other;
  },
)

-- ---- one entry

-- what a call told that was to accept an entry at a position
abbrev pub AcceptCall : Known Item → ℕ → List ℕ → Known Item → Result ℕ AcceptFault → Type 0
AcceptCall k position entry k' answer =
    CallGives k k' (Accept k.number entry) accepts.Memory (λ client. accept_fault client position entry) answer

pub accept_told : {k : Known Item} (position : ℕ) (entry : List ℕ) (reply : Result (Answered (Result ℕ AcceptFault)) (Pass Item × Worn)) {plain : Result (Result ℕ AcceptFault) SessionFault × Pass Item} → plain ≡ plain_of reply
    → IfOk reply (λ r. AcceptCall k position entry (known_of r.pass) r.answer) → WornAs k reply → Replied (λ p answer. AcceptCall k position entry (known_of p) answer) k plain.1 plain.0
accept_told {k} position entry = replied (λ p answer. AcceptCall k position entry (known_of p) answer)

took_by : (k : Known Item) (at : ℕ) (entry : List ℕ) → k.number ≡ 0 → (answer : Result ℕ AcceptFault) (k' : Known Item) → AcceptCall k (at + 1) entry k' answer → TookOne k k' at entry (taken_of (at + 1) answer)
took_by k at entry zero' (Ok n) k' h =
    (subst (λ (m : ℕ). KnowsMore k k' (Happened (Accept m entry) ∷ [])) zero' (call_knows k k' h.0 (Accept k.number entry ∷ []) h.1), accept_position (client_of h.0) (at + 1) entry h.2)
took_by k at entry zero' (Err (accepts.Refused refusal)) k' h =
    let t = accept_stops k k' (at + 1) k.number entry (accepts.Refused refusal) zero' (λ e. absurd cc) h in (t.0, (refl, t.1))
took_by k at entry zero' (Err accepts.JournalFull) k' h = accept_stops k k' (at + 1) k.number entry accepts.JournalFull zero' (λ e. absurd cc) h
took_by k at entry zero' (Err accepts.Memory) k' h = (call_knows k k' h.0 [] h.1, tt)

pub took_one : (k k' : Known Item) (at : ℕ) (entry : List ℕ) (answer : Result ℕ AcceptFault) (result : Result ⊤ SessionFault) → k.number ≡ 0
    → result ≡ taken_of (at + 1) answer → AcceptCall k (at + 1) entry k' answer → TookOne k k' at entry result
took_one k k' at entry answer result zero' is call = subst (TookOne k k' at entry) (sym is) (took_by k at entry zero' answer k' call)

-- no ticket was left
pub took_none : (k k' : Known Item) (at : ℕ) (entry : List ℕ) (fault : SessionFault) → KnowsMore k k' [] → IsWornFault fault → TookOne k k' at entry (Err fault)
took_none k k' at entry fault knows is = (knows, subst (TakeCause k' (at + 1) entry) (sym is) refl)

-- ---- the first entry, and then the others

pub took_first : (k k1 : Known Item) (at : ℕ) (entries : List (List ℕ)) (e : List ℕ) (es : List (List ℕ)) (fault : SessionFault) (one : Result ⊤ SessionFault) → one ≡ Err fault → entries ≡ e ∷ es → TookOne k k1 at e one → TookAll k k1 at entries (Err fault)
took_first k k1 at entries e es fault one is entries_are h =
    let t = subst (TookOne k k1 at e) is h in
    record { front = []; entry = e; rest = es; are = entries_are; knows = t.0; cause = subst (λ (n : ℕ). TakeCause k1 n e fault) (omega arith) t.1 }

pub took_rest : (k k1 k' : Known Item) (at : ℕ) (entries : List (List ℕ)) (e : List ℕ) (es : List (List ℕ)) (x : ⊤) (one result : Result ⊤ SessionFault) → one ≡ Ok x → entries ≡ e ∷ es → TookOne k k1 at e one → TookAll k1 k' (at + 1) es result → TookAll k k' at entries result
took_rest k k1 k' at entries e es x one (Ok y) is entries_are h rest =
    let t = subst (TookOne k k1 at e) is h in
    subst (λ (l : List (List ℕ)). TookAll k k' at l (Ok y)) (sym entries_are) (knows_then k k1 k' (Happened (Accept 0 e) ∷ []) (all_of items_by (takes_of (at + 1) es)) t.0 rest.0, omega (arith, rest.1))
took_rest k k1 k' at entries e es x one (Err fault) is entries_are h s = record {
  front = e ∷ s.front;
  entry = s.entry;
  rest = s.rest;
  are = entries_are ∙ ap (λ (l : List (List ℕ)). e ∷ l) s.are;
  knows = knows_then k k1 k' (Happened (Accept 0 e) ∷ []) (all_of items_by (takes_of (at + 1) s.front)) (subst (TookOne k k1 at e) is h).0 s.knows;
  cause = subst (λ (n : ℕ). TakeCause k' n s.entry fault) (omega arith) s.cause;
}
