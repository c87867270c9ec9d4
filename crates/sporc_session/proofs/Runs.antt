-- Journals are runs, in whatever order the events of several come.
use Rattle.std.proofs.Common.{◌≡◌, ◌≢◌, ◌⊎◌, ℕ, Bool, true, false, cond, List, [], ◌∷◌, Option, Some, None, refl, sym, ap, ◌∙◌, subst, ⊎_elim, true≢false}
use Rattle.sporc_session.proofs.Common.{Contains, IsSomeAnd, Result, ⊤, and_parts, EditorLine, Logged, Opening, PlainClient, opened, step, added_lead, put_other, Item, IsAllowed, Past, client_of}
use Rattle.sporc_session.proofs.Common.{items_of, with_events, SessionFault, Stand, IsSession, StartsWith}
use Rattle.std.specs.FinMap.{get}
use Rattle.sporc_member.specs.declared.device.Device.{Device}
use Rattle.sporc_member.specs.Device.{same_device}
use Rattle.sporc_member.proofs.SameDevice.{one_same, same_one}
use Rattle.sporc_line.specs.Good.{Meets}
use Rattle.sporc_client.specs.Allowed.{can_log, can_log_all, is_allowed}
use Rattle.sporc_client.specs.Calls.{LeadTo, events_of, mover_of}
use Rattle.sporc_client.specs.Run.{Setup, World, Move, Open, Happen, Give, Restart, IsRun, May, after, opening_of, start}
use Rattle.sporc_client.proofs.Reached.{happens_to, put_same}
use Rattle.sporc_session.specs.Runs.{IsJournal, moves_of}
use Rattle.sporc_session.proofs.Pasts.{past_goes_on}

pub session_leads : (s : Setup) (w : World) (who : Device) (past : Past) (a b : Stand) (rounds until : ℕ) (scripts : List (List EditorLine)) (result : Result ⊤ SessionFault)
    → w.clients who ≡ Some (client_of past) → a.known.seen ≡ items_of past → IsSession a b rounds until scripts result
    → (events : List Logged) × (b.known.seen ≡ items_of (with_events past events)) × LeadTo s w (events_of who events) who (client_of (with_events past events))
session_leads s w who past a b rounds until scripts result at seen session =
    let t = past_goes_on past session.past (subst (λ (l : List Item). StartsWith (items_of session.past) l) seen session.legal.begins) in
    (t.0, session.log_is ∙ ap items_of t.1, added_lead s w who past.opening past.log t.0 at (subst IsAllowed t.1 session.legal.allowed))

-- ---- the journals of several clients

-- moves of one device's client, from what it is
abbrev Goes : Setup → Device → Option PlainClient → List Move → Type 0
Goes s who client [] = ⊤
Goes s who None (Open device ring ∷ moves) = Contains s.devices device × Meets s.genesis 0 (get ring 0) s.genesis.commitment × Goes s who (Some (opened (opening_of s device ring))) moves
Goes s who None (Happen device event ∷ moves) = ⊥
Goes s who None (Give device position bytes ∷ moves) = ⊥
Goes s who None (Restart device k ∷ moves) = ⊥
Goes s who (Some c) (Open device ring ∷ moves) = ⊥
Goes s who (Some c) (Happen device event ∷ moves) = (can_log c event ≡ true) × Goes s who (Some (step c event)) moves
Goes s who (Some c) (Give device position bytes ∷ moves) = ⊥
Goes s who (Some c) (Restart device k ∷ moves) = ⊥

events_go : (s : Setup) (who : Device) (c : PlainClient) (log : List Logged) → can_log_all c log ≡ true → Goes s who (Some c) (events_of who log)
events_go s who c [] may = tt
events_go s who c (event ∷ log) may = let p = and_parts (can_log c event) (can_log_all (step c event) log) may in (p.0, events_go s who (step c event) log p.1)

journal_goes : (s : Setup) (who : Device) (moves : List Move) → IsJournal s who moves → Goes s who None moves
unfolding is_allowed
journal_goes s who moves j =
    let allowed = subst (λ (o : Opening). is_allowed o j.past.log ≡ true) j.opening j.allowed in
    subst (Goes s who None) (sym j.are) (j.is_device, j.meets, events_go s who (opened (opening_of s who j.past.opening.kit.ring)) j.past.log allowed)

-- the client of a world, and what all moves have of it
abbrev AllGo : Setup → World → List Move → Type 0
AllGo s w moves = (who : Device) → Goes s who (w.clients who) (moves_of who moves)

-- the first move is its device's first one
own_first : (move : Move) (moves : List Move) (who : Device) → same_device (mover_of move) who ≡ true → moves_of who (move ∷ moves) ≡ move ∷ moves_of who moves
own_first move moves who is = ap (λ (b : Bool). cond b (move ∷ moves_of who moves) (moves_of who moves)) is

-- and none of another's
others_stay : (move : Move) (moves : List Move) (who : Device) → same_device (mover_of move) who ≡ false → moves_of who (move ∷ moves) ≡ moves_of who moves
others_stay move moves who is = ap (λ (b : Bool). cond b (move ∷ moves_of who moves) (moves_of who moves)) is

-- what a device's first move needs and does
record Moved (s : Setup) (w : World) (move : Move) (rest : List Move) : Type 0 where
  may : May s w move
  goes : Goes s (mover_of move) ((after s w move).clients (mover_of move)) rest
  others : (other : Device) → mover_of move ≢ other → (after s w move).clients other ≡ w.clients other

moved : (s : Setup) (w : World) (move : Move) (rest : List Move) (client : Option PlainClient) → w.clients (mover_of move) ≡ client → Goes s (mover_of move) client (move ∷ rest) → Moved s w move rest
moved s w (Open who ring) rest None at g =
    let c = opened (opening_of s who ring) in
    record {
      may = (g.0, g.1);
      goes = subst (λ (o : Option PlainClient). Goes s who o rest) (sym (put_same w.clients who c)) g.2;
      others = λ other differs. put_other w.clients who c other (λ is. differs (sym is));
    }
moved s w (Happen who event) rest (Some c) at g = record {
  may = subst (λ (o : Option PlainClient). IsSomeAnd o (λ c. can_log c event ≡ true)) (sym at) g.0;
  goes = subst (λ (o : Option PlainClient). Goes s who o rest) (sym (ap (λ (o : Option PlainClient). (happens_to w who event o).clients who) at ∙ put_same w.clients who (step c event))) g.1;
  others = λ other differs. ap (λ (o : Option PlainClient). (happens_to w who event o).clients other) at ∙ put_other w.clients who (step c event) other (λ is. differs (sym is));
}
moved s w (Give who position bytes) rest None at g = absurd g
moved s w (Restart who k) rest None at g = absurd g
moved s w _ rest _ at g = absurd g

all_run : (s : Setup) (w : World) (moves : List Move) → AllGo s w moves → IsRun s w moves
all_run s w [] all = tt
all_run s w (move ∷ moves) all = (m.may, all_run s (after s w move) moves then)
  where
    me : Device
    me = mover_of move

    m : Moved s w move (moves_of me moves)
    m = moved s w move (moves_of me moves) (w.clients me) refl (subst (Goes s me (w.clients me)) (own_first move moves me (one_same me)) (all me))

    by : (who : Device) (same : Bool) → same_device me who ≡ same → Goes s who ((after s w move).clients who) (moves_of who moves)
    by who true is = subst (λ (d : Device). Goes s d ((after s w move).clients d) (moves_of d moves)) (same_one me who is) m.goes
    by who false is =
        let differs : me ≢ who = λ e. absurd (true≢false (sym (one_same me) ∙ ap (same_device me) e ∙ is)) in
        subst (λ (z : Option PlainClient × List Move). Goes s who z.0 z.1) (λ i. (sym (m.others who differs) i, others_stay move moves who is i)) (all who)

    then : AllGo s (after s w move) moves
    then who = by who (same_device me who) refl

pub journals_run : (s : Setup) (moves : List Move) → ((who : Device) → (moves_of who moves ≡ []) ⊎ IsJournal s who (moves_of who moves)) → IsRun s start moves
journals_run s moves all = all_run s start moves goes
  where
    goes : AllGo s start moves
    goes who = ⊎_elim (λ (none : moves_of who moves ≡ []). subst (Goes s who None) (sym none) tt) (journal_goes s who (moves_of who moves)) (all who)
