-- Pasts of one client, the later of which goes on from the earlier one.
use Rattle.std.proofs.Common.{◌≡◌, ℕ, ◌≤◌, Bool, true, false, cond, List, [], ◌∷◌, ◌++◌, length, map, take, refl, sym, ap, ◌∙◌, subst, arith}
use Rattle.sporc_session.proofs.Common.{take-append-le, StartsWith, starts_length, starts_self, Logged, Accept, PlainClient, shown_after, accepted, change_comes, edit_comes, is_flight, own_comes}
use Rattle.sporc_session.proofs.Common.{replay_from, step, replay_append, Item, Opened, Happened, Past, client_of, items_of, with_events}
use Rattle.std.specs.Option.{is_some}
use Rattle.sporc_head.specs.History.{change_in}
use Rattle.sporc_line.specs.Document.{text_after}
use Rattle.sporc_client.proofs.ShownCounts.{shown_count}
use Rattle.sporc_session.proofs.Knowing.{starts_then}

-- the events among items
abbrev events_in : List Item → List Logged
events_in [] = []
events_in (Opened opening first_leaf ∷ items) = events_in items
events_in (Happened event ∷ items) = event ∷ events_in items

events_in_map : (log : List Logged) → events_in (map Happened log) ≡ log
events_in_map [] = refl
events_in_map (event ∷ log) = ap (λ (l : List Logged). event ∷ l) (events_in_map log)

events_in_append : (xs ys : List Item) → events_in (xs ++ ys) ≡ events_in xs ++ events_in ys
events_in_append [] ys = refl
events_in_append (Opened opening first_leaf ∷ xs) ys = events_in_append xs ys
events_in_append (Happened event ∷ xs) ys = ap (λ (l : List Logged). event ∷ l) (events_in_append xs ys)

-- what was opened, if these items begin with it
same_opened : (p q : Past) (xs ys : List Item) → Opened p.opening p.first_leaf ∷ xs ≡ Opened q.opening q.first_leaf ∷ ys → (p.opening ≡ q.opening) × (p.first_leaf ≡ q.first_leaf)
same_opened p q xs ys is = (cc, cc)

-- and it is the same past if all are the same
pub items_same : (p q : Past) → items_of p ≡ items_of q → p ≡ q
items_same p q is =
    let same = same_opened p q (map Happened p.log) (map Happened q.log) is in
    let log : p.log ≡ q.log = sym (events_in_map p.log) ∙ ap events_in is ∙ events_in_map q.log in
    λ i. record { opening = same.0 i; first_leaf = same.1 i; log = log i }

-- a past whose items begin with those of another is that one with events more
pub past_goes_on : (p q : Past) → StartsWith (items_of q) (items_of p) → (events : List Logged) × (q ≡ with_events p events)
past_goes_on p q s =
    let same = same_opened q p (map Happened q.log) (map Happened p.log ++ s.0) s.1 in
    let log : q.log ≡ p.log ++ events_in s.0 =
    sym (events_in_map q.log) ∙ ap events_in s.1 ∙ events_in_append (map Happened p.log) s.0 ∙ ap (λ (l : List Logged). l ++ events_in s.0) (events_in_map p.log) in
    (events_in s.0, λ i. record { opening = same.0 i; first_leaf = same.1 i; log = log i })

pub client_more : (p : Past) (events : List Logged) → client_of (with_events p events) ≡ replay_from (client_of p) events
client_more p events = sym (replay_append p.opening p.log events)

-- ---- the shown deltas of a client only grow

accepted_shown : (c : PlainClient) (bytes : List ℕ) → StartsWith (accepted c bytes).shown c.shown
accepted_shown c bytes = go (is_flight c bytes) (is_some (change_in bytes))
  where
    go : (own change : Bool) → StartsWith (cond own (own_comes c bytes) (cond change (change_comes c bytes) (edit_comes c bytes))).shown c.shown
    go false true = (_, refl)
    go own change = (_, refl)

step_shown : (c : PlainClient) (event : Logged) → StartsWith (step c event).shown c.shown
step_shown c (Accept by bytes) = accepted_shown c bytes
step_shown c _ = (_, refl)

replay_shown : (c : PlainClient) (log : List Logged) → StartsWith (replay_from c log).shown c.shown
replay_shown c [] = starts_self c.shown
replay_shown c (event ∷ log) = starts_then c.shown (step c event).shown (replay_from (step c event) log).shown (step_shown c event) (replay_shown (step c event) log)

-- so the text that was shown after some events stays what it was
pub record ShowsLater (p q : Past) : Type 0 where
  pub low : length p.log ≤ length (client_of q).shown
  pub same : shown_after (length p.log) (client_of q) ≡ shown_after (length p.log) (client_of p)

pub shows_later : (p q : Past) → StartsWith (items_of q) (items_of p) → ShowsLater p q
shows_later p q s =
    let t = past_goes_on p q s in
    let c = client_of p in
    let goes : StartsWith (client_of q).shown c.shown = subst (λ (d : PlainClient). StartsWith d.shown c.shown) (sym (ap client_of t.1 ∙ client_more p t.0)) (replay_shown c t.0) in
    let n = length p.log in
    let all : length c.shown ≡ n = shown_count p.opening p.log in
    let same : take n (client_of q).shown ≡ take n c.shown = ap (take n) goes.1 ∙ take-append-le n c.shown goes.0 (omega (arith, all)) in
    record { low = omega (arith, all, starts_length (client_of q).shown c.shown goes); same = ap text_after same }
