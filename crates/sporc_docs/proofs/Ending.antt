-- The sessions of many documents, once their passes were joined back.
use Rattle.std.proofs.Common.{option_map, ◌≡◌, ◌∙◌, ℕ, zero, suc, List, [], ◌∷◌, length, map, reverse, Option, Some, None, Result, slice_get, refl, ap, sym, subst, subst₂, arith}
use Rattle.sporc_docs.proofs.Common.{length-map, NetTold, Known, Pass, Turn, splitting, known_of, OrderModel, Ghosts, Desk, Item, log_at_first, ServeFault, Visit, TookLinks}
use Rattle.sporc_docs.proofs.Common.{Hand, AllSit, IsCrowd, AllZip, AllHands, HasFirst, HavePasses, IsOther, LogsBegin, Splits, SplitsAt, JoinsAt, column, pass_at, AreApart}
use Rattle.sporc_docs.proofs.Common.{AreBack, IsBack, KnowsFirst, Ends, AreEnding, AreBound, visits_of, Serves, same_Some, slice_get-map}
use Rattle.sporc_docs.proofs.Binding.{bound_to, documents_of, apart_reverse, one_place}
use Rattle.sporc_docs.proofs.Columns.{Seat, session_of, AllServe, back, ends}
use Rattle.sporc_docs.proofs.Opening.{both_length}

-- ---- items at places

pub same_place : {A B : Type 0} (xs : List A) (ys : List B) (i : ℕ) (x : A) → length xs ≡ length ys → slice_get xs i ≡ Some x → (y : B) × (slice_get ys i ≡ Some y)
same_place [] ys i x size at = absurd cc
same_place (x' ∷ xs) [] i x size at = absurd (omega (arith, size))
same_place (x' ∷ xs) (y' ∷ ys) zero x size at = (y', refl)
same_place (x' ∷ xs) (y' ∷ ys) (suc i) x size at = same_place xs ys i x (omega (arith, size)) at

pub document_there : (os : List OrderModel) (i : ℕ) (o : OrderModel) → slice_get os i ≡ Some o → slice_get (documents_of os) i ≡ Some o.genesis.document
document_there os i o at = slice_get-map (λ (x : OrderModel). x.genesis.document) os i ∙ ap (option_map (λ (x : OrderModel). x.genesis.document)) at

module _ {A : Type 0} (R : A → Option (Pass Item) → Type 0) where
  pub both_at : (xs : List A) (ps : List (Option (Pass Item))) → AllZip R xs ps → (i : ℕ) (x : A) → slice_get xs i ≡ Some x → R x (pass_at i ps)
  both_at [] ps h i x at = absurd cc
  both_at (x' ∷ xs) [] h i x at = absurd h
  both_at (x' ∷ xs) (p ∷ ps) h zero x at = subst (λ (y : A). R y p) (same_Some x' x at) h.0
  both_at (x' ∷ xs) (p ∷ ps) h (suc i) x at = both_at xs ps h.1 i x at

  pub both_of : (xs : List A) (ps : List (Option (Pass Item))) → length xs ≡ length ps → ((i : ℕ) (x : A) → slice_get xs i ≡ Some x → R x (pass_at i ps)) → AllZip R xs ps
  both_of [] [] size h = tt
  both_of (x ∷ xs) (p ∷ ps) size h = (h 0 x refl, both_of xs ps (omega (arith, size)) (λ i y at. h (suc i) y at))
  both_of xs ps size h = absurd (omega (arith, size))

  -- a pass that is there stands at a place of both
  pub place_of_pass : (xs : List A) (ps : List (Option (Pass Item))) → AllZip R xs ps → (i : ℕ) (p : Pass Item) → pass_at i ps ≡ Some p → (x : A) × (slice_get xs i ≡ Some x)
  place_of_pass [] [] h i p at = absurd cc
  place_of_pass (x ∷ xs) (q ∷ qs) h zero p at = (x, refl)
  place_of_pass (x ∷ xs) (q ∷ qs) h (suc i) p at = place_of_pass xs qs h.1 i p at
  place_of_pass xs ps h i p at = absurd h

pub all_back : (os : List OrderModel) (ps : List (Option (Pass Item))) → AllZip (λ o p. IsBack p) os ps → AreBack ps
all_back [] [] h = tt
all_back (o ∷ os) (p ∷ ps) h = (h.0, all_back os ps h.1)
all_back os ps h = absurd h

-- ---- what the passes of hands know at first

abbrev AllSeen : List Item → List (Option (Pass Item)) → Type 0
AllSeen log [] = Unit {0}
AllSeen log (None ∷ qs) = ⊥
AllSeen log (Some q ∷ qs) = ((known_of q).seen ≡ log) × AllSeen log qs

all_seen : (log : List Item) (k : Known Item) (c : List (Option (Pass Item))) (k' : Known Item) → Splits k c k' → k.seen ≡ log → AllSeen log c
all_seen log k [] k' h seen = tt
all_seen log k (None ∷ qs) k' h seen = absurd h
all_seen log k (Some q ∷ qs) k' h seen = (ap (λ (x : Known Item). x.seen) h.0 ∙ seen, all_seen log (splitting k) qs k' h.1 seen)

pub seen_first : (o : OrderModel) (f0 f1 : Option (Pass Item)) (c : List (Option (Pass Item))) → KnowsFirst o f0 → SplitsAt f0 c f1 → AllSeen (log_at_first o) c
seen_first o None f1 c known splits = absurd known
seen_first o (Some p) None c known splits = absurd splits
seen_first o (Some p) (Some p') c known splits = all_seen (log_at_first o) (known_of p) c (known_of p') splits (ap (λ (x : Known Item). x.seen) known)

seen_here : (log : List Item) (q : Option (Pass Item)) (qs : List (Option (Pass Item))) (p : Pass Item) → AllSeen log (q ∷ qs) → q ≡ Some p → (known_of p).seen ≡ log
seen_here log None qs p h is = absurd cc
seen_here log (Some q) qs p h is = let same : q ≡ p = cc in ap (λ (x : Pass Item). (known_of x).seen) (sym same) ∙ h.0

seen_later : (log : List Item) (q : Option (Pass Item)) (qs : List (Option (Pass Item))) → AllSeen log (q ∷ qs) → AllSeen log qs
seen_later log None qs h = absurd h
seen_later log (Some q) qs h = h.1

pub logs_begin : {T : Type 0} {gs : Ghosts T} (os : List OrderModel) (ts : List (Turn (Desk T gs) Item)) → length ts ≡ length os → (hs : List Hand) → AllHands (HavePasses ts) hs
    → ((i : ℕ) (o : OrderModel) → slice_get os i ≡ Some o → AllSeen (log_at_first o) (column i hs)) → AllHands LogsBegin hs
logs_begin os ts size [] have seen = tt
logs_begin os ts size (x ∷ hs) have seen = (
  λ i p at.
      (let t = place_of_pass IsOther ts x.passes.items have.0 i p at in
      let o = same_place ts os i t.0 size t.1 in
      let is = seen_here (log_at_first o.0) (pass_at i x.passes.items) (column i hs) p (seen i o.0 o.1) at in
      (o.0.genesis, (_, is))),
  logs_begin os ts size hs have.1 (λ i o at. seen_later (log_at_first o) (pass_at i x.passes.items) (column i hs) (seen i o at)),
)

-- ---- the sessions of a crowd

module _ {T : Type 0} {gs : Ghosts T} (turns : List (Turn (Desk T gs) Item))
    (documents : List (List ℕ)) where
  abbrev pub seats_of : (vs : List Visit) (hs hs' : List Hand) → AllSit turns documents vs hs hs' → List Seat
  seats_of [] hs hs' sit = []
  seats_of (v ∷ vs) (h ∷ hs) (h' ∷ hs') sit = record { visit = v; place = sit.2.0 } ∷ seats_of vs hs hs' sit.3
  seats_of (v ∷ vs) hs hs' sit = absurd sit

  pub seats_visits : (vs : List Visit) (hs hs' : List Hand) (sit : AllSit turns documents vs hs hs')
      → visits_of (map (session_of documents) (seats_of vs hs hs' sit)) ≡ vs
  seats_visits [] hs hs' sit = refl
  seats_visits (v ∷ vs) (h ∷ hs) (h' ∷ hs') sit = ap (λ (l : List Visit). v ∷ l) (seats_visits vs hs hs' sit.3)
  seats_visits (v ∷ vs) hs hs' sit = absurd sit

  module _ (i : ℕ) (t : Turn (Desk T gs) Item) (there : slice_get turns i ≡ Some t) where
    serve_more : (s : Seat) (ss : List Seat) (q q' : Option (Pass Item)) (c c' : List (Option (Pass Item))) → IsOther t q → IsOther t q'
        → ((p p' : Pass Item) → q ≡ Some p → q' ≡ Some p' → Serves s.visit s.place i p p') → AllServe i ss c c'
        → AllServe i (s ∷ ss) (q ∷ c) (q' ∷ c')
    serve_more s ss None q' c c' has has' serves more = absurd has
    serve_more s ss (Some p) None c c' has has' serves more = absurd has'
    serve_more s ss (Some p) (Some p') c c' has has' serves more = (serves p p' refl refl, more)

    -- what became of the passes at a place
    pub all_serve : (vs : List Visit) (hs hs' : List Hand) (sit : AllSit turns documents vs hs hs')
        → AllServe i (seats_of vs hs hs' sit) (column i hs) (column i hs')
    all_serve [] hs hs' sit = ap (column i) sit
    all_serve (v ∷ vs) (h ∷ hs) (h' ∷ hs') sit =
        serve_more (record { visit = v; place = sit.2.0 }) (seats_of vs hs hs' sit.3) (pass_at i h.passes.items) (pass_at i h'.passes.items) (column i hs) (column i hs')
        (both_at IsOther turns h.passes.items sit.0 i t there) (both_at IsOther turns h'.passes.items sit.1 i t there) (sit.2.1.serves i) (all_serve vs hs hs' sit.3)
    all_serve (v ∷ vs) hs hs' sit = absurd sit

-- each session is bound to the document that its first message names
pub all_bound : {T : Type 0} {gs : Ghosts T} (turns : List (Turn (Desk T gs) Item)) (orders : List OrderModel) (vs : List Visit) (hs hs' : List Hand)
    (sit : AllSit turns (documents_of (reverse orders)) vs hs hs')
    → AreBound orders (map (session_of (documents_of (reverse orders))) (seats_of turns (documents_of (reverse orders)) vs hs hs' sit))
all_bound turns orders [] hs hs' sit = tt
all_bound turns orders (v ∷ vs) (h ∷ hs) (h' ∷ hs') sit =
    (bound_to orders v sit.2.0 sit.2.1.bound, all_bound turns orders vs hs hs' sit.3)
all_bound turns orders (v ∷ vs) hs hs' sit = absurd sit

-- ---- number 0 at a place

module _ (os : List OrderModel) (apart : AreApart os) (i : ℕ) (o : OrderModel)
    (there : slice_get os i ≡ Some o) (ss : List Seat) (c c' : List (Option (Pass Item))) (serves : AllServe i ss c c') where
  at_place : slice_get (documents_of os) i ≡ Some o.genesis.document
  at_place = document_there os i o there

  only_there : (j : ℕ) → slice_get (documents_of os) j ≡ Some o.genesis.document → j ≡ i
  only_there j at = one_place os apart o.genesis.document i j at_place at

  pub place_ends : (f0 f1 f2 : Option (Pass Item)) → KnowsFirst o f0 → SplitsAt f0 c f1 → JoinsAt f1 c' f2
      → IsBack f2 × Ends (map (session_of (documents_of os)) ss) o f2
  place_ends None f1 f2 known splits joins = absurd known
  place_ends (Some p0) None f2 known splits joins = absurd splits
  place_ends (Some p0) (Some p1) None known splits joins = absurd joins
  place_ends (Some p0) (Some p1) (Some p2) known splits joins = (
    back i (documents_of os) o at_place only_there ss c c' p0 p1 p2 known splits serves joins,
    ends i (documents_of os) o at_place only_there ss c c' p0 p1 p2 known splits serves joins,
  )

-- number 0 at all places
pub places_end : (os : List OrderModel) → AreApart os → (ss : List Seat)
    (hs hs' : List Hand) → ((i : ℕ) (o : OrderModel) → slice_get os i ≡ Some o → AllServe i ss (column i hs) (column i hs'))
    → (fs0 fs1 fs2 : List (Option (Pass Item))) → AllZip KnowsFirst os fs0 → ((i : ℕ) → SplitsAt (pass_at i fs0) (column i hs) (pass_at i fs1))
    → ((i : ℕ) → JoinsAt (pass_at i fs1) (column i hs') (pass_at i fs2)) → length os ≡ length fs2
    → AreBack fs2 × AllZip (Ends (map (session_of (documents_of os)) ss)) os fs2
places_end os apart ss hs hs' serves fs0 fs1 fs2 known splits joins size =
    let at : (i : ℕ) (o : OrderModel) → slice_get os i ≡ Some o
    → IsBack (pass_at i fs2) × Ends (map (session_of (documents_of os)) ss) o (pass_at i fs2) =
    λ i o there. place_ends os apart i o there ss (column i hs) (column i hs') (serves i o there) (pass_at i fs0) (pass_at i fs1) (pass_at i fs2)
    (both_at KnowsFirst os fs0 known i o there) (splits i) (joins i) in (
      all_back os fs2 (both_of (λ o p. IsBack p) os fs2 size (λ i o there. (at i o there).0)),
      both_of (Ends (map (session_of (documents_of os)) ss)) os fs2 size (λ i o there. (at i o there).1),
    )

-- the sessions of locks, once their passes were joined back
pub ending : {T : Type 0} {gs : Ghosts T} (turns : List (Turn (Desk T gs) Item)) (documents : List (List ℕ))
    (orders : List OrderModel) → AreApart orders → documents ≡ documents_of (reverse orders) → length documents ≡ length turns → (hs hs' : List Hand)
    (fs0 fs1 fs2 : List (Option (Pass Item))) → AllZip KnowsFirst (reverse orders) fs0 → AllHands (HavePasses turns) hs → AllZip HasFirst turns fs2
    → ((i : ℕ) → SplitsAt (pass_at i fs0) (column i hs) (pass_at i fs1)) → ((i : ℕ) → JoinsAt (pass_at i fs1) (column i hs') (pass_at i fs2)) → (old new : NetTold) (n : ℕ)
    (result : Result (Unit {0}) ServeFault) → n ≡ length hs → (AllHands LogsBegin hs → IsCrowd turns documents hs hs' old new result)
    → AreEnding orders fs2 old new n result
ending turns documents orders apart documents_are size hs hs' fs0 fs1 fs2 known may first splits joins old new n result count crowd =
    let os = reverse orders in
    let same : length documents ≡ length os = ap (λ (l : List (List ℕ)). length l) documents_are ∙ length-map os (λ (o : OrderModel). o.genesis.document) in
    let size' : length turns ≡ length os = omega (arith, size, same) in
    let both = both_length HasFirst turns fs2 first in
    let size2 : length os ≡ length fs2 = omega (arith, size', both) in
    let seen = logs_begin os turns size' hs may (λ i o at. seen_first o (pass_at i fs0) (pass_at i fs1) (column i hs) (both_at KnowsFirst os fs0 known i o at) (splits i)) in
    let there = subst (λ (ds : List (List ℕ)). IsCrowd turns ds hs hs' old new result) documents_are (crowd seen) in
    let vs = there.0 in
    let c = there.1 in
    let ss = seats_of turns (documents_of os) vs hs hs' c.sit in
    let sessions = map (session_of (documents_of os)) ss in
    let visits : vs ≡ visits_of sessions = sym (seats_visits turns (documents_of os) vs hs hs' c.sit) in
    let end = places_end os (apart_reverse orders apart) ss hs hs'
    (λ i o at. (let t = same_place os turns i o (sym size') at in all_serve turns (documents_of os) i t.0 t.1 vs hs hs' c.sit)) fs0 fs1 fs2 known
    splits joins size2 in (
      sessions,
      record {
        bound = all_bound turns orders vs hs hs' c.sit;
        back = end.0;
        ends = end.1;
        links = subst₂ (λ (m : ℕ) (x : List Visit). TookLinks old new m result x) (sym count) visits c.links;
      },
    )
