-- The passes of one lock: number 0, those that were split from it, and the sessions that had them.
use Rattle.std.proofs.Common.{◌≡◌, ◌≢◌, ◌∙◌, ℕ, suc, ◌+◌, ◌≤◌, ◌<◌, List, [], ◌∷◌, length, drop, map, replicate, All, Option, Some, None, get_or, slice_get, refl, ap, sym, subst, arith, inl, inr}
use Rattle.sporc_docs.proofs.Common.{Known, Pass, first_known, splitting, known_of, read_of, OrderModel, SessionEnd, Item, by_of, placed, IsLogOf, IsWornAt, log_at_first, Visit, Splits, Joins, IsBack}
use Rattle.sporc_docs.proofs.Common.{Ends, Session, IsOneOf, AttendsDocument, AttendAll, Serves, All-head, All-tail, starts_then, starts_same, none_of}
use Rattle.std.proofs.lemmas.Bool.{cases_eq}
use Rattle.sporc_base.specs.Lists.{StartsWith}
use Rattle.sporc_turn.specs.declared.known.Joined.{Joined}
use Rattle.sporc_turn.specs.declared.limits.TheConstants.{MAX_TICKETS}
use Rattle.sporc_turn.specs.Log.{own}
use Rattle.sporc_serve.specs.Turns.{HasReadLast}
use Rattle.sporc_serve.proofs.Turning.{starts_log}

-- ---- number 0

-- what number 0 keeps as passes are split from it
pub splits_keep : (k : Known Item) (c : List (Option (Pass Item))) (k' : Known Item) → Splits k c k'
    → (k'.number ≡ k.number) × (k'.mine ≡ k.mine) × (k'.start ≡ k.start) × (k'.seen ≡ k.seen) × (k'.joined ≡ k.joined) × (k'.splits ≡ k.splits + length c)
splits_keep k [] k' is = rw is (refl, refl, refl, refl, refl, omega arith)
splits_keep k (None ∷ qs) k' h = absurd h
splits_keep k (Some q ∷ qs) k' h =
    let more = splits_keep (splitting k) qs k' h.1 in
    let splits : k'.splits ≡ k.splits + 1 + length qs = more.5 in
    (more.0, more.1, more.2, more.3, more.4, omega (arith, splits))

-- what it keeps as they are joined back
pub joins_keep : (p : Pass Item) (c : List (Option (Pass Item))) (p' : Pass Item) → Joins p c p'
    → ((known_of p').number ≡ (known_of p).number) × ((known_of p').mine ≡ (known_of p).mine) × ((known_of p').start ≡ (known_of p).start)
    × ((known_of p').splits ≡ (known_of p).splits) × (length (known_of p').joined ≡ length (known_of p).joined + length c)
    × StartsWith (known_of p').seen (known_of p).seen × (read_of p ≤ read_of p')
joins_keep p [] p' is = rw is (refl, refl, refl, refl, omega arith, starts_same (known_of p).seen, omega arith)
joins_keep p (None ∷ qs) p' h = absurd h
joins_keep p (Some q ∷ qs) p' h =
    let one = h.1 in
    let rest = joins_keep h.0 qs p' h.2 in
    let more = rw one.known_is at rest in
    let total : length (known_of p').joined ≡ suc (length (known_of p).joined) + length qs = more.4 in
    let begins = starts_then (known_of p).seen (known_of h.0).seen (known_of p').seen one.first rest.5 in
    let read = one.read_is in
    let read' = rest.6 in
    (more.0, more.1, more.2, more.3, omega (arith, total), begins, omega (arith, read, read'))

-- what holds of all that were joined holds of those joined before
joined_before : (P : Joined Item → Type 0) (p : Pass Item) (c : List (Option (Pass Item))) (p' : Pass Item) → Joins p c p' → All P (known_of p').joined
    → All P (known_of p).joined
joined_before P p [] p' is all = subst (λ (x : Pass Item). All P (known_of x).joined) is all
joined_before P p (None ∷ qs) p' h all = absurd h
joined_before P p (Some q ∷ qs) p' h all =
    All-tail P (record { number = (known_of q).number; items = (known_of q).mine }) (known_of p).joined
    (subst (λ (k : Known Item). All P k.joined) h.1.known_is (joined_before P h.0 qs p' h.2 all))

-- ---- the passes that were joined back, once the log is known

module _ (start log : List Item) where
  -- the log begins with all that a pass knew, and its items with the pass's number are those that were added by it
  pub record IsIn (q : Pass Item) : Type 0 where
    pub own_are : own by_of (known_of q).number (length start) log ≡ (known_of q).mine
    pub known : StartsWith log (known_of q).seen
    pub worn : MAX_TICKETS ≤ read_of q → IsWornAt log

  abbrev pub AreIn : List (Option (Pass Item)) → Type 0
  AreIn [] = Unit {0}
  AreIn (None ∷ qs) = ⊥
  AreIn (Some q ∷ qs) = IsIn q × AreIn qs

  pub joined_in : (p : Pass Item) (c : List (Option (Pass Item))) (p' : Pass Item) → Joins p c p' → log ≡ (known_of p').seen
      → All (λ (j : Joined Item). own by_of j.number (length start) log ≡ j.items) (known_of p').joined → AreIn c
  joined_in p [] p' is seen owns = tt
  joined_in p (None ∷ qs) p' h seen owns = absurd h
  joined_in p (Some q ∷ qs) p' h seen owns =
      let P : Joined Item → Type 0 = λ j. own by_of j.number (length start) log ≡ j.items in
      let here = subst (λ (k : Known Item). All P k.joined) h.1.known_is (joined_before P h.0 qs p' h.2 owns) in
      let keep = joins_keep h.0 qs p' h.2 in
      let read = h.1.read_is in
      let later = keep.6 in (
        record {
          own_are = All-head P (record { number = (known_of q).number; items = (known_of q).mine }) (known_of p).joined here;
          known = subst (λ (l : List Item). StartsWith l (known_of q).seen) (sym seen)
              (starts_then (known_of q).seen (known_of h.0).seen (known_of p').seen h.1.other keep.5);
          worn = λ low. (p', sym seen, omega (arith, low, read, later));
        },
        joined_in h.0 qs p' h.2 seen owns,
      )

  -- a pass that was never used has no item in the log
  pub idle : (c : List (Option (Pass Item))) (k k' : Known Item) → Splits k c k' → AreIn c → (n : ℕ) → k.splits < n → n ≤ k'.splits → own by_of n (length start) log ≡ []
  idle [] k k' is are n low high = let same = ap (λ (x : Known Item). x.splits) is in absurd (omega (arith, same, low, high))
  idle (None ∷ qs) k k' h are n low high = absurd h
  idle (Some q ∷ qs) k k' h are n low high = elim (cases_eq n (k.splits + 1)) [
    | inl here ↦
        let number : (known_of q).number ≡ n = ap (λ (x : Known Item). x.number) h.0 ∙ sym here in
        rw (← number) (are.0.own_are ∙ ap (λ (x : Known Item). x.mine) h.0)
    | inr apart ↦ idle qs (splitting k) k' h.1 are.1 n (omega (arith, apart, low)) high
  ]

-- ---- the sessions

-- a session, and the place that its first message names
pub record Seat : Type 0 where
  pub visit : Visit
  pub place : Option ℕ

-- the document at a place
abbrev pub document_at : List (List ℕ) → Option ℕ → Option (List ℕ)
document_at documents None = None
document_at documents (Some place) = slice_get documents place

abbrev pub session_of : List (List ℕ) → Seat → Session
session_of documents s = record { visit = s.visit; document = document_at documents s.place }

module _ (i : ℕ) where
  -- what became of the passes for the document at this place
  abbrev pub AllServe : List Seat → List (Option (Pass Item)) → List (Option (Pass Item)) → Type 0
  AllServe [] c c' = c' ≡ c
  AllServe (s ∷ ss) (Some p ∷ c) (Some p' ∷ c') = Serves s.visit s.place i p p' × AllServe ss c c'
  AllServe (s ∷ ss) _ _ = ⊥

  pub serve_length : (ss : List Seat) (c c' : List (Option (Pass Item))) → AllServe ss c c' → length c' ≡ length c
  serve_length [] c c' is = ap (λ (l : List (Option (Pass Item))). length l) is
  serve_length (s ∷ ss) (Some p ∷ c) (Some p' ∷ c') h = ap suc (serve_length ss c c' h.1)
  serve_length (s ∷ ss) c c' h = absurd h

  module _ (documents : List (List ℕ)) (o : OrderModel) (there : slice_get documents i ≡ Some o.genesis.document)
      (apart : (j : ℕ) → slice_get documents j ≡ Some o.genesis.document → j ≡ i) (log : List Item) where
    abbrev start : List Item
    start = log_at_first o

    -- each session that is bound to the document
    attend_all : (ss : List Seat) (c c' : List (Option (Pass Item))) (k k' : Known Item) → AllServe ss c c' → Splits k c k' → k.seen ≡ start → AreIn start log c'
        → AttendAll o.genesis start log (k.splits + 1) (map (session_of documents) ss)
    attend_all [] c c' k k' serves splits seen are = tt
    attend_all (s ∷ ss) (Some p ∷ c) (Some p' ∷ c') k k' serves splits seen are =
        (attends s.place serves.0, attend_all ss c c' (splitting k) k' serves.1 splits.1 seen are.1)
      where
        attends : (place : Option ℕ) → Serves s.visit place i p p' → document_at documents place ≡ Some o.genesis.document
            → (first : Known Item) × (last : Known Item) × AttendsDocument o.genesis start log (k.splits + 1) first last s.visit
        attends None h bound = absurd cc
        attends (Some place) h bound =
            let served = h.0 (apart place bound) in
            let is = splits.0 in
            let begins : (known_of p).seen ≡ start = ap (λ (x : Known Item). x.seen) is ∙ seen in
            let number : (known_of p).number ≡ k.splits + 1 = ap (λ (x : Known Item). x.number) is in
            let log_of_it : IsLogOf o.genesis (known_of p).seen = (placed (replicate (length o.entries) 0) o.entries, begins) in (
              known_of p,
              known_of p',
              record {
                attends = record {
                  number_is = number;
                  none = ap (λ (x : Known Item). x.mine) is;
                  begins = subst (λ (l : List Item). StartsWith l start) (sym begins) (starts_same start);
                  session = served.2 o.genesis log_of_it;
                  known = are.0.known;
                  own_are = subst (λ (n : ℕ). own by_of n (length start) log ≡ (known_of p').mine) (served.0 ∙ number) are.0.own_are;
                };
                worn = λ ticket ended. are.0.worn (subst (λ (e : SessionEnd). HasReadLast (read_of p') e) ended served.1);
              },
            )
    attend_all (s ∷ ss) c c' k k' serves splits seen are = absurd serves

    -- each number that an item has is of a session that is bound to the document
    one_of : (ss : List Seat) (c c' : List (Option (Pass Item))) (k k' : Known Item) → AllServe ss c c' → Splits k c k' → AreIn start log c' → (n : ℕ) → k.splits < n
        → n ≤ k'.splits → own by_of n (length start) log ≢ [] → IsOneOf o.genesis.document (k.splits + 1) (map (session_of documents) ss) n
    one_of [] c c' k k' is splits are n low high some =
        absurd (some (idle start log c k k' splits (subst (AreIn start log) is are) n low high))
    one_of (s ∷ ss) (Some p ∷ c) (Some p' ∷ c') k k' serves splits are n low high some = elim (cases_eq n (k.splits + 1)) [
      | inl here ↦ inl (bound s.place serves.0 here, here)
      | inr other ↦ inr (one_of ss c c' (splitting k) k' serves.1 splits.1 are.1 n (omega (arith, other, low)) high some)
    ]
      where
        none : p' ≡ p → n ≡ k.splits + 1 → own by_of n (length start) log ≡ []
        none same here =
            let number : (known_of p').number ≡ n = ap (λ (x : Pass Item). (known_of x).number) same ∙ ap (λ (x : Known Item). x.number) splits.0 ∙ sym here in
            subst (λ (m : ℕ). own by_of m (length start) log ≡ []) number
            (are.0.own_are ∙ ap (λ (x : Pass Item). (known_of x).mine) same ∙ ap (λ (x : Known Item). x.mine) splits.0)

        bound : (place : Option ℕ) → Serves s.visit place i p p' → n ≡ k.splits + 1
            → document_at documents place ≡ Some o.genesis.document
        bound None h here = absurd (some (none h here))
        bound (Some place) h here = elim (cases_eq place i) [
          | inl same ↦ rw same there
          | inr other ↦ absurd (some (none (h.1 other) here))
        ]
    one_of (s ∷ ss) c c' k k' serves splits are n low high some = absurd serves

  -- number 0 of a lock, once its passes were joined back
  module _ (documents : List (List ℕ)) (o : OrderModel) (there : slice_get documents i ≡ Some o.genesis.document)
      (apart : (j : ℕ) → slice_get documents j ≡ Some o.genesis.document → j ≡ i) (ss : List Seat) (c c' : List (Option (Pass Item))) (p0 p1 p2 : Pass Item)
      (first : known_of p0 ≡ first_known (log_at_first o)) (splits : Splits (known_of p0) c (known_of p1)) (serves : AllServe ss c c') (joins : Joins p1 c' p2) where
    pub back : IsBack (Some p2)
    back =
        let k = splits_keep (known_of p0) c (known_of p1) splits in
        let j = joins_keep p1 c' p2 joins in
        let none : length (known_of p1).joined ≡ 0 = ap (λ (l : List (Joined Item)). length l) k.4 ∙ ap (λ (x : Known Item). length x.joined) first in
        let some : (known_of p0).splits ≡ 0 = ap (λ (x : Known Item). x.splits) first in
        let same = serve_length ss c c' serves in
        let split = k.5 in
        let kept = j.3 in
        let joined = j.4 in
        omega (arith, none, some, same, split, kept, joined)

    pub ends : Ends (map (session_of documents) ss) o (Some p2)
    ends after closes =
        let start' = log_at_first o in
        let log = (known_of p2).seen in
        let k = splits_keep (known_of p0) c (known_of p1) splits in
        let j = joins_keep p1 c' p2 joins in
        let agrees = closes.0 in
        let number : (known_of p2).number ≡ 0 = j.0 ∙ k.0 ∙ ap (λ (x : Known Item). x.number) first in
        let mine : (known_of p2).mine ≡ [] = j.1 ∙ k.1 ∙ ap (λ (x : Known Item). x.mine) first in
        let at : (known_of p2).start ≡ length start' = j.2 ∙ k.2 ∙ ap (λ (x : Known Item). x.start) first in
        let seen0 : (known_of p0).seen ≡ start' = ap (λ (x : Known Item). x.seen) first in
        let begins : StartsWith log start' = subst (λ (l : List Item). StartsWith log l) (k.3 ∙ seen0) j.5 in
        let zero' : (known_of p0).splits ≡ 0 = ap (λ (x : Known Item). x.splits) first in
        let none : own by_of 0 (length start') log ≡ [] = subst (λ (z : ℕ × ℕ). own by_of z.0 z.1 log ≡ []) (λ t. (number t, at t)) (agrees.mine ∙ mine) in
        let owns = subst (λ (s : ℕ). All (λ (e : Joined Item). own by_of e.number s log ≡ e.items) (known_of p2).joined) at (agrees.joined number) in
        let few = subst (λ (s : ℕ). All (λ e. by_of e ≤ (known_of p2).splits) (drop s log)) at (agrees.numbers number) in
        let are = joined_in start' log p1 c' p2 joins refl owns in
        let others = none_of 0 (drop (length start') log) none in
        let items = drop (length start') log in
        let kept = j.3 in (
          log,
          record {
            order_is = closes.1 o.genesis (starts_log o.genesis log start' begins (placed (replicate (length o.entries) 0) o.entries, refl));
            begins = begins;
            attend = subst (λ (n : ℕ). AttendAll o.genesis start' log (n + 1) (map (session_of documents) ss)) zero'
                (attend_all documents o there apart log ss c c' (known_of p0) (known_of p1) serves splits seen0 are);
            numbered = λ x d lt.
                (let n = by_of (get_or items x d) in
                let some : own by_of n (length start') log ≢ [] = λ empty. none_of n items empty x d lt refl in
                let low = others x d lt in
                let high = few x d lt in
                subst (λ (m : ℕ). IsOneOf o.genesis.document (m + 1) (map (session_of documents) ss) n) zero'
                (one_of documents o there apart log ss c c' (known_of p0) (known_of p1) serves splits are n (omega (arith, zero', low)) (omega (arith, high, kept)) some));
          },
        )
