-- What a server did, from what number 0 knew at last.
use Rattle.std.proofs.Common.{◌≡◌, ◌≢◌, ℕ, zero, suc, ◌+◌, ◌≤◌, ◌==◌, List, [], ◌∷◌, ◌-◌, length, drop, replicate, filter, All, Result, refl, ap, sym, subst, ◌∙◌, arith, inl, inr, get_or}
use Rattle.sporc_serve.proofs.Common.{drop_all, length-replicate, NetTold, Genesis, Known, MAX_TICKETS, known_of, IsWorn, StartsWith, Agrees, own, first_known, splitting, copied}
use Rattle.sporc_serve.proofs.Common.{OrderModel, Item, by_of, order_at, placed, IsLogOf, OfDocument, Visit, Visits, TellsOf, IsCrowd, All-head, All-tail}
use Rattle.sporc_serve.proofs.Common.{All-nil, All-cons, ServeFault}
use Rattle.std.proofs.lemmas.Bool.{cases_Bool}
use Rattle.sporc_turn.specs.declared.known.Joined.{Joined}
use Rattle.sporc_turn.specs.declared.pass.Pass.{Pass}
use Rattle.sporc_serve.specs.Served.{log_at_first, Attended, Served, IsServed}
use Rattle.sporc_serve.proofs.Logs.{order_is}
use Rattle.sporc_serve.proofs.Turning.{starts_log}
use Rattle.sporc_serve.proofs.Tracing.{starts_then, starts_same}
use Rattle.sporc_serve.proofs.Links.{links_none, links_before}

-- no item of a list has a number
pub none_of : (n : ℕ) (xs : List Item) → filter (λ e. by_of e == n) xs ≡ [] → All (λ e. by_of e ≢ n) xs
none_of n [] h = All-nil (λ (e : Item). by_of e ≢ n)
none_of n (x ∷ xs) h = elim (cases_Bool (by_of x == n)) [
  | inl is ↦ let clash = rw is at h in absurd cc
  | inr is ↦ All-cons (λ (e : Item). by_of e ≢ n) x xs (λ same. grind (arith, is, same)) (none_of n xs (rw is at h))
]

positive : (n : ℕ) → n ≢ 0 → 1 ≤ n
positive zero h = absurd (h refl)
positive (suc n) h = omega arith

module _ (g : Genesis) where
  -- what number 0 keeps, that it split a pass for each session, and that it joined back each
  visits_keep : (k k' : Known Item) (vs : List Visit) → Visits g k k' vs
      → (k'.number ≡ k.number) × (k'.mine ≡ k.mine) × (k'.start ≡ k.start)
      × (k'.splits + length k.joined ≡ k.splits + length k'.joined) × (k'.splits ≡ k.splits + length vs)
  visits_keep k k' [] is = rw is (refl, refl, refl, refl, omega arith)
  visits_keep k k' (v ∷ vs) h =
      let more = visits_keep (splitting k) h.0 vs h.3 in
      let low : h.0.splits + length k.joined ≡ k.splits + 1 + length h.0.joined = more.3 in
      let count : h.0.splits ≡ k.splits + 1 + length vs = more.4 in
      rw h.5 (more.0, more.1, more.2, omega (arith, low), omega (arith, count))

  begins_first : (k k' : Known Item) (vs : List Visit) → Visits g k k' vs → StartsWith k'.seen k.seen
  begins_first k k' [] is = subst (λ (x : Known Item). StartsWith x.seen k.seen) (sym is) (starts_same k.seen)
  begins_first k k' (v ∷ vs) h = starts_then k.seen h.0.seen k'.seen (begins_first (splitting k) h.0 vs h.3) h.6

  module _ (start log : List Item) where
    -- each session's items are those of the log with its number
    attended : (k k' : Known Item) (vs : List Visit) → Visits g k k' vs → StartsWith log k'.seen
        → All (λ (j : Joined Item). own by_of j.number (length start) log ≡ j.items) k'.joined → StartsWith k.seen start
        → Attended g start log (k.splits + 1) vs
    attended k k' [] is seen owns begins = tt
    attended k k' (v ∷ vs) h seen owns begins =
        let rest = h.0 in
        let last = h.1 in
        let owns' : All (λ (j : Joined Item). own by_of j.number (length start) log ≡ j.items) (record { number = last.number; items = last.mine } ∷ rest.joined) =
        subst (λ (x : Known Item). All (λ (j : Joined Item). own by_of j.number (length start) log ≡ j.items) x.joined) h.5 owns in
        let here = All-head (λ (j : Joined Item). own by_of j.number (length start) log ≡ j.items) (record { number = last.number; items = last.mine }) rest.joined owns' in
        let there = All-tail (λ (j : Joined Item). own by_of j.number (length start) log ≡ j.items) (record { number = last.number; items = last.mine }) rest.joined owns' in (
          copied k,
          last,
          record {
            number_is = refl;
            none = refl;
            begins = begins;
            session = h.2;
            known = starts_then last.seen k'.seen log h.7 seen;
            own_are = subst (λ (n : ℕ). own by_of n (length start) log ≡ last.mine) h.4 here;
          },
          attended (splitting k) rest vs h.3 (starts_then rest.seen k'.seen log h.6 seen) there begins,
        )

pub served : (o : OrderModel) (after : OrderModel) (k : Known Item) (vs : List Visit)
    (log : List Item) → Visits o.genesis (first_known (log_at_first o)) k vs → log ≡ k.seen → Agrees by_of k log
    → after ≡ order_at o.genesis log → Served o after vs log
served o after k vs log h is agrees at =
    let first = first_known (log_at_first o) in
    let keep = visits_keep o.genesis first k vs h in
    let n = length (log_at_first o) in
    let zero' : k.number ≡ 0 = keep.0 in
    let same : k.start ≡ n = keep.2 in
    let count : k.splits ≡ 0 + length vs = keep.4 in
    let none : own by_of 0 n log ≡ [] = subst (λ (z : ℕ × ℕ). own by_of z.0 z.1 log ≡ []) (λ i. (zero' i, same i)) (agrees.mine ∙ keep.1) in
    let owns = subst (λ (s : ℕ). All (λ (j : Joined Item). own by_of j.number s log ≡ j.items) k.joined) same (agrees.joined zero') in
    let numbers = subst (λ (s : ℕ). All (λ e. by_of e ≤ k.splits) (drop s log)) same (agrees.numbers zero') in
    let others = none_of 0 (drop n log) none in
    record {
      order_is = at;
      begins = starts_then (log_at_first o) k.seen log (begins_first o.genesis first k vs h) (subst (λ (l : List Item). StartsWith l k.seen) (sym is) (starts_same k.seen));
      sessions = attended o.genesis (log_at_first o) log first k vs h (subst (λ (l : List Item). StartsWith l k.seen) (sym is) (starts_same k.seen)) owns (starts_same (log_at_first o));
      numbered = λ i d lt. (positive (by_of (get_or (drop n log) i d)) (others i d lt), (let high = numbers i d lt in omega (arith, count, high)));
    }

-- the first log is of the order's document, and its entries are the order's
pub first_is : (o : OrderModel) → o ≡ order_at o.genesis (log_at_first o)
first_is o =
    order_is o.genesis o (replicate (length o.entries) 0) (length-replicate (length o.entries) 0) (placed (replicate (length o.entries) 0) o.entries, refl)

module _ (o : OrderModel) where
  -- no session began
  pub serves_none : (after : OrderModel) (old new : NetTold) (n : ℕ) (result : Result (Unit {0}) ServeFault) → after ≡ o → new.coming ≡ old.coming
      → new.returned ≡ old.returned → TellsOf n old.faults new.faults [] result → IsServed o after old new n result
  serves_none after old new n result same coming returned tells = (
    [],
    log_at_first o,
    record {
      served = record {
        order_is = same ∙ first_is o;
        begins = starts_same (log_at_first o);
        sessions = tt;
        numbered = subst (λ (l : List Item). All (λ e. (1 ≤ by_of e) × (by_of e ≤ 0)) l) (sym (drop_all (length (log_at_first o)) (log_at_first o) (omega arith)))
            (All-nil (λ e. (1 ≤ by_of e) × (by_of e ≤ 0)));
      };
      links = links_none old new n result coming returned tells;
      worn = λ ticket h. absurd h;
    },
  )

  module _ (k : Known Item) (vs : List Visit) (visits : Visits o.genesis (first_known (log_at_first o)) k vs) where
    -- each pass that was split was joined back
    all_back : k.splits - length k.joined ≡ 0
    all_back =
        let h = (visits_keep o.genesis (first_known (log_at_first o)) k vs visits).3 in
        let same : k.splits + 0 ≡ 0 + length k.joined = h in
        omega (arith, same)

  module _ (k0 k : Known Item) (read : ℕ) (old mid new : NetTold) (n : ℕ) (result : Result (Unit {0}) ServeFault) (is0 : k0 ≡ first_known (log_at_first o))
      (crowd : OfDocument k0.seen (λ g. IsCrowd g k0 k read mid new n result)) where
    -- the crowd's part of it
    crowd_first : IsCrowd o.genesis (first_known (log_at_first o)) k read mid new n result
    crowd_first =
        subst (λ (x : Known Item). OfDocument x.seen (λ g. IsCrowd g x k read mid new n result)) is0 crowd
        o.genesis (placed (replicate (length o.entries) 0) o.entries, refl)

    -- no pass is out
    pub none_out : k.splits - length k.joined ≡ 0
    none_out = all_back k crowd_first.0 crowd_first.1.visits_are

    -- the sessions, once the lock is closed
    pub serves : (after : OrderModel) → ((genesis : Genesis) → IsLogOf genesis k.seen → after ≡ order_at genesis k.seen) → Agrees by_of k k.seen
        → mid.coming ≡ old.coming → mid.returned ≡ old.returned → old.faults ≤ mid.faults
        → (MAX_TICKETS ≤ read → (pass : Pass Item) × (k ≡ known_of pass) × IsWorn pass) → IsServed o after old new n result
    serves after closes agrees coming returned le worn =
        let c = crowd_first.1 in
        let vs = crowd_first.0 in
        let begins = begins_first o.genesis (first_known (log_at_first o)) k vs c.visits_are in
        let of_it : IsLogOf o.genesis k.seen = starts_log o.genesis k.seen (log_at_first o) begins (placed (replicate (length o.entries) 0) o.entries, refl) in (
          vs,
          k.seen,
          record {
            served = served o after k vs k.seen c.visits_are refl agrees (closes o.genesis of_it);
            links = links_before old mid new n result vs c.links coming returned le;
            worn = λ ticket w. (let t = worn (c.worn ticket w) in (t.0, ap (λ (x : Known Item). x.seen) (sym t.1), t.2));
          },
        )
