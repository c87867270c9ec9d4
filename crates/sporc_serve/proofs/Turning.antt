-- One turn of a session.
use Rattle.std.proofs.Common.{◌≡◌, ℕ, Bool, List, [], ◌∷◌, ◌++◌, length, drop, Result, Ok, Err, OnOk, OnErr, IfOk, IfErr, refl, ap, sym, subst, ◌∙◌, append-nil, All}
use Rattle.sporc_serve.proofs.Common.{drop_at, Genesis, ToServer, OrderModel, step_of, Reply, Says, Known, MAX_TICKETS, known_held, IsSameTurn, StartsWith, Agrees, Extends, adding, seeing, SessionEnd}
use Rattle.sporc_serve.proofs.Common.{Worn, Item, Placed, by_of, log_of, order_at, placed_by, added_of, if_answered, IsLogOf, IsTurnEnd, SeesAndAdds, TakesTurn, end_of}
use Rattle.std.proofs.lemmas.List.Elements.{All-nil, All-cons}
use Rattle.sporc_order.specs.declared.tail.Unanswered.{Unanswered}
use Rattle.sporc_order.specs.declared.tail.Unanswered.TheVariants as unanswered
use Rattle.sporc_turn.specs.declared.kept.Kept.{Ghosts}
use Rattle.sporc_turn.specs.declared.held.Held.{Held}
use Rattle.sporc_serve.proofs.Logs.{order_is}

pub starts_log : (g : Genesis) (log seen : List Item) → StartsWith log seen → IsLogOf g seen → IsLogOf g log
starts_log g log seen starts is = (is.0 ++ starts.0, starts.1 ∙ ap (λ (l : List Item). l ++ starts.0) is.1)

pub by-placed_by : (n : ℕ) (es : List (List ℕ)) → All (λ (e : Item). by_of e ≡ n) (placed_by n es)
by-placed_by n [] = All-nil (λ (e : Item). by_of e ≡ n)
by-placed_by n (e ∷ es) = All-cons (λ (x : Item). by_of x ≡ n) (Placed n e) (placed_by n es) refl (by-placed_by n es)

-- what a turn gives back goes on with items of the pass
pub extends_placed : (k : Known Item) (found log : List Item) (es : List (List ℕ)) → log ≡ found ++ placed_by k.number es
    → Extends by_of (seeing k found) log
extends_placed k found log es is = record { more = placed_by k.number es; log_is = is; by_this = by-placed_by k.number es }

adds_items : (k k' : Known Item) (found log items : List Item) → StartsWith found k.seen → log ≡ found ++ items
    → k' ≡ adding (seeing k found) log → SeesAndAdds k k' found items
adds_items k k' found log items begins more is = record {
  begins = begins;
  seen = ap (λ (x : Known Item). x.seen) is ∙ more;
  mine = ap (λ (x : Known Item). x.mine) is ∙ ap (λ (l : List Item). k.mine ++ drop (length found) l) more
      ∙ ap (λ (l : List Item). k.mine ++ l) (drop_at found items (length found) refl);
  number = ap (λ (x : Known Item). x.number) is;
  start = ap (λ (x : Known Item). x.start) is;
}

pub turn_answers : (g : Genesis) (k k' : Known Item) (s s' : Bool) (m : ToServer) (r : Reply) (o : OrderModel) (ns : List ℕ) (log : List Item)
    → IsLogOf g k.seen → Agrees by_of k (log_of o ns) → length ns ≡ length o.entries
    → Says (step_of o s m).answer r → s' ≡ (step_of o s m).is_greeted → log ≡ log_of o ns ++ placed_by k.number (added_of o s m)
    → k' ≡ adding (seeing k (log_of o ns)) log → TakesTurn g k k' s s' m (Ok r)
turn_answers g k k' s s' m r o ns log seen agrees same says greeted more is =
    let found = log_of o ns in
    let at : o ≡ order_at g found = order_is g o ns same (starts_log g found k.seen agrees.begins seen) in (
      (step_of o s m).answer,
      found,
      record {
        answer_is = ap (λ (x : OrderModel). (step_of x s m).answer) at;
        greeted_is = greeted ∙ ap (λ (x : OrderModel). (step_of x s m).is_greeted) at;
        adds = adds_items k k' found log (placed_by k.number (added_of (order_at g found) s m)) agrees.begins
            (more ∙ ap (λ (x : OrderModel). found ++ placed_by k.number (added_of x s m)) at) is;
      },
      says,
    )

pub turn_unanswered : (g : Genesis) (k k' : Known Item) (s s' : Bool) (m : ToServer) (found log : List Item)
    (why : Unanswered) → Agrees by_of k found → s' ≡ s → log ≡ found → k' ≡ adding (seeing k found) log → TakesTurn g k k' s s' m (Err (end_of why))
turn_unanswered g k k' s s' m found log why agrees same more is = (
  found,
  record { greeted_is = same; adds = adds_items k k' found log [] agrees.begins (more ∙ sym (append-nil found)) is },
  elim why as (λ w. IsTurnEnd (end_of w)) [ unanswered.Memory ↦ tt | unanswered.Unkept ↦ tt ],
)

-- no turn was taken
pub adds_none : (k k' : Known Item) → k' ≡ k → SeesAndAdds k k' k.seen []
adds_none k k' is = record {
  begins = ([], sym (append-nil k.seen));
  seen = ap (λ (x : Known Item). x.seen) is ∙ sym (append-nil k.seen);
  mine = ap (λ (x : Known Item). x.mine) is ∙ sym (append-nil k.mine);
  number = ap (λ (x : Known Item). x.number) is;
  start = ap (λ (x : Known Item). x.start) is;
}

pub turn_worn : (g : Genesis) (k k' : Known Item) (s : Bool) (m : ToServer) (ticket : ℕ) → ticket ≡ MAX_TICKETS → k' ≡ k
    → TakesTurn g k k' s s m (Err (Worn ticket))
turn_worn g k k' s m ticket last is = (k.seen, record { greeted_is = refl; adds = adds_none k k' is }, last)

-- what is given back after a turn goes on with items of the pass
pub extends_after : (k kh : Known Item) (found log : List Item) (n : ℕ) (es : List (List ℕ)) → kh ≡ seeing k found → n ≡ k.number
    → log ≡ found ++ placed_by n es → Extends by_of kh log
extends_after k kh found log n es held is more =
    subst (λ (x : Known Item). Extends by_of x log) (sym held)
    (extends_placed k found log es (more ∙ ap (λ (m : ℕ). found ++ placed_by m es) is))

-- a turn, with or without an answer
pub turn_done : (g : Genesis) (k kh k' : Known Item) (s s' : Bool) (m : ToServer) (o : OrderModel) (ns : List ℕ) (log : List Item) (n : ℕ)
    (r : Result Reply Unanswered) (result : Result Reply SessionEnd) → IsLogOf g k.seen → Agrees by_of k (log_of o ns) → length ns ≡ length o.entries
    → n ≡ k.number → IfOk r (Says (step_of o s m).answer) → OnOk r (s' ≡ (step_of o s m).is_greeted) → OnErr r (s' ≡ s)
    → log ≡ log_of o ns ++ placed_by n (if_answered r (added_of o s m)) → kh ≡ seeing k (log_of o ns) → k' ≡ adding kh log
    → IfOk r (λ a. result ≡ Ok a) → IfErr r (λ why. result ≡ Err (end_of why)) → TakesTurn g k k' s s' m result
turn_done g k kh k' s s' m o ns log n (Ok a) result seen agrees same number says greeted kept more held is ok err =
    subst (λ (x : Result Reply SessionEnd). TakesTurn g k k' s s' m x) (sym ok)
    (turn_answers g k k' s s' m a o ns log seen agrees same says greeted
    (more ∙ ap (λ (x : ℕ). log_of o ns ++ placed_by x (added_of o s m)) number) (is ∙ ap (λ (x : Known Item). adding x log) held))
turn_done g k kh k' s s' m o ns log n (Err e) result seen agrees same number says greeted kept more held is ok err =
    subst (λ (x : Result Reply SessionEnd). TakesTurn g k k' s s' m x) (sym err)
    (turn_unanswered g k k' s s' m (log_of o ns) log e agrees kept (more ∙ append-nil (log_of o ns)) (is ∙ ap (λ (x : Known Item). adding x log) held))

-- what is known of a pass in the same turn
pub held_is : {S E : Type 0} {gs : Ghosts S E} {k : Known E} (h h' : Held S E gs) → IsSameTurn h h' → known_held h ≡ k → known_held h' ≡ k
held_is h h' same is = cc
