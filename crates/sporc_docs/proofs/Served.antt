-- Orders, before and after.
use Rattle.std.proofs.Common.{◌≡◌, ◌∙◌, ℕ, ◌+◌, ◌<◌, ◌≤◌, ◌^◌, Bool, List, [], ◌∷◌, ◌++◌, length, reverse, replicate, cond, find, false, length-append, ◌-◌, is_err, Ok, Err, OnOk, All, Option, Some, None, Result, refl, ap, sym, subst, arith}
use Rattle.sporc_docs.proofs.Common.{drop_all, reverse-reverse, length-reverse, length-map, NetTold, Known, Pass, known_of, OrderModel, Ghosts, ServeFault, Item, by_of, order_at, placed}
use Rattle.sporc_docs.proofs.Common.{log_at_first, TellsOf, AllZip, HasFirst, HaveRoom, list_of, is_of, AreApart, KnowsFirst, AreOpen, AreBack, Closes, Ends}
use Rattle.sporc_docs.proofs.Common.{AreEnding, Session, visits_of, IsOneOf, IsServedDocument, AreServed, as_served, All-nil, starts_same, first_is, links_none, links_before, Locks}
use Rattle.sporc_docs.specs.declared.fault.DocsServeFault.{DocsServeFault}
use Rattle.sporc_docs.specs.declared.fault.DocsServeFault.TheVariants as faults'
use Rattle.sporc_serve.specs.declared.fault.ServeFault.TheVariants as faults
use Rattle.sporc_docs.proofs.Places.{none_parts}
use Rattle.sporc_docs.proofs.Opening.{both_append, both_reverse, both_length}

both_join : {A B C : Type 0} (R : A → B → Type 0) (S : B → C → Type 0) (T : A → C → Type 0) → ((x : A) (y : B) (z : C) → R x y → S y z → T x z) → (xs : List A) (ys : List B) (zs : List C)
    → AllZip R xs ys → AllZip S ys zs → AllZip T xs zs
both_join R S T then [] [] [] r s = tt
both_join R S T then [] (y ∷ ys) zs r s = absurd r
both_join R S T then (x ∷ xs) [] zs r s = absurd r
both_join R S T then (x ∷ xs) (y ∷ ys) (z ∷ zs) r s = (then x y z r.0 s.0, both_join R S T then xs ys zs r.1 s.1)
both_join R S T then xs ys zs r s = absurd s

-- room for the splits of a lock that was opened
pub room_first : (os : List OrderModel) (ps : List (Option (Pass Item))) (n : ℕ) → n < 2 ^ 32 → AllZip KnowsFirst os ps → HaveRoom n ps
room_first [] [] n few h = tt
room_first (o ∷ os) (None ∷ ps) n few h = absurd h.0
room_first (o ∷ os) (Some p ∷ ps) n few h =
    let none : (known_of p).splits ≡ 0 = ap (λ (k : Known Item). k.splits) h.0 in
    (omega (arith, none, few), room_first os ps n few h.1)
room_first os ps n few h = absurd h

-- as many of each
pub open_lengths : {T : Type 0} {gs : Ghosts T} (os : List OrderModel) (locks : Locks T gs) → AreOpen os locks → (length locks.documents.items ≡ length os) × (length locks.turns.items ≡ length os)
open_lengths os locks are =
    let firsts = both_length HasFirst locks.turns.items locks.firsts.items are.firsts in
    let known = both_length KnowsFirst os locks.firsts.items are.known in
    (ap (λ (l : List (List ℕ)). length l) are.documents_are ∙ length-map os (λ (o : OrderModel). o.genesis.document), firsts ∙ sym known)

unserved : (o : OrderModel) → IsServedDocument [] o o
unserved o = (
  log_at_first o,
  record {
    order_is = first_is o;
    begins = starts_same (log_at_first o);
    attend = tt;
    numbered = subst (λ (l : List Item). All (λ e. IsOneOf o.genesis.document 1 [] (by_of e)) l) (sym (drop_all (length (log_at_first o)) (log_at_first o) (omega arith)))
        (All-nil (λ e. IsOneOf o.genesis.document 1 [] (by_of e)));
  },
)

all_unserved : (os : List OrderModel) → AllZip (IsServedDocument []) os os
all_unserved [] = tt
all_unserved (o ∷ os) = (unserved o, all_unserved os)

-- a lock that is closed as it was opened
closed_unserved : (o : OrderModel) (p : Option (Pass Item)) (o' : OrderModel) → KnowsFirst o p → Closes p o' → IsServedDocument [] o o'
closed_unserved o None o' known closes = absurd known
closed_unserved o (Some p) o' known closes =
    let seen : (known_of p).seen ≡ log_at_first o = ap (λ (k : Known Item). k.seen) known in
    let is : o' ≡ order_at o.genesis (known_of p).seen = closes.1 o.genesis (placed (replicate (length o.entries) 0) o.entries, seen) in
    let same : o' ≡ o = is ∙ ap (order_at o.genesis) seen ∙ sym (first_is o) in
    subst (λ (x : OrderModel). IsServedDocument [] o x) (sym same) (unserved o)

module _ (old new : NetTold) (n : ℕ) (result : Result (Unit {0}) ServeFault) where
  none_served : (os os' : List OrderModel) → AllZip (IsServedDocument []) os os' → new.coming ≡ old.coming → new.returned ≡ old.returned
      → TellsOf n old.faults new.faults [] result → AreServed os os' old new n result
  none_served os os' served coming returned tells = (
    [],
    record {
      bound = tt;
      served = served;
      links = links_none old new n result coming returned tells;
    },
  )

  -- no lock was opened
  pub serves_none : (os : List OrderModel) → new.coming ≡ old.coming → new.returned ≡ old.returned → TellsOf n old.faults new.faults [] result
      → AreServed os os old new n result
  serves_none os coming returned tells = none_served os os (all_unserved os) coming returned tells

  -- some locks were opened, and closed again
  pub serves_opened : {T : Type 0} {gs : Ghosts T} (all all' rest opened back : List OrderModel) (locks : Locks T gs) → AreOpen opened locks → all ≡ rest ++ reverse opened → all' ≡ rest ++ reverse back
      → AllZip Closes locks.firsts.items back → new.coming ≡ old.coming → new.returned ≡ old.returned → TellsOf n old.faults new.faults [] result
      → AreServed all all' old new n result
  serves_opened all all' rest opened back locks are is is' closes coming returned tells =
      let R = IsServedDocument [] in
      let each = both_join KnowsFirst Closes R (λ o p o' k c. closed_unserved o p o' k c) opened locks.firsts.items back are.known closes in
      none_served all all'
      (subst (λ (z : List OrderModel × List OrderModel). AllZip R z.0 z.1) (λ i. (sym is i, sym is' i))
      (both_append R rest (reverse opened) rest (reverse back) (all_unserved rest) (both_reverse R opened back each))) coming returned tells

  -- all were opened, and served
  pub serves_all : (all all' back : List OrderModel) (firsts : List (Option (Pass Item))) → AreEnding all firsts old new n result
      → all' ≡ reverse back → AllZip Closes firsts back → AreServed all all' old new n result
  serves_all all all' back firsts ending is closes =
      let ss = ending.0 in
      let e = ending.1 in
      let R = IsServedDocument ss in
      let each = both_join (Ends ss) Closes R (λ o p o' h c. h o' c) (reverse all) firsts back e.ends closes in
      let turned = subst (λ (l : List OrderModel). AllZip R l (reverse back)) (reverse-reverse all) (both_reverse R (reverse all) back each) in (
        ss,
        record {
          bound = e.bound;
          served = subst (λ (l : List OrderModel). AllZip R all l) (sym is) turned;
          links = e.links;
        },
      )

-- and so it is of the net before it listened
pub serves_before : (old mid new : NetTold) (n : ℕ)
    (result : Result (Unit {0}) ServeFault) (os os' : List OrderModel) → AreServed os os' mid new n result → mid.coming ≡ old.coming
    → mid.returned ≡ old.returned → old.faults ≤ mid.faults → AreServed os os' old new n result
serves_before old mid new n result os os' served coming returned le =
    let s = served.1 in
    (served.0, record { bound = s.bound; served = s.served; links = links_before old mid new n result (visits_of served.0) s.links coming returned le })

-- ---- opening and closing

-- no pass was split from a lock that was opened
pub opened_back : (os : List OrderModel) (ps : List (Option (Pass Item))) → AllZip KnowsFirst os ps → AreBack ps
opened_back [] [] h = tt
opened_back (o ∷ os) (None ∷ ps) h = absurd h.0
opened_back (o ∷ os) (Some p ∷ ps) h =
    (ap (λ (k : Known Item). k.splits - length k.joined) h.0, opened_back os ps h.1)
opened_back os ps h = absurd h

-- all orders were opened
pub opened_all : (all rest opened : List OrderModel) → rest ≡ [] → all ≡ rest ++ reverse opened → (opened ≡ reverse all) × (length opened ≡ length all)
opened_all all rest opened none is =
    let turned : all ≡ reverse opened = is ∙ ap (λ (l : List OrderModel). l ++ reverse opened) none in
    (sym (reverse-reverse opened) ∙ ap (λ (l : List OrderModel). reverse l) (sym turned), sym (length-reverse opened) ∙ sym (ap (λ (l : List OrderModel). length l) turned))

-- there is room for the orders that come back
pub room_back : {T : Type 0} {gs : Ghosts T} (all rest opened : List OrderModel) (locks : Locks T gs) → all ≡ rest ++ reverse opened → AreOpen opened locks → (n m k cap cap' : ℕ) → n ≡ length all → m ≡ length rest
    → k ≡ length locks.turns.items → n ≤ cap → cap' ≡ cap → m + k ≤ cap'
room_back all rest opened locks is are n m k cap cap' all_n rest_m turns_k within same =
    let total : length all ≡ length rest + length (reverse opened) = ap (λ (l : List OrderModel). length l) is ∙ length-append rest (reverse opened) in
    let turned = length-reverse opened in
    let turns = (open_lengths opened locks are).1 in
    omega (arith, total, turned, turns, all_n, rest_m, turns_k, within, same)

-- what holds where all went well
pub ok_then : {E : Type 0} (r : Result (Unit {0}) E) (b : Bool) (A : Type 0) → b ≡ is_err r → b ≡ false → OnOk r A → A
ok_then (Ok done) b A is fine h = h
ok_then (Err e) b A is fine h = absurd cc

-- ---- the documents stay the same

module _ (ss : List Session) where
  none_kept : (os os' : List OrderModel) → AllZip (IsServedDocument ss) os os' → (d : List ℕ) → list_of os d ≡ None → list_of os' d ≡ None
  none_kept [] [] h d none = refl
  none_kept (o ∷ os) (o' ∷ os') h d none =
      let parts = none_parts (is_of d o) o (find (is_of d) os) none in
      ap (λ (b : Bool). cond b (Some o') (find (is_of d) os')) (ap (λ (x : OrderModel). is_of d x) h.0.1.order_is ∙ parts.0) ∙ none_kept os os' h.1 d parts.1
  none_kept os os' h d none = absurd h

  pub apart_kept : (os os' : List OrderModel) → AllZip (IsServedDocument ss) os os' → AreApart os → AreApart os'
  apart_kept [] [] h are = tt
  apart_kept (o ∷ os) (o' ∷ os') h are =
      let same : o'.genesis.document ≡ o.genesis.document = ap (λ (x : OrderModel). x.genesis.document) h.0.1.order_is in
      (subst (λ (d : List ℕ). list_of os' d ≡ None) (sym same) (none_kept os os' h.1 o.genesis.document are.0), apart_kept os os' h.1 are.1)
  apart_kept os os' h are = absurd h

-- only one fault of many documents is told of the net
pub listen_told : (r : Result (Unit {0}) DocsServeFault) → as_served r ≡ Err faults.ListenFault → r ≡ Err faults'.ListenFault
listen_told (Ok done) e = let no : ◌≡◌ {A = Result (Unit {0}) ServeFault} (Ok done) (Err faults.ListenFault) = e in absurd cc
listen_told (Err faults'.ListenFault) e = refl
listen_told (Err (faults'.Worn ticket)) e = let no : ◌≡◌ {A = Result (Unit {0}) ServeFault} (Err (faults.Worn ticket)) (Err faults.ListenFault) = e in absurd cc
listen_told (Err faults'.Memory) e = let no : ◌≡◌ {A = Result (Unit {0}) ServeFault} (Err faults.Memory) (Err faults.ListenFault) = e in absurd cc
listen_told (Err faults'.Unkept) e = let no : ◌≡◌ {A = Result (Unit {0}) ServeFault} (Err faults.Unkept) (Err faults.ListenFault) = e in absurd cc
