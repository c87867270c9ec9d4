-- A session of many documents.
use Rattle.std.proofs.Common.{◌≡◌, ◌∙◌, ℕ, zero, suc, ◌<◌, false, List, [], ◌∷◌, length, set, Option, Some, Ok, slice_index_or, refl, ap, sym, subst, subst₂, arith}
use Rattle.sporc_docs.proofs.Common.{Shuts, StreamTold, Known, ToServer, Unread, stream_of, next, Ghosts, SessionEnd, inlet_at, ReadsFirst, IsLogOf, ServerStand, stand, stand_at, Leads, visit}
use Rattle.sporc_docs.proofs.Common.{IsServedSession, Pass, Turn, Desk, Item, IsOther, HavePasses, pass_at, Became, Genesis}
use Rattle.std.specs.Io.KnownBytes.{Consumes}
use Rattle.std.proofs.KnownBytes.{Consumes-nil}
use Rattle.sporc_wire.specs.ToServer.{to_server_of}
use Rattle.sporc_serve.proofs.Going.{kept}
use Rattle.sporc_serve.proofs.Stepping.{session_ended}
use Rattle.sporc_serve.proofs.Waiting.{trace_waits}

-- ---- passes of many locks

pub have_length : {T : Type 0} {gs : Ghosts T} (ts : List (Turn (Desk T gs) Item)) (ps : List (Option (Pass Item))) → HavePasses ts ps → length ps ≡ length ts
have_length [] [] h = refl
have_length (t ∷ ts) (p ∷ ps) h = ap suc (have_length ts ps h.1)
have_length ts ps h = absurd h

pub have_at : {T : Type 0} {gs : Ghosts T} (ts : List (Turn (Desk T gs) Item)) (ps : List (Option (Pass Item))) (i : ℕ) (t : Turn (Desk T gs) Item) (p : Option (Pass Item)) → HavePasses ts ps → i < length ts
    → t ≡ slice_index_or ts i t → p ≡ slice_index_or ps i p → IsOther t p
have_at [] ps i t p h within t_is p_is = absurd (omega (arith, within))
have_at (t0 ∷ ts) [] i t p h within t_is p_is = absurd h
have_at {T} {gs} (t0 ∷ ts) (p0 ∷ ps) zero t p h within t_is p_is =
    subst (λ (x : Turn (Desk T gs) Item). IsOther x p) (sym t_is) (subst (λ (x : Option (Pass Item)). IsOther t0 x) (sym p_is) h.0)
have_at (t0 ∷ ts) (p0 ∷ ps) (suc i) t p h within t_is p_is = have_at ts ps i t p h.1 (omega (arith, within)) t_is p_is

pub have_set : {T : Type 0} {gs : Ghosts T} (ts : List (Turn (Desk T gs) Item)) (ps : List (Option (Pass Item))) (i : ℕ) (t : Turn (Desk T gs) Item) (p : Option (Pass Item)) → HavePasses ts ps → i < length ts
    → t ≡ slice_index_or ts i t → IsOther t p → HavePasses ts (set ps i p)
have_set [] ps i t p h within t_is new = absurd (omega (arith, within))
have_set (t0 ∷ ts) [] i t p h within t_is new = absurd h
have_set {T} {gs} (t0 ∷ ts) (p0 ∷ ps) zero t p h within t_is new = (subst (λ (x : Turn (Desk T gs) Item). IsOther x p) t_is new, h.1)
have_set (t0 ∷ ts) (p0 ∷ ps) (suc i) t p h within t_is new = (h.0, have_set ts ps i t p h.1 (omega (arith, within)) t_is new)

-- what a hand has at a place
at_read : (ps : List (Option (Pass Item))) (i : ℕ) (p : Pass Item) (d : Option (Pass Item)) → pass_at i ps ≡ Some p → slice_index_or ps i d ≡ Some p
at_read [] i p d h = absurd cc
at_read (q ∷ qs) zero p d h = h
at_read (q ∷ qs) (suc i) p d h = at_read qs i p d h

at_set_here : (ps : List (Option (Pass Item))) (i : ℕ) (p : Pass Item) (new : Option (Pass Item)) → pass_at i (set ps i new) ≡ Some p → new ≡ Some p
at_set_here [] i p new h = absurd cc
at_set_here (q ∷ qs) zero p new h = h
at_set_here (q ∷ qs) (suc i) p new h = at_set_here qs i p new h

at_set_elsewhere : (ps : List (Option (Pass Item))) (i j : ℕ) (new : Option (Pass Item)) → ¬ (i ≡ j) → pass_at j (set ps i new) ≡ pass_at j ps
at_set_elsewhere (q ∷ qs) zero zero new apart = absurd (apart refl)
at_set_elsewhere (q ∷ qs) (suc i) (suc j) new apart = at_set_elsewhere qs i j new (λ same. apart (ap suc same))
at_set_elsewhere ps i j new apart = refl

-- what became of a pass at its place, and at any other
pub became_here : (how : Pass Item → Pass Item → Type 0) (ps : List (Option (Pass Item))) (i : ℕ) (old new : Option (Pass Item)) (p p' : Pass Item)
    → old ≡ slice_index_or ps i old → pass_at i ps ≡ Some p → pass_at i (set ps i new) ≡ Some p' → Became how old new → how p p'
became_here how ps i old new p p' read at_old at_new h =
    let old_is : old ≡ Some p = read ∙ at_read ps i p old at_old in
    let new_is : new ≡ Some p' = at_set_here ps i p' new at_new in
    subst₂ (λ (x y : Option (Pass Item)). Became how x y) old_is new_is h

pub kept_elsewhere : (ps : List (Option (Pass Item))) (i j : ℕ) (new : Option (Pass Item)) (p p' : Pass Item) → ¬ (i ≡ j) → pass_at j ps ≡ Some p
    → pass_at j (set ps i new) ≡ Some p' → p' ≡ p
kept_elsewhere ps i j new p p' apart at_old at_new = let same = at_set_elsewhere ps i j new apart in cc

-- ---- a session whose first message names its document

module _ (before mid link after : StreamTold) (unread unread' : Unread) (m : ToServer)
    (first : ReadsFirst (inlet_at before unread) (inlet_at mid unread') (Ok m)) (same : mid.written ≡ before.written)
    (as_shut : mid.is_shut ≡ before.is_shut) (as_shut' : link.is_shut ≡ mid.is_shut) (shuts : Shuts (record { before = link; after = after })) where
  pub serves_from : (g : Genesis) (k k' : Known Item) (end : SessionEnd) → IsLogOf g k.seen
      → ((u : Unread) → (next to_server_of u).answer ≡ Ok (Some m) → unread' ≡ (next to_server_of u).after
      → Leads (stand_at k mid u false) (stand_at k' link (stream_of []) false) (Some end))
      → IsServedSession g k k' (visit before after end)
  serves_from g k k' end log goes =
      let came = first.0 in
      let bytes = first.1 in
      let found = first.4 in
      let a : ServerStand = stand_at k before (stream_of []) false in
      let b : ServerStand = stand k came.left before.written came.faults came.unread false in
      let trace = kept g a b bytes [] (trace_waits g k before.written (inlet_at before unread) came bytes first.2) mid.left mid.faults mid.written
      (subst (λ (l : Option (List ℕ)). Consumes came.left l []) (sym found.left) (Consumes-nil came.left)) first.3 same in
      session_ended g k k' before link after (stream_of []) false end
      (goes came.unread found.answer found.unread g a bytes [] log trace) (as_shut' ∙ as_shut) shuts
