-- Sessions of many documents beside one another.
use Rattle.std.proofs.Common.{◌≡◌, ℕ, suc, ◌≤◌, false, List, [], ◌∷◌, length, Option, Some, None, Result, Ok, Err, slice_get, refl, sym, subst, arith, bytes_eq}
use Rattle.sporc_docs.proofs.Common.{NetTold, StreamTold, Pass, Turn, known_of, stream_of, ToServer, Hello, Ghosts, Desk, SessionEnd, ServeFault, Item, stand_at, Inlet, inlet_at, ReadsFirst, visit}
use Rattle.sporc_docs.proofs.Common.{TellsOf, with_end, Hand, IsCrowd, IsOther, HavePasses, LogsBegin, pass_at, named_by, IsUnboundEnd, Sits}
use Rattle.sporc_docs.proofs.Common.{IsLastTicket, last_ticket, links_more, links_none}
use Rattle.sporc_outside.specs.Told.{AppendsItem, TakesItem, IsFalseIfTold}
use Rattle.sporc_serve.specs.declared.end.SessionEnd.TheVariants.{Worn}
use Rattle.sporc_docs.proofs.Places.{position_found}
use Rattle.sporc_docs.proofs.Ending.{same_place, both_at}

-- a place that is named is within the documents
named_within : (documents : List (List ℕ)) (m : ToServer) (place : ℕ) → named_by documents m ≡ Some place → (d : List ℕ) × (slice_get documents place ≡ Some d)
named_within documents (Hello d member) place h =
    let found = position_found (bytes_eq d) 0 documents place h in
    let from = found.1 in
    let at : place ≡ found.0 = omega (arith, from) in
    (found.2, subst (λ (j : ℕ). slice_get documents j ≡ Some found.2) (sym at) found.3)
named_within documents m place h = absurd cc

has_is : {T : Type 0} {gs : Ghosts T} (t : Turn (Desk T gs) Item) (q : Option (Pass Item)) → IsOther t q → (p : Pass Item) × (q ≡ Some p)
has_is t None h = absurd h
has_is t (Some p) h = (p, refl)

module _ {T : Type 0} {gs : Ghosts T} (turns : List (Turn (Desk T gs) Item)) (documents : List (List ℕ)) where
  first_last : (a b : Inlet) (r : Result ToServer SessionEnd) (end : SessionEnd) → ReadsFirst a b r
      → IsUnboundEnd (named_by documents) r end → IsLastTicket end
  first_last a b (Ok m) end first is = subst IsLastTicket (sym is.1) tt
  first_last a b (Err why) end first is = subst IsLastTicket (sym is) (at why first)
    where
      at : (why : SessionEnd) → ReadsFirst a b (Err why) → IsLastTicket why
      at (Worn ticket) first = absurd first.4
      at why first = tt

  -- a session that ended for want of a ticket did so for want of the last
  sits_last : (h h' : List (Option (Pass Item))) (b a : StreamTold) (end : SessionEnd) → HavePasses turns h → HavePasses turns h'
      → length documents ≡ length turns → LogsBegin h → Sits documents (visit b a end) h h' → IsLastTicket end
  sits_last h h' b a end have have' size logs (None, sits) =
      let u = sits.bound in
      first_last (inlet_at b (stream_of [])) (inlet_at u.0 u.1) u.2 end u.3.first_is u.3.end_is
  sits_last h h' b a end have have' size logs (Some place, sits) =
      let d = named_within documents sits.bound.2 place sits.bound.3.names in
      let t = same_place documents turns place d.0 size d.1 in
      let p = has_is t.0 (pass_at place h) (both_at IsOther turns h have place t.0 t.1) in
      let p' = has_is t.0 (pass_at place h') (both_at IsOther turns h' have' place t.0 t.1) in
      let log = logs place p.0 p.1 in
      let session = ((sits.serves place p.0 p'.0 p.1 p'.1).0 refl).2 log.0 log.1 in
      last_ticket log.0 (stand_at (known_of p.0) b (stream_of []) false)
      (stand_at (known_of p'.0) session.0 (stream_of []) false) end session.1.ends

  -- no session
  pub crowd_none : (hs hs' : List Hand) (old new : NetTold) (result : Result (Unit {0}) ServeFault) → hs' ≡ hs → new.coming ≡ old.coming → new.returned ≡ old.returned
      → TellsOf (length hs) old.faults new.faults [] result → IsCrowd turns documents hs hs' old new result
  crowd_none hs hs' old new result same coming returned tells =
      ([], record { sit = same; links = links_none old new (length hs) result coming returned tells })

  -- a link came and was served beside the others
  pub crowd_more : (h h' : Hand) (hs hs' : List Hand) (b a : StreamTold) (end : SessionEnd) (old mid low new : NetTold)
      (result result' : Result (Unit {0}) ServeFault) → HavePasses turns h.passes.items → HavePasses turns h'.passes.items → length documents ≡ length turns
      → LogsBegin h.passes.items → Sits documents (visit b a end) h.passes.items h'.passes.items
      → IsCrowd turns documents hs hs' mid low result → TakesItem old.coming mid.coming b → IsFalseIfTold b.is_shut
      → mid.returned ≡ old.returned → old.faults ≤ mid.faults → new.coming ≡ low.coming → AppendsItem low.returned new.returned a → new.faults ≡ low.faults
      → result' ≡ with_end result end → IsCrowd turns documents (h ∷ hs) (h' ∷ hs') old new result'
  crowd_more h h' hs hs' b a end old mid low new result result' have have' size logs sits crowd took is_open back le coming returned count ended =
      let vs = crowd.0 in
      let c = crowd.1 in
      let last = sits_last h.passes.items h'.passes.items b a end have have' size logs sits in (
        visit b a end ∷ vs,
        record {
          sit = (have, have', sits, c.sit);
          links = links_more old mid low new (length hs) (suc (length hs)) b a end vs result result' c.links last took is_open back le coming returned count refl ended;
        },
      )
