-- Sessions beside one another.
use Rattle.std.proofs.Common.{◌≡◌, ℕ, max, false, suc, ◌≤◌, [], ◌∷◌, Result, refl, ap, subst, ◌∙◌, arith, ⊎_elim}
use Rattle.sporc_serve.proofs.Common.{NetTold, StreamTold, Genesis, Known, StartsWith, Agrees, splitting, copied, joined_with, stream_of, SessionEnd, Item, by_of, IsLogOf, OfDocument, stand_at}
use Rattle.sporc_serve.proofs.Common.{HasReadLast, visit, IsServedSession, TellsOf, with_end, IsCrowd, AppendsItem, TakesItem, IsFalseIfTold, ServeFault}
use Rattle.sporc_serve.proofs.Links.{last_ticket, links_none, links_more}

module _ (g : Genesis) where
  -- no session
  pub crowd_none : (k : Known Item) (read : ℕ) (old new : NetTold) (n : ℕ) (result : Result (Unit {0}) ServeFault) → new.coming ≡ old.coming → new.returned ≡ old.returned
      → TellsOf n old.faults new.faults [] result → IsCrowd g k k read old new n result
  crowd_none k read old new n result coming returned tells =
      ([], record { visits_are = refl; links = links_none old new n result coming returned tells; worn = λ ticket h. absurd h })

  -- a link came and was served beside the others
  crowd_more : (k rest last k' : Known Item) (r0 r1 r2 : ℕ) (old mid low new : NetTold) (n m : ℕ) (b a : StreamTold) (end : SessionEnd)
      (result result' : Result (Unit {0}) ServeFault) → IsServedSession g (copied k) last (visit b a end)
      → IsCrowd g (splitting k) rest r1 mid low n result → HasReadLast r2 end → r0 ≡ max r1 r2 → last.number ≡ (copied k).number → k' ≡ joined_with rest last
      → StartsWith k'.seen rest.seen → StartsWith k'.seen last.seen → Agrees by_of k' k'.seen
      → TakesItem old.coming mid.coming b → IsFalseIfTold b.is_shut → mid.returned ≡ old.returned → old.faults ≤ mid.faults → new.coming ≡ low.coming
      → AppendsItem low.returned new.returned a → new.faults ≡ low.faults → m ≡ suc n → result' ≡ with_end result end
      → IsCrowd g k k' r0 old new m result'
  crowd_more k rest last k' r0 r1 r2 old mid low new n m b a end result result' session crowd here both number joined seen seen' agrees took is_open back le coming returned count
      size ended =
      let vs = crowd.0 in
      let c = crowd.1 in
      let ends = last_ticket g (stand_at (copied k) b (stream_of []) false) (stand_at last session.0 (stream_of []) false) end session.1.ends in (
        visit b a end ∷ vs,
        record {
          visits_are = (rest, last, session, c.visits_are, number, joined, seen, seen', agrees);
          links = links_more old mid low new n m b a end vs result result' c.links ends took is_open back le coming returned count size ended;
          worn = λ ticket h. ⊎_elim (λ e. (let w = subst (HasReadLast r2) e here in omega (arith, w, both))) (λ later. (let w = c.worn ticket later in omega (arith, w, both))) h;
        },
      )

  -- and so it goes with the passes that were split for both
  pub crowd_joined : (k k0 k1 rest last k' : Known Item) (r0 r1 r2 : ℕ) (old mid low new : NetTold) (n m : ℕ) (b a : StreamTold) (end : SessionEnd)
      (result result' : Result (Unit {0}) ServeFault) → IsLogOf g k.seen → k0 ≡ splitting k → k1 ≡ copied k
      → OfDocument k1.seen (λ h. IsServedSession h k1 last (visit b a end))
      → OfDocument k0.seen (λ h. IsCrowd h k0 rest r1 mid low n result) → HasReadLast r2 end → r0 ≡ max r1 r2 → last.number ≡ k1.number → k' ≡ joined_with rest last
      → StartsWith k'.seen rest.seen → StartsWith k'.seen last.seen → Agrees by_of k' k'.seen
      → TakesItem old.coming mid.coming b → IsFalseIfTold b.is_shut → mid.returned ≡ old.returned → old.faults ≤ mid.faults → new.coming ≡ low.coming
      → AppendsItem low.returned new.returned a → new.faults ≡ low.faults → m ≡ suc n → result' ≡ with_end result end
      → IsCrowd g k k' r0 old new m result'
  crowd_joined k k0 k1 rest last k' r0 r1 r2 old mid low new n m b a end result result' log is0 is1 session crowd here both number joined seen seen' agrees took is_open back le coming
      returned count size ended =
      let session' : IsServedSession g (copied k) last (visit b a end) =
      subst (λ (x : Known Item). OfDocument x.seen (λ h. IsServedSession h x last (visit b a end))) is1 session g log in
      let crowd' : IsCrowd g (splitting k) rest r1 mid low n result =
      subst (λ (x : Known Item). OfDocument x.seen (λ h. IsCrowd h x rest r1 mid low n result)) is0 crowd g log in
      crowd_more k rest last k' r0 r1 r2 old mid low new n m b a end result result' session' crowd' here both (number ∙ ap (λ (x : Known Item). x.number) is1) joined seen seen'
      agrees took is_open back le coming returned count size ended
