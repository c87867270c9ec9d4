use Rattle.std.proofs.Common.{◌≡◌, ◌++◌, ℕ, List, map, refl, subst, string_bytes, Global, Vec}
use Rattle.sporc_play.proofs.Common.{Setup, seat_joined, seat_joining, join_line, IsCastOf, IsReadySeat}
use Rattle.sporc_play.proofs.Becoming.{join_becomes, join_tells, ok_then, seat_read}
use Rattle.sporc_play.proofs.Places.{at_place}
use Rattle.sporc_play.proofs.state.PlayState.join.Goals as goal

pub join-requires-clause-signer : goal.join-requires-clause-signer
join-requires-clause-signer c =
    let old = c.args.self.now in
    let at = seat_read c.as_slice.result.now old.seats.items c.seat_at-i.result _ c.index_mut.result.now c.as_slice.ensures.value c.seat_at-i.ensures.value c.index_mut.ensures.value in
    (at_place IsReadySeat old.seats.items c.seat_at-i.result c.index_mut.result.now c.requires.can.seats at.there).signer

pub returns : goal.returns
returns c =
    let old = c.args.self.now in
    let x = c.index_mut.result.now in
    let at = seat_read c.as_slice.result.now old.seats.items c.seat_at-i.result _ x c.as_slice.ensures.value c.seat_at-i.ensures.value c.index_mut.ensures.value in
    record {
      state = ok_then c.join.result _ _ c.join.ensures.seat (λ is. join_becomes old _ c.args.join.now c.seat_at-i.result x c.join.new.seat at (record { genesis = refl; cast = refl; rogues = refl; seats = refl }) refl
          (subst (λ (xs : List (Vec ℕ Global)). (s : Setup) → IsCastOf s old.cast → old.genesis ≡ s.genesis → c.join.new.seat ≡ seat_joined s x (seat_joining s (map (λ b. b.items) xs) c.args.join.now x)) c.as_slice-2.ensures.value is));
      line = ok_then c.join.result _ _ c.join.ensures.line (λ is. join_tells old c.args.join.now c.seat_at-i.result x (string_bytes c.args.out.now) (string_bytes c.join.new.out) at
          (subst (λ (xs : List (Vec ℕ Global)). (s : Setup) → IsCastOf s old.cast → old.genesis ≡ s.genesis
          → string_bytes c.join.new.out ≡ string_bytes c.args.out.now ++ join_line x.device (seat_joining s (map (λ b. b.items) xs) c.args.join.now x)) c.as_slice-2.ensures.value is));
    }
