use Rattle.std.proofs.Common.{◌≡◌, ℕ, ◌+◌, ◌++◌, arith, ap, ◌∙◌, length, List, Option, option_map, subst, string_bytes, Vec, Global}
use Rattle.sporc_play.proofs.Common.{length-map, MemoryDiskModel, ClientModel, Seat, IsSeatAt, forged_by, signing_line, IsReadyRogue}
use Rattle.sporc_play.proofs.Becoming.{entries_of, ok_any, ok_both, rogue_read, sign_becomes, sign_tells}
use Rattle.sporc_play.proofs.Places.{at_place}
use Rattle.sporc_play.proofs.state.PlayState.sign.Goals as goal

pub sign-requires : goal.sign-requires
sign-requires c =
    let old = c.args.self.now in
    let x = c.index_mut-rogue.result.now in
    let at = rogue_read c.as_slice.result.now old.rogues.items c.rogue_at-i.result _ _ x c.as_slice.ensures.value c.first.ensures.value c.rogue_at-i.ensures.value c.index_mut-rogue.ensures.value in
    let ready = at_place IsReadyRogue old.rogues.items c.rogue_at-i.result x c.requires.can.rogues at.there in
    record { limit = ready.asked; leaves = ready.leaves; size_limit = c.requires.can.short }

pub returns : goal.returns
returns c =
    let old = c.args.self.now in
    let f = c.args.forgery.now in
    let x = c.index_mut-rogue.result.now in
    let (k, seat, there, client) = c.client_of-client.ensures.value in
    let from = subst (λ (xs : List Seat). IsSeatAt xs k f.from seat) c.as_slice-2.ensures.value there in
    let at = rogue_read c.as_slice.result.now old.rogues.items c.rogue_at-i.result _ _ x c.as_slice.ensures.value c.first.ensures.value c.rogue_at-i.ensures.value c.index_mut-rogue.ensures.value in
    let number : c.len.result + 1 ≡ length (entries_of old) + 1 = omega (arith, c.len.ensures, length-map old.made.items (λ (b : Vec ℕ Global). b.items)) in
    record {
      state = ok_both c.keep_made.result _ _ _ c.keep_made.ensures.others c.keep_made.ensures.made (λ same grown.
          sign_becomes old c.keep_made.new.self f c.rogue_at-i.result k x c.sign.new.rogue seat (option_map (λ v. v.items) c.in_ok-made.made) at from
          (record { genesis = same.genesis; cast = same.cast; rogues = same.rogues; seats = same.seats }) grown
          (λ s key cast. c.in_ok-made.ensures.entry s key cast ∙ ap (λ (o : Option (ClientModel MemoryDiskModel)). forged_by s f x o) client) c.in_ok-made.ensures.rogue);
      line = ok_any c.keep_made.result _ (sign_tells old f c.rogue_at-i.result k (c.len.result + 1) x seat (string_bytes c.args.out.now) _ at from number
          (λ s key cast. c.in_ok-made.ensures.line s key cast ∙ ap (λ (o : Option (ClientModel MemoryDiskModel)). string_bytes c.args.out.now ++ signing_line f (c.len.result + 1) x o) client));
    }
