use Rattle.std.proofs.Common.{◌≡◌, List, Some, None, ap, refl, sym, subst, ◌∙◌}
use Rattle.sporc_play.proofs.Common.{Contains, Founder, Seat, founders_of, opener_by, setup_of, scene_opened, seated}
use Rattle.sporc_play.proofs.Becoming.{ok_then, seat_read}
use Rattle.sporc_play.proofs.Openings.{founder_stands, founders_are, opener_device, other_stands}
use Rattle.sporc_play.proofs.state.PlayState.open_by.Goals as goal

pub seat_at-i-requires : goal.seat_at-i-requires
seat_at-i-requires c =
    let command = c.args.line.now.command in
    let opener : opener_by c.args.self.now.cast.founders.items command ≡ Some c.in-Some.device = sym c.opener.ensures ∙ c.in-Some.is in
    record {
      seated = subst (λ (xs : List Seat). Contains (seated xs) c.in-Some.device) (sym c.as_slice.ensures.value)
          (c.requires.seated c.in-Some.device (opener_device c.args.self.now.cast.founders.items command c.in-Some.device opener));
    }

pub returns-in-Some-clause-stands : goal.returns-in-Some-clause-stands
returns-in-Some-clause-stands c =
    let old = c.args.self.now in
    let command = c.args.line.now.command in
    let x = c.index_mut.result.now in
    let at = seat_read c.as_slice.result.now old.seats.items c.seat_at-i.result _ x c.as_slice.ensures.value c.seat_at-i.ensures.value c.index_mut.ensures.value in
    ok_then c.open_founder.result _ _ c.open_founder.ensures.ok (λ is script i low here stands.
    let opener : opener_by (founders_of script) command ≡ Some c.in-Some.device =
    ap (λ (fs : List Founder). opener_by fs command) (sym (founders_are script (scene_opened script i) old stands)) ∙ sym c.opener.ensures ∙ c.in-Some.is in
    founder_stands script old _ i c.seat_at-i.result c.args.line.now c.in-Some.device x c.open_founder.new.seat low here opener stands at (is (setup_of script) stands.cast stands.genesis)
    (record { genesis = refl; cast = refl; rogues = refl; seats = refl }) refl)

pub returns-in-None-clause-stands : goal.returns-in-None-clause-stands
returns-in-None-clause-stands c script i low here stands =
    let old = c.args.self.now in
    let command = c.args.line.now.command in
    let other : opener_by (founders_of script) command ≡ None =
    ap (λ (fs : List Founder). opener_by fs command) (sym (founders_are script (scene_opened script i) old stands)) ∙ sym c.opener.ensures ∙ c.in-None.is in
    other_stands script old i c.args.line.now low here other stands
