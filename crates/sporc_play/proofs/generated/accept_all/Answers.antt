use Rattle.std.proofs.Common.{◌≡◌, ◌+◌, ℕ, map, flat_map, arith, ap, subst}
use Rattle.sporc_play.proofs.Common.{Performs, up_to, gives}
use Rattle.sporc_play.proofs.Batched.{flats_more, has_room, length-gives}
use Rattle.sporc_play.proofs.generated.accept_all.Goals as goal

pub give_all-requires : goal.give_all-requires
give_all-requires c =
    has_room 13 4 c.args.state.now c.loop-a.state (flat_map (λ a. map (gives (c.args.done + a)) (up_to 3)) (up_to c.loop-a.a)) c.requires.room c.loop-a.invariant
    (omega (arith, length-gives c.args.done c.loop-a.a))

pub loop-a-preserved : goal.loop-a-preserved
loop-a-preserved c =
    let same : c.args.done + c.loop-a.a + 1 ≡ c.args.done + (c.loop-a.a + 1) = omega arith in
    flats_more c.args.state.now c.loop-a.state c.give_all.new.state (λ a. map (gives (c.args.done + a)) (up_to 3)) c.loop-a.a (map (gives (c.args.done + c.loop-a.a + 1)) (up_to 3))
    (ap (λ (number : ℕ). map (gives number) (up_to 3)) same) c.loop-a.invariant c.in_ok-give_all.ensures

pub returns : goal.returns
returns c =
    let all : c.loop-a.a ≡ c.args.authors = omega arith in
    let IsDone : ℕ → Type 0 = λ n. Performs c.args.state.now (flat_map (λ a. map (gives (c.args.done + a)) (up_to 3)) (up_to n)) c.loop-a.state in
    subst IsDone all c.loop-a.invariant
