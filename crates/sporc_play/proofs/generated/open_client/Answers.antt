use Rattle.std.proofs.Common.{◌≡◌, Option, None, ap, sym, subst, ◌∙◌}
use Rattle.sporc_play.proofs.Common.{Contains, IsSome, Device, first_device, PlainClient, generated_cast, seated}
use Rattle.sporc_play.proofs.Batched.{seated_by}
use Rattle.sporc_play.proofs.generated.open_client.Goals as goal
use Rattle.sporc_play.proofs.Kept.{found_there}

pub client-requires : goal.client-requires
client-requires c = record {
  seated = subst (λ (who : Device). Contains (seated c.args.state.now.seats.items) who) (sym c.first.ensures.value)
      (seated_by c.requires.open.scene c.args.state.now c.args.member c.requires.open.stands c.requires.member);
}

pub unreachable-requires : goal.unreachable-requires
unreachable-requires c =
    let open_state = c.requires.open in
    let clients = open_state.scene.world.clients in
    let none : clients (first_device c.args.member) ≡ None =
    ap clients (sym c.first.ensures.value) ∙ found_there generated_cast open_state.scene c.args.state.now _ _ open_state.stands c.in-None.ensures.value in
    let IsThere : Option PlainClient → Type 0 = λ o. IsSome o in
    let yes : IsSome {T = PlainClient} None = subst IsThere none (open_state.open_clients c.args.member c.requires.member) in
    absurd cc

pub returns : goal.returns
returns c = λ scene stands.
    ap scene.world.clients (sym c.first.ensures.value) ∙ found_there generated_cast scene c.args.state.now _ _ stands c.in-Some.ensures.value
