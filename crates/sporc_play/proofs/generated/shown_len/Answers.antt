use Rattle.std.proofs.Common.{ap, sym, subst, ◌∙◌}
use Rattle.sporc_play.proofs.Common.{Contains, Device, generated_cast, seen_len, seated}
use Rattle.sporc_play.proofs.Batched.{seated_there}
use Rattle.sporc_play.proofs.generated.shown_len.Goals as goal
use Rattle.sporc_play.proofs.Kept.{found_there}

pub client-requires : goal.client-requires
client-requires c = record {
  seated = subst (λ (who : Device). Contains (seated c.args.state.now.seats.items) who) (sym c.first.ensures.value)
      (seated_there 1 c.args.state.now c.args.member c.requires.room c.requires.member);
}

pub returns-in-Some-clause-value : goal.returns-in-Some-clause-value
returns-in-Some-clause-value c = λ scene stands.
    c.len_of_shown.ensures.value
    ∙ ap seen_len (sym (ap scene.world.clients (sym c.first.ensures.value) ∙ found_there generated_cast scene c.args.state.now _ _ stands c.in-Some.ensures.value))

pub returns-in-None-clause-value : goal.returns-in-None-clause-value
returns-in-None-clause-value c = λ scene stands.
    ap seen_len (sym (ap scene.world.clients (sym c.first.ensures.value) ∙ found_there generated_cast scene c.args.state.now _ _ stands c.in-None.ensures.value))
