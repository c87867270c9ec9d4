use Rattle.std.proofs.Common.{Global, Option, Some, None, Vec, ℕ, sym, ap, ◌∙◌, option_map}
use Rattle.sporc_play.proofs.Common.{option_to_list}
use Rattle.sporc_play.proofs.Submitted.{has_submitted}
use Rattle.sporc_play.proofs.acting.submit.Goals as goal

pub returns-in-Some-2-clause-seat : goal.returns-in-Some-2-clause-seat
returns-in-Some-2-clause-seat c =
    has_submitted c.args.next c.args.seat.now c.in-Some.client c.submit_client.new.client c.random_of-random.result (Some c.in-Some-2.entry.items) c.in-Some.is c.random_of-random.ensures.value
    (sym (ap (λ (o : Option (Vec ℕ Global)). option_to_list (option_map (λ v. v.items) o)) c.in-Some-2.is) ∙ c.in_ok-entry.ensures.made) c.in_ok-entry.ensures.client

pub returns-in-None-clause-seat : goal.returns-in-None-clause-seat
returns-in-None-clause-seat c =
    has_submitted c.args.next c.args.seat.now c.in-Some.client c.submit_client.new.client c.random_of-random.result None c.in-Some.is c.random_of-random.ensures.value
    (sym (ap (λ (o : Option (Vec ℕ Global)). option_to_list (option_map (λ v. v.items) o)) c.in-None.is) ∙ c.in_ok-entry.ensures.made) c.in_ok-entry.ensures.client
