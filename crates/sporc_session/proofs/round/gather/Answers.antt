use Rattle.std.proofs.Common.{ℕ, ◌+◌, List, Vec, Global, ap, map, subst, ◌∙◌}
use Rattle.sporc_session.proofs.Common.{known_of, TookAll}
use Rattle.sporc_session.proofs.Rounding.{gather_err, gather_ok}
use Rattle.sporc_session.proofs.Wearing.{asked_unworn, worn_at}
use Rattle.sporc_session.proofs.round.gather.Goals as goal

pub returns-in-Ok-took-clause-gathered : goal.returns-in-Ok-took-clause-gathered
returns-in-Ok-took-clause-gathered g c =
    gather_ok c.in-Ok.entries c.in-Ok-took.is (ap (λ (n : ℕ). c.args.at + n) c.len-count.ensures.value) c.in-Ok.ensures.ok
    (subst (λ es. TookAll (known_of c.args.pass) (known_of c.take_all-took.result.1) c.args.at es c.take_all-took.result.0) (ap (λ (es : List (Vec ℕ Global)). map (λ v. v.items) es) c.into_iter-came.ensures.rest ∙ c.into_vec.ensures.value) c.take_all-took.ensures.took)

pub returns-in-Err-took-clause-gathered : goal.returns-in-Err-took-clause-gathered
returns-in-Err-took-clause-gathered g c =
    gather_err c.in-Ok.entries c.in-Err-took.is c.in-Ok.ensures.ok
    (subst (λ es. TookAll (known_of c.args.pass) (known_of c.take_all-took.result.1) c.args.at es c.take_all-took.result.0) (ap (λ (es : List (Vec ℕ Global)). map (λ v. v.items) es) c.into_iter-came.ensures.rest ∙ c.into_vec.ensures.value) c.take_all-took.ensures.took)

pub returns-in-Err-took-clause-read : goal.returns-in-Err-took-clause-read
returns-in-Err-took-clause-read g c =
    worn_at c.take_all-took.result.1 c.take_all-took.result.0 c.in-Err-took.fault c.in-Err-took.is c.take_all-took.ensures.read

pub returns-in-Err-clause-read : goal.returns-in-Err-clause-read
returns-in-Err-clause-read g c =
    asked_unworn c.args.pass _ _ _ c.in-Err.fault c.in-Err.ensures.err
