use Rattle.std.proofs.Common.{◌≡◌, ◌∙◌, ℕ, List, subst}
use Rattle.sporc_session.proofs.Common.{Result, IfOk, Known, Pass, Worn, known_of, AcceptFault, Answered, Item}
use Rattle.sporc_session.proofs.Taking.{AcceptCall}
use Rattle.sporc_session.proofs.receiver.accept_under.Goals as goal

-- a call with the bytes of an entry is one with the entry
call_with : (k : Known Item) (position : ℕ) (bytes entry : List ℕ) (reply : Result (Answered (Result ℕ AcceptFault)) (Pass Item × Worn)) → bytes ≡ entry
    → IfOk reply (λ r. AcceptCall k position bytes (known_of r.pass) r.answer) → IfOk reply (λ r. AcceptCall k position entry (known_of r.pass) r.answer)
call_with k position bytes entry reply is = subst (λ (e : List ℕ). IfOk reply (λ r. AcceptCall k position e (known_of r.pass) r.answer)) is

pub returns-in_default-clause-call : goal.returns-in_default-clause-call
returns-in_default-clause-call g c =
    call_with (known_of c.args.pass) c.args.pos c.as_slice.result.now c.args.entry c.accept.result c.as_slice.ensures.value c.accept.ensures.call

pub returns-in-Ok-clause-call : goal.returns-in-Ok-clause-call
returns-in-Ok-clause-call g c =
    call_with (known_of c.args.pass) c.args.pos c.in-Ok.examined.entry c.args.entry c.accept_examined.result (c.in-Ok.ensures.entry ∙ c.into_vec.ensures.value) c.accept_examined.ensures.call

pub returns-in-Err-clause-call : goal.returns-in-Err-clause-call
returns-in-Err-clause-call g c =
    let returned : c.in-Err.entry.items ≡ c.into_vec.result.items = rw c.in-Err.ensures.returned in
    call_with (known_of c.args.pass) c.args.pos c.as_slice-in-Err.result.now c.args.entry c.accept-in-Err.result (c.as_slice-in-Err.ensures.value ∙ returned ∙ c.into_vec.ensures.value) c.accept-in-Err.ensures.call
