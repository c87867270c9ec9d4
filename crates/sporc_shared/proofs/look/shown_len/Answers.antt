use Rattle.std.proofs.Common.{◌≡◌, ◌≤◌, ℕ, length, ap, ◌∙◌, arith}
use Rattle.sporc_shared.proofs.Common.{state_of, committed_of, shown_after, shown_of}
use Rattle.sporc_delta.specs.declared.limits.TheConstants.{MAX_COUNT}
use Rattle.sporc_line.specs.declared.limits.TheConstants.{MAX_COMMITTED_LEN}
use Rattle.sporc_client.specs.declared.limits.TheConstants.{MAX_PENDING}
use Rattle.sporc_shared.proofs.Journals.{shown_last}
use Rattle.sporc_shared.proofs.Lengths.{shown_short}
use Rattle.sporc_shared.proofs.look.shown_len.Goals as goal

pub returns-clause-front : goal.returns-clause-front
returns-clause-front g c = c.in-Some.ensures.some ∙ ap (λ (n : ℕ). length (shown_after n (state_of c.args.client.now))) c.count_events.ensures.value

pub returns-clause-value : goal.returns-clause-value
returns-clause-value g c = returns-clause-front g c ∙ shown_last c.args.client.now.opening c.args.client.now.log c.count_events.ensures.sound

pub returns-clause-within : goal.returns-clause-within
returns-clause-within g c =
    let client = c.args.client.now in
    let value : c.in-Some.len ≡ length (shown_of (state_of client)) = returns-clause-value g c in
    let committed : length (committed_of (state_of client)) ≤ MAX_COMMITTED_LEN = omega (arith, c.committed_len-committed.ensures.value, c.committed_len-committed.ensures.within) in
    let pending : length (state_of client).pending ≤ MAX_PENDING = omega (arith, c.pending-pending.ensures.value, c.pending-pending.ensures.within) in
    let short : length (shown_of (state_of client)) ≤ MAX_COUNT = shown_short client.opening client.log c.count_events.ensures.allowed c.count_events.ensures.sound committed pending in
    omega (arith, value, short)
