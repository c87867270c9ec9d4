use Rattle.std.proofs.Common.{length, ap, arith}
use Rattle.sporc_client.proofs.Common.{plain_of, PlainClient, committed_of, shown_of}
use Rattle.sporc_client.proofs.Small.{length-shown, lengths}
use Rattle.sporc_client.proofs.Events.{state_is}
use Rattle.sporc_client.proofs.client.Client.shown.Goals as goal

pub returns-clause-within : goal.returns-clause-within
returns-clause-within g c =
    let inside = c.self.inside in
    let plain = plain_of inside.signer.key inside.line inside.own in
    let few = lengths plain c.self.invariant.small in
    let all_few = length-shown (committed_of plain) inside.own.pending c.self.invariant.sound.stated in
    omega (arith, ap (λ (p : PlainClient). length (shown_of p)) (state_is c.self.invariant c.self.view_is), all_few, few.committed, few.pending)
