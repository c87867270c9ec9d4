use Rattle.std.proofs.Common.{length, ap, ◌∙◌, arith}
use Rattle.sporc_client.proofs.SubmitEntries.{signed_some}
use Rattle.sporc_client.proofs.client.submitting.draft.write_draft.Goals as goal

pub prefix-requires-clause-positive : goal.prefix-requires-clause-positive
prefix-requires-clause-positive c = omega (arith, signed_some c.args.entry.now, ap length (c.as_slice.ensures.value ∙ c.in_ok-message.ensures.ok))

pub prefix-requires-2-clause-positive : goal.prefix-requires-2-clause-positive
prefix-requires-2-clause-positive c = omega (arith, signed_some c.args.entry.now, ap length (c.as_slice-2.ensures.value ∙ c.in_ok-message.ensures.ok))

pub prefix-requires-3-clause-positive : goal.prefix-requires-3-clause-positive
prefix-requires-3-clause-positive c = omega (arith, signed_some c.args.entry.now, ap length (c.as_slice-3.ensures.value ∙ c.in_ok-message.ensures.ok))
