use Rattle.std.proofs.Common.{◌∙◌}
use Rattle.sporc_head.proofs.Copied.{copied_entry, copied_holds}
use Rattle.sporc_head.proofs.checked.Checked.copied.Goals as goal

pub invariant_of-result : goal.invariant_of-result
invariant_of-result c = copied_holds c.args.view.entry c.args.view.bytes c.in_ok-bytes.bytes c.body-body_len.result.now c.header-header.result.now c.into_change-change.result c.bytes.ensures.spelled c.header-header.ensures.value c.body-body_len.ensures.value (c.in_ok-bytes.ensures.ok ∙ c.bytes.ensures.value) c.into_change-change.ensures.value

pub returns-clause-entry : goal.returns-clause-entry
returns-clause-entry c = copied_entry c.args.view.entry c.args.view.bytes c.in_ok-bytes.bytes c.body-body_len.result.now c.header-header.result.now c.bytes.ensures.spelled c.header-header.ensures.value c.body-body_len.ensures.value (c.in_ok-bytes.ensures.ok ∙ c.bytes.ensures.value)
