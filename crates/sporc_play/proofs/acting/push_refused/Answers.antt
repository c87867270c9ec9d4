use Rattle.std.proofs.Common.{codes}
use Rattle.sporc_play.proofs.Common.{submit_fault_name, device_text, told_in_parts}
use Rattle.sporc_play.proofs.acting.push_refused.Goals as goal

pub returns-clause-line : goal.returns-clause-line
returns-clause-line c =
    told_in_parts c.push_str.result _ _ _ _ (device_text c.args.device) (codes " submit refused ") (submit_fault_name c.args.fault) (codes "\n") c.in_ok-push_start.ensures.ok c.in_ok-push_submit_fault.ensures.ok c.push_str.ensures.bytes
