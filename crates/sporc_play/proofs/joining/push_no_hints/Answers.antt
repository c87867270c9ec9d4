use Rattle.std.proofs.Common.{codes, string_bytes}
use Rattle.sporc_play.proofs.Common.{hint_fault_name, device_text, told_in_parts}
use Rattle.sporc_play.proofs.joining.push_no_hints.Goals as goal

pub returns-clause-line : goal.returns-clause-line
returns-clause-line c =
    told_in_parts c.push_str.result (string_bytes c.args.out.now) _ _ _ (device_text c.args.device) (codes " join refused ") (hint_fault_name c.args.fault) (codes "\n")
    c.in_ok-push_start.ensures.ok c.in_ok-push_hint_fault.ensures.ok c.push_str.ensures.bytes
