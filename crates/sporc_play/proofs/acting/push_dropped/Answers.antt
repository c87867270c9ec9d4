use Rattle.std.proofs.Common.{◌++◌, List, ℕ, ap, codes, string_bytes, ◌∙◌}
use Rattle.sporc_play.proofs.Common.{device_text, told_in_parts, change_fault_name}
use Rattle.sporc_play.proofs.acting.push_dropped.Goals as goal

pub returns : goal.returns
returns c =
    told_in_parts c.push_str-2.result _ _ _ _ (device_text c.args.device) (codes " submit dropped ") (change_fault_name c.args.fault) (codes "\n") c.in_ok-push_start.ensures.ok
    (c.in_ok-push_str.ensures.bytes ∙ ap (λ (name : List ℕ). string_bytes c.push_start.new.out ++ name) c.name.ensures.value) c.push_str-2.ensures.bytes
