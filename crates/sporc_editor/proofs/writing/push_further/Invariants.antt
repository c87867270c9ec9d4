use Rattle.std.proofs.Common.{◌≡◌, ◌++◌, flat_map, take, string_bytes}
use Rattle.std.specs.Prelude.{codes}
use Rattle.sporc_script.specs.Spelling.{device_text}
use Rattle.sporc_editor.proofs.writing.push_further.Given as goal

abbrev pub invariant-loop-device : goal.invariant-loop-device
invariant-loop-device l = string_bytes l.out ≡ string_bytes l.initial.out ++ flat_map (λ d. codes "," ++ device_text d) (take l.device-index l.devices)
