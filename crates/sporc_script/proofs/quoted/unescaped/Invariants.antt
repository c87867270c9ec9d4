use Rattle.std.proofs.Common.{◌≡◌, ◌++◌, false, drop, option_map}
use Rattle.sporc_script.proofs.Common.{unescape}
use Rattle.sporc_script.proofs.quoted.unescaped.Given as goal

abbrev pub invariant-loop-b : goal.invariant-loop-b
invariant-loop-b l =
    unescape false l.body ≡ option_map (λ t. l.text.items ++ t) (unescape l.escaped (drop l.b-index l.body))
