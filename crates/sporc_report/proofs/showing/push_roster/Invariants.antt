use Rattle.std.proofs.Common.{◌≡◌, ◌++◌, flat_map, take, string_bytes}
use Rattle.sporc_report.proofs.Common.{member_at, text_of_member}
use Rattle.sporc_report.proofs.showing.push_roster.Given as goal

abbrev pub invariant-loop-number : goal.invariant-loop-number
invariant-loop-number g l =
    string_bytes l.out ≡ string_bytes l.initial.out ++ flat_map (λ number. text_of_member l.roster.roster (member_at l.roster.roster number)) (take l.number-index l.number-items)
