use Rattle.std.proofs.Common.{◌≡◌, ◌++◌, filter, map, take}
use Rattle.sporc_member.specs.People.{keyed}
use Rattle.sporc_member.proofs.people.push_live.Given as goal

abbrev pub invariant-loop-o : goal.invariant-loop-o
invariant-loop-o l = l.devices.items ≡ l.initial.devices.items ++ map (keyed l.person.member) (filter (λ o. o.live) (take l.o-index l.person.devices))
