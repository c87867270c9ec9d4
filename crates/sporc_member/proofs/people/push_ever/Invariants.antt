use Rattle.std.proofs.Common.{◌≡◌, ◌++◌, map, take}
use Rattle.sporc_member.specs.People.{keyed}
use Rattle.sporc_member.proofs.people.push_ever.Given as goal

abbrev pub invariant-loop-o : goal.invariant-loop-o
invariant-loop-o l = l.devices.items ≡ l.initial.devices.items ++ map (keyed l.person.member) (take l.o-index l.person.devices)
