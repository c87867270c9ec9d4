use Rattle.std.proofs.Common.{◌≡◌, map, take}
use Rattle.sporc_member.specs.People.{person_of}
use Rattle.sporc_member.proofs.roster.people_with.Given as goal

abbrev pub invariant-loop-number : goal.invariant-loop-number
invariant-loop-number l = l.people.items ≡ map (person_of l.roster.roster) (take l.number-index l.numbers)
