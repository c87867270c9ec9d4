use Rattle.std.proofs.Common.{◌≡◌, take}
use Rattle.std.specs.List.{flat_map}
use Rattle.sporc_member.specs.People.{ever_of}
use Rattle.sporc_member.proofs.people.ever_in.Given as goal

abbrev pub invariant-loop-p : goal.invariant-loop-p
invariant-loop-p l = l.devices.items ≡ flat_map ever_of (take l.p-index l.people)
