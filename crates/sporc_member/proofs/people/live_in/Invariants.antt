use Rattle.std.proofs.Common.{◌≡◌, take}
use Rattle.std.specs.List.{flat_map}
use Rattle.sporc_member.specs.People.{live_of}
use Rattle.sporc_member.proofs.people.live_in.Given as goal

abbrev pub invariant-loop-p : goal.invariant-loop-p
invariant-loop-p l = l.devices.items ≡ flat_map live_of (take l.p-index l.people)
