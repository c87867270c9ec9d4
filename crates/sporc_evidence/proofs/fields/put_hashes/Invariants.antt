use Rattle.std.proofs.Common.{◌≡◌, ◌++◌, take}
use Rattle.std.specs.List.{flat_map}
use Rattle.sporc_evidence.proofs.fields.put_hashes.Given as goal

abbrev pub invariant-loop-hash : goal.invariant-loop-hash
invariant-loop-hash l = l.out ≡ l.initial.out ++ flat_map (λ h. h) (take l.hash-index l.hashes)
