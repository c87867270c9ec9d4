use Rattle.std.proofs.Common.{◌≡◌, ◌++◌, drop, take}
use Rattle.sporc_delta.proofs.Common.{AllByRecursion, parts_bytes, IsTypedPart}
use Rattle.sporc_delta.proofs.encode.parts_encoded.Given as goal

abbrev pub invariant-loop-part : goal.invariant-loop-part
invariant-loop-part l = record {
  bytes : l.bytes.items ++ parts_bytes (drop l.part-index l.parts) ≡ parts_bytes l.parts;
  typed : AllByRecursion IsTypedPart (take l.part-index l.parts);
}
