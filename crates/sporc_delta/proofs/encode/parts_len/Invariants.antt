use Rattle.std.proofs.Common.{◌≡◌, ◌+◌, ◌*◌, ◌^◌, ◌<◌, drop, length}
use Rattle.sporc_delta.proofs.Common.{parts_bytes}
use Rattle.sporc_delta.proofs.encode.parts_len.Given as goal

abbrev pub invariant-loop-part : goal.invariant-loop-part
invariant-loop-part l = record {
  total : l.total + length (parts_bytes (drop l.part-index l.parts)) ≡ length (parts_bytes l.parts);
  few : 9 * length l.parts < 2 ^ 62;
}
