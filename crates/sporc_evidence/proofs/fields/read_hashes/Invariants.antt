use Rattle.std.proofs.Common.{◌≡◌, ◌-◌}
use Rattle.sporc_bytes.specs.Fields.{values_at}
use Rattle.sporc_bytes.proofs.Lists.{with_front}
use Rattle.sporc_evidence.specs.SummaryBytes.{hash_at}
use Rattle.sporc_evidence.proofs.fields.read_hashes.Given as goal

abbrev pub invariant-loop : goal.invariant-loop
invariant-loop l = with_front l.hashes.items (values_at hash_at (l.count - l.counter) l.cursor) ≡ values_at hash_at l.count l.fn.cursor
