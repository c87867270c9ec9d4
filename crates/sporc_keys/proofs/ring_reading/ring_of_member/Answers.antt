use Rattle.std.proofs.Common.{ℕ, Result, arith, ap₂, subst}
use Rattle.sporc_keys.proofs.Common.{fault_as, RingFile, whole, ring_file_at, GivesUnless, Malformed, Memory}
use Rattle.sporc_keys.proofs.RingFileLaws.{of_member_found}
use Rattle.sporc_keys.proofs.ring_reading.ring_of_member.Goals as goal

pub returns-clause-found : goal.returns-clause-found
returns-clause-found c =
    let P : Result RingFile ℕ → Type 0 = λ read. GivesUnless Memory (λ f. f) c.read_all.result (fault_as Malformed read) in
    let same = ap₂ (λ (low high : ℕ). whole (ring_file_at low high) c.args.bytes.now) c.from.ensures c.from-2.ensures in
    of_member_found c.args.member c.args.bytes.now c.read_all.result (omega (arith, c.ranges.member)) (λ i. omega (arith, c.type_inv.bytes i)) (subst P same c.read_all.ensures)
