use Rattle.std.proofs.Common.{ap}
use Rattle.std.proofs.lemmas.Result.{err_from_is_err_and}
use Rattle.sporc_bytes.specs.Fields.{fault_as, values_at}
use Rattle.sporc_bytes.proofs.Lists.{goes_on, ends, is_done}
use Rattle.sporc_evidence.specs.declared.fault.EvidenceFault.TheVariants.{Malformed}
use Rattle.sporc_evidence.specs.SummaryBytes.{hash_at}
use Rattle.sporc_evidence.proofs.FormatLaws.{values_count}
use Rattle.sporc_evidence.proofs.fields.read_hashes.Goals as goal

pub returns-in_err-hash-clause-value : goal.returns-in_err-hash-clause-value
returns-in_err-hash-clause-value c =
    let p = err_from_is_err_and c.from_residual-in_err-hash.result c.from_residual-in_err-hash.ensures.1 in
    rw (p.1, p.2) (λ _. ap (fault_as Malformed) (ends hash_at c.loop.hashes.items c.args.count c.loop.counter c.loop.cursor c.in_err-hash.field-0.0.0 (values_at hash_at c.args.count c.args.cursor.now) c.loop-test.true c.in_err-hash.ensures c.loop.invariant))

pub loop-preserved : goal.loop-preserved
loop-preserved c = rw c.in_ok-push.ensures.items (goes_on hash_at c.loop.hashes.items c.args.count c.loop.counter c.loop.cursor c.in_ok-hash.hash _ (values_at hash_at c.args.count c.args.cursor.now) c.loop-test.true c.in_ok-hash.ensures c.loop.invariant)

pub returns : goal.returns
returns c =
    let all = is_done hash_at c.loop.hashes.items c.args.count c.loop.counter c.loop.cursor (values_at hash_at c.args.count c.args.cursor.now) c.loop-test.false c.loop.invariant in
    record { value = ap (fault_as Malformed) all; count = values_count hash_at c.args.count c.args.cursor.now _ all }
