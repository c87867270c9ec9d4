use Rattle.std.proofs.Common.{◌≡◌, ◌≢◌, length, arith, Err, Some, ap, sym, ◌∙◌}
use Rattle.sporc_line.proofs.Common.{Refusal, mask_of, length-mask_from, read_delta}
use Rattle.sporc_delta.specs.declared.fault.DeltaFault.TheVariants as faults
use Rattle.sporc_line.proofs.Payloads.{payload_fault}
use Rattle.sporc_line.proofs.payload.read_payload.Goals as goal

pub decode-requires : goal.decode-requires
decode-requires c =
    let same : c.as_slice.result.now ≡ mask_of c.args.key.now c.args.stream c.args.body.now = c.as_slice.ensures.value ∙ c.in_ok-bytes.ensures.ok in
    record { limit = omega (arith, ap length same, length-mask_from c.args.key.now c.args.stream 0 c.args.body.now, c.requires) }

pub returns-clause-fault : goal.returns-clause-fault
returns-clause-fault c other =
    let bytes = mask_of c.args.key.now c.args.stream c.args.body.now in
    let same : c.as_slice.result.now ≡ bytes =
    c.as_slice.ensures.value ∙ c.in_ok-bytes.ensures.ok in
    let read : c.in-Err.fault ≢ faults.Memory → read_delta bytes ≡ Err c.in-Err.fault = λ n. ap read_delta (sym same) ∙ c.in-Err.ensures.err n in
    let is = c.refusal_of.ensures.value in
    payload_fault (read_delta bytes) c.in-Err.fault read (λ e. other (is ∙ e)) ∙ ap (λ (r : Refusal). Some r) (sym is)
