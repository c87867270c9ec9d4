-- What a body that was read says.
use Rattle.std.proofs.Common.{◌≡◌, ◌≢◌, List, Some, Result, Err, refl, ap}
use Rattle.sporc_line.proofs.Common.{is_some, unless, Mark, BadPayload, Memory, result_ok, DeltaFault}
use Rattle.sporc_delta.specs.declared.fault.DeltaFault.TheVariants as faults
use Rattle.sporc_line.specs.Payload.{payload_refusal}

failed : (read : Result (List Mark) DeltaFault) (fault : DeltaFault) → read ≡ Err fault → unless (is_some (result_ok read)) BadPayload ≡ Some BadPayload
failed read fault h = ap (λ (r : Result (List Mark) DeltaFault). unless (is_some (result_ok r)) BadPayload) h

-- a fault of reading is that of the check
pub payload_fault : (read : Result (List Mark) DeltaFault) (fault : DeltaFault) → (fault ≢ faults.Memory → read ≡ Err fault) → payload_refusal fault ≢ Memory → unless (is_some (result_ok read)) BadPayload ≡ Some (payload_refusal fault)
payload_fault read faults.Memory h other = absurd (other refl)
payload_fault read fault h other = failed read fault (h (λ e. cc))
