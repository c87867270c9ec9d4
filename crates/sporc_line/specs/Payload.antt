-- The refusal of a body that is no delta.
use Rattle.sporc_delta.specs.declared.fault.DeltaFault.{DeltaFault}
use Rattle.sporc_delta.specs.declared.fault.DeltaFault.TheVariants as faults
use Rattle.sporc_head.specs.declared.refusal.Refusal.{Refusal}
use Rattle.sporc_head.specs.declared.refusal.Refusal.TheVariants.{BadPayload, Memory}

abbrev pub payload_refusal : DeltaFault → Refusal
payload_refusal faults.Memory = Memory
payload_refusal fault = BadPayload
