-- The refusal that a fault of reading is.
use Rattle.sporc_entry.specs.declared.fault.EntryFault.{EntryFault}
use Rattle.sporc_entry.specs.declared.fault.EntryFault.TheVariants as faults
use Rattle.sporc_head.specs.declared.refusal.Refusal.{Refusal}
use Rattle.sporc_head.specs.declared.refusal.Refusal.TheVariants.{Malformed, Memory}

abbrev pub refusal_read : EntryFault → Refusal
refusal_read (faults.Malformed at) = Malformed at
refusal_read faults.Memory = Memory
