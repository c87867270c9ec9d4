-- Which fault of a session and of what follows it is answered.
use Rattle.std.specs.Prelude.{Result, ⊤}
use Rattle.sporc_bytes.specs.Fields.{fault_as}
use Rattle.sporc_session.specs.declared.fault.SessionFault.{SessionFault}
use Rattle.sporc_files.specs.declared.fault.Fault.{Fault}
use Rattle.sporc_files.specs.Faults.{first_fault}
use Rattle.sporc_device.specs.Causes.{fault_of_session}

-- The first fault: that of the session, of saving, or of printing, but for out of memory at one of
-- the later ones. So if another fault is told, the history was saved, or its file would be too
-- long, or a call of the folder failed, and journal and report were printed, or a call of the sink
-- failed
abbrev pub ended : Result ⊤ SessionFault → Result ⊤ Fault → Result ⊤ Fault → Result ⊤ Fault
ended session saved printed =
    first_fault (fault_as fault_of_session session) (first_fault saved printed)
