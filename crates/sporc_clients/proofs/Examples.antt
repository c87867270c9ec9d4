-- Worked examples of the definitions: which fault is answered behind a session.
use Rattle.std.proofs.Common.{◌≡◌, refl}
use Rattle.sporc_clients.proofs.Common.{Ok, Err, ended}
use Rattle.lms_leaf.specs.declared.faults.LeafFault.TheVariants as leaves
use Rattle.sporc_session.specs.declared.fault.SessionFault.TheVariants as sessions
use Rattle.sporc_files.specs.declared.fault.Fault.TheVariants as faults

the_session_is_first : ended (Err (sessions.LinkEnded 3)) (Err faults.FullFile) (Err faults.Outside) ≡ Err (faults.LinkEnded 3)
the_session_is_first = refl

then_the_saving : ended (Ok tt) (Err faults.FullFile) (Err faults.Outside) ≡ Err faults.FullFile
then_the_saving = refl

then_the_printing : ended (Ok tt) (Ok tt) (Err faults.Outside) ≡ Err faults.Outside
then_the_printing = refl

memory_at_the_printing_goes_before : ended (Err (sessions.LinkEnded 3)) (Ok tt) (Err faults.Memory) ≡ Err faults.Memory
memory_at_the_printing_goes_before = refl

a_disk_that_failed : ended (Err (sessions.Leaf leaves.DiskFault)) (Ok tt) (Ok tt) ≡ Err faults.Outside
a_disk_that_failed = refl
