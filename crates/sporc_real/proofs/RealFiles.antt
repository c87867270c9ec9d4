-- Files of which nothing is told.
use Rattle.std.proofs.Common.{◌<◌, ℕ, List, replicate, None}
use Rattle.std.proofs.lemmas.List.{length-replicate}
use Rattle.sporc_outside.specs.Files.{IsTooLong, IsDiskFault, IsReadFault}
use Rattle.sporc_outside.specs.declared.file_fault.FileFault.{FileFault}
use Rattle.sporc_outside.specs.declared.file_fault.FileFault.TheVariants.{Failed, TooLong, Exists}
use Rattle.sporc_outside.specs.declared.file_fault.TheConstants.{MAX_FILE}

pub too_long : (name : List ℕ) (len : ℕ) → MAX_FILE < len → IsTooLong None name len
too_long name len above = (above, replicate len 0, length-replicate len 0, tt)

-- why a file is not opened is why it is not read
pub read_fault : (name : List ℕ) (before after : ℕ) (fault : FileFault) → IsDiskFault None name before after fault → IsReadFault None name before after fault
read_fault name before after Failed why = why
read_fault name before after (TooLong len) why = why
read_fault name before after Exists why = absurd why
read_fault name before after fault why = tt
