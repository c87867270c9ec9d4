-- A use of an object outside, cut at a moment between.
use Rattle.sporc_outside.specs.Uses.{Use}

-- from its beginning up to the moment at which the object told this
abbrev pub until : {T : Type 0} → T → Use T → Use T
until between did = record { before = did.before; after = between }

-- and from then on
abbrev pub from : {T : Type 0} → T → Use T → Use T
from between did = record { before = between; after = did.after }
