-- The line of a key, as it was printed.
use Rattle.std.proofs.Common.{◌≡◌, ℕ, List, Result, Ok, Err, inr, subst}
use Rattle.sporc_commands.proofs.Common.{Use, Fault, FolderTold, StreamTold, NewKey, StoresKey, key_line, names_of_document}
use Rattle.std.specs.Io.KnownBytes.{Appends}
use Rattle.sporc_outside.specs.Chances.{ChanceTold}
use Rattle.sporc_outside.specs.Writing.{AppendsPrefix}
use Rattle.sporc_words.specs.declared.keygen.Keygen.{Keygen}
use Rattle.sporc_words.specs.declared.public.Public.{Public}
use Rattle.sporc_commands.specs.KeyMaking.{KeygenOutcome, Makes}
use Rattle.sporc_commands.specs.KeyShowing.{IsLineOf, PublicOutcome}
use Rattle.sporc_commands.specs.Lines.{Prints}

-- of a new key, whose files are written
pub new_key_printed : (asked : Keygen) (files : Use FolderTold) (chance : Use ChanceTold) (out : Use StreamTold) (key : NewKey) (line : List ℕ) (r : Result (Unit {0}) Fault) → Makes asked chance key
    → StoresKey (names_of_document asked.name) key files.before.files files.after.files → line ≡ key_line key.public → Prints out line r → KeygenOutcome asked files chance out r
new_key_printed asked files chance out key line (Ok done) makes stores is printed =
    record { key = key; makes = makes; stores = stores; printed = subst (Appends out.before.written out.after.written) is printed }
new_key_printed asked files chance out key line (Err fault) makes stores is (outside, rose, printed) =
    inr (inr (record { key = key; makes = makes; stores = stores; outside = outside; rose = rose; printed = subst (AppendsPrefix out.before.written out.after.written) is printed }))

-- of a key that is there
pub key_printed : (asked : Public) (folder : Use FolderTold) (out : Use StreamTold) (line : List ℕ) (r : Result (Unit {0}) Fault) → IsLineOf asked folder.before.files line → Prints out line r
    → PublicOutcome asked folder out r
key_printed asked folder out line (Ok done) of printed = record { line = line; of = of; written = printed }
key_printed asked folder out line (Err fault) of (outside, rose, printed) = inr (record { outside = outside; rose = rose; shows = record { line = line; of = of; written = printed } })
