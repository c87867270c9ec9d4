-- What is so of the values of a command that was read.
use Rattle.std.specs.Prelude.{◌≤◌, length, ⊤}
use Rattle.lms_leaf.specs.LeafFile.{IsLeafHeight}
use Rattle.lms_tree.specs.LmsType.{height_of}
use Rattle.sporc_keys.specs.KeyFile.{IsKeyWidth}
use Rattle.sporc_script.specs.declared.limits.TheConstants.{MAX_EDITORS, MAX_GENERATED}
use Rattle.sporc_wire.specs.declared.limits.TheConstants.{MAX_DOCUMENTS, MAX_SESSIONS}
use Rattle.sporc_words.specs.declared.command.Command.{Command}
use Rattle.sporc_words.specs.declared.command.Command.TheVariants as commands
use Rattle.sporc_commands.specs.Founding.{MayFound}

-- those of most commands have none but that of their types
abbrev pub IsInRange : Command → Type 0
IsInRange (commands.Generate edits) = edits ≤ MAX_GENERATED
IsInRange (commands.Keygen asked) = IsLeafHeight (height_of asked.height) × IsKeyWidth asked.width
IsInRange (commands.Found asked) = MayFound asked
IsInRange (commands.Serve asked) =
    (1 ≤ asked.sessions) × (asked.sessions ≤ MAX_SESSIONS) × (1 ≤ asked.times)
IsInRange (commands.ServeAll asked) = (length asked.names ≤ MAX_DOCUMENTS) × (1 ≤ asked.sessions)
    × (asked.sessions ≤ MAX_SESSIONS) × (1 ≤ asked.times)
IsInRange (commands.Client asked) = length asked.scripts ≤ MAX_EDITORS
IsInRange command = ⊤
