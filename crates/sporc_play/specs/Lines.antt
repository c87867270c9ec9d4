-- How a command's line is written.
use Rattle.std.specs.Prelude.{◌≡◌, ℕ, List, ◌++◌, Option}
use Rattle.std.specs.Io.KnownBytes.{Appends}
use Rattle.sporc_outside.specs.Writing.{AppendsPrefix}
use Rattle.sporc_client.specs.Run.{Setup}
use Rattle.sporc_script.specs.declared.command.Command.{Command}
use Rattle.sporc_play.specs.Report.{Writes}
use Rattle.sporc_play.specs.Scene.{Scene}

-- the line that the command writes follows the bytes
abbrev pub AppendsLine : Setup → Scene → Command → List ℕ → List ℕ → Type 0
AppendsLine s scene command old new =
    (line : List ℕ) × Writes s scene command line × (new ≡ old ++ line)

-- that line was written, nothing else
abbrev pub WritesLine : Setup → Scene → Command → Option (List ℕ) → Option (List ℕ) → Type 0
WritesLine s scene command written written' =
    (line : List ℕ) × Writes s scene command line × Appends written written' line

-- a prefix of that line was written, nothing else
abbrev pub WritesPrefix : Setup → Scene → Command → Option (List ℕ) → Option (List ℕ) → Type 0
WritesPrefix s scene command written written' =
    (line : List ℕ) × Writes s scene command line × AppendsPrefix written written' line
