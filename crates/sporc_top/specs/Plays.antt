-- What a run of `play` did, of a source that tells its text.
use Rattle.std.specs.Prelude.{◌≡◌, true, ℕ, List, Some}
use Rattle.sporc_outside.specs.Uses.{Use}
use Rattle.sporc_outside.specs.Streams.{StreamTold}
use Rattle.sporc_outside.specs.LeafDisk.{DiskTold}
use Rattle.sporc_script.specs.Grammar.{IsPlayScript}
use Rattle.sporc_script.specs.declared.play_line.PlayLine.{PlayLine}
use Rattle.sporc_client.specs.Genuine.{Genuine}
use Rattle.sporc_play.specs.Cast.{has_admin, setup_of}
use Rattle.sporc_play.specs.Moves.{IsOneRun, moves_of}
use Rattle.sporc_play.specs.OwnPlays.{AreByClients}
use Rattle.sporc_play.specs.Report.{Reports}
use Rattle.sporc_play.specs.Scene.{commands_of}
use Rattle.sporc_words.specs.declared.command.Command.TheVariants.{Play}
use Rattle.sporc_words.specs.Commands.{command_of}
use Rattle.sporc_top.specs.Outcome.{RunOutcome}
use Rattle.sporc_top.specs.Uses.{OutsideUse}

-- the text is this script; its report was written, nothing else, and with an admin it is one run
pub record IsPlayed (text : List ℕ) (script : List PlayLine) (did : OutsideUse) : Type 0 where
  pub reads : IsPlayScript text script
  pub reports : Reports script did.out.before.written did.out.after.written
  pub run : has_admin script ≡ true → IsOneRun script (commands_of script)
  pub genuine : has_admin script ≡ true → AreByClients script
      → Genuine (setup_of script) (moves_of script (commands_of script))

-- a run of `play`, by its status, over a text that its source told
pub record PlayOf {D : Type 0} (disks : D → DiskTold) (text : List ℕ) (did : OutsideUse)
    (status : ℕ) : Type 0 where
  pub words : List (List ℕ)
  pub outcome : RunOutcome disks words did status
  pub asks : command_of words ≡ Some Play
  pub told : did.source.before.left ≡ Some text

-- the report of a script was written, and nothing else
abbrev pub WritesReport : List PlayLine → Use StreamTold → Type 0
WritesReport script out = Reports script out.before.written out.after.written
