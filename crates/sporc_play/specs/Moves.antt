-- A play as a run of its clients.
use Rattle.std.specs.Prelude.{◌≡◌, ℕ, List, [], ◌∷◌, ◌++◌, length, take}
use Rattle.sporc_client.specs.Agree.{Agree}
use Rattle.sporc_client.specs.Run.{IsRun, Move, Setup, start, world_at}
use Rattle.sporc_script.specs.declared.command.Command.{Command}
use Rattle.sporc_script.specs.declared.play_line.PlayLine.{PlayLine}
use Rattle.sporc_play.specs.Cast.{setup_of}
use Rattle.sporc_play.specs.Scene.{Scene, effect_of, after, after_each, opening, opening_moves}

-- the moves of commands, each of which may depend on its scene, one after another from a scene on
abbrev pub moves_from : Setup → Scene → List (Scene → Command) → List Move
moves_from s scene [] = []
moves_from s scene (c ∷ cs) =
    (effect_of s scene (c scene)).moves ++ moves_from s (after s scene (c scene)) cs

-- the moves of a play: the founders open their clients, and then what its commands do
abbrev pub moves_of : List PlayLine → List (Scene → Command) → List Move
moves_of cast commands = opening_moves cast ++ moves_from (setup_of cast) (opening cast) commands

-- the moves of a play are a run; its clients agree, and are the play's after any number of commands
pub record IsOneRun (cast : List PlayLine) (commands : List (Scene → Command)) : Type 0 where
  pub run : IsRun (setup_of cast) start (moves_of cast commands)
  pub world : (n : ℕ) → (after_each (setup_of cast) (opening cast) (take n commands)).world
      ≡ world_at (setup_of cast) (moves_of cast commands) (length (moves_of cast (take n commands)))
  pub agree : Agree (setup_of cast) (moves_of cast commands)
