-- How the code performs the generated run, command by command.
use Rattle.std.specs.Prelude.{ℕ, ◌+◌, ◌^◌, ◌<◌, ◌≤◌, List, IsSome}
use Rattle.sporc_member.specs.declared.device.Device.{Device}
use Rattle.sporc_member.specs.Device.{first_device}
use Rattle.sporc_script.specs.declared.command.Command.{Command}
use Rattle.sporc_play.specs.declared.state.PlayState.{PlayState}
use Rattle.sporc_play.specs.Cast.{setup_of}
use Rattle.sporc_play.specs.Generated.{generated_cast}
use Rattle.sporc_play.specs.Scene.{Scene, after_each}
use Rattle.sporc_play.specs.Stage.{StandsFor}

-- one of its three members
abbrev pub IsAsked : ℕ → Type 0
IsAsked member = (0 < member) × (member ≤ 3)

-- the state stands for a scene of its members, in which so many more commands may be asked of each
pub record HasRoom (n : ℕ) (state : PlayState) : Type 0 where
  pub scene : Scene
  pub stands : StandsFor generated_cast scene state
  pub room : (who : Device) → scene.asked who + n < 2 ^ 24

-- the state stands for a scene of its members, who all have clients
pub record AreOpen (state : PlayState) : Type 0 where
  pub scene : Scene
  pub stands : StandsFor generated_cast scene state
  pub open_clients : (m : ℕ) → IsAsked m → IsSome (scene.world.clients (first_device m))

-- whatever scene a state stands for, the other stands for the scene after these commands
abbrev pub Performs : PlayState → List (Scene → Command) → PlayState → Type 0
Performs old commands new = (scene : Scene) → StandsFor generated_cast scene old
    → StandsFor generated_cast (after_each (setup_of generated_cast) scene commands) new
