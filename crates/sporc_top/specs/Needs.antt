-- What a command needs.
use Rattle.std.specs.Prelude.{Bool, true, false, Option, None, Some}
use Rattle.sporc_words.specs.declared.command.Command.{Command}
use Rattle.sporc_words.specs.declared.command.Command.TheVariants as commands

-- the objects outside that it may use beside the sink
pub record Needs : Type 0 where
  pub source : Bool
  pub files : Bool
  pub net : Bool
  pub chance : Bool

abbrev pub needs : Bool → Bool → Bool → Bool → Needs
needs source files net chance =
    record { source = source; files = files; net = net; chance = chance }

-- most commands need files alone
abbrev pub needs_of : Command → Needs
needs_of commands.Play = needs true false false false
needs_of (commands.Generate edits) = needs false false false false
needs_of (commands.Help page) = needs false false false false
needs_of commands.Version = needs false false false false
needs_of (commands.Keygen words) = needs false true false true
needs_of (commands.Found words) = needs false true false true
needs_of (commands.Serve words) = needs false true true false
needs_of (commands.ServeAll words) = needs false true true false
needs_of (commands.Client words) = needs false true true true
needs_of command = needs false true false false

-- words that ask for no command need nothing
abbrev pub needs_by : Option Command → Needs
needs_by None = needs false false false false
needs_by (Some command) = needs_of command
