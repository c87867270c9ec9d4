-- What a command line asks for.
use Rattle.std.specs.Prelude.{List, Option, None, Some, slice_get}
use Rattle.clap.specs.Walk.{Text}
use Rattle.sporc_script.specs.Readers.{then_read}
use Rattle.sporc_words.specs.declared.command.Command.{Command}
use Rattle.sporc_words.specs.declared.command.Verb.{Verb}
use Rattle.sporc_words.specs.Arguments.{taken}
use Rattle.sporc_words.specs.Help.{help_in}
use Rattle.sporc_words.specs.Verbs.{app_for, command_in, verb_of}

-- what the words ask for, of which the first is this
unfoldable pub command_by : Verb → List Text → Option Command
command_by verb words = then_read (taken (app_for verb) words) (command_in verb)

-- what they ask for, by the command that the first names
unfoldable pub work_in : List Text → Option Command
work_in words = then_read (slice_get words 0)
    (λ first. then_read (verb_of first) (λ verb. command_by verb words))

-- the first of two that was found
abbrev pub found_or : Option Command → Option Command → Option Command
found_or None other = other
found_or (Some command) other = Some command

-- what a command line asks for, if it is one
unfoldable pub command_of : List Text → Option Command
command_of words = found_or (help_in words) (work_in words)
