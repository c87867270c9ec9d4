-- The arguments of each command, as the crate `clap` reads them.
use Rattle.std.specs.Prelude.{List, fold, Bool, true, ◌||◌, Option, None, Some}
use Rattle.std.specs.Prelude.{if◌then◌else◌}
use Rattle.clap.specs.Faults.{fault_of}
use Rattle.clap.specs.Simple.{App, app_of, matches_of, new_app, new_rule, with_rule}
use Rattle.clap.specs.Takes.{takes}
use Rattle.clap.specs.Walk.{Row, Rule, Text, is_empty}
use Rattle.clap.specs.declared.Command.{Command}
use Rattle.clap.specs.declared.builder.action.ArgAction.TheVariants.{Append, Set}
use Rattle.sporc_words.specs.declared.arguments.Kind.{Kind}
use Rattle.sporc_words.specs.declared.arguments.Kind.TheVariants as kinds

-- ---- kinds of arguments

-- `NAME`: a word in its place
unfoldable pub positional : Text → Rule
positional id = record (new_rule id) { required = true; action = Some Set }

-- `NAME ..`: any number of words, after the others
unfoldable pub repeated : Text → Rule
repeated id = record (new_rule id) { action = Some Append }

-- `--name N`: a value that may be left out
unfoldable pub optional : Text → Rule
optional id = record (new_rule id) { long = Some id; action = Some Set }

-- `--name N`, where the value must be there
unfoldable pub needed : Text → Rule
needed id = record (optional id) { required = true }

-- an argument of this kind, with this name
abbrev pub rule_for : Kind → Text → Rule
rule_for kinds.Positional id = positional id
rule_for kinds.Repeated id = repeated id
rule_for kinds.Optional id = optional id
rule_for kinds.Needed id = needed id

-- ---- commands

-- what `clap` reads of a command
unfoldable pub grammar_of : Command → App
grammar_of command = app_of command

-- a command of this name, without arguments
unfoldable pub named : Text → App
named name = new_app name

-- a command with one more argument
unfoldable pub with_argument : App → Rule → App
with_argument app rule = with_rule app rule

-- a command with these arguments more, in this order
abbrev pub with_all : App → List Rule → App
with_all = fold with_argument

-- ---- words

-- clap's definition of such a command takes the words, or finds no fault in them
abbrev pub is_taken : App → List Text → Bool
is_taken app words = takes app words || is_empty (fault_of app words)

-- the values of the arguments, unless clap refuses the words
unfoldable pub taken : App → List Text → Option (List Row)
taken app words = if is_taken app words then Some (matches_of app words) else None
