-- The table of the commands: what is said of each, the words that name them, and what a line of one
-- asks for by the values of its arguments.
use Rattle.std.specs.Prelude.{nat_le, List, length, map, codes, Option, None, Some, option_map}
use Rattle.std.specs.Prelude.{if◌then◌else◌}
use Rattle.clap.specs.Simple.{App}
use Rattle.clap.specs.Walk.{Row, Rule, Text, first_of}
use Rattle.sporc_script.specs.declared.limits.TheConstants.{MAX_EDITORS, MAX_GENERATED}
use Rattle.sporc_script.specs.Readers.{device_of, named_of, then_read, u32_of}
use Rattle.sporc_wire.specs.declared.limits.TheConstants.{MAX_DOCUMENTS, MAX_SESSIONS}
use Rattle.sporc_words.specs.declared.arguments.Kind.{Kind}
use Rattle.sporc_words.specs.declared.check.Check.{Check}
use Rattle.sporc_words.specs.declared.client.Client.{Client}
use Rattle.sporc_words.specs.declared.command.Command.{Command}
use Rattle.sporc_words.specs.declared.command.Command.TheVariants as commands
use Rattle.sporc_words.specs.declared.command.TheConstants.{VERBS}
use Rattle.sporc_words.specs.declared.command.Verb.{Verb}
use Rattle.sporc_words.specs.declared.command.Verb.TheVariants as verbs
use Rattle.sporc_words.specs.declared.compare.Compare.{Compare}
use Rattle.sporc_words.specs.declared.defaults.TheConstants.{DEFAULT_FROM, DEFAULT_ROUNDS}
use Rattle.sporc_words.specs.declared.defaults.TheConstants.{DEFAULT_TIMES, DEFAULT_UNTIL}
use Rattle.sporc_words.specs.declared.entries.EntriesFrom.{EntriesFrom}
use Rattle.sporc_words.specs.declared.found.Found.{Found}
use Rattle.sporc_words.specs.declared.keygen.Keygen.{Keygen}
use Rattle.sporc_words.specs.declared.public.Public.{Public}
use Rattle.sporc_words.specs.declared.serve.Serve.{Serve}
use Rattle.sporc_words.specs.declared.serve_all.ServeAll.{ServeAll}
use Rattle.sporc_words.specs.declared.text.TextAt.{TextAt}
use Rattle.sporc_words.specs.declared.check.TheConstants as check
use Rattle.sporc_words.specs.declared.client.TheConstants as client
use Rattle.sporc_words.specs.declared.compare.TheConstants as compare
use Rattle.sporc_words.specs.declared.entries.TheConstants as entries
use Rattle.sporc_words.specs.declared.found.TheConstants as found
use Rattle.sporc_words.specs.declared.keygen.TheConstants as keygen
use Rattle.sporc_words.specs.declared.play.TheConstants as play
use Rattle.sporc_words.specs.declared.public.TheConstants as public
use Rattle.sporc_words.specs.declared.serve.TheConstants as serve
use Rattle.sporc_words.specs.declared.serve_all.TheConstants as serve_all
use Rattle.sporc_words.specs.declared.text.TheConstants as text
use Rattle.sporc_words.specs.Arguments.{named, rule_for, with_all}
use Rattle.sporc_words.specs.Values.{is_between, number_between, number_if, participants_of}
use Rattle.sporc_words.specs.Values.{times_of, tree_of, value_of, value_or, values_of, width_named}

-- ---- what is said of each

-- its first word, its arguments as `clap` reads them, and its page of the help
pub record CommandRowModel : Type 0 where
  pub word : Text
  pub rules : List Rule
  pub page : Text

abbrev pub row_with : record { now : Text } → record { now : List (Kind × record { now : Text }) }
    → record { now : Text } → CommandRowModel
row_with word arguments page = record {
  word = word.now;
  rules = map (λ a. rule_for a.0 a.1.now) arguments.now;
  page = page.now;
}

-- the table of the commands
abbrev pub row_of : Verb → CommandRowModel
row_of verbs.Play = row_with play.WORD play.ARGUMENTS play.PAGE
row_of verbs.Keygen = row_with keygen.WORD keygen.ARGUMENTS keygen.PAGE
row_of verbs.Found = row_with found.WORD found.ARGUMENTS found.PAGE
row_of verbs.Serve = row_with serve.WORD serve.ARGUMENTS serve.PAGE
row_of verbs.Client = row_with client.WORD client.ARGUMENTS client.PAGE
row_of verbs.Check = row_with check.WORD check.ARGUMENTS check.PAGE
row_of verbs.Compare = row_with compare.WORD compare.ARGUMENTS compare.PAGE
row_of verbs.Public = row_with public.WORD public.ARGUMENTS public.PAGE
row_of verbs.Text = row_with text.WORD text.ARGUMENTS text.PAGE
row_of verbs.Entries = row_with entries.WORD entries.ARGUMENTS entries.PAGE
row_of verbs.ServeAll = row_with serve_all.WORD serve_all.ARGUMENTS serve_all.PAGE

-- the command that a word names
unfoldable pub verb_of : Text → Option Verb
verb_of word = named_of (λ verb. (row_of verb).word) VERBS word

-- its command as `clap` reads it
abbrev pub app_for : Verb → App
app_for verb = with_all (named (row_of verb).word) (row_of verb).rules

-- ---- each command, by the values of its arguments

-- `play`, or `play --generate N` with N from 1 to its limit
abbrev pub play_by : Option Text → Option Command
play_by None = Some commands.Play
play_by (Some edits) = option_map commands.Generate (number_between 1 MAX_GENERATED edits)

abbrev pub play_in : List Row → Option Command
play_in rows = play_by (first_of (codes "generate") rows)

abbrev pub keygen_in : List Row → Option Keygen
keygen_in rows = then_read (first_of (codes "NAME") rows)
    (λ name. then_read (value_of (codes "M") device_of rows)
    (λ device. then_read (value_of (codes "HEIGHT") tree_of rows)
    (λ height. then_read (value_of (codes "W") width_named rows)
    (λ width. Some (record { name = name; device = device; height = height; width = width })))))

abbrev pub found_in : List Row → Option Found
found_in rows = then_read (first_of (codes "NAME") rows)
    (λ name. then_read (participants_of (values_of (codes "M:ROLE") rows))
    (λ participants. Some (record { name = name; participants = participants })))

abbrev pub serve_in : List Row → Option Serve
serve_in rows =
    then_read (first_of (codes "NAME") rows) (λ name. then_read (first_of (codes "ADDRESS") rows)
    (λ address. then_read (value_of (codes "sessions") (number_between 1 MAX_SESSIONS) rows)
    (λ sessions. then_read (value_or (codes "times") DEFAULT_TIMES times_of rows) (λ times.
    Some (record { name = name; address = address; sessions = sessions; times = times })))))

-- the scripts of editors, unless they are too many
abbrev pub scripts_of : List Text → Option (List Text)
scripts_of words = if nat_le (length words) MAX_EDITORS then Some words else None

abbrev pub client_in : List Row → Option Client
client_in rows = then_read (first_of (codes "NAME") rows)
    (λ name. then_read (value_of (codes "M") device_of rows)
    (λ device. then_read (first_of (codes "ADDRESS") rows)
    (λ address. then_read (value_or (codes "rounds") DEFAULT_ROUNDS u32_of rows)
    (λ rounds. then_read (value_or (codes "until") DEFAULT_UNTIL u32_of rows)
    (λ until. then_read (scripts_of (values_of (codes "SCRIPT") rows)) (λ scripts. Some (record {
      name = name;
      device = device;
      address = address;
      rounds = rounds;
      until = until;
      scripts = scripts;
    })))))))

abbrev pub check_in : List Row → Option Check
check_in rows = then_read (first_of (codes "NAME") rows)
    (λ name. then_read (value_of (codes "M") device_of rows)
    (λ device. Some (record { name = name; device = device })))

abbrev pub public_in : List Row → Option Public
public_in rows = then_read (first_of (codes "NAME") rows)
    (λ name. then_read (value_of (codes "M") device_of rows)
    (λ device. Some (record { name = name; device = device })))

abbrev pub compare_in : List Row → Option Compare
compare_in rows = then_read (first_of (codes "NAME") rows)
    (λ name. then_read (value_of (codes "M") device_of rows)
    (λ first. then_read (value_of (codes "N") device_of rows)
    (λ second. Some (record { name = name; first = first; second = second }))))

abbrev pub text_in : List Row → Option TextAt
text_in rows = then_read (first_of (codes "NAME") rows)
    (λ name. then_read (value_of (codes "M") device_of rows) (λ device. then_read
    (number_if (codes "at") rows) (λ at. Some (record { name = name; device = device; at = at }))))

abbrev pub entries_in : List Row → Option EntriesFrom
entries_in rows = then_read (first_of (codes "NAME") rows)
    (λ name. then_read (value_of (codes "M") device_of rows)
    (λ device. then_read (value_or (codes "from") DEFAULT_FROM u32_of rows)
    (λ from. Some (record { name = name; device = device; from = from }))))

-- the names of documents, if they are from one to as many as a server may have
abbrev pub documents_of : List Text → Option (List Text)
documents_of words = if is_between 1 MAX_DOCUMENTS (length words) then Some words else None

abbrev pub serve_all_in : List Row → Option ServeAll
serve_all_in rows = then_read (first_of (codes "ADDRESS") rows)
    (λ address. then_read (value_of (codes "sessions") (number_between 1 MAX_SESSIONS) rows)
    (λ sessions. then_read (value_or (codes "times") DEFAULT_TIMES times_of rows)
    (λ times. then_read (documents_of (values_of (codes "NAME") rows)) (λ names.
    Some (record { address = address; sessions = sessions; times = times; names = names })))))

-- its command, by the values of the arguments
abbrev pub command_in : Verb → List Row → Option Command
command_in verbs.Play rows = play_in rows
command_in verbs.Keygen rows = option_map commands.Keygen (keygen_in rows)
command_in verbs.Found rows = option_map commands.Found (found_in rows)
command_in verbs.Serve rows = option_map commands.Serve (serve_in rows)
command_in verbs.Client rows = option_map commands.Client (client_in rows)
command_in verbs.Check rows = option_map commands.Check (check_in rows)
command_in verbs.Compare rows = option_map commands.Compare (compare_in rows)
command_in verbs.Public rows = option_map commands.Public (public_in rows)
command_in verbs.Text rows = option_map commands.Text (text_in rows)
command_in verbs.Entries rows = option_map commands.Entries (entries_in rows)
command_in verbs.ServeAll rows = option_map commands.ServeAll (serve_all_in rows)
