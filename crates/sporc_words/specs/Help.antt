-- Command lines that ask for a page of the help, or for the version: these words and no more.
use Rattle.std.specs.Prelude.{◌||◌, Bool, List, [], ◌∷◌, codes, Option, None, Some, option_map}
use Rattle.std.specs.Prelude.{if◌then◌else◌}
use Rattle.std.specs.Str.{bytes_eq}
use Rattle.clap.specs.Walk.{Text}
use Rattle.sporc_words.specs.declared.command.Command.{Command}
use Rattle.sporc_words.specs.declared.command.Command.TheVariants as commands
use Rattle.sporc_words.specs.declared.page.Page.{Page}
use Rattle.sporc_words.specs.declared.page.Page.TheVariants as pages
use Rattle.sporc_words.specs.Verbs.{verb_of}

-- the page of a command
abbrev pub page_of : Text → Option Page
page_of word =
    if bytes_eq word (codes "help") then Some pages.Help
    else if bytes_eq word (codes "version") then Some pages.Version
    else option_map pages.Of (verb_of word)

-- `help`, `--help` or `-h`
abbrev pub asks_overview : Text → Bool
asks_overview word =
    bytes_eq word (codes "help") || (bytes_eq word (codes "--help") || bytes_eq word (codes "-h"))

-- `version` or `--version`
abbrev pub asks_version : Text → Bool
asks_version word = bytes_eq word (codes "version") || bytes_eq word (codes "--version")

-- what one word asks for
abbrev pub of_one : Text → Option Command
of_one word =
    if asks_overview word then Some (commands.Help pages.Overview)
    else if asks_version word then Some commands.Version else None

-- `COMMAND --help`, or `help COMMAND`
abbrev pub of_both : Text → Text → Option Command
of_both first second =
    if bytes_eq second (codes "--help") then option_map commands.Help (page_of first)
    else if bytes_eq first (codes "help") then option_map commands.Help (page_of second)
    else None

-- what a whole command line asks for
unfoldable pub help_in : List Text → Option Command
help_in [] = None
help_in (word ∷ []) = of_one word
help_in (first ∷ second ∷ []) = of_both first second
help_in (first ∷ second ∷ third ∷ more) = None
