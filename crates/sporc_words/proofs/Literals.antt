-- What a proof unfolds to compute what a command line asks for, where its words are written out.
use Rattle.sporc_words.proofs.Common.{⊤}
use Rattle.std.specs.Fmt.{digits}
use Rattle.clap.proofs.OnLiterals.{clap_on_literals}
use Rattle.sporc_script.specs.Plain.{role_of}
use Rattle.sporc_script.specs.Readers.{device_of, further_number_of, member_of, u32_of}
use Rattle.sporc_script.specs.Words.{number_of, split_at}
use Rattle.sporc_words.specs.Arguments.{named, needed, optional, positional, repeated, taken, with_argument}
use Rattle.sporc_words.specs.Commands.{command_by, command_of, work_in}
use Rattle.sporc_words.specs.Help.{help_in}
use Rattle.sporc_words.specs.Values.{participant_of, participants_of}
use Rattle.sporc_words.specs.Verbs.{verb_of}

-- the command of a first word
unfoldable pub app_on_literals : ⊤
unfolding clap_on_literals named with_argument positional repeated optional needed
app_on_literals = tt

unfoldable pub words_on_literals : ⊤
unfolding app_on_literals taken command_of help_in work_in command_by verb_of number_of split_at digits member_of further_number_of device_of u32_of role_of participant_of participants_of
words_on_literals = tt
