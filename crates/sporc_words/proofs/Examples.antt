-- Worked examples: command lines, and what they ask for.
use Rattle.std.proofs.Common.{◌≡◌, [], ◌∷◌, None, Some, codes, refl}
use Rattle.sporc_words.proofs.Common.{command_of}
use Rattle.lms_ots.specs.declared.ots_type.OtsType.TheVariants.{W4}
use Rattle.lms_tree.specs.declared.lms_type.LmsType.TheVariants.{H10}
use Rattle.sporc_member.specs.Device.{first_device}
use Rattle.sporc_member.specs.declared.role.Role.TheVariants.{Admin, Editor}
use Rattle.sporc_words.specs.declared.command.Command.TheVariants.{Check, Client, Compare, Entries, Found, Generate, Help, Keygen, Play, Public, Serve, ServeAll, Text, Version}
use Rattle.sporc_words.specs.declared.command.Verb.TheVariants as verbs
use Rattle.sporc_words.specs.declared.page.Page.TheVariants as pages
use Rattle.sporc_words.specs.declared.standing.Standing.TheVariants.{Founder, Joiner}
use Rattle.sporc_words.proofs.Literals.{words_on_literals}

-- `play`
a_play : command_of (codes "play" ∷ []) ≡ Some Play
unfolding words_on_literals
a_play = refl

-- `play --generate=3000`
a_generated_run : command_of (codes "play" ∷ codes "--generate=3000" ∷ []) ≡ Some (Generate 3000)
unfolding words_on_literals
a_generated_run = refl

too_long_a_run : command_of (codes "play" ∷ codes "--generate" ∷ codes "3001" ∷ []) ≡ None
unfolding words_on_literals
too_long_a_run = refl

-- `keygen plan 7 10 4`
a_key : command_of (codes "keygen" ∷ codes "plan" ∷ codes "7" ∷ codes "10" ∷ codes "4" ∷ [])
    ≡ Some (Keygen (record { name = codes "plan"; device = first_device 7; height = H10; width = W4 }))
unfolding words_on_literals
a_key = refl

-- `keygen plan 7.2 10 4`
a_key_of_a_further_device : command_of (codes "keygen" ∷ codes "plan" ∷ codes "7.2" ∷ codes "10" ∷ codes "4" ∷ [])
    ≡ Some (Keygen (record { name = codes "plan"; device = record { member = 7; number = 2 }; height = H10; width = W4 }))
unfolding words_on_literals
a_key_of_a_further_device = refl

a_first_device_by_its_number : command_of (codes "keygen" ∷ codes "plan" ∷ codes "7.0" ∷ codes "10" ∷ codes "4" ∷ []) ≡ None
unfolding words_on_literals
a_first_device_by_its_number = refl

a_zero_in_front : command_of (codes "keygen" ∷ codes "plan" ∷ codes "7.02" ∷ codes "10" ∷ codes "4" ∷ []) ≡ None
unfolding words_on_literals
a_zero_in_front = refl

too_high_a_device : command_of (codes "keygen" ∷ codes "plan" ∷ codes "7.256" ∷ codes "10" ∷ codes "4" ∷ []) ≡ None
unfolding words_on_literals
too_high_a_device = refl

no_such_height : command_of (codes "keygen" ∷ codes "plan" ∷ codes "7" ∷ codes "20" ∷ codes "4" ∷ []) ≡ None
unfolding words_on_literals
no_such_height = refl

-- `found plan 2:editor 1:admin 3:joiner`
a_document : command_of (codes "found" ∷ codes "plan" ∷ codes "2:editor" ∷ codes "1:admin" ∷ codes "3:joiner" ∷ [])
    ≡ Some (Found (record {
      name = codes "plan";
      participants =
          record { member = 2; standing = Founder Editor } ∷ record { member = 1; standing = Founder Admin } ∷ record { member = 3; standing = Joiner } ∷ [];
    }))
unfolding words_on_literals
a_document = refl

no_admin : command_of (codes "found" ∷ codes "plan" ∷ codes "2:editor" ∷ []) ≡ None
unfolding words_on_literals
no_admin = refl

-- `serve plan host:80 --sessions 3`
a_server : command_of (codes "serve" ∷ codes "plan" ∷ codes "host:80" ∷ codes "--sessions" ∷ codes "3" ∷ [])
    ≡ Some (Serve (record { name = codes "plan"; address = codes "host:80"; sessions = 3; times = 1 }))
unfolding words_on_literals
a_server = refl

-- `serve plan host:80 --sessions 3 --times 4294967295`
the_longest_server : command_of (codes "serve" ∷ codes "plan" ∷ codes "host:80" ∷ codes "--sessions" ∷ codes "3" ∷ codes "--times" ∷ codes "4294967295" ∷ [])
    ≡ Some (Serve (record { name = codes "plan"; address = codes "host:80"; sessions = 3; times = 4294967295 }))
unfolding words_on_literals
the_longest_server = refl

too_many_times : command_of (codes "serve" ∷ codes "plan" ∷ codes "host:80" ∷ codes "--sessions" ∷ codes "3" ∷ codes "--times" ∷ codes "4294967296" ∷ []) ≡ None
unfolding words_on_literals
too_many_times = refl

no_time : command_of (codes "serve" ∷ codes "plan" ∷ codes "host:80" ∷ codes "--sessions" ∷ codes "3" ∷ codes "--times" ∷ codes "0" ∷ []) ≡ None
unfolding words_on_literals
no_time = refl

-- `client plan 7 host:80 --until 5 a b`
a_client : command_of (codes "client" ∷ codes "plan" ∷ codes "7" ∷ codes "host:80" ∷ codes "--until" ∷ codes "5" ∷ codes "a" ∷ codes "b" ∷ [])
    ≡ Some (Client (record {
      name = codes "plan";
      device = first_device 7;
      address = codes "host:80";
      rounds = 64;
      until = 5;
      scripts = codes "a" ∷ codes "b" ∷ [];
    }))
unfolding words_on_literals
a_client = refl

-- `check plan 7`
a_check : command_of (codes "check" ∷ codes "plan" ∷ codes "7" ∷ []) ≡ Some (Check (record { name = codes "plan"; device = first_device 7 }))
unfolding words_on_literals
a_check = refl

-- `compare plan 7 9`
a_comparison : command_of (codes "compare" ∷ codes "plan" ∷ codes "7" ∷ codes "9" ∷ [])
    ≡ Some (Compare (record { name = codes "plan"; first = first_device 7; second = first_device 9 }))
unfolding words_on_literals
a_comparison = refl

-- `compare plan 7.1 7`
two_devices_compared : command_of (codes "compare" ∷ codes "plan" ∷ codes "7.1" ∷ codes "7" ∷ [])
    ≡ Some (Compare (record { name = codes "plan"; first = record { member = 7; number = 1 }; second = first_device 7 }))
unfolding words_on_literals
two_devices_compared = refl

zero_is_no_member : command_of (codes "check" ∷ codes "plan" ∷ codes "0" ∷ []) ≡ None
unfolding words_on_literals
zero_is_no_member = refl

no_command : command_of (codes "paly" ∷ []) ≡ None
unfolding words_on_literals
no_command = refl

-- `public plan 7`
a_public_key : command_of (codes "public" ∷ codes "plan" ∷ codes "7" ∷ []) ≡ Some (Public (record { name = codes "plan"; device = first_device 7 }))
unfolding words_on_literals
a_public_key = refl

-- `help`, `--help`, `-h`
overview : command_of (codes "help" ∷ []) ≡ Some (Help pages.Overview)
unfolding words_on_literals
overview = refl

overview_by_option : command_of (codes "--help" ∷ []) ≡ Some (Help pages.Overview)
unfolding words_on_literals
overview_by_option = refl

overview_by_letter : command_of (codes "-h" ∷ []) ≡ Some (Help pages.Overview)
unfolding words_on_literals
overview_by_letter = refl

-- `help check`, `check --help`
a_page : command_of (codes "help" ∷ codes "check" ∷ []) ≡ Some (Help (pages.Of verbs.Check))
unfolding words_on_literals
a_page = refl

a_page_by_option : command_of (codes "check" ∷ codes "--help" ∷ []) ≡ Some (Help (pages.Of verbs.Check))
unfolding words_on_literals
a_page_by_option = refl

help_of_help : command_of (codes "help" ∷ codes "--help" ∷ []) ≡ Some (Help pages.Help)
unfolding words_on_literals
help_of_help = refl

-- `version`, `--version`
version : command_of (codes "version" ∷ []) ≡ Some Version
unfolding words_on_literals
version = refl

version_by_option : command_of (codes "--version" ∷ []) ≡ Some Version
unfolding words_on_literals
version_by_option = refl

-- words more than these are no command
no_page : command_of (codes "help" ∷ codes "nothing" ∷ []) ≡ None
unfolding words_on_literals
no_page = refl

a_word_too_many : command_of (codes "help" ∷ codes "play" ∷ codes "more" ∷ []) ≡ None
unfolding words_on_literals
a_word_too_many = refl

a_word_behind_it : command_of (codes "play" ∷ codes "--help" ∷ codes "more" ∷ []) ≡ None
unfolding words_on_literals
a_word_behind_it = refl

-- what stands for a name is one
named_help : command_of (codes "check" ∷ codes "help" ∷ codes "7" ∷ []) ≡ Some (Check (record { name = codes "help"; device = first_device 7 }))
unfolding words_on_literals
named_help = refl

no_words : command_of [] ≡ None
unfolding words_on_literals
no_words = refl

-- `text plan 7`
a_text : command_of (codes "text" ∷ codes "plan" ∷ codes "7" ∷ []) ≡ Some (Text (record { name = codes "plan"; device = first_device 7; at = None }))
unfolding words_on_literals
a_text = refl

-- `text plan 7 --at 0`
no_text : command_of (codes "text" ∷ codes "plan" ∷ codes "7" ∷ codes "--at" ∷ codes "0" ∷ [])
    ≡ Some (Text (record { name = codes "plan"; device = first_device 7; at = Some 0 }))
unfolding words_on_literals
no_text = refl

at_no_number : command_of (codes "text" ∷ codes "plan" ∷ codes "7" ∷ codes "--at" ∷ codes "07" ∷ []) ≡ None
unfolding words_on_literals
at_no_number = refl

-- `entries plan 7`
all_entries : command_of (codes "entries" ∷ codes "plan" ∷ codes "7" ∷ []) ≡ Some (Entries (record { name = codes "plan"; device = first_device 7; from = 1 }))
unfolding words_on_literals
all_entries = refl

-- `entries plan 7 --from=18`
some_entries : command_of (codes "entries" ∷ codes "plan" ∷ codes "7" ∷ codes "--from=18" ∷ [])
    ≡ Some (Entries (record { name = codes "plan"; device = first_device 7; from = 18 }))
unfolding words_on_literals
some_entries = refl

-- `serve-all host:80 --sessions 9 plan menu`
two_documents : command_of (codes "serve-all" ∷ codes "host:80" ∷ codes "--sessions" ∷ codes "9" ∷ codes "plan" ∷ codes "menu" ∷ [])
    ≡ Some (ServeAll (record { address = codes "host:80"; sessions = 9; times = 1; names = codes "plan" ∷ codes "menu" ∷ [] }))
unfolding words_on_literals
two_documents = refl

-- `serve-all --sessions=9 host:80 plan --times=2`
one_document : command_of (codes "serve-all" ∷ codes "--sessions=9" ∷ codes "host:80" ∷ codes "plan" ∷ codes "--times=2" ∷ [])
    ≡ Some (ServeAll (record { address = codes "host:80"; sessions = 9; times = 2; names = codes "plan" ∷ [] }))
unfolding words_on_literals
one_document = refl

no_document : command_of (codes "serve-all" ∷ codes "host:80" ∷ codes "--sessions" ∷ codes "9" ∷ []) ≡ None
unfolding words_on_literals
no_document = refl
