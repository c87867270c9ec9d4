-- The arguments of a fault's line.
use Rattle.std.specs.Prelude.{ℕ, List, [], ◌∷◌, ◌++◌, codes}
use Rattle.std.specs.Fmt.{decimal}
use Rattle.sporc_head.specs.Refusal.{refusal_name}
use Rattle.sporc_script.specs.Spelling.{device_text}
use Rattle.sporc_report.specs.Names.{edit_fault_name, hint_fault_name, open_fault_name}
use Rattle.sporc_files.specs.declared.argument.Argument.{Argument}
use Rattle.sporc_files.specs.declared.argument.Argument.TheVariants.{Nothing, Number, Name, Refusal}
use Rattle.sporc_files.specs.declared.argument.Argument.TheVariants.{Hints, Opening, Edit}
use Rattle.sporc_files.specs.declared.text.Middle.{Middle}
use Rattle.sporc_files.specs.declared.text.Middle.TheVariants as middles
use Rattle.sporc_files.specs.declared.text.Text.{Text}
use Rattle.sporc_files.specs.Names.{FileNames, stem_of, suffix_of}

-- a number or a device, or nothing
abbrev pub middle_bytes : Middle → List ℕ
middle_bytes middles.Nothing = []
middle_bytes (middles.Number number) = decimal number
middle_bytes (middles.Device device) = device_text device

abbrev pub text_bytes : Text → List ℕ
text_bytes text = text.before.now ++ (middle_bytes text.middle ++ text.behind.now)

-- what an argument says; of a file's name, what stands behind its stem
abbrev pub argument_text : Argument → List ℕ
argument_text Nothing = []
argument_text (Number number) = decimal number
argument_text (Name file) = suffix_of file
argument_text (Refusal refusal) = refusal_name refusal
argument_text (Hints fault) = hint_fault_name fault
argument_text (Opening fault) = open_fault_name fault
argument_text (Edit fault) = edit_fault_name fault

abbrev pub stem_before : FileNames → Argument → List ℕ
stem_before names (Name file) = stem_of names file
stem_before names other = []

abbrev pub space_of : Argument → List ℕ
space_of Nothing = []
space_of other = codes " "

-- an argument behind a space
abbrev pub argument_bytes : FileNames → Argument → List ℕ
argument_bytes names argument =
    space_of argument ++ (stem_before names argument ++ argument_text argument)

-- up to three arguments
abbrev pub none : List Argument
none = Nothing ∷ Nothing ∷ Nothing ∷ []

abbrev pub one : Argument → List Argument
one a = a ∷ Nothing ∷ Nothing ∷ []

abbrev pub two : Argument → Argument → List Argument
two a b = a ∷ b ∷ Nothing ∷ []

abbrev pub three : Argument → Argument → Argument → List Argument
three a b c = a ∷ b ∷ c ∷ []
