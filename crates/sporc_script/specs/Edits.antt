-- How edits of the text and of the members are read.
use Rattle.std.specs.Prelude.{ℕ, List, [], ◌∷◌, Option, None, Some, option_map, codes}
use Rattle.std.specs.Prelude.{if◌then◌else◌}
use Rattle.std.specs.Str.{bytes_eq}
use Rattle.sporc_script.specs.declared.command.Edit.{Edit}
use Rattle.sporc_script.specs.declared.command.RosterEdit.{RosterEdit}
use Rattle.sporc_script.specs.declared.roster_change.RosterChange.{RosterChange}
use Rattle.sporc_script.specs.declared.roster_change.RosterChange.TheVariants as changes
use Rattle.sporc_script.specs.declared.roster_change.RosterWord.{RosterWord}
use Rattle.sporc_script.specs.declared.roster_change.RosterWord.TheVariants as roster_words
use Rattle.sporc_script.specs.declared.text_edit.Insertion.{Insertion}
use Rattle.sporc_script.specs.declared.text_edit.Removal.{Removal}
use Rattle.sporc_script.specs.declared.text_edit.TextEdit.{TextEdit}
use Rattle.sporc_script.specs.declared.text_edit.TextEdit.TheVariants as edits
use Rattle.sporc_script.specs.declared.text_edit.TextWord.{TextWord}
use Rattle.sporc_script.specs.declared.text_edit.TextWord.TheVariants as text_words
use Rattle.sporc_script.specs.Plain.{member_device_of, member_role_of}
use Rattle.sporc_script.specs.Readers.{device_of, keyed_of, lone_or, member_of, named_of, pair_of}
use Rattle.sporc_script.specs.Readers.{then_read}
use Rattle.sporc_script.specs.Spelling.{roster_word_name, text_word_name}
use Rattle.sporc_script.specs.Texts.{text_of}
use Rattle.sporc_script.specs.Words.{cut, number_of}

unfoldable pub text_word_of : List ℕ → Option TextWord
text_word_of word = named_of text_word_name (text_words.Insert ∷ text_words.Remove ∷ []) word

unfoldable pub roster_word_of : List ℕ → Option RosterWord
roster_word_of word = named_of roster_word_name (roster_words.Add ∷ roster_words.Remove
    ∷ roster_words.Role ∷ roster_words.Device ∷ roster_words.DropDevice ∷ []) word

unfoldable pub insertion_of : List ℕ → Option Insertion
insertion_of words =
    option_map (λ p. record { at = p.0; text = p.1 }) (pair_of number_of text_of words)

unfoldable pub removal_of : List ℕ → Option Removal
removal_of words =
    option_map (λ p. record { at = p.0; count = p.1 }) (pair_of number_of number_of words)

abbrev pub text_edit_with : TextWord → List ℕ → Option TextEdit
text_edit_with text_words.Insert words = option_map edits.Insert (insertion_of words)
text_edit_with text_words.Remove words = option_map edits.Remove (removal_of words)

unfoldable pub text_edit_of : List ℕ → Option TextEdit
text_edit_of words = keyed_of text_word_of text_edit_with words

-- an edit behind `seen S`, or alone
abbrev pub stated_with : List ℕ → List ℕ → List ℕ → Option (Option ℕ × TextEdit)
stated_with words first rest =
    if bytes_eq first (codes "seen")
    then option_map (λ p. (Some p.0, p.1)) (pair_of number_of text_edit_of rest)
    else option_map (λ change. (None, change)) (text_edit_of words)

unfoldable pub stated_of : List ℕ → Option (Option ℕ × TextEdit)
stated_of words = then_read (cut words) (λ parts. stated_with words parts.0 parts.1)

unfoldable pub edit_of : List ℕ → Option Edit
edit_of words = option_map (λ p. record { device = p.0; seen = p.1.0; change = p.1.1 })
    (pair_of device_of stated_of words)

abbrev pub roster_change_with : RosterWord → List ℕ → Option RosterChange
roster_change_with roster_words.Add words = option_map changes.Add (member_role_of words)
roster_change_with roster_words.Remove words = option_map changes.Remove (member_of words)
roster_change_with roster_words.Role words = option_map changes.SetRole (member_role_of words)
roster_change_with roster_words.Device words = option_map changes.AddDevice (member_device_of words)
roster_change_with roster_words.DropDevice words =
    option_map changes.DropDevice (member_device_of words)

unfoldable pub roster_change_of : List ℕ → Option RosterChange
roster_change_of words =
    lone_or (codes "upgrade") changes.Upgrade (keyed_of roster_word_of roster_change_with) words

unfoldable pub roster_edit_of : List ℕ → Option RosterEdit
roster_edit_of words = option_map (λ p. record { device = p.0; change = p.1 })
    (pair_of device_of roster_change_of words)
