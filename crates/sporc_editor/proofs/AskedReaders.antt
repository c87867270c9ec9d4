-- A line is read as the one thing that it asks for.
use Rattle.std.proofs.Common.{◌≡◌, ℕ, Bool, true, false, List, ◌∷◌, ◌++◌, Option, Some, None, option_map, refl, sym, ap, ◌∙◌, subst}
use Rattle.std.specs.Prelude.{IfNone, IfSome, codes, if◌then◌else◌}
use Rattle.std.specs.Fmt.{decimal}
use Rattle.std.specs.Str.{all_scalars, bytes_eq}
use Rattle.std.proofs.lemmas.Option.{same_Some}
use Rattle.std.proofs.lemmas.Slice.Eq.{bytes_eq-Decides}
use Rattle.sporc_member.specs.declared.change.Change.{Change as MemberChange}
use Rattle.sporc_member.specs.declared.change.Change.TheVariants as changes
use Rattle.sporc_script.specs.declared.editor_line.EditorCommand.{EditorCommand}
use Rattle.sporc_script.specs.declared.editor_line.EditorCommand.TheVariants as commands
use Rattle.sporc_script.specs.declared.text_edit.Insertion.{Insertion}
use Rattle.sporc_script.specs.declared.text_edit.Removal.{Removal}
use Rattle.sporc_script.specs.EditorLines.{EditorInRange, editor_of, editor_spelling, new_device_spelling, newcomer_spelling}
use Rattle.sporc_script.specs.Edits.{insertion_of, removal_of}
use Rattle.sporc_script.specs.Quoted.{quoted}
use Rattle.sporc_script.specs.Readers.{pair_of, then_read}
use Rattle.sporc_script.specs.Spelling.{IsU64, member_device_spelling, member_role_spelling}
use Rattle.sporc_script.specs.Words.{cut, number_of}
use Rattle.sporc_script.proofs.Cuts.{IsWord, cut_end, cut_sound, cut_word, word_from_test}
use Rattle.sporc_script.proofs.EditReaders.{insertion_exact, removal_exact}
use Rattle.sporc_script.proofs.EditorReaders.{editor_exact}
use Rattle.sporc_script.proofs.Exact.{IsExact, map_some, pair_exact, read_is, then_some}
use Rattle.sporc_script.proofs.Keyed.{variant_sound}
use Rattle.sporc_script.proofs.PlainReaders.{number_words}
use Rattle.sporc_script.proofs.ScriptLines.{one_spelled}
use Rattle.sporc_script.proofs.TextWords.{number_exact}
use Rattle.sporc_editor.specs.declared.asked.Asked.{Asked}
use Rattle.sporc_editor.specs.declared.asked.Asked.TheVariants as asks
use Rattle.sporc_editor.specs.AskedLines.{AskedInRange, SpellsAsked, asked_alone_of, asked_change_of, asked_insertion_of, asked_of, asked_removal_of, asked_spelling, asked_with, change_of, command_of}

-- ---- edits, and the line that they name

seen_insertion : IsExact (ℕ × Insertion) (λ p. IsU64 p.0 × (IsU64 p.1.at × (all_scalars p.1.text ≡ true))) (λ p. decimal p.0 ++ 32 ∷ (decimal p.1.at ++ 32 ∷ quoted p.1.text)) (pair_of number_of insertion_of)
seen_insertion = pair_exact ℕ Insertion _ _ decimal (λ e. decimal e.at ++ 32 ∷ quoted e.text) number_of insertion_of number_exact number_words insertion_exact

seen_removal : IsExact (ℕ × Removal) (λ p. IsU64 p.0 × (IsU64 p.1.at × IsU64 p.1.count)) (λ p. decimal p.0 ++ 32 ∷ (decimal p.1.at ++ 32 ∷ decimal p.1.count)) (pair_of number_of removal_of)
seen_removal = pair_exact ℕ Removal _ _ decimal (λ e. decimal e.at ++ 32 ∷ decimal e.count) number_of removal_of number_exact number_words removal_exact

insertion_sound : (words : List ℕ) (asked : Asked) → asked_insertion_of words ≡ Some asked → AskedInRange asked × (codes "insert" ++ 32 ∷ words ≡ asked_spelling asked)
unfolding asked_insertion_of
insertion_sound words asked is =
    variant_sound (ℕ × Insertion) Asked _ _ (pair_of number_of insertion_of) seen_insertion AskedInRange asked_spelling (codes "insert") (λ p. asks.Insert p.0 p.1) (λ p h. h) (λ p. refl) words asked is

removal_sound : (words : List ℕ) (asked : Asked) → asked_removal_of words ≡ Some asked → AskedInRange asked × (codes "remove" ++ 32 ∷ words ≡ asked_spelling asked)
unfolding asked_removal_of
removal_sound words asked is =
    variant_sound (ℕ × Removal) Asked _ _ (pair_of number_of removal_of) seen_removal AskedInRange asked_spelling (codes "remove") (λ p. asks.Remove p.0 p.1) (λ p h. h) (λ p. refl) words asked is

-- ---- changes

command_is : (command : EditorCommand) (change : MemberChange) → change_of command ≡ Some change → command ≡ command_of change
command_is (commands.Insert e) change is = cc
command_is (commands.Remove e) change is = cc
command_is (commands.Add f) change is = ap command_of (same_Some (changes.Add f.member f.role f.key) change is)
command_is (commands.Drop member) change is = ap command_of (same_Some (changes.Remove member) change is)
command_is (commands.SetRole m) change is = ap command_of (same_Some (changes.SetRole m.member m.role) change is)
command_is (commands.AddDevice d) change is = ap command_of (same_Some (changes.AddDevice d.device.member d.device.number d.key) change is)
command_is (commands.DropDevice d) change is = ap command_of (same_Some (changes.DropDevice d.member d.number) change is)
command_is commands.Upgrade change is = ap command_of (same_Some changes.Upgrade change is)

change_sound : (line : List ℕ) (asked : Asked) → asked_change_of line ≡ Some asked → SpellsAsked line asked
unfolding asked_change_of
change_sound line asked is =
    let found = map_some (then_read (editor_of line) change_of) asks.Change asked is in
    let read = then_some (editor_of line) change_of found.0 found.1 in
    subst (SpellsAsked line) found.2
    (subst (λ (command : EditorCommand). EditorInRange command × (line ≡ editor_spelling command)) (command_is read.0 found.0 read.2) (editor_exact.sound line read.0 read.1))

change_back : (change : MemberChange) → change_of (command_of change) ≡ Some change
change_back (changes.Add member role key) = refl
change_back (changes.Remove member) = refl
change_back (changes.SetRole member role) = refl
change_back (changes.AddDevice member number key) = refl
change_back (changes.DropDevice member number) = refl
change_back changes.Upgrade = refl

change_complete : (change : MemberChange) → EditorInRange (command_of change) → asked_change_of (editor_spelling (command_of change)) ≡ Some (asks.Change change)
unfolding asked_change_of
change_complete change range =
    ap (λ (o : Option EditorCommand). option_map asks.Change (then_read o change_of)) (editor_exact.complete (command_of change) range)
    ∙ ap (option_map asks.Change) (change_back change)

-- ---- what a line is read as

-- a choice that gives a value: what the chosen one gives
chosen : {A P : Type 0} (t : Bool) (x y : Option A) (a : A) → (if t then x else y) ≡ Some a → (t ≡ true → x ≡ Some a → P) → (y ≡ Some a → P) → P
chosen true x y a is first second = first refl is
chosen false x y a is first second = second is

-- a word that stands alone, or else another reading
alone_step : (line name : List ℕ) (value : Asked) (other : Option Asked) (asked : Asked) → SpellsAsked name value → (if bytes_eq line name then Some value else other) ≡ Some asked
    → (other ≡ Some asked → SpellsAsked line asked) → SpellsAsked line asked
alone_step line name value other asked spelled is next =
    chosen (bytes_eq line name) (Some value) other asked is
    (λ same found. subst (SpellsAsked line) (same_Some value asked found) (subst (λ (bytes : List ℕ). SpellsAsked bytes value) (sym ((bytes_eq-Decides line name).0 same)) spelled))
    next

alone_sound : (line : List ℕ) (asked : Asked) → asked_alone_of line ≡ Some asked → SpellsAsked line asked
alone_sound line asked is =
    alone_step line (codes "pull") asks.Pull _ asked (tt, refl) is (λ is.
    alone_step line (codes "sync") asks.Sync _ asked (tt, refl) is (λ is.
    alone_step line (codes "text") asks.Text _ asked (tt, refl) is (λ is.
    alone_step line (codes "save") asks.Save _ asked (tt, refl) is (change_sound line asked))))

-- a first word that is this name
named_step : (line word rest name : List ℕ) (asked : Asked) → line ≡ word ++ 32 ∷ rest → bytes_eq word name ≡ true → AskedInRange asked × (name ++ 32 ∷ rest ≡ asked_spelling asked) → SpellsAsked line asked
named_step line word rest name asked whole same spelled = (spelled.0, whole ∙ ap (λ (w : List ℕ). w ++ 32 ∷ rest) ((bytes_eq-Decides word name).0 same) ∙ spelled.1)

with_sound : (line : List ℕ) (asked : Asked) (parts : Option (List ℕ × List ℕ)) → cut line ≡ parts → asked_with line parts ≡ Some asked → SpellsAsked line asked
with_sound line asked None was is = alone_sound line asked is
with_sound line asked (Some (word, rest)) was is =
    let whole = cut_sound line word rest was in
    chosen (bytes_eq word (codes "insert")) (asked_insertion_of rest) _ asked is
    (λ same found. named_step line word rest (codes "insert") asked whole same (insertion_sound rest asked found))
    (λ is. chosen (bytes_eq word (codes "remove")) (asked_removal_of rest) _ asked is
    (λ same found. named_step line word rest (codes "remove") asked whole same (removal_sound rest asked found))
    (change_sound line asked))

-- a line whose first word names no edit
other_word : (name rest : List ℕ) → IsWord name → bytes_eq name (codes "insert") ≡ false → bytes_eq name (codes "remove") ≡ false → asked_of (name ++ 32 ∷ rest) ≡ asked_change_of (name ++ 32 ∷ rest)
unfolding asked_of
other_word name rest word first second = ap (asked_with (name ++ 32 ∷ rest)) (cut_word name rest word) ∙ rw (first, second) refl

as_change : (change : MemberChange) → asked_of (editor_spelling (command_of change)) ≡ asked_change_of (editor_spelling (command_of change))
unfolding asked_of
as_change (changes.Add member role key) = other_word (codes "add") (newcomer_spelling (record { member = member; role = role; key = key })) (word_from_test (codes "add") refl) refl refl
as_change (changes.Remove member) = other_word (codes "drop") (decimal member) (word_from_test (codes "drop") refl) refl refl
as_change (changes.SetRole member role) = other_word (codes "role") (member_role_spelling (record { member = member; role = role })) (word_from_test (codes "role") refl) refl refl
as_change (changes.AddDevice member number key) = other_word (codes "device") (new_device_spelling (record { device = record { member = member; number = number }; key = key })) (word_from_test (codes "device") refl) refl refl
as_change (changes.DropDevice member number) = other_word (codes "drop-device") (member_device_spelling (record { member = member; number = number })) (word_from_test (codes "drop-device") refl) refl refl
as_change changes.Upgrade = ap (asked_with (codes "upgrade")) (cut_end (codes "upgrade") (word_from_test (codes "upgrade") refl))

asked_complete : (asked : Asked) → AskedInRange asked → asked_of (asked_spelling asked) ≡ Some asked
unfolding asked_of asked_insertion_of asked_removal_of
asked_complete (asks.Insert seen e) range =
    ap (asked_with (asked_spelling (asks.Insert seen e))) (cut_word (codes "insert") (decimal seen ++ 32 ∷ (decimal e.at ++ 32 ∷ quoted e.text)) (word_from_test (codes "insert") refl))
    ∙ ap (option_map (λ p. asks.Insert p.0 p.1)) (seen_insertion.complete (seen, e) range)
asked_complete (asks.Remove seen e) range =
    ap (asked_with (asked_spelling (asks.Remove seen e))) (cut_word (codes "remove") (decimal seen ++ 32 ∷ (decimal e.at ++ 32 ∷ decimal e.count)) (word_from_test (codes "remove") refl))
    ∙ ap (option_map (λ p. asks.Remove p.0 p.1)) (seen_removal.complete (seen, e) range)
asked_complete (asks.Change change) range = as_change change ∙ change_complete change range
asked_complete asks.Pull range = ap (asked_with (codes "pull")) (cut_end (codes "pull") (word_from_test (codes "pull") refl))
asked_complete asks.Sync range = ap (asked_with (codes "sync")) (cut_end (codes "sync") (word_from_test (codes "sync") refl))
asked_complete asks.Text range = ap (asked_with (codes "text")) (cut_end (codes "text") (word_from_test (codes "text") refl))
asked_complete asks.Save range = ap (asked_with (codes "save")) (cut_end (codes "save") (word_from_test (codes "save") refl))

pub asked_exact : IsExact Asked AskedInRange asked_spelling asked_of
unfolding asked_of
asked_exact = record {
  sound = λ line asked is. with_sound line asked (cut line) refl is;
  complete = asked_complete;
}

-- ---- one line

pub one_asked : (line : List ℕ) (asked other : Asked) → SpellsAsked line asked → SpellsAsked line other → asked ≡ other
one_asked line asked other first second = one_spelled Asked AskedInRange asked_spelling asked_of asked_exact line asked other first second

pub asked_some : (line : List ℕ) (found : Option Asked) → found ≡ asked_of line → IfSome found (SpellsAsked line)
asked_some line None is = tt
asked_some line (Some asked) is = asked_exact.sound line asked (sym is)

pub asked_none : (line : List ℕ) (found : Option Asked) → found ≡ asked_of line → IfNone found ((asked : Asked) → ¬ SpellsAsked line asked)
asked_none line (Some asked) is = tt
asked_none line None is = λ asked spelled.
    let no : None ≡ Some asked = is ∙ read_is Asked AskedInRange asked_spelling asked_of asked_exact line asked spelled.0 spelled.1 in cc
