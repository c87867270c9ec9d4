-- A line of an editor script is read as the one command that it spells.
use Rattle.std.proofs.Common.{◌≡◌, ◌⊎◌, inl, inr, ℕ, true, false, List, [], ◌∷◌, ◌++◌, length, Option, Some, None, option_map, refl, sym, ap, ◌∙◌, arith}
use Rattle.sporc_script.proofs.Common.{codes, decimal, bytes_eq, eqb-true, Decides-eqb, encode_lower, Device, Role, EditorCommand, EditorLine, MemberRole, insertion_of, removal_of, editor_line}
use Rattle.sporc_script.proofs.Common.{hex_of, IsSkipped, member_device_of, member_role_of, role_of, quoted, device_number_of, keyed_of, member_of, pair_of, IsPayload, IsMember, DeviceInRange}
use Rattle.sporc_script.proofs.Common.{member_device_spelling, member_role_spelling, role_name, Insertion, Removal, editor_spelling, ReadsEditorLine}
use Rattle.sporc_member.specs.declared.device.KeyedDevice.{KeyedDevice}
use Rattle.sporc_member.specs.declared.founder.Founder.{Founder}
use Rattle.sporc_script.specs.declared.editor_line.EditorCommand.TheVariants as commands
use Rattle.sporc_script.specs.declared.editor_line.EditorWord.{EditorWord}
use Rattle.sporc_script.specs.declared.editor_line.EditorWord.TheVariants as editor_words
use Rattle.sporc_script.specs.declared.editor_line.TheConstants.{KEY_BYTES}
use Rattle.sporc_script.specs.EditorLines.{EditorInRange, IsKey, SpellsEditor, editor_of, editor_with, editor_word_name, editor_word_of, is_key, key_of_word, new_device_of, new_device_spelling, newcomer_of, newcomer_spelling}
use Rattle.sporc_script.proofs.Cuts.{IsWord, is_bare, word_from_test}
use Rattle.sporc_script.proofs.DeviceWords.{device_number_exact}
use Rattle.sporc_script.proofs.EditReaders.{insertion_exact, removal_exact}
use Rattle.sporc_script.proofs.Exact.{IsExact, map_exact, named_exact, pair_exact, passing_exact, range_exact, read_is}
use Rattle.sporc_script.proofs.HexWords.{hex_exact}
use Rattle.sporc_script.proofs.Keyed.{Begins, IsMoreThan, keyed_exact, lone_exact, variant_sound}
use Rattle.sporc_script.proofs.PlainReaders.{device_number_words, member_device_exact, member_role_exact, member_words, role_exact, role_words}
use Rattle.sporc_script.proofs.ScriptLines.{Found, ReadsPart, is_named, not_skipped, one_spelled, spelled_or_not}
use Rattle.sporc_script.proofs.TextWords.{member_exact}

pub editor_word_exact : IsExact EditorWord (λ _. Unit {0}) editor_word_name editor_word_of
unfolding editor_word_of
editor_word_exact = named_exact EditorWord editor_word_name (editor_words.Insert ∷ editor_words.Remove ∷ editor_words.Add ∷ editor_words.Drop ∷ editor_words.Role ∷ editor_words.Device ∷ editor_words.DropDevice ∷ [])
    (λ w. elim w as (λ w. editor_word_of (editor_word_name w) ≡ Some w) [ editor_words.Insert ↦ refl | editor_words.Remove ↦ refl | editor_words.Add ↦ refl | editor_words.Drop ↦ refl | editor_words.Role ↦ refl | editor_words.Device ↦ refl | editor_words.DropDevice ↦ refl ])

editor_word_words : (w : EditorWord) → IsWord (editor_word_name w)
editor_word_words w = word_from_test (editor_word_name w) (elim w as (λ w. is_bare (editor_word_name w) ≡ true) [ editor_words.Insert ↦ refl | editor_words.Remove ↦ refl | editor_words.Add ↦ refl | editor_words.Drop ↦ refl | editor_words.Role ↦ refl | editor_words.Device ↦ refl | editor_words.DropDevice ↦ refl ])

pub key_exact : IsExact (List ℕ) IsKey encode_lower key_of_word
unfolding key_of_word
key_exact = range_exact (List ℕ) _ _ encode_lower _ (passing_exact (List ℕ) IsPayload encode_lower hex_of is_key hex_exact)
    (λ key h. (h.0.0, eqb-true (length key) KEY_BYTES h.1))
    (λ key h. ((h.0, omega (arith, h.1)), (Decides-eqb (length key) KEY_BYTES).1 h.1))

pub newcomer_exact : IsExact Founder (λ f. IsMember f.member × IsKey f.key) newcomer_spelling newcomer_of
unfolding newcomer_of
newcomer_exact = range_exact Founder _ _ newcomer_spelling _
    (map_exact (ℕ × (Role × List ℕ)) Founder _ _ _
    (pair_exact ℕ (Role × List ℕ) _ _ decimal (λ p. role_name p.0 ++ 32 ∷ encode_lower p.1) member_of (pair_of role_of key_of_word) member_exact member_words
    (pair_exact Role (List ℕ) _ _ role_name encode_lower role_of key_of_word role_exact role_words key_exact))
    (λ p. record { member = p.0; role = p.1.0; key = p.1.1 }) (λ f. (f.member, (f.role, f.key))) (λ p. refl) (λ f. refl))
    (λ f h. (h.0, h.1.1)) (λ f h. (h.0, (tt, h.1)))

pub new_device_exact : IsExact KeyedDevice (λ d. DeviceInRange d.device × IsKey d.key) new_device_spelling new_device_of
unfolding new_device_of
new_device_exact = range_exact KeyedDevice _ _ new_device_spelling _
    (map_exact (ℕ × (ℕ × List ℕ)) KeyedDevice _ _ _
    (pair_exact ℕ (ℕ × List ℕ) _ _ decimal (λ p. decimal p.0 ++ 32 ∷ encode_lower p.1) member_of (pair_of device_number_of key_of_word) member_exact member_words
    (pair_exact ℕ (List ℕ) _ _ decimal encode_lower device_number_of key_of_word device_number_exact device_number_words key_exact))
    (λ p. record { device = record { member = p.0; number = p.1.0 }; key = p.1.1 }) (λ d. (d.device.member, (d.device.number, d.key))) (λ p. refl) (λ d. refl))
    (λ d h. ((h.0, h.1.0), h.1.1)) (λ d h. (h.0.0, (h.0.1, h.1)))

-- each but the one that is a word alone
abbrev HasMore : EditorCommand → Type 0
HasMore = IsMoreThan (codes "upgrade") EditorInRange editor_spelling

editor_sound : (w : EditorWord) (bytes : List ℕ) (c : EditorCommand) → editor_with w bytes ≡ Some c → HasMore c × (editor_word_name w ++ 32 ∷ bytes ≡ editor_spelling c)
editor_sound editor_words.Insert bytes c is = variant_sound Insertion EditorCommand _ _ insertion_of insertion_exact HasMore editor_spelling (codes "insert") commands.Insert (λ a h. (h, refl)) (λ a. refl) bytes c is
editor_sound editor_words.Remove bytes c is = variant_sound Removal EditorCommand _ _ removal_of removal_exact HasMore editor_spelling (codes "remove") commands.Remove (λ a h. (h, refl)) (λ a. refl) bytes c is
editor_sound editor_words.Add bytes c is = variant_sound Founder EditorCommand _ _ newcomer_of newcomer_exact HasMore editor_spelling (codes "add") commands.Add (λ a h. (h, refl)) (λ a. refl) bytes c is
editor_sound editor_words.Drop bytes c is = variant_sound ℕ EditorCommand _ _ member_of member_exact HasMore editor_spelling (codes "drop") commands.Drop (λ a h. (h, refl)) (λ a. refl) bytes c is
editor_sound editor_words.Role bytes c is = variant_sound MemberRole EditorCommand _ _ member_role_of member_role_exact HasMore editor_spelling (codes "role") commands.SetRole (λ a h. (h, refl)) (λ a. refl) bytes c is
editor_sound editor_words.Device bytes c is = variant_sound KeyedDevice EditorCommand _ _ new_device_of new_device_exact HasMore editor_spelling (codes "device") commands.AddDevice (λ a h. (h, refl)) (λ a. refl) bytes c is
editor_sound editor_words.DropDevice bytes c is = variant_sound Device EditorCommand _ _ member_device_of member_device_exact HasMore editor_spelling (codes "drop-device") commands.DropDevice (λ a h. (h, refl)) (λ a. refl) bytes c is

editor_begins : (c : EditorCommand) → HasMore c → Begins EditorWord EditorCommand editor_word_name editor_spelling editor_with c
editor_begins (commands.Insert x) range = record { word = editor_words.Insert; rest = decimal x.at ++ 32 ∷ quoted x.text; spelled = refl; reads = ap (option_map commands.Insert) (insertion_exact.complete x range.0) }
editor_begins (commands.Remove x) range = record { word = editor_words.Remove; rest = decimal x.at ++ 32 ∷ decimal x.count; spelled = refl; reads = ap (option_map commands.Remove) (removal_exact.complete x range.0) }
editor_begins (commands.Add x) range = record { word = editor_words.Add; rest = newcomer_spelling x; spelled = refl; reads = ap (option_map commands.Add) (newcomer_exact.complete x range.0) }
editor_begins (commands.Drop x) range = record { word = editor_words.Drop; rest = decimal x; spelled = refl; reads = ap (option_map commands.Drop) (member_exact.complete x range.0) }
editor_begins (commands.SetRole x) range = record { word = editor_words.Role; rest = member_role_spelling x; spelled = refl; reads = ap (option_map commands.SetRole) (member_role_exact.complete x range.0) }
editor_begins (commands.AddDevice x) range = record { word = editor_words.Device; rest = new_device_spelling x; spelled = refl; reads = ap (option_map commands.AddDevice) (new_device_exact.complete x range.0) }
editor_begins (commands.DropDevice x) range = record { word = editor_words.DropDevice; rest = member_device_spelling x; spelled = refl; reads = ap (option_map commands.DropDevice) (member_device_exact.complete x range.0) }
editor_begins commands.Upgrade range = let no : true ≡ false = range.1 in absurd cc

upgrade_or_more : (c : EditorCommand) → EditorInRange c → (c ≡ commands.Upgrade) ⊎ (HasMore c × (bytes_eq (editor_spelling c) (codes "upgrade") ≡ false))
upgrade_or_more commands.Upgrade range = inl refl
upgrade_or_more c range = inr ((range, refl), refl)

pub editor_exact : IsExact EditorCommand EditorInRange editor_spelling editor_of
unfolding editor_of
editor_exact = lone_exact EditorCommand (codes "upgrade") commands.Upgrade EditorInRange HasMore editor_spelling (keyed_of editor_word_of editor_with)
    (keyed_exact EditorWord EditorCommand editor_word_name editor_word_of editor_word_exact editor_word_words HasMore editor_spelling editor_with editor_sound editor_begins)
    tt refl (λ c more. more.0) upgrade_or_more

-- ---- one line

pub editor_spelled : (line : List ℕ) (c : EditorCommand) → Some c ≡ editor_of line → SpellsEditor line c
editor_spelled line c is = editor_exact.sound line c (sym is)

pub editor_missing : (line : List ℕ) → None ≡ editor_of line → (c : EditorCommand) → SpellsEditor line c → ⊥
editor_missing line is c spelled =
    let no : None ≡ Some c = is ∙ read_is EditorCommand EditorInRange editor_spelling editor_of editor_exact line c spelled.0 spelled.1 in cc

-- any line may follow any
abbrev pub IsEditorNext : List EditorLine → List ℕ → EditorCommand → Type 0
IsEditorNext before line c = SpellsEditor line c

pub one_editor : (before : List EditorLine) (line : List ℕ) (c d : EditorCommand) → IsEditorNext before line c → IsEditorNext before line d → c ≡ d
one_editor before line c d first second = one_spelled EditorCommand EditorInRange editor_spelling editor_of editor_exact line c d first second

editor_word_named : (w : EditorWord) → is_named (editor_word_name w) ≡ true
editor_word_named w = elim w as (λ w. is_named (editor_word_name w) ≡ true) [ editor_words.Insert ↦ refl | editor_words.Remove ↦ refl | editor_words.Add ↦ refl | editor_words.Drop ↦ refl | editor_words.Role ↦ refl | editor_words.Device ↦ refl | editor_words.DropDevice ↦ refl ]

pub editor_not_skipped : (before : List EditorLine) (line : List ℕ) (c : EditorCommand) → IsSkipped line → IsEditorNext before line c → ⊥
editor_not_skipped before line c skipped spelled =
    elim (upgrade_or_more c spelled.0) [
      | inl is ↦ not_skipped line (codes "upgrade") [] refl (spelled.1 ∙ ap editor_spelling is) skipped
      | inr more ↦
          let begins = editor_begins c more.0 in
          not_skipped line (editor_word_name begins.word) (32 ∷ begins.rest) (editor_word_named begins.word) (spelled.1 ∙ begins.spelled) skipped
    ]

pub editor_or_none : (before : List EditorLine) (line : List ℕ) → Found EditorCommand (λ c. IsEditorNext before line c)
editor_or_none before line = spelled_or_not EditorCommand EditorInRange editor_spelling editor_of editor_exact line

pub editor_part : (before : List EditorLine) (n : ℕ) (line : List ℕ) (read : Option EditorLine)
    → ReadsEditorLine n line read → ReadsPart EditorCommand EditorLine editor_line IsEditorNext before n line read
editor_part before n line None reads = reads
editor_part before n line (Some x) reads = (x.command, ap (λ (k : ℕ). editor_line k x.command) reads.0, reads.1)
