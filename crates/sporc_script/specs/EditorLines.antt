-- The lines of an editor script: how each is spelled, and how it is read.
use Rattle.std.specs.Prelude.{◌≡◌, ◌≤◌, ℕ, ◌==◌, Bool, true, List, [], ◌∷◌, ◌++◌, length, codes}
use Rattle.std.specs.Prelude.{Option, option_map}
use Rattle.std.specs.Fmt.{decimal}
use Rattle.std.specs.List.{AllByRecursion}
use Rattle.std.specs.Str.{all_scalars, encode_utf8_all}
use Rattle.hex.specs.Hex.{encode_lower}
use Rattle.sporc_base.specs.Bytes.{IsBytes}
use Rattle.sporc_member.specs.declared.device.KeyedDevice.{KeyedDevice}
use Rattle.sporc_member.specs.declared.founder.Founder.{Founder}
use Rattle.sporc_script.specs.declared.editor_line.EditorCommand.{EditorCommand}
use Rattle.sporc_script.specs.declared.editor_line.EditorCommand.TheVariants as commands
use Rattle.sporc_script.specs.declared.editor_line.EditorLine.{EditorLine}
use Rattle.sporc_script.specs.declared.editor_line.EditorWord.{EditorWord}
use Rattle.sporc_script.specs.declared.editor_line.EditorWord.TheVariants as words
use Rattle.sporc_script.specs.declared.editor_line.TheConstants.{KEY_BYTES}
use Rattle.sporc_script.specs.declared.limits.TheConstants.{MAX_SCRIPT_BYTES}
use Rattle.sporc_script.specs.Edits.{insertion_of, removal_of}
use Rattle.sporc_script.specs.Hex.{hex_of}
use Rattle.sporc_script.specs.Plain.{member_device_of, member_role_of, role_of}
use Rattle.sporc_script.specs.Quoted.{quoted}
use Rattle.sporc_script.specs.Readers.{device_number_of, keyed_of, lone_or, member_of, named_of}
use Rattle.sporc_script.specs.Readers.{pair_of, passing}
use Rattle.sporc_member.specs.Device.{IsMember}
use Rattle.sporc_member.specs.Role.{role_name}
use Rattle.sporc_script.specs.Spelling.{DeviceInRange, IsU64, member_device_spelling}
use Rattle.sporc_script.specs.Spelling.{member_role_spelling}

abbrev pub editor_word_name : EditorWord → List ℕ
editor_word_name words.Insert = codes "insert"
editor_word_name words.Remove = codes "remove"
editor_word_name words.Add = codes "add"
editor_word_name words.Drop = codes "drop"
editor_word_name words.Role = codes "role"
editor_word_name words.Device = codes "device"
editor_word_name words.DropDevice = codes "drop-device"

abbrev pub newcomer_spelling : Founder → List ℕ
newcomer_spelling f =
    decimal f.member ++ (codes " " ++ (role_name f.role ++ (codes " " ++ encode_lower f.key)))

abbrev pub new_device_spelling : KeyedDevice → List ℕ
new_device_spelling d = decimal d.device.member
    ++ (codes " " ++ (decimal d.device.number ++ (codes " " ++ encode_lower d.key)))

abbrev pub editor_spelling : EditorCommand → List ℕ
editor_spelling (commands.Insert e) =
    codes "insert " ++ (decimal e.at ++ (codes " " ++ quoted e.text))
editor_spelling (commands.Remove e) =
    codes "remove " ++ (decimal e.at ++ (codes " " ++ decimal e.count))
editor_spelling (commands.Add f) = codes "add " ++ newcomer_spelling f
editor_spelling (commands.Drop m) = codes "drop " ++ decimal m
editor_spelling (commands.SetRole m) = codes "role " ++ member_role_spelling m
editor_spelling (commands.AddDevice d) = codes "device " ++ new_device_spelling d
editor_spelling (commands.DropDevice d) = codes "drop-device " ++ member_device_spelling d
editor_spelling commands.Upgrade = codes "upgrade"

abbrev pub IsKey : List ℕ → Type 0
IsKey key = IsBytes key × (length key ≡ KEY_BYTES)

abbrev pub EditorInRange : EditorCommand → Type 0
EditorInRange (commands.Insert e) = IsU64 e.at × (all_scalars e.text ≡ true)
EditorInRange (commands.Remove e) = IsU64 e.at × IsU64 e.count
EditorInRange (commands.Add f) = IsMember f.member × IsKey f.key
EditorInRange (commands.Drop m) = IsMember m
EditorInRange (commands.SetRole m) = IsMember m.member
EditorInRange (commands.AddDevice d) = DeviceInRange d.device × IsKey d.key
EditorInRange (commands.DropDevice d) = DeviceInRange d
EditorInRange commands.Upgrade = Unit {0}

abbrev pub SpellsEditor : List ℕ → EditorCommand → Type 0
SpellsEditor bytes command = EditorInRange command × (bytes ≡ editor_spelling command)

-- the bytes of the text that a line inserts
abbrev pub inserted_bytes : EditorCommand → ℕ
inserted_bytes (commands.Insert e) = length (encode_utf8_all e.text)
inserted_bytes command = 0

-- it inserts no more bytes than a script has at most
abbrev pub IsShort : EditorCommand → Type 0
IsShort command = inserted_bytes command ≤ MAX_SCRIPT_BYTES

abbrev pub AreShort : List EditorLine → Type 0
AreShort lines = AllByRecursion (λ line. IsShort line.command) lines

-- ---- reading

abbrev pub is_key : List ℕ → Bool
is_key bytes = length bytes == KEY_BYTES

unfoldable pub key_of_word : List ℕ → Option (List ℕ)
key_of_word word = passing is_key (hex_of word)

unfoldable pub newcomer_of : List ℕ → Option Founder
newcomer_of words = option_map (λ p. record { member = p.0; role = p.1.0; key = p.1.1 })
    (pair_of member_of (pair_of role_of key_of_word) words)

unfoldable pub new_device_of : List ℕ → Option KeyedDevice
new_device_of words =
    option_map (λ p. record { device = record { member = p.0; number = p.1.0 }; key = p.1.1 })
    (pair_of member_of (pair_of device_number_of key_of_word) words)

unfoldable pub editor_word_of : List ℕ → Option EditorWord
editor_word_of word = named_of editor_word_name (words.Insert ∷ words.Remove ∷ words.Add
    ∷ words.Drop ∷ words.Role ∷ words.Device ∷ words.DropDevice ∷ []) word

abbrev pub editor_with : EditorWord → List ℕ → Option EditorCommand
editor_with words.Insert rest = option_map commands.Insert (insertion_of rest)
editor_with words.Remove rest = option_map commands.Remove (removal_of rest)
editor_with words.Add rest = option_map commands.Add (newcomer_of rest)
editor_with words.Drop rest = option_map commands.Drop (member_of rest)
editor_with words.Role rest = option_map commands.SetRole (member_role_of rest)
editor_with words.Device rest = option_map commands.AddDevice (new_device_of rest)
editor_with words.DropDevice rest = option_map commands.DropDevice (member_device_of rest)

-- the command that the line spells
unfoldable pub editor_of : List ℕ → Option EditorCommand
editor_of line =
    lone_or (codes "upgrade") commands.Upgrade (keyed_of editor_word_of editor_with) line
