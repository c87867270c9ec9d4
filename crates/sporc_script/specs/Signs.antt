-- What a script signs for a rogue: how it is spelled, and how it is read.
use Rattle.std.specs.Prelude.{◌≡◌, ℕ, ◌<◌, ◌^◌, nat_lt, ◌&&◌, Bool, true, false, List, [], ◌∷◌}
use Rattle.std.specs.Prelude.{◌++◌, length, codes, Option, None, Some, option_map, if◌then◌else◌}
use Rattle.std.specs.Fmt.{decimal}
use Rattle.std.specs.Str.{all_scalars}
use Rattle.hex.specs.Hex.{encode_lower}
use Rattle.sporc_base.specs.Bytes.{IsBytes}
use Rattle.sporc_script.specs.declared.roster_change.RosterChange.TheVariants as changes
use Rattle.sporc_script.specs.declared.sign.Forgery.{Forgery}
use Rattle.sporc_script.specs.declared.sign.LoneWord.{LoneWord}
use Rattle.sporc_script.specs.declared.sign.LoneWord.TheVariants as lone_words
use Rattle.sporc_script.specs.declared.sign.Signed.{Signed}
use Rattle.sporc_script.specs.declared.sign.Suffix.{Suffix}
use Rattle.sporc_script.specs.declared.sign.Suffix.TheVariants as suffixes
use Rattle.sporc_script.specs.declared.sign.SuffixWord.{SuffixWord}
use Rattle.sporc_script.specs.declared.sign.SuffixWord.TheVariants as suffix_words
use Rattle.sporc_script.specs.declared.sign.What.{What}
use Rattle.sporc_script.specs.declared.sign.What.TheVariants as whats
use Rattle.sporc_script.specs.declared.sign.WhatWord.{WhatWord}
use Rattle.sporc_script.specs.declared.sign.WhatWord.TheVariants as what_words
use Rattle.sporc_script.specs.Hex.{hex_of}
use Rattle.sporc_script.specs.Plain.{role_of}
use Rattle.sporc_script.specs.Quoted.{quoted}
use Rattle.sporc_script.specs.Readers.{behind_of, device_number_of, device_of, keyed_of, lone_or}
use Rattle.sporc_script.specs.Readers.{member_of, named_of, pair_of, passing, with_more, u32_of}
use Rattle.sporc_member.specs.Device.{IsMember}
use Rattle.sporc_member.specs.Role.{role_name}
use Rattle.sporc_script.specs.Spelling.{DeviceInRange, IsDeviceNumber, IsU64, RosterChangeInRange}
use Rattle.sporc_script.specs.Spelling.{device_text}
use Rattle.sporc_script.specs.Texts.{text_of}
use Rattle.sporc_script.specs.Words.{cut, number_of}

-- ---- spelling

abbrev pub what_word_name : WhatWord → List ℕ
what_word_name what_words.Insert = codes "insert"
what_word_name what_words.Raw = codes "raw"
what_word_name what_words.Add = codes "add"
what_word_name what_words.Remove = codes "remove"
what_word_name what_words.Role = codes "role"
what_word_name what_words.Device = codes "device"
what_word_name what_words.DropDevice = codes "drop-device"
what_word_name what_words.Upgrade = codes "upgrade"

abbrev pub suffix_word_name : SuffixWord → List ℕ
suffix_word_name suffix_words.Number = codes "number"
suffix_word_name suffix_words.Base = codes "base"
suffix_word_name suffix_words.Epoch = codes "epoch"
suffix_word_name suffix_words.Leaf = codes "leaf"
suffix_word_name suffix_words.Wrap = codes "wrap"
suffix_word_name suffix_words.Drop = codes "drop"
suffix_word_name suffix_words.Version = codes "version"
suffix_word_name suffix_words.Device = codes "device"

abbrev pub lone_word_name : LoneWord → List ℕ
lone_word_name lone_words.Commit = codes "commit"
lone_word_name lone_words.Previous = codes "previous"

abbrev pub suffix_spelling : Suffix → List ℕ
suffix_spelling (suffixes.Number k) = codes "with number " ++ decimal k
suffix_spelling (suffixes.Base b) = codes "with base " ++ decimal b
suffix_spelling (suffixes.Epoch k) = codes "with epoch " ++ decimal k
suffix_spelling (suffixes.Leaf k) = codes "with leaf " ++ decimal k
suffix_spelling (suffixes.Wrap n) = codes "with wrap " ++ decimal n
suffix_spelling (suffixes.Drop n) = codes "with drop " ++ decimal n
suffix_spelling suffixes.Commit = codes "with commit"
suffix_spelling suffixes.Previous = codes "with previous"
suffix_spelling (suffixes.Version k) = codes "with version " ++ decimal k
suffix_spelling (suffixes.Device d) = codes "with device " ++ decimal d

-- the last word, and the suffix that may follow it
abbrev pub with_suffix : List ℕ → Option Suffix → List ℕ
with_suffix word None = word
with_suffix word (Some suffix) = word ++ (codes " " ++ suffix_spelling suffix)

abbrev pub signed_spelling_of : What → Option Suffix → List ℕ
signed_spelling_of (whats.Insert e) suffix =
    codes "insert " ++ (decimal e.at ++ (codes " " ++ with_suffix (quoted e.text) suffix))
signed_spelling_of (whats.Raw bytes) suffix =
    codes "raw " ++ with_suffix (encode_lower bytes) suffix
signed_spelling_of (whats.Change (changes.Add m)) suffix =
    codes "add " ++ (decimal m.member ++ (codes " " ++ with_suffix (role_name m.role) suffix))
signed_spelling_of (whats.Change (changes.Remove m)) suffix =
    codes "remove " ++ with_suffix (decimal m) suffix
signed_spelling_of (whats.Change (changes.SetRole m)) suffix =
    codes "role " ++ (decimal m.member ++ (codes " " ++ with_suffix (role_name m.role) suffix))
signed_spelling_of (whats.Change (changes.AddDevice d)) suffix =
    codes "device " ++ (decimal d.member ++ (codes " " ++ with_suffix (decimal d.number) suffix))
signed_spelling_of (whats.Change (changes.DropDevice d)) suffix = codes "drop-device "
    ++ (decimal d.member ++ (codes " " ++ with_suffix (decimal d.number) suffix))
signed_spelling_of (whats.Change changes.Upgrade) suffix = with_suffix (codes "upgrade") suffix

abbrev pub signed_spelling : Signed → List ℕ
signed_spelling s = signed_spelling_of s.what s.suffix

abbrev pub forgery_spelling : Forgery → List ℕ
forgery_spelling f = decimal f.member
    ++ (codes " from " ++ (device_text f.from ++ (codes " " ++ signed_spelling f.signed)))

-- ---- the values

-- of an entry
abbrev pub IsVersion : ℕ → Type 0
IsVersion k = (0 < k) × (k < 3)

abbrev pub SuffixInRange : Suffix → Type 0
SuffixInRange (suffixes.Number k) = k < 2 ^ 32
SuffixInRange (suffixes.Base b) = b < 2 ^ 32
SuffixInRange (suffixes.Epoch k) = k < 2 ^ 32
SuffixInRange (suffixes.Leaf k) = k < 2 ^ 32
SuffixInRange (suffixes.Wrap n) = IsMember n
SuffixInRange (suffixes.Drop n) = IsMember n
SuffixInRange suffixes.Commit = Unit {0}
SuffixInRange suffixes.Previous = Unit {0}
SuffixInRange (suffixes.Version k) = IsVersion k
SuffixInRange (suffixes.Device d) = IsDeviceNumber d

abbrev pub MaySuffixInRange : Option Suffix → Type 0
MaySuffixInRange None = Unit {0}
MaySuffixInRange (Some suffix) = SuffixInRange suffix

abbrev pub IsPayload : List ℕ → Type 0
IsPayload bytes = IsBytes bytes × (0 < length bytes)

abbrev pub WhatInRange : What → Type 0
WhatInRange (whats.Insert e) = IsU64 e.at × (all_scalars e.text ≡ true)
WhatInRange (whats.Raw bytes) = IsPayload bytes
WhatInRange (whats.Change c) = RosterChangeInRange c

-- the suffix speaks of a part that only a change has
abbrev pub needs_change : Suffix → Bool
needs_change (suffixes.Number k) = false
needs_change (suffixes.Base b) = false
needs_change (suffixes.Epoch k) = false
needs_change (suffixes.Leaf k) = false
needs_change (suffixes.Wrap n) = true
needs_change (suffixes.Drop n) = true
needs_change suffixes.Commit = true
needs_change suffixes.Previous = true
needs_change (suffixes.Version k) = false
needs_change (suffixes.Device d) = false

abbrev pub is_change : What → Bool
is_change (whats.Insert e) = false
is_change (whats.Raw bytes) = false
is_change (whats.Change c) = true

abbrev pub may_suffix : What → Option Suffix → Bool
may_suffix what None = true
may_suffix what (Some suffix) = if needs_change suffix then is_change what else true

abbrev pub SignedInRange : Signed → Type 0
SignedInRange s =
    WhatInRange s.what × MaySuffixInRange s.suffix × (may_suffix s.what s.suffix ≡ true)

abbrev pub ForgeryInRange : Forgery → Type 0
ForgeryInRange f = IsMember f.member × DeviceInRange f.from × SignedInRange f.signed

-- ---- reading

unfoldable pub what_word_of : List ℕ → Option WhatWord
what_word_of word = named_of what_word_name
    (what_words.Insert ∷ what_words.Raw ∷ what_words.Add ∷ what_words.Remove ∷ what_words.Role
    ∷ what_words.Device ∷ what_words.DropDevice ∷ what_words.Upgrade ∷ []) word

unfoldable pub suffix_word_of : List ℕ → Option SuffixWord
suffix_word_of word = named_of suffix_word_name
    (suffix_words.Number ∷ suffix_words.Base ∷ suffix_words.Epoch ∷ suffix_words.Leaf
    ∷ suffix_words.Wrap ∷ suffix_words.Drop ∷ suffix_words.Version ∷ suffix_words.Device ∷ []) word

unfoldable pub lone_word_of : List ℕ → Option LoneWord
lone_word_of word = named_of lone_word_name (lone_words.Commit ∷ lone_words.Previous ∷ []) word

abbrev pub lone_suffix : LoneWord → Suffix
lone_suffix lone_words.Commit = suffixes.Commit
lone_suffix lone_words.Previous = suffixes.Previous

abbrev pub is_version : ℕ → Bool
is_version k = nat_lt 0 k && nat_lt k 3

unfoldable pub version_of : List ℕ → Option ℕ
version_of word = passing is_version (number_of word)

abbrev pub suffix_with : SuffixWord → List ℕ → Option Suffix
suffix_with suffix_words.Number words = option_map suffixes.Number (u32_of words)
suffix_with suffix_words.Base words = option_map suffixes.Base (u32_of words)
suffix_with suffix_words.Epoch words = option_map suffixes.Epoch (u32_of words)
suffix_with suffix_words.Leaf words = option_map suffixes.Leaf (u32_of words)
suffix_with suffix_words.Wrap words = option_map suffixes.Wrap (member_of words)
suffix_with suffix_words.Drop words = option_map suffixes.Drop (member_of words)
suffix_with suffix_words.Version words = option_map suffixes.Version (version_of words)
suffix_with suffix_words.Device words = option_map suffixes.Device (device_number_of words)

-- what stands behind `with`: a word alone, or one with a number
abbrev pub suffix_cut : List ℕ → Option (List ℕ × List ℕ) → Option Suffix
suffix_cut words None = option_map lone_suffix (lone_word_of words)
suffix_cut words (Some parts) = keyed_of suffix_word_of suffix_with words

unfoldable pub suffix_of : List ℕ → Option Suffix
suffix_of words = behind_of (codes "with") (λ rest. suffix_cut rest (cut rest)) words

-- a last word, and the suffix that may follow it
abbrev pub last_of : {A : Type 0} → (List ℕ → Option A) → List ℕ → Option (A × Option Suffix)
last_of read words = with_more read suffix_of words (cut words)

abbrev pub signed_upgrade : Option Suffix → Signed
signed_upgrade suffix = record { what = whats.Change changes.Upgrade; suffix = suffix }

abbrev pub signed_with : WhatWord → List ℕ → Option Signed
signed_with what_words.Insert words = option_map
    (λ p. record { what = whats.Insert (record { at = p.0; text = p.1.0 }); suffix = p.1.1 })
    (pair_of number_of (last_of text_of) words)
signed_with what_words.Raw words =
    option_map (λ p. record { what = whats.Raw p.0; suffix = p.1 }) (last_of hex_of words)
signed_with what_words.Add words = option_map (λ p. record {
  what = whats.Change (changes.Add (record { member = p.0; role = p.1.0 }));
  suffix = p.1.1;
}) (pair_of member_of (last_of role_of) words)
signed_with what_words.Remove words =
    option_map (λ p. record { what = whats.Change (changes.Remove p.0); suffix = p.1 })
    (last_of member_of words)
signed_with what_words.Role words = option_map (λ p. record {
  what = whats.Change (changes.SetRole (record { member = p.0; role = p.1.0 }));
  suffix = p.1.1;
}) (pair_of member_of (last_of role_of) words)
signed_with what_words.Device words = option_map (λ p. record {
  what = whats.Change (changes.AddDevice (record { member = p.0; number = p.1.0 }));
  suffix = p.1.1;
}) (pair_of member_of (last_of device_number_of) words)
signed_with what_words.DropDevice words = option_map (λ p. record {
  what = whats.Change (changes.DropDevice (record { member = p.0; number = p.1.0 }));
  suffix = p.1.1;
}) (pair_of member_of (last_of device_number_of) words)
signed_with what_words.Upgrade words =
    option_map (λ suffix. signed_upgrade (Some suffix)) (suffix_of words)

abbrev pub suffix_fits : Signed → Bool
suffix_fits s = may_suffix s.what s.suffix

-- what is signed, whether or not the suffix may follow
unfoldable pub stated_of : List ℕ → Option Signed
stated_of words =
    lone_or (codes "upgrade") (signed_upgrade None) (keyed_of what_word_of signed_with) words

unfoldable pub signed_of : List ℕ → Option Signed
signed_of words = passing suffix_fits (stated_of words)

unfoldable pub forgery_of : List ℕ → Option Forgery
forgery_of words =
    option_map (λ p. record { member = p.0; from = p.1.0; signed = p.1.1 })
    (pair_of member_of (behind_of (codes "from") (pair_of device_of signed_of)) words)
