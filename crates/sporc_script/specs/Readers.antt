-- How words are read, and what is made of readers of one word.
use Rattle.std.specs.Prelude.{ℕ, ◌^◌, nat_lt, ◌&&◌, if◌then◌else◌, Bool, List, Option, None, Some}
use Rattle.std.specs.Prelude.{option_map, find}
use Rattle.std.specs.Str.{bytes_eq}
use Rattle.sporc_member.specs.Device.{first_device}
use Rattle.sporc_member.specs.declared.device.Device.{Device}
use Rattle.sporc_script.specs.Words.{cut, number_of, split_at}

-- what the second step gives for what the first gave
abbrev pub then_read : {A B : Type 0} → Option A → (A → Option B) → Option B
then_read None f = None
then_read (Some a) f = f a

-- the value, if it passes a test
abbrev pub passing : {A : Type 0} → (A → Bool) → Option A → Option A
passing test found = then_read found (λ a. if test a then Some a else None)

-- a word, a space, and what stands after it
abbrev pub pair_of : {A B : Type 0} → (List ℕ → Option A) → (List ℕ → Option B) → List ℕ
    → Option (A × B)
pair_of first second line = then_read (cut line)
    (λ parts. then_read (first parts.0) (λ a. then_read (second parts.1) (λ b. Some (a, b))))

-- a word, and a space with more, if it follows
abbrev pub with_more : {A B : Type 0} → (List ℕ → Option A) → (List ℕ → Option B) → List ℕ
    → Option (List ℕ × List ℕ) → Option (A × Option B)
with_more first second line None = option_map (λ a. (a, None)) (first line)
with_more first second line (Some parts) =
    then_read (first parts.0) (λ a. option_map (λ b. (a, Some b)) (second parts.1))

-- that of these which has this name
abbrev pub named_of : {A : Type 0} → (A → List ℕ) → List A → List ℕ → Option A
named_of name all word = find (λ a. bytes_eq (name a) word) all

abbrev pub fits_u32 : ℕ → Bool
fits_u32 n = nat_lt n (2 ^ 32)

-- a member's number is a u16 and not 0
abbrev pub is_member : ℕ → Bool
is_member n = nat_lt 0 n && nat_lt n (2 ^ 16)

unfoldable pub u32_of : List ℕ → Option ℕ
u32_of word = passing fits_u32 (number_of word)

unfoldable pub member_of : List ℕ → Option ℕ
member_of word = passing is_member (number_of word)

-- a device's number is a u8, and that of a further one not 0
abbrev pub fits_u8 : ℕ → Bool
fits_u8 n = nat_lt n (2 ^ 8)

abbrev pub is_further : ℕ → Bool
is_further n = nat_lt 0 n && nat_lt n (2 ^ 8)

unfoldable pub device_number_of : List ℕ → Option ℕ
device_number_of word = passing fits_u8 (number_of word)

unfoldable pub further_number_of : List ℕ → Option ℕ
further_number_of word = passing is_further (number_of word)

-- a member's first device, or the one of this number
abbrev pub device_with : ℕ × Option ℕ → Device
device_with (member, None) = first_device member
device_with (member, Some number) = record { member = member; number = number }

-- the device that the word is: a member's number, and behind a '.' the number of a further device
unfoldable pub device_of : List ℕ → Option Device
device_of word =
    option_map device_with (with_more member_of further_number_of word (split_at 46 word))

-- a word that stands alone for a value, or what else these words are
abbrev pub lone_or : {A : Type 0} → List ℕ → A → (List ℕ → Option A) → List ℕ → Option A
lone_or name value read words = if bytes_eq words name then Some value else read words

-- a first word that is known, and what it makes of the rest
abbrev pub keyed_of : {K A : Type 0} → (List ℕ → Option K) → (K → List ℕ → Option A) → List ℕ
    → Option A
keyed_of word_of read words =
    then_read (cut words) (λ parts. then_read (word_of parts.0) (λ k. read k parts.1))

-- what stands behind this word
abbrev pub behind_of : {A : Type 0} → List ℕ → (List ℕ → Option A) → List ℕ → Option A
behind_of name read words =
    then_read (cut words) (λ parts. if bytes_eq parts.0 name then read parts.1 else None)
