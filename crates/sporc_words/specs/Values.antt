-- How the values of arguments are read.
use Rattle.std.specs.Prelude.{ℕ, ◌==◌, ◌&&◌, ◌||◌, nat_le, not, Bool, false, List, [], ◌∷◌, length}
use Rattle.std.specs.Prelude.{codes, find, Option, None, Some, option_map, unwrap_or, if◌then◌else◌}
use Rattle.std.specs.List.{after_first, before_first, list_any}
use Rattle.std.specs.Str.{bytes_eq}
use Rattle.clap.specs.Walk.{Row, Text, all_of, first_of}
use Rattle.lms_ots.specs.declared.ots_type.OtsType.{OtsType}
use Rattle.lms_ots.specs.declared.ots_type.OtsType.TheVariants.{W4, W8}
use Rattle.lms_ots.specs.OtsType.{width_of}
use Rattle.lms_tree.specs.declared.lms_type.LmsType.{LmsType}
use Rattle.lms_tree.specs.declared.lms_type.LmsType.TheVariants.{H5, H10, H15}
use Rattle.lms_tree.specs.LmsType.{height_of}
use Rattle.sporc_member.specs.declared.limits.TheConstants.{MAX_MEMBERS}
use Rattle.sporc_member.specs.Role.{is_admin}
use Rattle.sporc_script.specs.Plain.{role_of}
use Rattle.sporc_script.specs.Readers.{member_of, passing, then_read, u32_of}
use Rattle.sporc_script.specs.Words.{number_of}
use Rattle.sporc_words.specs.declared.standing.Standing.{Standing}
use Rattle.sporc_words.specs.declared.standing.Standing.TheVariants.{Founder, Joiner}
use Rattle.sporc_words.specs.declared.standing.Participant.{Participant}

-- ---- arguments

-- the value of an argument, read
abbrev pub value_of : {A : Type 0} → Text → (Text → Option A) → List Row → Option A
value_of id read rows = then_read (first_of id rows) read

-- a value, read, or the default where there is none
abbrev pub read_or : {A : Type 0} → A → (Text → Option A) → Option Text → Option A
read_or default read None = Some default
read_or default read (Some word) = read word

-- the value of an argument that may be left out
abbrev pub value_or : {A : Type 0} → Text → A → (Text → Option A) → List Row → Option A
value_or id default read rows = read_or default read (first_of id rows)

-- a number that is the value of an argument that may be left out
abbrev pub number_if : Text → List Row → Option (Option ℕ)
number_if id rows = value_or id None (λ word. option_map Some (u32_of word)) rows

-- the values of an argument that may come any number of times
abbrev pub values_of : Text → List Row → List Text
values_of id rows = unwrap_or (all_of id rows) []

-- ---- numbers

abbrev pub is_between : ℕ → ℕ → ℕ → Bool
is_between least most n = nat_le least n && nat_le n most

-- a number in these bounds, both included
abbrev pub number_between : ℕ → ℕ → Text → Option ℕ
number_between least most word = passing (is_between least most) (number_of word)

-- how often: a number from 1 on
abbrev pub times_of : Text → Option ℕ
times_of word = passing (nat_le 1) (u32_of word)

-- the type of the tree of this height: 5, 10 or 15
abbrev pub tree_of : Text → Option LmsType
tree_of word = then_read (number_of word) (λ n. find (λ t. height_of t == n) (H5 ∷ H10 ∷ H15 ∷ []))

-- the type of the one-time signatures with so many bits a coefficient: 4 or 8
abbrev pub width_named : Text → Option OtsType
width_named word = then_read (number_of word) (λ n. find (λ t. width_of t == n) (W4 ∷ W8 ∷ []))

-- ---- participants

abbrev pub is_colon : ℕ → Bool
is_colon b = b == 58

-- `joiner`, or a role
abbrev pub standing_of : Text → Option Standing
standing_of word =
    if bytes_eq word (codes "joiner") then Some Joiner else option_map Founder (role_of word)

-- a number, and the name of what it stands for
abbrev pub participant_by : Text → Text → Option Participant
participant_by number name = then_read (member_of number) (λ member. option_map
    (λ standing. record { member = member; standing = standing }) (standing_of name))

-- `M:ROLE`
unfoldable pub participant_of : Text → Option Participant
participant_of word = participant_by (before_first is_colon word) (after_first is_colon word)

-- what all words are
abbrev pub all_participants : List Text → Option (List Participant)
all_participants [] = Some []
all_participants (word ∷ words) =
    then_read (participant_of word) (λ p. option_map (λ ps. p ∷ ps) (all_participants words))

abbrev pub founds_admin : Standing → Bool
founds_admin (Founder role) = is_admin role
founds_admin Joiner = false

-- some number is named twice
abbrev pub has_twice : List Participant → Bool
has_twice [] = false
has_twice (p ∷ ps) = list_any (λ q. q.member == p.member) ps || has_twice ps

-- not too many, each number once, and an admin among them
abbrev pub may_found : List Participant → Bool
may_found ps = nat_le (length ps) MAX_MEMBERS
    && (not (has_twice ps) && list_any (λ p. founds_admin p.standing) ps)

-- who founds, by these words
unfoldable pub participants_of : List Text → Option (List Participant)
participants_of words = passing may_found (all_participants words)
