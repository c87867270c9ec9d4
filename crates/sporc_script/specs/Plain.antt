-- How lines that are words and numbers alone are read.
use Rattle.std.specs.Prelude.{ℕ, List, [], ◌∷◌, Option, option_map}
use Rattle.sporc_member.specs.declared.device.Device.{Device}
use Rattle.sporc_member.specs.declared.role.Role.{Role}
use Rattle.sporc_member.specs.declared.role.Role.TheVariants.{Reader, Editor, Admin}
use Rattle.sporc_member.specs.Role.{role_name}
use Rattle.sporc_script.specs.declared.command.DevicePair.{DevicePair}
use Rattle.sporc_script.specs.declared.command.Flip.{Flip}
use Rattle.sporc_script.specs.declared.command.Give.{Give}
use Rattle.sporc_script.specs.declared.command.Height.{Height}
use Rattle.sporc_script.specs.declared.command.Height.TheVariants.{Five, Ten}
use Rattle.sporc_script.specs.declared.command.Keyword.{Keyword}
use Rattle.sporc_script.specs.declared.command.Keyword.TheVariants as keywords
use Rattle.sporc_script.specs.declared.member_role.MemberRole.{MemberRole}
use Rattle.sporc_script.specs.declared.command.Pair.{Pair}
use Rattle.sporc_script.specs.declared.command.Restart.{Restart}
use Rattle.sporc_script.specs.declared.command.Tree.{Tree}
use Rattle.sporc_script.specs.declared.command.Width.{Width}
use Rattle.sporc_script.specs.declared.command.Width.TheVariants.{Four, Eight}
use Rattle.sporc_script.specs.Readers.{device_number_of, device_of, further_number_of, member_of}
use Rattle.sporc_script.specs.Readers.{named_of, pair_of, u32_of}
use Rattle.sporc_script.specs.Spelling.{height_name, keyword_name, width_name}
use Rattle.sporc_script.specs.Words.{number_of}

unfoldable pub keyword_of : List ℕ → Option Keyword
keyword_of word = named_of keyword_name (keywords.Tree ∷ keywords.Member ∷ keywords.Rogue
    ∷ keywords.Joiner ∷ keywords.Unpaired ∷ keywords.Edit ∷ keywords.Change
    ∷ keywords.Discard ∷ keywords.Submit ∷ keywords.Give ∷ keywords.Restart ∷ keywords.Join
    ∷ keywords.Show ∷ keywords.Members ∷ keywords.Hash ∷ keywords.Journal ∷ keywords.Compare
    ∷ keywords.Flip ∷ keywords.Cut ∷ keywords.Sign ∷ keywords.Device ∷ []) word

unfoldable pub role_of : List ℕ → Option Role
role_of word = named_of role_name (Reader ∷ Editor ∷ Admin ∷ []) word

unfoldable pub height_of : List ℕ → Option Height
height_of word = named_of height_name (Five ∷ Ten ∷ []) word

unfoldable pub width_of : List ℕ → Option Width
width_of word = named_of width_name (Four ∷ Eight ∷ []) word

unfoldable pub tree_of : List ℕ → Option Tree
tree_of words =
    option_map (λ p. record { height = p.0; width = p.1 }) (pair_of height_of width_of words)

unfoldable pub member_role_of : List ℕ → Option MemberRole
member_role_of words =
    option_map (λ p. record { member = p.0; role = p.1 }) (pair_of member_of role_of words)

unfoldable pub two_members_of : List ℕ → Option Pair
two_members_of words =
    option_map (λ p. record { first = p.0; second = p.1 }) (pair_of member_of member_of words)

unfoldable pub two_devices_of : List ℕ → Option DevicePair
two_devices_of words =
    option_map (λ p. record { first = p.0; second = p.1 }) (pair_of device_of device_of words)

-- a device as two words: any, or a further one
unfoldable pub member_device_of : List ℕ → Option Device
member_device_of words = option_map (λ p. record { member = p.0; number = p.1 })
    (pair_of member_of device_number_of words)

unfoldable pub further_device_of : List ℕ → Option Device
further_device_of words = option_map (λ p. record { member = p.0; number = p.1 })
    (pair_of member_of further_number_of words)

unfoldable pub give_of : List ℕ → Option Give
give_of words =
    option_map (λ p. record { device = p.0; position = p.1.0; entry = p.1.1 })
    (pair_of device_of (pair_of u32_of number_of) words)

unfoldable pub restart_of : List ℕ → Option Restart
restart_of words =
    option_map (λ p. record { device = p.0; entries = p.1 }) (pair_of device_of number_of words)

unfoldable pub flip_of : List ℕ → Option Flip
flip_of words =
    option_map (λ p. record { entry = p.0; at = p.1 }) (pair_of number_of number_of words)
