-- The readers of lines that are words alone are exact.
use Rattle.std.proofs.Common.{◌≡◌, ℕ, ◌<◌, ◌^◌, true, [], ◌∷◌, ◌++◌, Some, refl, arith}
use Rattle.sporc_script.proofs.Common.{decimal, Device, Role, Keyword, MemberRole, device_number_of, device_of, further_number_of, member_of, pair_of, u32_of, IsMember, DeviceInRange}
use Rattle.sporc_script.proofs.Common.{DevicePairInRange, FlipInRange, FurtherInRange, GiveInRange, IsDeviceNumber, IsU64, PairInRange, RestartInRange, device_pair_spelling, device_text}
use Rattle.sporc_script.proofs.Common.{flip_spelling, give_spelling, height_name, keyword_name, member_device_spelling, member_role_spelling, pair_spelling, restart_spelling, role_name, tree_spelling}
use Rattle.sporc_script.proofs.Common.{width_name, number_of, Reader, Editor, Admin, DevicePair, Flip, Give, Pair, Restart, Tree}
use Rattle.sporc_script.specs.declared.command.Height.{Height}
use Rattle.sporc_script.specs.declared.command.Height.TheVariants.{Five, Ten}
use Rattle.sporc_script.specs.declared.command.Keyword.TheVariants as keywords
use Rattle.sporc_script.specs.declared.command.Width.{Width}
use Rattle.sporc_script.specs.declared.command.Width.TheVariants.{Four, Eight}
use Rattle.sporc_script.specs.Plain.{flip_of, further_device_of, give_of, height_of, keyword_of, member_device_of, member_role_of, restart_of, role_of, tree_of, two_devices_of, two_members_of, width_of}
use Rattle.sporc_script.proofs.Cuts.{IsWord, decimal_word, is_bare, word_from_test}
use Rattle.sporc_script.proofs.DeviceWords.{device_exact, device_number_exact, device_words, further_number_exact}
use Rattle.sporc_script.proofs.Exact.{AreWords, IsExact, map_exact, named_exact, pair_exact, range_exact}
use Rattle.sporc_script.proofs.TextWords.{member_exact, number_exact, u32_exact}

pub number_words : AreWords ℕ IsU64 decimal
number_words n fits = decimal_word n fits

pub u32_words : AreWords ℕ (λ n. n < 2 ^ 32) decimal
u32_words n fits = decimal_word n (omega (arith, fits))

pub member_words : AreWords ℕ IsMember decimal
member_words n range = decimal_word n (omega (arith, range.1))

pub keyword_exact : IsExact Keyword (λ _. Unit {0}) keyword_name keyword_of
unfolding keyword_of
keyword_exact = named_exact Keyword keyword_name
    (keywords.Tree ∷ keywords.Member ∷ keywords.Rogue ∷ keywords.Joiner ∷ keywords.Unpaired ∷ keywords.Edit ∷ keywords.Change ∷ keywords.Discard ∷ keywords.Submit ∷ keywords.Give ∷ keywords.Restart ∷ keywords.Join ∷ keywords.Show ∷ keywords.Members ∷ keywords.Hash ∷ keywords.Journal ∷ keywords.Compare ∷ keywords.Flip ∷ keywords.Cut ∷ keywords.Sign ∷ keywords.Device ∷ [])
    (λ k. elim k as (λ k. keyword_of (keyword_name k) ≡ Some k) [ keywords.Tree ↦ refl | keywords.Member ↦ refl | keywords.Rogue ↦ refl | keywords.Joiner ↦ refl | keywords.Unpaired ↦ refl | keywords.Edit ↦ refl | keywords.Change ↦ refl | keywords.Discard ↦ refl | keywords.Submit ↦ refl | keywords.Give ↦ refl | keywords.Restart ↦ refl | keywords.Join ↦ refl | keywords.Show ↦ refl | keywords.Members ↦ refl | keywords.Hash ↦ refl | keywords.Journal ↦ refl | keywords.Compare ↦ refl | keywords.Flip ↦ refl | keywords.Cut ↦ refl | keywords.Sign ↦ refl | keywords.Device ↦ refl ])

pub keyword_words : (k : Keyword) → IsWord (keyword_name k)
keyword_words k = word_from_test (keyword_name k) (elim k as (λ k. is_bare (keyword_name k) ≡ true) [ keywords.Tree ↦ refl | keywords.Member ↦ refl | keywords.Rogue ↦ refl | keywords.Joiner ↦ refl | keywords.Unpaired ↦ refl | keywords.Edit ↦ refl | keywords.Change ↦ refl | keywords.Discard ↦ refl | keywords.Submit ↦ refl | keywords.Give ↦ refl | keywords.Restart ↦ refl | keywords.Join ↦ refl | keywords.Show ↦ refl | keywords.Members ↦ refl | keywords.Hash ↦ refl | keywords.Journal ↦ refl | keywords.Compare ↦ refl | keywords.Flip ↦ refl | keywords.Cut ↦ refl | keywords.Sign ↦ refl | keywords.Device ↦ refl ])

pub role_exact : IsExact Role (λ _. Unit {0}) role_name role_of
unfolding role_of
role_exact = named_exact Role role_name (Reader ∷ Editor ∷ Admin ∷ []) (λ r. elim r as (λ r. role_of (role_name r) ≡ Some r) [ Reader ↦ refl | Editor ↦ refl | Admin ↦ refl ])

pub height_exact : IsExact Height (λ _. Unit {0}) height_name height_of
unfolding height_of
height_exact = named_exact Height height_name (Five ∷ Ten ∷ []) (λ h. elim h as (λ h. height_of (height_name h) ≡ Some h) [ Five ↦ refl | Ten ↦ refl ])

pub width_exact : IsExact Width (λ _. Unit {0}) width_name width_of
unfolding width_of
width_exact = named_exact Width width_name (Four ∷ Eight ∷ []) (λ w. elim w as (λ w. width_of (width_name w) ≡ Some w) [ Four ↦ refl | Eight ↦ refl ])

pub height_words : AreWords Height (λ _. Unit {0}) height_name
height_words h _ = word_from_test (height_name h) (elim h as (λ h. is_bare (height_name h) ≡ true) [ Five ↦ refl | Ten ↦ refl ])

pub role_words : AreWords Role (λ _. Unit {0}) role_name
role_words r _ = word_from_test (role_name r) (elim r as (λ r. is_bare (role_name r) ≡ true) [ Reader ↦ refl | Editor ↦ refl | Admin ↦ refl ])

pub tree_exact : IsExact Tree (λ _. Unit {0}) tree_spelling tree_of
unfolding tree_of
tree_exact = range_exact Tree _ _ tree_spelling _
    (map_exact (Height × Width) Tree _ _ _
    (pair_exact Height Width _ _ height_name width_name height_of width_of height_exact height_words width_exact)
    (λ p. record { height = p.0; width = p.1 }) (λ t. (t.height, t.width)) (λ p. refl) (λ t. refl))
    (λ t h. tt) (λ t h. (tt, tt))

pub member_role_exact : IsExact MemberRole (λ m. IsMember m.member) member_role_spelling member_role_of
unfolding member_role_of
member_role_exact = range_exact MemberRole _ _ member_role_spelling _
    (map_exact (ℕ × Role) MemberRole _ _ _
    (pair_exact ℕ Role _ _ decimal role_name member_of role_of member_exact member_words role_exact)
    (λ p. record { member = p.0; role = p.1 }) (λ m. (m.member, m.role)) (λ p. refl) (λ m. refl))
    (λ m h. h.0) (λ m h. (h, tt))

pub two_members_exact : IsExact Pair PairInRange pair_spelling two_members_of
unfolding two_members_of
two_members_exact =
    map_exact (ℕ × ℕ) Pair _ _ _
    (pair_exact ℕ ℕ _ _ decimal decimal member_of member_of member_exact member_words member_exact)
    (λ p. record { first = p.0; second = p.1 }) (λ p. (p.first, p.second)) (λ p. refl) (λ p. refl)

pub two_devices_exact : IsExact DevicePair DevicePairInRange device_pair_spelling two_devices_of
unfolding two_devices_of
two_devices_exact =
    map_exact (Device × Device) DevicePair _ _ _
    (pair_exact Device Device _ _ device_text device_text device_of device_of device_exact device_words device_exact)
    (λ p. record { first = p.0; second = p.1 }) (λ p. (p.first, p.second)) (λ p. refl) (λ p. refl)

pub device_number_words : AreWords ℕ IsDeviceNumber decimal
device_number_words n fits = decimal_word n (omega (arith, fits))

pub member_device_exact : IsExact Device DeviceInRange member_device_spelling member_device_of
unfolding member_device_of
member_device_exact =
    map_exact (ℕ × ℕ) Device _ _ _
    (pair_exact ℕ ℕ _ _ decimal decimal member_of device_number_of member_exact member_words device_number_exact)
    (λ p. record { member = p.0; number = p.1 }) (λ d. (d.member, d.number)) (λ p. refl) (λ d. refl)

pub further_device_exact : IsExact Device FurtherInRange member_device_spelling further_device_of
unfolding further_device_of
further_device_exact =
    map_exact (ℕ × ℕ) Device _ _ _
    (pair_exact ℕ ℕ _ _ decimal decimal member_of further_number_of member_exact member_words further_number_exact)
    (λ p. record { member = p.0; number = p.1 }) (λ d. (d.member, d.number)) (λ p. refl) (λ d. refl)

pub give_exact : IsExact Give GiveInRange give_spelling give_of
unfolding give_of
give_exact = range_exact Give _ _ give_spelling _
    (map_exact (Device × (ℕ × ℕ)) Give _ _ _
    (pair_exact Device (ℕ × ℕ) _ _ device_text (λ p. decimal p.0 ++ 32 ∷ decimal p.1) device_of (pair_of u32_of number_of) device_exact device_words
    (pair_exact ℕ ℕ _ _ decimal decimal u32_of number_of u32_exact u32_words number_exact))
    (λ p. record { device = p.0; position = p.1.0; entry = p.1.1 }) (λ g. (g.device, (g.position, g.entry))) (λ p. refl) (λ g. refl))
    (λ g h. (h.0, h.1.0, h.1.1)) (λ g h. (h.0, (h.1, h.2)))

pub restart_exact : IsExact Restart RestartInRange restart_spelling restart_of
unfolding restart_of
restart_exact =
    map_exact (Device × ℕ) Restart _ _ _
    (pair_exact Device ℕ _ _ device_text decimal device_of number_of device_exact device_words number_exact)
    (λ p. record { device = p.0; entries = p.1 }) (λ r. (r.device, r.entries)) (λ p. refl) (λ r. refl)

pub flip_exact : IsExact Flip FlipInRange flip_spelling flip_of
unfolding flip_of
flip_exact =
    map_exact (ℕ × ℕ) Flip _ _ _
    (pair_exact ℕ ℕ _ _ decimal decimal number_of number_of number_exact number_words number_exact)
    (λ p. record { entry = p.0; at = p.1 }) (λ f. (f.entry, f.at)) (λ p. refl) (λ f. refl)
