-- Two devices with one member and one number are one.
use Rattle.std.proofs.Common.{◌≡◌, ℕ, true, refl, ap, ◌∙◌}
use Rattle.sporc_member.proofs.Common.{and_from, and_parts, eq-eqb, eqb-true, Device, same_device}

abbrev device_of : ℕ → ℕ → Device
device_of member number = record { member = member; number = number }

pub same_one : (a b : Device) → same_device a b ≡ true → a ≡ b
same_one a b same =
    let parts = and_parts _ _ same in
    ap (λ (member : ℕ). device_of member a.number) (eqb-true a.member b.member parts.0)
    ∙ ap (device_of b.member) (eqb-true a.number b.number parts.1)

pub one_same : (a : Device) → same_device a a ≡ true
one_same a = and_from _ _ (eq-eqb a.member a.member refl) (eq-eqb a.number a.number refl)
