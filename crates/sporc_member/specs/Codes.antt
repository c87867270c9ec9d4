-- Members, devices, changes and their faults as numbers and lists, by which proofs tell them apart.
use Rattle.std.specs.Prelude.{◌≡◌, ℕ, ◌==◌, List, [], if◌then◌else◌, refl}
use Rattle.std.specs.Coded.{Coded, code_by, coded×, coded_ℕ, coded_list}
use Rattle.std.specs.Option.{unwrap_or}
use Rattle.std.proofs.Common.{ap}
use Rattle.sporc_member.specs.declared.change.Change.{Change}
use Rattle.sporc_member.specs.declared.change.Change.TheVariants.{Add, Remove, SetRole, AddDevice}
use Rattle.sporc_member.specs.declared.change.Change.TheVariants.{DropDevice, Upgrade}
use Rattle.sporc_member.specs.declared.change.ChangeFault.{ChangeFault}
use Rattle.sporc_member.specs.declared.change.ChangeFault.TheVariants as faults
use Rattle.sporc_member.specs.declared.device.Device.{Device}
use Rattle.sporc_member.specs.declared.founder.Founder.{Founder}
use Rattle.sporc_member.specs.declared.role.Role.{Role}
use Rattle.sporc_member.specs.declared.role.Role.TheVariants.{Reader, Editor, Admin}
use Rattle.sporc_member.specs.ChangeFault.{change_fault_code_of, change_fault_with_code}
use Rattle.sporc_member.specs.Role.{role_code_of, role_with_code}

abbrev pub role_of_code : ℕ → Role
role_of_code n = unwrap_or (role_with_code n) Reader

pub role_again : (role : Role) → role_of_code (role_code_of role) ≡ role
role_again Reader = refl
role_again Editor = refl
role_again Admin = refl

abbrev pub founder_code : Coded Founder
founder_code = code_by (ℕ × (ℕ × List ℕ)) (coded× coded_ℕ (coded× coded_ℕ (coded_list coded_ℕ)))
    (λ m. (m.member, (role_code_of m.role, m.key)))
    (λ p. record { member = p.0; role = role_of_code p.1.0; key = p.1.1 })
    (λ m. ap (λ (role : Role). let founder : Founder =
    record { member = m.member; role = role; key = m.key } in founder) (role_again m.role))

abbrev pub device_code : Coded Device
device_code = code_by (ℕ × ℕ) (coded× coded_ℕ coded_ℕ) (λ d. (d.member, d.number))
    (λ p. record { member = p.0; number = p.1 }) (λ _. refl)

abbrev pub ChangeParts : Type 0
ChangeParts = ℕ × (ℕ × (ℕ × List ℕ))

abbrev pub change_parts : Change → ChangeParts
change_parts (Add member role key) = (0, (member, (role_code_of role, key)))
change_parts (Remove member) = (1, (member, (0, [])))
change_parts (SetRole member role) = (2, (member, (role_code_of role, [])))
change_parts (AddDevice member device key) = (3, (member, (device, key)))
change_parts (DropDevice member device) = (4, (member, (device, [])))
change_parts Upgrade = (5, (0, (0, [])))

abbrev pub change_of_parts : ChangeParts → Change
change_of_parts p =
    if p.0 == 0 then Add p.1.0 (role_of_code p.1.1.0) p.1.1.1
    else (if p.0 == 1 then Remove p.1.0
    else (if p.0 == 2 then SetRole p.1.0 (role_of_code p.1.1.0)
    else (if p.0 == 3 then AddDevice p.1.0 p.1.1.0 p.1.1.1
    else (if p.0 == 4 then DropDevice p.1.0 p.1.1.0 else Upgrade))))

pub change_again : (c : Change) → change_of_parts (change_parts c) ≡ c
change_again (Add member role key) = ap (λ r. Add member r key) (role_again role)
change_again (SetRole member role) = ap (SetRole member) (role_again role)
change_again change = refl

abbrev pub change_code : Coded Change
change_code =
    code_by ChangeParts (coded× coded_ℕ (coded× coded_ℕ (coded× coded_ℕ (coded_list coded_ℕ))))
    change_parts change_of_parts change_again

abbrev pub fault_of_code : ℕ → ChangeFault
fault_of_code n = unwrap_or (change_fault_with_code n) faults.NumberUsed

pub fault_again : (f : ChangeFault) → fault_of_code (change_fault_code_of f) ≡ f
fault_again faults.NumberUsed = refl
fault_again fault = refl

abbrev pub fault_code : Coded ChangeFault
fault_code = code_by ℕ coded_ℕ change_fault_code_of fault_of_code fault_again
