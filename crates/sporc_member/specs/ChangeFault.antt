-- What is printed and sent of a fault of a change.
use Rattle.std.specs.Prelude.{ℕ, ◌==◌, List, [], ◌∷◌, Option, find, codes}
use Rattle.sporc_member.specs.declared.change.ChangeFault.{ChangeFault}
use Rattle.sporc_member.specs.declared.change.ChangeFault.TheVariants.{NumberUsed, NotMember}
use Rattle.sporc_member.specs.declared.change.ChangeFault.TheVariants.{SameRole, LastAdmin}
use Rattle.sporc_member.specs.declared.change.ChangeFault.TheVariants.{RosterFull, BadKey}
use Rattle.sporc_member.specs.declared.change.ChangeFault.TheVariants.{DeviceUsed, NoDevice}
use Rattle.sporc_member.specs.declared.change.ChangeFault.TheVariants.{LastDevice, DevicesFull}
use Rattle.sporc_member.specs.declared.change.ChangeFault.TheVariants.{NotUpgraded, AlreadyUpgraded}

-- its name
abbrev pub change_fault_name : ChangeFault → List ℕ
change_fault_name NumberUsed = codes "number-used"
change_fault_name NotMember = codes "not-member"
change_fault_name SameRole = codes "same-role"
change_fault_name LastAdmin = codes "last-admin"
change_fault_name RosterFull = codes "roster-full"
change_fault_name BadKey = codes "bad-key"
change_fault_name DeviceUsed = codes "device-used"
change_fault_name NoDevice = codes "no-device"
change_fault_name LastDevice = codes "last-device"
change_fault_name DevicesFull = codes "devices-full"
change_fault_name NotUpgraded = codes "not-upgraded"
change_fault_name AlreadyUpgraded = codes "already-upgraded"

-- its number
abbrev pub change_fault_code_of : ChangeFault → ℕ
change_fault_code_of NumberUsed = 1
change_fault_code_of NotMember = 2
change_fault_code_of SameRole = 3
change_fault_code_of LastAdmin = 4
change_fault_code_of RosterFull = 5
change_fault_code_of BadKey = 6
change_fault_code_of DeviceUsed = 7
change_fault_code_of NoDevice = 8
change_fault_code_of LastDevice = 9
change_fault_code_of DevicesFull = 10
change_fault_code_of NotUpgraded = 11
change_fault_code_of AlreadyUpgraded = 12

-- all of them
abbrev pub change_faults : List ChangeFault
change_faults =
    NumberUsed ∷ NotMember ∷ SameRole ∷ LastAdmin ∷ RosterFull ∷ BadKey
    ∷ DeviceUsed ∷ NoDevice ∷ LastDevice ∷ DevicesFull ∷ NotUpgraded ∷ AlreadyUpgraded ∷ []

-- the fault with this number, if there is one
abbrev pub change_fault_with_code : ℕ → Option ChangeFault
change_fault_with_code code = find (λ f. change_fault_code_of f == code) change_faults
