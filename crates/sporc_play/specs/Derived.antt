-- The values that a play derives for the members of its script and their devices, all of them by
-- SHA-256.
use Rattle.std.specs.Prelude.{ℕ, ◌+◌, ◌*◌, ◌^◌, nat_le, List, ◌∷◌, ◌++◌, take, if◌then◌else◌}
use Rattle.std.specs.Int.{w16, w32, to_be_bytes}
use Rattle.sha2.specs.Sha256.{sha256}
use Rattle.sporc_member.specs.declared.device.Device.{Device}

-- a value of some kind, by a member and a number
abbrev pub derived : ℕ → ℕ → ℕ → List ℕ
derived kind member number = sha256 (240 ∷ kind ∷ to_be_bytes w16 member ++ to_be_bytes w32 number)

-- the seed and the identifier of a device's signature tree
abbrev pub seed_of : Device → List ℕ
seed_of device = derived 1 device.member device.number

abbrev pub identifier_of : Device → List ℕ
identifier_of device = take 16 (derived 2 device.member device.number)

-- the key that two members share
abbrev pub pair_key : ℕ → ℕ → List ℕ
pair_key one other = if nat_le one other then derived 3 one other else derived 3 other one

-- the key of epoch 0, and the document's number
abbrev pub first_key : List ℕ
first_key = derived 4 0 0

abbrev pub document_number : List ℕ
document_number = take 16 (derived 5 0 0)

-- the random bytes of what a device signs or submits for the t-th time, from 1: 32 for the
-- signature, and 32 for a new key
abbrev pub random_of : Device → ℕ → List ℕ
random_of device t =
    let number = device.number * 2 ^ 24 + t in
    derived 6 device.member number ++ derived 7 device.member number
