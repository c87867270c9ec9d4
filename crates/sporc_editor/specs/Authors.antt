-- The authors of edits, and how a line names them.
use Rattle.std.specs.Prelude.{ℕ, ◌+◌, nat_lt, if◌then◌else◌, List, [], ◌∷◌, ◌++◌, codes, length}
use Rattle.std.specs.Prelude.{take}
use Rattle.std.specs.List.{flat_map, fold, list_any}
use Rattle.sporc_member.specs.declared.device.Device.{Device}
use Rattle.sporc_member.specs.Device.{same_device}
use Rattle.sporc_script.specs.Spelling.{device_text}
use Rattle.sporc_editor.specs.declared.limits.TheConstants.{MAX_AUTHORS}

-- different devices, and one more unless it is among them
abbrev pub with_device : List Device → Device → List Device
with_device devices device =
    if list_any (λ d. same_device d device) devices then devices else devices ++ device ∷ []

-- each of these once, in the order in which they first come
abbrev pub distinct : List Device → List Device
distinct devices = fold with_device [] devices

-- what is kept of them once one more comes: as many as a line names, and one that tells of more
abbrev pub kept_with : List Device → Device → List Device
kept_with devices device = take (MAX_AUTHORS + 1) (with_device devices device)

-- devices with a comma between two of them, or `-` if there is none
abbrev pub listed : List Device → List ℕ
listed [] = codes "-"
listed (device ∷ more) = device_text device ++ flat_map (λ d. codes "," ++ device_text d) more

-- different devices as a line names them: so many at most, and whether there are more
abbrev pub authors_text : List Device → List ℕ
authors_text devices = listed (take MAX_AUTHORS devices)
    ++ (if nat_lt MAX_AUTHORS (length devices) then codes ",.." else [])
