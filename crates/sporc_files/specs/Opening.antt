-- What a member's device is given at the beginning, by its member's ring or by hints.
use Rattle.std.specs.Prelude.{ℕ, List, Option, None, Some, Result, Ok, Err}
use Rattle.std.specs.FinMap.{get}
use Rattle.sporc_base.specs.FirstFault.{first_of}
use Rattle.sporc_bytes.specs.Fields.{◌>>=◌, fault_as}
use Rattle.sporc_entry.specs.declared.genesis.Genesis.{Genesis}
use Rattle.sporc_epoch.specs.Hints.{hints_of}
use Rattle.sporc_epoch.specs.Keys.{Keys}
use Rattle.sporc_keys.specs.RingFile.{epoch_keys, pair_keys}
use Rattle.sporc_keys.specs.declared.ring_file.RingFile.{RingFile}
use Rattle.sporc_line.specs.Kit.{Kit, kit_of}
use Rattle.sporc_line.specs.Openings.{open_checks}
use Rattle.sporc_line.specs.declared.fault.LineOpenFault.{LineOpenFault}
use Rattle.sporc_member.specs.declared.device.Device.{Device}
use Rattle.sporc_files.specs.declared.fault.Fault.{Fault}
use Rattle.sporc_files.specs.Faults.{fault_of_hints, fault_of_line}

-- the keys of epochs that a member begins with: a founder's key of epoch 0, or, where there is
-- none, the hints that entries give a joiner
abbrev pub keys_by : Option (List ℕ) → ℕ → Keys → List (List ℕ) → Result Keys Fault
keys_by (Some key) member pairs entries = Ok (epoch_keys (Some key))
keys_by None member pairs entries = fault_as fault_of_hints (hints_of entries member pairs)

-- a value, unless keys don't open the document
abbrev pub unless_closed : {A : Type 0} → Option LineOpenFault → A → Result A Fault
unless_closed None x = Ok x
unless_closed (Some fault) x = Err (fault_of_line fault)

-- what a device is given with these keys, if they open the document
abbrev pub kit_with : Genesis → Device → Keys → Keys → Result Kit Fault
kit_with genesis device pairs keys =
    unless_closed (first_of (open_checks genesis (get keys 0))) (kit_of device keys pairs)

-- the kit of a device, by what its member's ring says and by the entries that a joiner's hints are
-- taken from
abbrev pub kit_by : Genesis → Device → RingFile → List (List ℕ) → Result Kit Fault
kit_by genesis device ring entries =
    let pairs = pair_keys ring.pairs in
    keys_by ring.epoch_key device.member pairs entries >>= kit_with genesis device pairs
