-- What contracts see of a line as numbers and lists, by which proofs tell it from another.
use Rattle.std.specs.Prelude.{ℕ, List, refl}
use Rattle.std.specs.Coded.{Coded, code_by, coded×, coded_ℕ, coded_list}
use Rattle.sporc_member.specs.declared.device.Device.{Device}
use Rattle.sporc_member.specs.Codes.{device_code}
use Rattle.sporc_entry.specs.declared.genesis.Genesis.{Genesis}
use Rattle.sporc_entry.specs.Codes.{genesis_code}
use Rattle.sporc_epoch.specs.Keys.{Keys, keys_code}
use Rattle.sporc_line.specs.Kit.{Kit}
use Rattle.sporc_line.specs.LineModel.{LineModel}

abbrev pub kit_code : Coded Kit
kit_code = code_by (Device × (Keys × Keys)) (coded× device_code (coded× keys_code keys_code))
    (λ k. (k.me, (k.ring, k.pairs))) (λ p. record { me = p.0; ring = p.1.0; pairs = p.1.1 })
    (λ _. refl)

abbrev pub line_code : Coded LineModel
line_code = code_by (Genesis × (Kit × (List (List ℕ) × ℕ)))
    (coded× genesis_code (coded× kit_code (coded× (coded_list (coded_list coded_ℕ)) coded_ℕ)))
    (λ l. (l.genesis, (l.kit, (l.entries, l.spare))))
    (λ p. record { genesis = p.0; kit = p.1.0; entries = p.1.1.0; spare = p.1.1.1 }) (λ _. refl)
