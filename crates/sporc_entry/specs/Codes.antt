-- The genesis as numbers and lists, by which proofs tell it from another.
use Rattle.std.specs.Prelude.{ℕ, List, refl}
use Rattle.std.specs.Coded.{Coded, code_by, coded×, coded_ℕ, coded_list}
use Rattle.sporc_member.specs.declared.founder.Founder.{Founder}
use Rattle.sporc_member.specs.Codes.{founder_code}
use Rattle.sporc_entry.specs.declared.genesis.Genesis.{Genesis}

abbrev pub genesis_code : Coded Genesis
genesis_code = code_by (List ℕ × (List ℕ × List Founder))
    (coded× (coded_list coded_ℕ) (coded× (coded_list coded_ℕ) (coded_list founder_code)))
    (λ g. (g.document, (g.commitment, g.founders)))
    (λ p. record { document = p.0; commitment = p.1.0; founders = p.1.1 }) (λ _. refl)
