-- What contracts see of a ring.
use Rattle.std.specs.Prelude.{ℕ, refl}
use Rattle.std.specs.Coded.{Coded, code_by, coded×, coded_ℕ}
use Rattle.sporc_epoch.specs.Keys.{Keys, keys_code}

-- the keys by epoch, and how many more it takes without memory
pub record RingModel : Type 0 where
  pub keys : Keys
  pub spare : ℕ

abbrev pub ring_code : Coded RingModel
ring_code = code_by (Keys × ℕ) (coded× keys_code coded_ℕ) (λ r. (r.keys, r.spare))
    (λ p. record { keys = p.0; spare = p.1 }) (λ _. refl)
