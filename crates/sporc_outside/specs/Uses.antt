-- What objects outside told before and after.

-- what was told before and after; a disk tells what a crash may leave, which is no plain data
pub record Use {ℓ} (T : Type ℓ) : Type ℓ where
  pub before : T
  pub after : T

abbrev pub use_of {ℓ} : {A : Type 0} {T : Type ℓ} → (A → T) → A → A → Use T
use_of told old new = record { before = told old; after = told new }
