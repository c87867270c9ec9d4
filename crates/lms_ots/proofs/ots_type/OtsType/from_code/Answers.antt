use Rattle.std.proofs.Common.{◌≡◌, ◌≢◌, ◌↔◌, ℕ, Some, IsNone, sym}
use Rattle.lms_ots.specs.declared.ots_type.OtsType.{OtsType}
use Rattle.lms_ots.specs.declared.ots_type.OtsType.TheVariants.{W1, W2, W4, W8}
use Rattle.lms_ots.specs.OtsType.{ots_code_of}
use Rattle.lms_ots.proofs.ots_type.OtsType.from_code.Goals as goal

-- a type that has the code
known : (t : OtsType) (code : ℕ) → ots_code_of t ≡ code → IsNone (Some t) ↔ ((u : OtsType) → ots_code_of u ≢ code)
known t code e = (λ none. absurd (cc), λ unknown. absurd (unknown t e))

pub returns-in-1-clause-unknown : goal.returns-in-1-clause-unknown
returns-in-1-clause-unknown c = known W1 _ (sym c.in-1.is)

pub returns-in-2-clause-unknown : goal.returns-in-2-clause-unknown
returns-in-2-clause-unknown c = known W2 _ (sym c.in-2.is)

pub returns-in-3-clause-unknown : goal.returns-in-3-clause-unknown
returns-in-3-clause-unknown c = known W4 _ (sym c.in-3.is)

pub returns-in-4-clause-unknown : goal.returns-in-4-clause-unknown
returns-in-4-clause-unknown c = known W8 _ (sym c.in-4.is)
