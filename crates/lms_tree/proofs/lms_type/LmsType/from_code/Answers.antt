use Rattle.std.proofs.Common.{◌≡◌, ◌≢◌, ◌↔◌, ℕ, Some, IsNone, sym}
use Rattle.lms_tree.specs.declared.lms_type.LmsType.{LmsType}
use Rattle.lms_tree.specs.declared.lms_type.LmsType.TheVariants.{H5, H10, H15, H20, H25}
use Rattle.lms_tree.specs.LmsType.{lms_code_of}
use Rattle.lms_tree.proofs.lms_type.LmsType.from_code.Goals as goal

-- a type that has the code
known : (t : LmsType) (code : ℕ) → lms_code_of t ≡ code → IsNone (Some t) ↔ ((u : LmsType) → lms_code_of u ≢ code)
known t code e = (λ none. absurd (cc), λ unknown. absurd (unknown t e))

pub returns-in-5-clause-unknown : goal.returns-in-5-clause-unknown
returns-in-5-clause-unknown c = known H5 _ (sym c.in-5.is)

pub returns-in-6-clause-unknown : goal.returns-in-6-clause-unknown
returns-in-6-clause-unknown c = known H10 _ (sym c.in-6.is)

pub returns-in-7-clause-unknown : goal.returns-in-7-clause-unknown
returns-in-7-clause-unknown c = known H15 _ (sym c.in-7.is)

pub returns-in-8-clause-unknown : goal.returns-in-8-clause-unknown
returns-in-8-clause-unknown c = known H20 _ (sym c.in-8.is)

pub returns-in-9-clause-unknown : goal.returns-in-9-clause-unknown
returns-in-9-clause-unknown c = known H25 _ (sym c.in-9.is)
