-- What a signer holds: its private key, and its leaf numbers.
use Rattle.lms_tree.specs.LmsPrivate.{LmsPrivate}
use Rattle.lms_leaf.specs.Leaves.{LeavesModel}

pub record SignerModel (D : Type 0) : Type 0 where
  pub key : LmsPrivate
  pub leaves : LeavesModel D
