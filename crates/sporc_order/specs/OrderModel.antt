-- What contracts see of an order.
use Rattle.std.specs.Prelude.{ℕ, List}
use Rattle.sporc_entry.specs.declared.genesis.Genesis.{Genesis}

-- a document's genesis, and the entries that were accepted
pub record OrderModel : Type 0 where
  pub genesis : Genesis
  pub entries : List (List ℕ)
