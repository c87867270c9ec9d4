-- What contracts see of a source and of a sink in memory.
use Rattle.std.specs.Prelude.{ℕ, List}
use Rattle.sporc_memory.specs.CallsModel.{CallsModel}

-- what an object in memory holds: the bytes that it has left or was given, the most bytes that a
-- call moves, and its calls
pub record MemoryBytesModel : Type 0 where
  pub bytes : List ℕ
  pub piece : ℕ
  pub calls : CallsModel
