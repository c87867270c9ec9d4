-- Numbers among the bytes of keys and signatures.
use Rattle.std.specs.Prelude.{ℕ, List, take, drop}
use Rattle.std.specs.Int.{w32, from_be_bytes}

-- the four bytes from a place on, as a number
abbrev pub u32_at : List ℕ → ℕ → ℕ
u32_at bytes place = from_be_bytes w32 (take 4 (drop place bytes))
