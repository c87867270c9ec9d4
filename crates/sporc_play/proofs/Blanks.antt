-- Leaf files of which no block is taken.
use Rattle.std.proofs.Common.{◌≡◌, ℕ, zero, suc, refl}
use Rattle.sporc_play.proofs.Common.{replicate, taken_blocks}

pub none_taken : (n : ℕ) → taken_blocks (replicate n 0) ≡ 0
none_taken zero = refl
none_taken (suc n) = rw (none_taken n) refl
