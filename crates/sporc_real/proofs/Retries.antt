-- Known bytes where a call is made again.
use Rattle.std.proofs.Common.{ℕ, List, Result, Ok, Err, Option, Some, None, subst}
use Rattle.std.specs.Io.KnownBytes.{Keeps, ReadConsumes}

-- a read after others that moved nothing
pub read_later : {E : Type 0} (u v w : Option (List ℕ)) (r : Result ℕ E) (buf : List ℕ) → Keeps u v → ReadConsumes v w r buf → ReadConsumes u w r buf
read_later None v w (Ok n) buf x y = (tt, y.1)
read_later None v w (Err e) buf x y = tt
read_later (Some xs) None w r buf x y = absurd x
read_later (Some xs) (Some ys) w r buf x y = subst (λ (zs : List ℕ). ReadConsumes (Some zs) w r buf) x y
