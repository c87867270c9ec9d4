-- What an order hands out of its entries in one answer.
use Rattle.std.specs.Prelude.{ℕ, zero, suc, ◌+◌, ◌-◌, nat_le, List, [], ◌∷◌, length, drop}
use Rattle.std.specs.Prelude.{if◌then◌else◌}
use Rattle.sporc_wire.specs.declared.to_client.TheConstants.{MAX_PULLED}
use Rattle.sporc_order.specs.declared.order.TheConstants.{MAX_PULLED_BYTES}

-- as many of the first entries as a limit on their number and on their bytes, each with 4 more,
-- allows
abbrev pub longest_batch : ℕ → ℕ → List (List ℕ) → List (List ℕ)
longest_batch zero room entries = []
longest_batch (suc n) room [] = []
longest_batch (suc n) room (e ∷ es) =
    if nat_le (length e + 4) room then e ∷ longest_batch n (room - (length e + 4)) es else []

-- the entries after some that one answer holds: at most MAX_PULLED, whose bytes with 4 each are at
-- most MAX_PULLED_BYTES
abbrev pub batch_after : List (List ℕ) → ℕ → List (List ℕ)
batch_after entries from = longest_batch MAX_PULLED MAX_PULLED_BYTES (drop from entries)
