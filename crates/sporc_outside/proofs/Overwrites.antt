-- The bytes of a list that was overwritten from a place on.
use Rattle.std.proofs.Common.{◌≡◌, ℕ, ◌+◌, ◌-◌, ◌<◌, ◌≤◌, ◌⊎◌, inl, inr, List, ◌++◌, length, take, drop, slice_index, ap, ◌∙◌, arith, length-append, length-drop, length-take-le, get_or-take}
use Rattle.std.proofs.Math.ListN.{get_or-append}
use Rattle.std.proofs.Math.Seq.{get_or-append_right, get_or-drop}
use Rattle.sporc_outside.specs.LeafDisk.{overwrite}

length-front : (old : List ℕ) (at : ℕ) (bytes : List ℕ) → at ≤ length old → length (take at old ++ bytes) ≡ at + length bytes
length-front old at bytes h = omega (arith, length-append (take at old) bytes, length-take-le at old h)

pub length-overwrite : (old : List ℕ) (at : ℕ) (bytes : List ℕ) → at + length bytes ≤ length old → length (overwrite old at bytes) ≡ length old
length-overwrite old at bytes h =
    let front = length-front old at bytes (omega arith) in
    omega (arith, length-append (take at old ++ bytes) (drop (at + length bytes) old), front, length-drop (at + length bytes) old)

-- outside the range nothing changes
pub slice_index-overwrite_outside : (old : List ℕ) (at : ℕ) (bytes : List ℕ) (i : ℕ) → at + length bytes ≤ length old
    → (i < at) ⊎ (at + length bytes ≤ i) → slice_index (overwrite old at bytes) i ≡ slice_index old i
slice_index-overwrite_outside old at bytes i h (inl below) =
    let front = length-front old at bytes (omega arith) in
    get_or-append (take at old ++ bytes) (drop (at + length bytes) old) 0 i (omega arith)
    ∙ get_or-append (take at old) bytes 0 i (omega (arith, length-take-le at old (omega arith)))
    ∙ get_or-take at old i 0 below
slice_index-overwrite_outside old at bytes i h (inr above) =
    let front = length-front old at bytes (omega arith) in
    let back : at + length bytes + (i - length (take at old ++ bytes)) ≡ i = omega arith in
    get_or-append_right (take at old ++ bytes) (drop (at + length bytes) old) i 0 (omega arith)
    ∙ get_or-drop (at + length bytes) old (i - length (take at old ++ bytes)) 0
    ∙ ap (slice_index old) back

-- inside it stand the bytes
pub slice_index-overwrite_inside : (old : List ℕ) (at : ℕ) (bytes : List ℕ) (i : ℕ) → at ≤ length old → at ≤ i → i < at + length bytes
    → slice_index (overwrite old at bytes) i ≡ slice_index bytes (i - at)
slice_index-overwrite_inside old at bytes i h low high =
    let front = length-front old at bytes h in
    let taken = length-take-le at old h in
    get_or-append (take at old ++ bytes) (drop (at + length bytes) old) 0 i (omega arith)
    ∙ get_or-append_right (take at old) bytes i 0 (omega arith)
    ∙ ap (λ (n : ℕ). slice_index bytes (i - n)) taken
