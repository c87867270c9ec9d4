-- What is left of known bytes.
use Rattle.std.proofs.Common.{◌≡◌, ℕ, ◌+◌, ◌-◌, ◌<◌, ◌≤◌, min, List, [], ◌++◌, length, take, drop, ap, ap₂, sym, ◌∙◌, arith, length-drop}
use Rattle.sporc_memory.proofs.Common.{take_all, length-take, take-append-le, take-append-drop, drop-drop, nil_from_length}

-- what is left from a place on
pub left-is : (bytes : List ℕ) (at : ℕ) → take (length bytes - at) (drop at bytes) ≡ drop at bytes
left-is bytes at = take_all (length bytes - at) (drop at bytes) (omega (arith, length-drop at bytes))

-- the bytes that a read moved to the front of a buffer, and those that it left
pub moved : (bytes buf front : List ℕ) (at n : ℕ) → n ≤ length (take (length bytes - at) (drop at bytes)) → front ≡ take n (take (length bytes - at) (drop at bytes))
    → drop at bytes ≡ take n (front ++ drop n buf) ++ drop (at + n) bytes
moved bytes buf front at n fits is =
    let size : length front ≡ n = omega (arith, ap length is, length-take n (take (length bytes - at) (drop at bytes))) in
    let given : take n (front ++ drop n buf) ≡ take n (drop at bytes) =
    take-append-le n front (drop n buf) (omega (arith, size)) ∙ take_all n front (omega (arith, size)) ∙ is ∙ ap (take n) (left-is bytes at) in
    sym (take-append-drop n (drop at bytes)) ∙ ap₂ (λ (a b : List ℕ). a ++ b) (sym given) (drop-drop n at bytes)

-- a read that moves nothing into a buffer with room stands at the end
pub at_end : (bytes : List ℕ) (at room piece n : ℕ) → 0 < piece → 0 < room → n ≡ min (min room piece) (length (take (length bytes - at) (drop at bytes))) → n ≡ 0 → drop (at + n) bytes ≡ []
at_end bytes at room piece n some buffer is none =
    nil_from_length (drop (at + n) bytes) (omega (arith, length-drop (at + n) bytes, length-drop at bytes, ap length (left-is bytes at)))
