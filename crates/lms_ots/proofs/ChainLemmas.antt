-- The hash chains of a one-time key.
use Rattle.std.proofs.Common.{◌≡◌, ℕ, zero, suc, ◌+◌, ◌-◌, ◌≤◌, List, length, refl, arith}
use Rattle.sha2.proofs.Facts256.{length-sha256}
use Rattle.lms_ots.specs.Chains.{chain_step, chain_of}

-- no step
pub chain_none : (id : List ℕ) (q i a n : ℕ) (x : List ℕ) → n ≡ 0 → x ≡ chain_of id q i a n x
unfolding chain_of
chain_none id q i a n x e = rw e refl

-- one more step
pub chain_more : (id : List ℕ) (q i a j : ℕ) (x y z : List ℕ) → a ≤ j → y ≡ chain_of id q i a (j - a) x
    → z ≡ chain_step id q i j y → z ≡ chain_of id q i a (j + 1 - a) x
unfolding chain_of
chain_more id q i a j x y z above before now =
    let more : j + 1 - a ≡ suc (j - a) = omega arith in
    let place : a + (j - a) ≡ j = omega arith in
    rw (more, place, ← before) now

-- steps from a on, after the steps before a
pub chain_of-chain_of : (id : List ℕ) (q i a n : ℕ) (x : List ℕ) → chain_of id q i a n (chain_of id q i 0 a x) ≡ chain_of id q i 0 (a + n) x
unfolding chain_of
chain_of-chain_of id q i a zero x = let e : a + 0 ≡ a = omega arith in rw e refl
chain_of-chain_of id q i a (suc n) x =
    let e : a + suc n ≡ suc (a + n) = omega arith in
    let z : 0 + (a + n) ≡ a + n = omega arith in
    rw (e, z, ← chain_of-chain_of id q i a n x) refl

-- a chain's value has 32 bytes
pub length-chain_of : (id : List ℕ) (q i a n : ℕ) (x : List ℕ) → length x ≡ 32 → length (chain_of id q i a n x) ≡ 32
unfolding chain_of
length-chain_of id q i a zero x h = h
length-chain_of id q i a (suc n) x h = length-sha256 _
