-- Worked examples of the definitions.
use Rattle.std.proofs.Common.{◌≡◌, ℕ, List, [], ◌∷◌, ◌++◌, refl, arith, Some}
use Rattle.sha2.specs.Sha256.{sha256}
use Rattle.sporc_hash.specs.Chain.{chain, chain_after, last_value, value_after}
use Rattle.sporc_hash.specs.Strings.{strings}
use Rattle.sporc_hash.specs.declared.verdict.Verdict.TheVariants.{ForkedAfter}
use Rattle.sporc_hash.specs.Verdict.{DivergesAfter, IsVerdictOn, TipIsIn}

-- an empty history's chain is the digest of 0x00 and the genesis
empty_chain : chain (7 ∷ []) [] ≡ sha256 (0 ∷ 7 ∷ []) ∷ []
unfolding chain_after
empty_chain = refl

-- two entries: each link hashes 0x01, the value before it and the digest of 0x02 and the entry
two_links : (a b : List ℕ) → last_value (7 ∷ []) (a ∷ b ∷ []) ≡ sha256 (1 ∷ sha256 (1 ∷ sha256 (0 ∷ 7 ∷ []) ++ sha256 (2 ∷ a)) ++ sha256 (2 ∷ b))
unfolding value_after
two_links a b = refl

-- an entry adds two strings, and each given key one
one_entry_and_key : (a : List ℕ)
    → strings (7 ∷ []) (a ∷ []) (9 ∷ []) (λ _. Some (8 ∷ [])) 1 ≡ (0 ∷ 7 ∷ []) ∷ (2 ∷ a) ∷ (1 ∷ sha256 (0 ∷ 7 ∷ []) ++ sha256 (2 ∷ a)) ∷ (4 ∷ 9 ∷ 0 ∷ 0 ∷ 0 ∷ 0 ∷ 8 ∷ []) ∷ []
one_entry_and_key a = refl

-- two chains that part after one entry, and one that goes on from the other
parted : DivergesAfter ((0 ∷ []) ∷ (1 ∷ []) ∷ (2 ∷ []) ∷ []) ((0 ∷ []) ∷ (1 ∷ []) ∷ (3 ∷ []) ∷ []) 1
parted = (omega arith, omega arith, refl, λ e. absurd cc)

goes_on : TipIsIn ((0 ∷ []) ∷ []) ((0 ∷ []) ∷ (1 ∷ []) ∷ [])
goes_on = (omega arith, refl)

-- two histories with their first entry in common
forked_after_one : IsVerdictOn {X = ℕ} (7 ∷ 8 ∷ []) (7 ∷ 9 ∷ []) (ForkedAfter 1)
forked_after_one = (omega arith, omega arith, refl, λ e. absurd cc)
