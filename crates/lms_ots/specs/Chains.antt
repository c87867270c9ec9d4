-- The hash chains of a one-time key (RFC 8554, sections 4.2 and 4.3, and Appendix A).
use Rattle.std.specs.Prelude.{ℕ, zero, suc, ◌+◌, List, [], ◌∷◌, ◌++◌}
use Rattle.std.specs.Int.{w16, w32, to_be_bytes}
use Rattle.sha2.specs.Sha256.{sha256}

-- I || u32str(q) || u16str(i), with which each string of chain i begins
abbrev pub chain_front : List ℕ → ℕ → ℕ → List ℕ
chain_front id q i = id ++ to_be_bytes w32 q ++ to_be_bytes w16 i

-- x[i], the start of chain i
abbrev pub secret_part : List ℕ → ℕ → ℕ → List ℕ → List ℕ
secret_part id q i seed = sha256 (chain_front id q i ++ 0xff ∷ seed)

-- step j of chain i
abbrev pub chain_step : List ℕ → ℕ → ℕ → ℕ → List ℕ → List ℕ
chain_step id q i j x = sha256 (chain_front id q i ++ j ∷ x)

-- n steps of chain i, from step a on
unfoldable pub chain_of : List ℕ → ℕ → ℕ → ℕ → ℕ → List ℕ → List ℕ
chain_of id q i a zero x = x
chain_of id q i a (suc n) x = chain_step id q i (a + n) (chain_of id q i a n x)

-- the first n of a row of parts, one after another
unfoldable pub concatenated : (ℕ → List ℕ) → ℕ → List ℕ
concatenated part zero = []
concatenated part (suc n) = concatenated part n ++ part n
