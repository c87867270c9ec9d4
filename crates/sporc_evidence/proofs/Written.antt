-- Fields written one after another are the bytes of a summary.
use Rattle.std.proofs.Common.{◌≡◌, ℕ, ◌+◌, ◌-◌, List, [], ◌∷◌, ◌++◌, length, ap, append_assoc, arith}
use Rattle.std.specs.Int.{w16, w32, to_be_bytes}
use Rattle.std.specs.List.{flat_map}
use Rattle.sporc_hash.specs.Chain.{chain, genesis_value}
use Rattle.sporc_hash.proofs.ChainLemmas.{length-chain_after}
use Rattle.sporc_evidence.specs.declared.fields.TheConstants.{FORMAT}
use Rattle.sporc_evidence.specs.Summary.{SummaryModel}
use Rattle.sporc_evidence.specs.SummaryBytes.{summary_bytes}

pub written : (out : List ℕ) (x : SummaryModel) (count : ℕ) → count + 1 ≡ length x.hashes
    → (((((out ++ to_be_bytes w32 FORMAT) ++ x.document) ++ to_be_bytes w16 x.author) ++ x.device ∷ []) ++ to_be_bytes w32 count) ++ flat_map (λ h. h) x.hashes ≡ out ++ summary_bytes x
unfolding summary_bytes
written out x count h =
    let n : count ≡ length x.hashes - 1 = omega (arith, h) in
    rw n (simp append_assoc)

-- a chain has one value more than its history has entries
pub chain_long : (genesis : List ℕ) (es hashes : List (List ℕ)) (count : ℕ) → hashes ≡ chain genesis es → count ≡ length es → count + 1 ≡ length hashes
chain_long genesis es hashes count of_es is = omega (arith, is, ap length of_es, length-chain_after (genesis_value genesis) es)
