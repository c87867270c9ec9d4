-- How one history stands to another.
use Rattle.std.specs.Prelude.{◌≡◌, ◌≢◌, ℕ, ◌+◌, ◌-◌, ◌<◌, List, ◌++◌, length, take, slice_get, ⊤}
use Rattle.sporc_hash.specs.Chain.{chain}
use Rattle.sporc_hash.specs.Strings.{CollisionFree, chain_strings}
use Rattle.sporc_hash.specs.declared.verdict.Verdict.{Verdict}
use Rattle.sporc_hash.specs.declared.verdict.Verdict.TheVariants.{Same, Prefix, Longer, ForkedAfter}

-- two lists of values are equally long and have one last value
abbrev pub SameTip : List (List ℕ) → List (List ℕ) → Type 0
SameTip a b = (length a ≡ length b) × (slice_get a (length a - 1) ≡ slice_get b (length a - 1))

-- the first list is shorter, and the second has the first's last value at that place
abbrev pub TipIsIn : List (List ℕ) → List (List ℕ) → Type 0
TipIsIn a b = (length a < length b) × (slice_get a (length a - 1) ≡ slice_get b (length a - 1))

-- both have one value after k entries, and different values after one entry more
abbrev pub DivergesAfter : List (List ℕ) → List (List ℕ) → ℕ → Type 0
DivergesAfter a b k = (k + 1 < length a) × (k + 1 < length b) × (slice_get a k ≡ slice_get b k)
    × (slice_get a (k + 1) ≢ slice_get b (k + 1))

-- a fact of the number of common entries, where the verdict has one
abbrev pub IfForked : Verdict → (ℕ → Type 0) → Type 0
IfForked (ForkedAfter k) P = P k
IfForked Same P = ⊤
IfForked Prefix P = ⊤
IfForked Longer P = ⊤

-- the verdict on two histories: they are equal, one is a prefix of the other, or the first k
-- entries are equal and no more
abbrev pub IsVerdictOn : {X : Type 0} → List X → List X → Verdict → Type 0
IsVerdictOn x y Same = x ≡ y
IsVerdictOn x y Prefix = (length x < length y) × (x ≡ take (length x) y)
IsVerdictOn x y Longer = (length y < length x) × (y ≡ take (length y) x)
IsVerdictOn x y (ForkedAfter k) =
    (k < length x) × (k < length y) × (take k x ≡ take k y) × (take (k + 1) x ≢ take (k + 1) y)

-- the verdict on any two histories that have these chains, if no two different strings hashed for
-- them have one digest
abbrev pub IsVerdictOnChains : List (List ℕ) → List (List ℕ) → Verdict → Type 0
IsVerdictOnChains a b verdict = (genesis : List ℕ) (x y : List (List ℕ)) → a ≡ chain genesis x
    → b ≡ chain genesis y → CollisionFree (chain_strings genesis x ++ chain_strings genesis y)
    → IsVerdictOn x y verdict
