-- Worked examples of the definitions, each computed. An item is the number of the pass that added it.
use Rattle.std.proofs.Common.{◌≡◌, ℕ, [], ◌∷◌, refl}
use Rattle.sporc_turn.proofs.Common.{own, longer, shorter, first_known, adding, splitting, copied, joined_with}

abbrev self : ℕ → ℕ
self n = n

-- two items were there at the start, and then 2, 1 and 2 added one each
own-after_start : own self 2 2 (2 ∷ 1 ∷ 2 ∷ 1 ∷ 2 ∷ []) ≡ 2 ∷ 2 ∷ []
own-after_start = refl

-- of two lists of one length the first is the longer
longer-same : longer {A = ℕ} (1 ∷ []) (2 ∷ []) ≡ 1 ∷ []
longer-same = refl

longer-second : longer {A = ℕ} (1 ∷ []) (1 ∷ 2 ∷ []) ≡ 1 ∷ 2 ∷ []
longer-second = refl

shorter-second : shorter {A = ℕ} (1 ∷ []) (1 ∷ 2 ∷ []) ≡ 1 ∷ []
shorter-second = refl

-- number 0 saw one item and adds another one
mine-adding : (adding {E = ℕ} (first_known (7 ∷ [])) (7 ∷ 0 ∷ [])).mine ≡ 0 ∷ []
mine-adding = refl

-- the second split gives number 2
number-copied : (copied {E = ℕ} (splitting (first_known (7 ∷ [])))).number ≡ 2
number-copied = refl

-- number 1 adds an item that number 0 learns of as it joins it
joined-joined_with : (joined_with {E = ℕ} (splitting (first_known [])) (adding (copied (first_known [])) (1 ∷ []))).joined ≡ record { number = 1; items = 1 ∷ [] } ∷ []
joined-joined_with = refl
