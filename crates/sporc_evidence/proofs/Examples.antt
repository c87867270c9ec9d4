-- Worked examples of the definitions.
use Rattle.std.proofs.Common.{◌≡◌, ℕ, List, [], ◌∷◌, refl}
use Rattle.sporc_hash.specs.declared.verdict.Verdict.TheVariants.{Longer, Prefix, Same}
use Rattle.sporc_evidence.specs.declared.judging.Judged.TheVariants.{Consistent, Forked}
use Rattle.sporc_evidence.specs.Judging.{first_difference, judged}
use Rattle.sporc_evidence.specs.Summary.{SummaryModel}
use Rattle.sporc_evidence.specs.SummaryBytes.{summary_bytes}

-- two lists that part after one entry
abbrev ours : List (List ℕ)
ours = (0 ∷ []) ∷ (1 ∷ []) ∷ (2 ∷ []) ∷ []

abbrev theirs : List (List ℕ)
theirs = (0 ∷ []) ∷ (1 ∷ []) ∷ (3 ∷ []) ∷ []

parted : judged ours theirs ≡ Forked 1 (2 ∷ []) (3 ∷ [])
unfolding first_difference
parted = refl

-- two that part at once and meet again: their last values are one, and they are forked
meet_again : judged ((0 ∷ []) ∷ (1 ∷ []) ∷ (9 ∷ []) ∷ []) ((0 ∷ []) ∷ (2 ∷ []) ∷ (9 ∷ []) ∷ []) ≡ Forked 0 (1 ∷ []) (2 ∷ [])
unfolding first_difference
meet_again = refl

-- one of a history that goes on from the other's, and one beside itself
goes_on : judged ((0 ∷ []) ∷ []) ours ≡ Consistent Prefix
unfolding first_difference
goes_on = refl

longer : judged ours ((0 ∷ []) ∷ []) ≡ Consistent Longer
unfolding first_difference
longer = refl

itself : judged ours ours ≡ Consistent Same
unfolding first_difference
itself = refl

-- an empty history's summary by device 0 of member 258: "SPE1" first, and its one value last
abbrev empty : SummaryModel
empty = record {
  document = 7 ∷ [];
  author = 258;
  device = 0;
  hashes = (8 ∷ 9 ∷ []) ∷ [];
}

spelled : summary_bytes empty ≡ 83 ∷ 80 ∷ 69 ∷ 49 ∷ 7 ∷ 1 ∷ 2 ∷ 0 ∷ 0 ∷ 0 ∷ 0 ∷ 0 ∷ 8 ∷ 9 ∷ []
unfolding summary_bytes
spelled = refl
