-- What two summaries say together: how one history stands to the other, or where a server, or one
-- of the two who signed, forked it.
use Rattle.std.specs.Prelude.{◌≡◌, ◌≢◌, ℕ, ◌+◌, ◌-◌, ◌<◌, nat_lt, List, [], ◌∷◌, length}
use Rattle.std.specs.Prelude.{slice_get, Option, None, Some, option_map, if◌then◌else◌}
use Rattle.std.specs.Str.{bytes_eq}
use Rattle.sporc_hash.specs.declared.verdict.Verdict.{Verdict}
use Rattle.sporc_hash.specs.declared.verdict.Verdict.TheVariants.{Same, Prefix, Longer}
use Rattle.sporc_evidence.specs.declared.judging.Difference.{Difference}
use Rattle.sporc_evidence.specs.declared.judging.Judged.{Judged}
use Rattle.sporc_evidence.specs.declared.judging.Judged.TheVariants.{Consistent, Forked}

-- a difference that stands one place further
abbrev pub further : Difference → Difference
further d = record d { at = d.at + 1 }

-- the first place that is within both lists of values and at which they differ
unfoldable pub first_difference : List (List ℕ) → List (List ℕ) → Option Difference
first_difference [] b = None
first_difference (x ∷ xs) [] = None
first_difference (x ∷ xs) (y ∷ ys) =
    if bytes_eq x y then option_map further (first_difference xs ys)
    else Some (record { at = 0; left = x; right = y })

-- the same, as a fact of a place
pub record IsFirstDifference (a b : List (List ℕ)) (d : Difference) : Type 0 where
  pub before : (i : ℕ) → i < d.at → slice_get a i ≡ slice_get b i
  pub in_a : slice_get a d.at ≡ Some d.left
  pub in_b : slice_get b d.at ≡ Some d.right
  pub differ : d.left ≢ d.right

-- how lists of so many values stand to each other that differ nowhere
abbrev pub by_length : ℕ → ℕ → Verdict
by_length m n = if nat_lt m n then Prefix else if nat_lt n m then Longer else Same

-- the judgment on two lists that begin with one value, by where they first differ: it names how
-- many entries both histories have in common, and the values after one entry more
abbrev pub judged_by : List (List ℕ) → List (List ℕ) → Option Difference → Judged
judged_by a b None = Consistent (by_length (length a) (length b))
judged_by a b (Some d) = Forked (d.at - 1) d.left d.right

abbrev pub judged : List (List ℕ) → List (List ℕ) → Judged
judged a b = judged_by a b (first_difference a b)
