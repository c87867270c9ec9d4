-- Words of 32 bytes, drawn from a chance.
use Rattle.std.specs.Prelude.{◌≡◌, ◌≤◌, ℕ, List, length, Option}
use Rattle.std.specs.List.{AllByRecursion}
use Rattle.sporc_outside.specs.Told.{AppendsItems}

-- these words of 32 bytes are drawn, in their order
pub record DrawsWords (before after : Option (List (List ℕ))) (words : List (List ℕ)) : Type 0 where
  pub sized : AllByRecursion (λ word. length word ≡ 32) words
  pub told : AppendsItems before after words

-- at most so many words are drawn, as `DrawsWords` says
abbrev pub DrawsWordsUpTo : ℕ → Option (List (List ℕ)) → Option (List (List ℕ)) → Type 0
DrawsWordsUpTo most before after =
    (words : List (List ℕ)) × (length words ≤ most) × DrawsWords before after words
