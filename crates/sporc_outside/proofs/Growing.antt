-- Words that are told and counts of faults, as they grow.
use Rattle.std.proofs.Common.{ℕ, ◌≤◌, List, [], ◌∷◌, ◌++◌, Option, Some, None, sym, ap, ◌∙◌, append_assoc, append-nil, arith}
use Rattle.sporc_outside.specs.Counts.{Rose}
use Rattle.sporc_outside.specs.Told.{AppendsItem, AppendsItems}

pub words_none : (u : Option (List (List ℕ))) → AppendsItems u u []
words_none None = tt
words_none (Some xs) = sym (append-nil xs)

pub words_then : (u v w : Option (List (List ℕ))) (a b : List (List ℕ)) → AppendsItems u v a → AppendsItems v w b → AppendsItems u w (a ++ b)
words_then None v w a b x y = tt
words_then (Some xs) None w a b x y = absurd x
words_then (Some xs) (Some ys) None a b x y = y
words_then (Some xs) (Some ys) (Some zs) a b x y = y ∙ ap (λ (t : List (List ℕ)). t ++ b) x ∙ append_assoc xs a b

pub word_drawn : (u v : Option (List (List ℕ))) (first : List ℕ) → AppendsItem u v first → AppendsItems u v (first ∷ [])
word_drawn None v first one = tt
word_drawn (Some given) None first one = one
word_drawn (Some given) (Some more) first one = one

pub rose_then : (n m k : ℕ) → n ≤ m → Rose m k → Rose n k
rose_then n m k low rose = omega (arith, low, rose)
