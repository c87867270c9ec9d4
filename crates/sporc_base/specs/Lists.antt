-- How a list begins.
use Rattle.std.specs.Prelude.{◌≡◌, List, ◌++◌}

-- the new list begins with the old one
abbrev pub StartsWith : {A : Type 0} → List A → List A → Type 0
StartsWith {A} new old = (rest : List A) × (new ≡ old ++ rest)
