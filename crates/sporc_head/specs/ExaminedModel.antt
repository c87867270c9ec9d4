-- What contracts see of an entry that was examined.
use Rattle.std.specs.Prelude.{ℕ, List, Bool}
use Rattle.sporc_head.specs.declared.examined.Examined.TheInside.{Inside}
use Rattle.sporc_head.specs.Examined.{IsExact}

-- the bytes of a key and of an entry, and whether the entry's signature verifies under the key
pub record ExaminedModel : Type 0 where
  pub key : List ℕ
  pub entry : List ℕ
  pub verdict : Bool

abbrev pub model_of : Inside → ExaminedModel
model_of a = record { key = a.verdict.key; entry = a.entry.items; verdict = a.verdict.good }

-- the verdict is exact
abbrev pub invariant_of : Inside → Type 0
invariant_of a = IsExact a.verdict a.entry.items
