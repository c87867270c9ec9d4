-- What examining the signatures of entries found.
use Rattle.std.specs.Prelude.{ℕ, List, Option, IfSome}
use Rattle.std.specs.List.{AllZip}
use Rattle.sporc_head.specs.declared.examined.Verdict.{Verdict}
use Rattle.sporc_head.specs.Examined.{IsExact}

-- one answer for each of these entries, in their order, each exact if it is a verdict
abbrev pub AreExact : List (Option Verdict) → List (List ℕ) → Type 0
AreExact found entries = AllZip (λ f e. IfSome f (λ verdict. IsExact verdict e)) found entries
