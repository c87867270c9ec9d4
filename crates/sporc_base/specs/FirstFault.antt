-- The first fault of a list of checks.
use Rattle.std.specs.Prelude.{◌≡◌, ◌≢◌, Bool, true, false, List, [], ◌∷◌, Option, None, Some}
use Rattle.std.specs.Prelude.{Result, Ok, Err}

-- the fault, if a test fails
abbrev pub unless : {F : Type 0} → Bool → F → Option F
unless true fault = None
unless false fault = Some fault

-- the first fault of a list of checks
abbrev pub first_of : {F : Type 0} → List (Option F) → Option F
first_of [] = None
first_of (Some fault ∷ rest) = Some fault
first_of (None ∷ rest) = first_of rest

-- a call answered by this first fault, or that there is none
abbrev pub Answers : {X F : Type 0} → Result X F → Option F → Type 0
Answers (Ok x) fault = fault ≡ None
Answers (Err e) fault = fault ≡ Some e

-- a call answered by this first fault, or that there is none, or that memory ran out
abbrev pub AnswersUnless : {X F : Type 0} → F → Result X F → Option F → Type 0
AnswersUnless memory (Ok x) fault = fault ≡ None
AnswersUnless memory (Err e) fault = e ≢ memory → fault ≡ Some e
