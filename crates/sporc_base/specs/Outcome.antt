-- What a call answers, against a definition that gives a value or a fault.
use Rattle.std.specs.Prelude.{◌≡◌, ◌≢◌, Result, Ok, Err}

-- a call answered what the definition gives: a value, seen by view, or its fault
abbrev pub Gives : {X Y F : Type 0} → (X → Y) → Result X F → Result Y F → Type 0
Gives view (Ok x) answer = answer ≡ Ok (view x)
Gives view (Err fault) answer = answer ≡ Err fault

-- a call answered what the definition gives, or that memory ran out
abbrev pub GivesUnless : {X Y F : Type 0} → F → (X → Y) → Result X F → Result Y F → Type 0
GivesUnless memory view (Ok x) answer = answer ≡ Ok (view x)
GivesUnless memory view (Err fault) answer = fault ≢ memory → answer ≡ Err fault
