-- How the bytes of a quoted text are read, one after another.
use Rattle.std.specs.Prelude.{ℕ, List, [], ◌∷◌, if◌then◌else◌, ◌==◌, Option, Some, None, option_map}
use Rattle.std.specs.Prelude.{Bool, true, false}
use Rattle.sporc_script.specs.declared.quoted.Step.{Step}
use Rattle.sporc_script.specs.declared.quoted.Step.TheVariants.{Refused, Backslash, Byte}

-- what a byte does, after a backslash or not
abbrev pub step_of : Bool → ℕ → Step
step_of false b =
    if b == 92 then Backslash
    else (if b == 34 then Refused else (if b == 10 then Refused else Byte b))
step_of true b =
    if b == 110 then Byte 10
    else (if b == 92 then Byte b else (if b == 34 then Byte b else Refused))

abbrev pub resume : Step → Option (List ℕ) → Option (List ℕ) → Option (List ℕ)
resume Refused escaped plain = None
resume Backslash escaped plain = escaped
resume (Byte b) escaped plain = option_map (λ t. b ∷ t) plain

-- the bytes that these are the escapes of, if there are such; the flag says that a backslash stands
-- before them
abbrev pub unescape : Bool → List ℕ → Option (List ℕ)
unescape false [] = Some []
unescape true [] = None
unescape escaped (b ∷ bs) = resume (step_of escaped b) (unescape true bs) (unescape false bs)
