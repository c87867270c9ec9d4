-- Lists of checks.
use Rattle.std.proofs.Common.{◌≡◌, Bool, true, false, List, ◌∷◌, Option, None, refl}
use Rattle.sporc_base.specs.FirstFault.{unless, first_of}

-- where no check fails, the first one holds, and none of the others fails
pub passes : {F : Type 0} (b : Bool) (fault : F) (rest : List (Option F)) → first_of (unless b fault ∷ rest) ≡ None → (b ≡ true) × (first_of rest ≡ None)
passes true fault rest h = (refl, h)
passes false fault rest h = absurd cc

-- a check that holds leaves the rest
pub holds : {F : Type 0} (b : Bool) (fault : F) (rest : List (Option F)) → b ≡ true → first_of rest ≡ None → first_of (unless b fault ∷ rest) ≡ None
holds true fault rest e h = h
holds false fault rest e h = absurd cc
