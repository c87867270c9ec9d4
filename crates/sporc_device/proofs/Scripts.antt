-- Editor scripts, one after another.
use Rattle.std.proofs.Common.{ℕ, ◌+◌, List, [], ◌∷◌, ◌++◌, length, Option, subst, arith}
use Rattle.sporc_device.proofs.Common.{NamedFile, EditorLine, Script, FileNames, file_name, SayScripts, SaysScript}

-- the next one was read
pub scripts_more : (files : Option (List NamedFile)) (names : FileNames) (editor : ℕ) (scripts : List (List EditorLine)) (script : List EditorLine)
    → SayScripts files names editor scripts → SaysScript files (file_name names (Script (editor + length scripts))) script
    → SayScripts files names editor (scripts ++ script ∷ [])
scripts_more files names editor [] script say says = (subst (λ (n : ℕ). SaysScript files (file_name names (Script n)) script) (omega arith) says, tt)
scripts_more files names editor (s ∷ ss) script say says =
    (say.0, scripts_more files names (editor + 1) ss script say.1 (subst (λ (n : ℕ). SaysScript files (file_name names (Script n)) script) (omega arith) says))
