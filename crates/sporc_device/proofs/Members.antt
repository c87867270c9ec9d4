-- Files of a member, one after another.
use Rattle.std.proofs.Common.{◌≡◌, ℕ, ◌+◌, ◌≤◌, List, [], ◌∷◌, ◌++◌, length, Option, refl, sym, ap, ◌∙◌, subst, arith}
use Rattle.sporc_device.proofs.Common.{length-append, NamedFile, Use, FolderTold, EditorLine, Fault, Script, FileNames, file_name, IsPart, file_within}
use Rattle.sporc_device.proofs.Common.{SayScripts, SaysScript, HasFile}
use Rattle.sporc_outside.specs.declared.file_fault.TheConstants.{MAX_FILE}
use Rattle.sporc_script.specs.Grammar.{IsEditorFault}
use Rattle.sporc_files.specs.declared.fault.Fault.TheVariants as faults
use Rattle.sporc_files.specs.Reading.{SaysFile, any_bytes}
use Rattle.sporc_device.specs.MemberFiles.{IsFirstScriptFault, IsScriptFault, no_script, out_of_memory, unread}
use Rattle.sporc_device.proofs.Scripts.{scripts_more}

-- ---- scripts

-- in a part of a use of the folder
script_within : (whole part : Use FolderTold) (names : FileNames) (editor : ℕ) (fault : Fault) → IsScriptFault part names editor fault → IsPart whole part → IsScriptFault whole names editor fault
script_within whole part names editor fault (unread why) is_part = unread (file_within any_bytes whole part names (Script editor) fault why is_part)
script_within whole part names editor fault (no_script text line within has bad is) is_part =
    no_script text line within (subst (λ (o : Option (List NamedFile)). HasFile o (file_name names (Script editor)) text) is_part.same has) bad is
script_within whole part names editor fault (out_of_memory is) is_part = out_of_memory is

pub scripts_within : (whole part : Use FolderTold) (names : FileNames) (fault : Fault) → IsFirstScriptFault part names fault → IsPart whole part → IsFirstScriptFault whole names fault
scripts_within whole part names fault why is_part = record {
  read = why.read;
  each = subst (λ (o : Option (List NamedFile)). SayScripts o names 1 why.read) is_part.same why.each;
  fault_is = script_within whole part names (length why.read + 1) fault why.fault_is is_part;
}

-- a script has a line outside the grammar
pub bad_line : (folder : Use FolderTold) (names : FileNames) (editor : ℕ) (text shown : List ℕ) (line : ℕ) → shown ≡ text → SaysFile any_bytes folder.before.files (file_name names (Script editor)) text
    → IsEditorFault shown line → IsScriptFault folder names editor (faults.EditorLine editor line)
bad_line folder names editor text shown line show (bytes, within, has, is) bad =
    let same : bytes ≡ shown = cc in
    no_script shown line (subst (λ (b : List ℕ). length b ≤ MAX_FILE) same within)
    (subst (λ (b : List ℕ). HasFile folder.before.files (file_name names (Script editor)) b) same has) bad refl

-- memory ran out, whatever was read before
pub no_memory : (folder : Use FolderTold) (names : FileNames) → IsFirstScriptFault folder names faults.Memory
no_memory folder names = record { read = []; each = tt; fault_is = out_of_memory refl }

-- behind these, the next was not read
pub first_script : (whole part : Use FolderTold) (names : FileNames) (scripts : List (List EditorLine)) (count : ℕ) (fault : Fault) → length scripts ≡ count
    → SayScripts whole.before.files names 1 scripts → IsScriptFault part names (count + 1) fault → IsPart whole part → IsFirstScriptFault whole names fault
first_script whole part names scripts count fault all say why is_part = record {
  read = scripts;
  each = say;
  fault_is = script_within whole part names (length scripts + 1) fault (subst (λ (n : ℕ). IsScriptFault part names (n + 1) fault) (sym all) why) is_part;
}

-- behind these, the next was read
pub next_script : (told now : Option (List NamedFile)) (names : FileNames) (scripts scripts' : List (List EditorLine)) (count : ℕ) (script : List EditorLine)
    → now ≡ told → length scripts ≡ count → scripts' ≡ scripts ++ script ∷ [] → SayScripts told names 1 scripts → SaysScript now (file_name names (Script (count + 1))) script
    → SayScripts told names 1 scripts'
next_script told now names scripts scripts' count script same all is say says =
    subst (λ (ss : List (List EditorLine)). SayScripts told names 1 ss) (sym is)
    (scripts_more told names 1 scripts script say
    (subst (λ (n : ℕ). SaysScript told (file_name names (Script n)) script) (omega (arith, all))
    (subst (λ (o : Option (List NamedFile)). SaysScript o (file_name names (Script (count + 1))) script) same says)))

-- it is one more
pub one_longer : (scripts scripts' : List (List EditorLine)) (count : ℕ) (script : List EditorLine) → length scripts ≡ count → scripts' ≡ scripts ++ script ∷ []
    → length scripts' ≡ count + 1
one_longer scripts scripts' count script all is = ap length is ∙ length-append scripts (script ∷ []) ∙ ap (λ n. n + 1) all
