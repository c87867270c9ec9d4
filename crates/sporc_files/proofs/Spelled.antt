-- What the bytes of a file that was read spell.
use Rattle.std.proofs.Common.{◌≡◌, ◌∙◌, ℕ, List, Option, Result, Ok, Err, refl, sym, subst}
use Rattle.sporc_files.proofs.Common.{HasFile, NamedFile, Use, FolderTold, Fault, File, FileNames, file_name, IsFileFault, IfErr, AnswersUnlessOutside, any_bytes}
use Rattle.std.specs.Prelude.{IfOk, length, ◌≤◌}
use Rattle.sporc_bytes.specs.Fields.{fault_as}
use Rattle.sporc_outside.specs.declared.file_fault.TheConstants.{MAX_FILE}
use Rattle.sporc_files.specs.Reading.{SaysFile}
use Rattle.sporc_files.specs.declared.fault.Fault.TheVariants as faults

was_value : {A : Type 0} (file : File) (r : Result A ℕ) (a : A) → fault_as (faults.Malformed file) r ≡ Ok a → r ≡ Ok a
was_value file (Ok b) a is = cc
was_value file (Err at) a is = absurd cc

same_bytes : (b items : List ℕ) → any_bytes b ≡ Ok items → b ≡ items
same_bytes b items is = cc

module _ {A : Type 0} (parse : List ℕ → Result A ℕ) (file : File) where
  -- what was read of it, as an answer without the folder
  abbrev pub Spells : Result A Fault → List ℕ → Type 0
  Spells r bytes = AnswersUnlessOutside (λ (a : A). a) ⊥ r (fault_as (faults.Malformed file) (parse bytes))

  -- a value
  pub spelled : (told : Option (List NamedFile)) (name given items : List ℕ) → SaysFile any_bytes told name items → given ≡ items → (r : Result A Fault) → Spells r given → IfOk r (SaysFile parse told name)
  spelled told name given items (b, short, has, is) same (Ok a) answers =
      (b, short, has, was_value file (parse b) a (subst (λ (x : List ℕ). fault_as (faults.Malformed file) (parse x) ≡ Ok a) (same ∙ sym (same_bytes b items is)) answers))
  spelled told name given items says same (Err fault) answers = tt

  module _ (folder : Use FolderTold) (names : FileNames) where
    malformed : (b : List ℕ) → length b ≤ MAX_FILE → HasFile folder.before.files (file_name names file) b → (r : Result A ℕ) → parse b ≡ r → (fault : Fault) → fault_as (faults.Malformed file) r ≡ Err fault
        → IsFileFault parse folder names file fault
    malformed b short has (Ok a) e fault is = absurd cc
    malformed b short has (Err at) e fault is =
        let same : faults.Malformed file at ≡ fault = cc in
        subst (λ (f : Fault). IsFileFault parse folder names file f) same (refl, b, short, has, e)

    -- or why there is none
    pub misspelled : (given items : List ℕ) → SaysFile any_bytes folder.before.files (file_name names file) items → given ≡ items → (r : Result A Fault) → Spells r given
        → IfErr r (IsFileFault parse folder names file)
    misspelled given items says same (Ok a) answers = tt
    misspelled given items says same (Err faults.Memory) answers = tt
    misspelled given items says same (Err faults.Outside) answers = absurd answers
    misspelled given items (b, short, has, is) same (Err fault) answers =
        malformed b short has (parse b) refl fault (subst (λ (x : List ℕ). fault_as (faults.Malformed file) (parse x) ≡ Err fault) (same ∙ sym (same_bytes b items is)) answers)
