-- How a command writes its line, or all its lines.
use Rattle.std.proofs.Common.{◌≡◌, ◌∙◌, ℕ, List, Result, Ok, Err, inl, inr, ap, subst}
use Rattle.sporc_commands.proofs.Common.{◌>>=◌, Rose, Use, Fault, AnswersUnlessOutside, FileNames, LineModel, Device, AreCheckedFiles, CheckedFiles, CheckedLine, FindsLine, checked_files}
use Rattle.sporc_commands.proofs.Common.{checked_line, line_in, Examines, fails_first, tells_alone, tells_behind, FolderTold, IsUnwritten, StreamTold}
use Rattle.sporc_files.specs.declared.fault.Fault.TheVariants as faults
use Rattle.sporc_files.specs.Uses.{OnlyReads}
use Rattle.sporc_commands.specs.Lines.{Prints, WritesLine}

module _ {Y : Type 0} (Says : Y → List ℕ → Type 0) (folder : Use FolderTold) (out : Use StreamTold) (found : Result Y Fault) where
  -- nothing was found
  pub not_found : {X : Type 0} (view : X → Y) (fault : Fault) (r : Result (Unit {0}) Fault) → r ≡ Err fault → AnswersUnlessOutside view (Rose folder.before.faults folder.after.faults) (Err fault) found → IsUnwritten out
      → WritesLine Says folder out found r
  not_found view fault r is told none = rw is (by fault told)
    where
      by : (fault : Fault) → AnswersUnlessOutside view (Rose folder.before.faults folder.after.faults) (Err fault) found → WritesLine Says folder out found {T = Unit {0}} (Err fault)
      by faults.Memory told = none
      by faults.Outside told = inl (told, none)
      by fault told = (told, none)

  -- memory ran out before the line was written
  pub no_memory : (r : Result (Unit {0}) Fault) → r ≡ Err faults.Memory → IsUnwritten out → WritesLine Says folder out found r
  no_memory r is none = rw is none

  -- the line was printed
  pub line_printed : (y : Y) (line : List ℕ) (r : Result (Unit {0}) Fault) → found ≡ Ok y → Says y line → Prints out line r → WritesLine Says folder out found r
  line_printed y line (Ok done) is says written = record { value = y; line = line; found_is = is; says = says; written = written }
  line_printed y line (Err fault) is says (outside, rose, written) = rw outside (inr (rose, record { value = y; line = line; found_is = is; says = says; written = written }))

-- ---- what is made of a history that was examined

pub is_made : {Y : Type 0} (found : Result CheckedLine Fault) (made : CheckedLine → Result Y Fault) (line : LineModel) → found ≡ Ok (checked_line line) → (y : Y) → made (checked_line line) ≡ Ok y
    → (found >>= made) ≡ Ok y
is_made found made line is y made_is = ap (λ (r : Result CheckedLine Fault). r >>= made) is ∙ made_is

module _ {Y : Type 0} (Says : Y → List ℕ → Type 0) (folder : Use FolderTold) (out : Use StreamTold) (found : Result CheckedLine Fault) (made : CheckedLine → Result Y Fault) where
  -- it was not found
  pub no_line : (fault : Fault) (r : Result (Unit {0}) Fault) → r ≡ Err fault → AnswersUnlessOutside checked_line (Rose folder.before.faults folder.after.faults) (Err fault) found → IsUnwritten out
      → WritesLine Says folder out (found >>= made) r
  no_line fault r is told none =
      not_found Says folder out (found >>= made) (λ (y : Y). y) fault r is
      (fails_first checked_line (λ (y : Y). y) (Rose folder.before.faults folder.after.faults) fault found made told) none

  module _ (line : LineModel) (is : found ≡ Ok (checked_line line)) where
    -- nothing was made of it
    pub not_made : {X : Type 0} (view : X → Y) (fault : Fault) (r : Result (Unit {0}) Fault) → r ≡ Err fault → AnswersUnlessOutside view ⊥ (Err fault) (made (checked_line line)) → IsUnwritten out
        → WritesLine Says folder out (found >>= made) r
    not_made view fault r r_is told none =
        let Failed = Rose folder.before.faults folder.after.faults in
        not_found Says folder out (found >>= made) view fault r r_is
        (tells_behind view Failed (Err fault) found (checked_line line) made is (tells_alone view Failed (Err fault) (made (checked_line line)) told)) none

-- ---- a command that examines a history by the names that its words give

module _ {Y : Type 0} (Says : Y → List ℕ → Type 0) (made : CheckedLine → Result Y Fault) (names given : FileNames) (same : given ≡ names) (device : Device)
    (folder : Use FolderTold) (out : Use StreamTold) where
  abbrev pub Found : Result LineModel Fault → Type 0
  Found result = FindsLine folder given device result

  abbrev pub Does : Result (Unit {0}) Fault → Type 0
  Does r = Examines Says (λ content. line_in device content >>= made) names device folder out r

  does : (content : CheckedFiles) (r : Result (Unit {0}) Fault) → AreCheckedFiles folder.before.files given device content → OnlyReads given (checked_files device) folder
      → WritesLine Says folder out (line_in device content >>= made) r → Does r
  does content r are reads writes = subst (λ (n : FileNames). Examines Says (λ content. line_in device content >>= made) n device folder out r) same
      (record { content = content; are = are; reads = reads; writes = writes })

  -- the history was not found, or not accepted
  pub none_examined : (fault : Fault) (r : Result (Unit {0}) Fault) → r ≡ Err fault → Found (Err fault) → OnlyReads given (checked_files device) folder → IsUnwritten out → Does r
  none_examined fault r is (content, are, tells) reads none = does content r are reads (no_line Says folder out (line_in device content) made fault r is tells none)

  module _ (line : LineModel) (found : Found (Ok line)) (reads : OnlyReads given (checked_files device) folder) where
    -- memory ran out behind that
    pub examined_in_vain : (r : Result (Unit {0}) Fault) → r ≡ Err faults.Memory → IsUnwritten out → Does r
    examined_in_vain r is none = does found.0 r found.1 reads (no_memory Says folder out (line_in device found.0 >>= made) r is none)

    -- nothing was made of it
    pub examined_for_none : {X : Type 0} (view : X → Y) (fault : Fault) (r : Result (Unit {0}) Fault) → r ≡ Err fault → AnswersUnlessOutside view ⊥ (Err fault) (made (checked_line line))
        → IsUnwritten out → Does r
    examined_for_none view fault r is told none = does found.0 r found.1 reads (not_made Says folder out (line_in device found.0) made line found.2 view fault r is told none)

    -- what was made of it was printed
    pub examined_to_print : (y : Y) (bytes : List ℕ) (r : Result (Unit {0}) Fault) → made (checked_line line) ≡ Ok y → Says y bytes → Prints out bytes r → Does r
    examined_to_print y bytes r is says prints = does found.0 r found.1 reads
        (line_printed Says folder out (line_in device found.0 >>= made) y bytes r (is_made (line_in device found.0) made line found.2 y is) says prints)
