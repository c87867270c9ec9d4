-- What a run did, by what came of its parts.
use Rattle.std.proofs.Common.{◌≡◌, ◌≤◌, ℕ, List, Some, None, Err, refl, sym, ap, ◌∙◌, subst}
use Rattle.sporc_top.proofs.Common.{StreamTold, DiskTold, Command, command_of, Fault, WritesFaultLine, fault_of_words, status_of, FileNames, RunOutcome, command, no_command, stopped, unread, Performs}
use Rattle.sporc_top.proofs.Common.{names_of, no_files, IsUnused, OutsideUse, from, until}
use Rattle.sporc_words.specs.declared.fault.WordsFault.{WordsFault}
use Rattle.sporc_words.specs.declared.fault.WordsFault.TheVariants as reading

module _ {D : Type 0} (disks : D → DiskTold) (words : List (List ℕ)) (outside : OutsideUse) where
  -- the words were not read
  unread_words : (cause : WordsFault) (fault : Fault) (status : ℕ) → IsUnused outside → (cause ≡ reading.Words → command_of words ≡ None) → fault ≡ fault_of_words cause
      → WritesFaultLine outside.out no_files fault → status ≡ status_of fault → RunOutcome disks words outside status
  unread_words reading.Memory fault status unused none is line same =
      subst (RunOutcome disks words outside) (sym (same ∙ ap status_of is)) (unread unused (subst (WritesFaultLine outside.out no_files) is line))
  unread_words reading.Words fault status unused none is line same =
      subst (RunOutcome disks words outside) (sym (same ∙ ap status_of is)) (no_command (none refl) unused (subst (WritesFaultLine outside.out no_files) is line))

  pub by_words : (cause : WordsFault) (fault : Fault) (names : FileNames) (status : ℕ) → IsUnused outside → (cause ≡ reading.Words → command_of words ≡ None) → fault ≡ fault_of_words cause
      → names ≡ no_files → WritesFaultLine outside.out names fault → status ≡ status_of fault → RunOutcome disks words outside status
  by_words cause fault names status unused none is same line status_is =
      unread_words cause fault status unused none is (subst (λ (n : FileNames). WritesFaultLine outside.out n fault) same line) status_is

  -- a fault stopped the command, and its line was written
  pub by_fault : (asked : Command) (fault : Fault) (between : StreamTold) (names : FileNames) (status : ℕ) → command_of words ≡ Some asked
      → Performs disks asked (record outside { out = until between outside.out }) (Err fault) → names ≡ names_of asked
      → outside.out.before.faults ≤ between.faults → WritesFaultLine (from between outside.out) names fault → between.faults ≤ outside.out.after.faults → status ≡ status_of fault
      → RunOutcome disks words outside status
  by_fault asked fault between names status is did same since line till status_is =
      subst (RunOutcome disks words outside) (sym status_is)
      (command is (stopped did since (subst (λ (n : FileNames). WritesFaultLine (from between outside.out) n fault) same line) till))
