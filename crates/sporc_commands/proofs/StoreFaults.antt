-- Why not all files of a document were written, case by case.
use Rattle.std.proofs.Common.{◌≡◌, ◌≤◌, List, [], ◌∷◌, Option, Result, Ok, Err, inr, subst, arith}
use Rattle.sporc_commands.proofs.Common.{NamedFile, Use, Named, IsFounding, in_order, Participant, Fault, FileNames, names_of_document, Stores, StoresFirst, StoresPrefix, AreNamed, FoundOutcome}
use Rattle.sporc_commands.proofs.Common.{IsStoreFault, founding_files, FolderTold, IfErr, Found}
use Rattle.sporc_outside.specs.Chances.{ChanceTold}
use Rattle.sporc_keys.specs.declared.founding.Founding.{Founding}
use Rattle.sporc_files.specs.declared.fault.Fault.TheVariants as faults
use Rattle.sporc_commands.proofs.Storing.{first_then, stored_then}

-- behind a file that was written
module _ (f : NamedFile) (new : List NamedFile) (low mid high : FolderTold) (stored : Stores (f ∷ []) low.files mid.files) (more : low.faults ≤ mid.faults) where
  behind : (fault : Fault) → IsStoreFault new (record { before = mid; after = high }) fault → IsStoreFault (f ∷ new) (record { before = low; after = high }) fault
  behind faults.Memory left = first_then (f ∷ []) new low.files mid.files high.files stored left
  behind faults.Outside (rose, left) = (omega (arith, rose, more), stored_then (f ∷ []) new low.files mid.files high.files stored left)
  behind fault never = absurd never

  pub behind_err : {T : Type 0} (r : Result T Fault) → IfErr r (IsStoreFault new (record { before = mid; after = high })) → IfErr r (IsStoreFault (f ∷ new) (record { before = low; after = high }))
  behind_err (Ok done) failed = tt
  behind_err (Err fault) failed = behind fault failed

-- of a folder that was used before, and had the same files
later : (new : List NamedFile) (whole : Use FolderTold) (mid : FolderTold) (fault : Fault) → mid.files ≡ whole.before.files → whole.before.faults ≤ mid.faults
    → IsStoreFault new (record { before = mid; after = whole.after }) fault → IsStoreFault new whole fault
later new whole mid faults.Memory same more left = subst (λ (o : Option (List NamedFile)). StoresFirst new o whole.after.files) same left
later new whole mid faults.Outside same more (rose, left) = (omega (arith, rose, more), subst (λ (o : Option (List NamedFile)). StoresPrefix new o whole.after.files) same left)
later new whole mid fault same more never = absurd never

-- what `found` did if not all files were written
module _ {T : Type 0} (r : Result T Fault) (asked : Found) (files : Use FolderTold) (chance : Use ChanceTold) (y fault : Fault) (is : r ≡ Err y) (same : y ≡ fault) where
  pub write_fails : (n : FileNames) (qs : List Participant) (between : FolderTold) (named : List Named) (founding : Founding) → n ≡ names_of_document asked.name → qs ≡ asked.participants
      → between.files ≡ files.before.files → files.before.faults ≤ between.faults → AreNamed files.before.files n qs named
      → IsFounding chance.before.given chance.after.given (in_order named) founding
      → IsStoreFault (founding_files n founding) (record { before = between; after = files.after }) fault → FoundOutcome asked files chance r
  write_fails n qs between named founding said those stand more read made cause =
      rw (is, same) (inr (inr (record {
        named = named;
        read = subst (λ (m : FileNames). AreNamed files.before.files m asked.participants named) said
            (subst (λ (ps : List Participant). AreNamed files.before.files n ps named) those read);
        founding = founding;
        made = made;
        cause = subst (λ (m : FileNames). IsStoreFault (founding_files m founding) files fault) said (later (founding_files n founding) files between fault stand more cause);
      })))
