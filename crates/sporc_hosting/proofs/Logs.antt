-- The log that a server begins with.
use Rattle.std.proofs.Common.{◌≡◌, ℕ, List, [], Option, None, Some, Result, Ok, Err, refl, sym, ap, ◌∙◌, subst, arith}
use Rattle.sporc_hosting.proofs.Common.{◌>>=◌, Rose, HasNoFile, Use, Genesis, OrderModel, Fault, File, FileNames, file_name, IsFileFault, SaysFile, any_bytes, AnswersUnlessOutside}
use Rattle.sporc_hosting.proofs.Common.{AnswersOfFile, IsFileAt, logged, logged_in, order_with, tells_alone}
use Rattle.sporc_outside.specs.Folders.{FolderTold}
use Rattle.sporc_files.specs.declared.fault.Fault.TheVariants as faults
use Rattle.sporc_files.specs.declared.file.File.TheVariants as files
use Rattle.sporc_files.proofs.ReadFiles.{has_at, is_there, none_at, said_long, said_short, there}

module _ (folder : Use FolderTold) (names : FileNames) (g : Genesis) where
  -- what is found of the log behind a genesis
  abbrev pub FindsLog : Result OrderModel Fault → Type 0
  FindsLog r = AnswersOfFile (λ (order : OrderModel). order) folder (file_name names files.Log) r (logged g)

  -- the log failed
  pub log_fails : (fault : Fault) (r : Result OrderModel Fault) → r ≡ Err fault
      → ((other : File) → fault ≡ faults.Missing other → ⊥) → IsFileFault any_bytes folder names files.Log fault → FindsLog r
  log_fails fault r is there_is why =
      let (log, at, tells) = by fault there_is why in
      (log, at, subst (λ (o : Result OrderModel Fault). AnswersUnlessOutside (λ (order : OrderModel). order) (Rose folder.before.faults folder.after.faults) o (logged g log)) (sym is) tells)
    where
      by : (fault : Fault) → ((other : File) → fault ≡ faults.Missing other → ⊥) → IsFileFault any_bytes folder names files.Log fault
          → (log : Option (List ℕ)) × IsFileAt folder.before.files (file_name names files.Log) log × AnswersUnlessOutside (λ (order : OrderModel). order) (Rose folder.before.faults folder.after.faults) (Err fault) (logged g log)
      by faults.Memory never why = (there folder.before.files (file_name names files.Log), is_there folder.before.files (file_name names files.Log), tt)
      by faults.Outside never why = (there folder.before.files (file_name names files.Log), is_there folder.before.files (file_name names files.Log), why)
      by (faults.Missing other) never why = absurd (never other refl)
      by (faults.TooLong other) never (same, len, (above, bytes, len_is, has)) = (
        Some bytes,
        has_at folder.before.files (file_name names files.Log) bytes has,
        ap (λ x. x >>= logged_in g) (said_long any_bytes files.Log bytes (omega (arith, above, len_is)) ∙ ap (λ (f : File). Err (faults.TooLong f)) (sym same)),
      )
      by (faults.Malformed other at) never (same, bytes, short, has, is) = absurd cc
      by fault never why = absurd why

  -- there is no log
  pub no_log : (r : Result OrderModel Fault) → HasNoFile folder.before.files (file_name names files.Log)
      → AnswersUnlessOutside (λ (order : OrderModel). order) (Rose folder.before.faults folder.after.faults) r (Ok (order_with g [])) → FindsLog r
  no_log r none tells = (None, none_at folder.before.files (file_name names files.Log) none, tells)

  -- the log is read
  pub log_read : (bytes : List ℕ) (r : Result OrderModel Fault)
      → SaysFile any_bytes folder.before.files (file_name names files.Log) bytes → AnswersUnlessOutside (λ (order : OrderModel). order) ⊥ r (logged_in g bytes) → FindsLog r
  log_read bytes r (held, short, has, is) tells =
      let held_is : held ≡ bytes = cc in
      let said_held = said_short any_bytes files.Log held (Ok held) short refl in (
        Some held,
        has_at folder.before.files (file_name names files.Log) held has,
        rw (said_held, held_is) (tells_alone (λ (order : OrderModel). order) (Rose folder.before.faults folder.after.faults) r (logged_in g bytes) tells),
      )

-- an order of these
pub order_is : (order : OrderModel) (g : Genesis) → order.genesis ≡ g → order.entries ≡ [] → order ≡ order_with g []
order_is order g genesis entries = ap (λ (h : Genesis). order_with h order.entries) genesis ∙ ap (λ (es : List (List ℕ)). order_with g es) entries
