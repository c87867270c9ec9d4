-- What `serve-all` did with the folder, the sink and the net.
use Rattle.std.specs.Prelude.{◌≡◌, ◌⊎◌, ◌≤◌, ℕ, ◌+◌, List, [], ◌∷◌, length, Result, Ok, Err}
use Rattle.sporc_bytes.specs.Fields.{fault_as}
use Rattle.sporc_outside.specs.Counts.{Rose}
use Rattle.sporc_outside.specs.Uses.{Use}
use Rattle.sporc_outside.specs.Streams.{IsUnwritten, StreamTold}
use Rattle.sporc_outside.specs.Folders.{FolderTold}
use Rattle.sporc_outside.specs.Nets.{NetTold}
use Rattle.sporc_order.specs.OrderModel.{OrderModel}
use Rattle.sporc_outside.specs.AppendFile.{AppendTold}
use Rattle.std.specs.List.{AllZip}
use Rattle.sporc_docs.specs.Served.{AreKept, AreServed}
use Rattle.sporc_files.specs.declared.fault.Fault.{Fault}
use Rattle.sporc_files.specs.declared.file.File.TheVariants as files
use Rattle.sporc_files.specs.Names.{file_name, names_of_document}
use Rattle.sporc_files.specs.Faults.{AnswersUnlessOutside, fault_among, first_fault}
use Rattle.sporc_hosting.specs.Moments.{ChangesFolderAlone, Moment, at_end}
use Rattle.sporc_hosting.specs.Rounds.{GoRounds, IsRoundOf, Round, Standing}
use Rattle.sporc_hosting.specs.Serving.{HasLogged, ServedFiles}
use Rattle.sporc_hosting.specs.Tails.{GivesBack, KeepsBehind, LogTailModel, after_last}
use Rattle.sporc_hosting.specs.Loading.{AreFilesOfAll, ChangesTails, orders_in}
use Rattle.sporc_hosting.specs.OpenLogModel.{OpenLogModel}
use Rattle.sporc_hosting.specs.Loading.{with_tails_made}
use Rattle.sporc_hosting.specs.Saving.{KeepsLogs}

-- ---- the tails

-- The tail of each log was given back, the last one first, as `serve` gives one back; the first log
-- is that of the document of this number. Of their faults the first is answered, as that of its
-- document, but out of memory goes before others
abbrev pub GivesAllBack : ℕ → List OpenLogModel → List OrderModel → Result (Unit {0}) Fault
    → FolderTold → FolderTold → Result (Unit {0}) Fault → Type 0
GivesAllBack number [] [] saved a b given = (b ≡ a) × (given ≡ Ok tt)
GivesAllBack number (log ∷ logs) (order ∷ orders) saved a b given =
    (mid : FolderTold) × (others : Result (Unit {0}) Fault) × (one : Result (Unit {0}) Fault)
    × GivesAllBack (number + 1) logs orders saved a mid others × GivesBack log.name
    (record { before = mid; after = b }) log.logged order.genesis.document order.entries saved one
    × (given ≡ first_fault others (fault_as (fault_among number) one))
GivesAllBack number logs orders saved a b given = ⊥

-- the order of each of these names' documents is held, with a tail that keeps its entries
pub record AreHeld {D : Type 0} (file_told : D → AppendTold) (names : List (List ℕ))
    (tails : List (LogTailModel D)) (docs : List OrderModel) : Type 0 where
  pub one_length : length names ≡ length docs
  pub tails_keep : AreKept (KeepsBehind file_told) tails docs

-- all files were read, of which the tails were made if there were none, and nothing else was done
pub record AreOpened (names : List (List ℕ)) (folder : Use FolderTold) (out : Use StreamTold)
    (opened : Moment) : Type 0 where
  pub files : opened.folder.files ≡ with_tails_made names folder.before.files
  pub since : folder.before.faults ≤ opened.folder.faults
  pub written : opened.out.written ≡ out.before.written
  pub sink_faults : opened.out.faults ≡ out.before.faults

module _ (names : List (List ℕ)) (sessions : ℕ) where
  -- one round: sessions were served from these orders, and each log was saved, whatever came of
  -- that
  abbrev pub IsRoundOfAll : Standing (List OrderModel) → Round (List OrderModel) → Type 0
  IsRoundOfAll = IsRoundOf AreServed (KeepsLogs names) sessions

  module _ (times : ℕ) (folder : Use FolderTold) (out : Use StreamTold) (old new : NetTold) where
    -- nothing was served: the files of a document failed, one was named twice, memory ran out, or
    -- the folder failed; no file but the tails may have changed. Those that were opened before that
    -- were given back
    pub record NoneServed (answer : Result (Unit {0}) Fault) : Type 0 where
      pub contents : List ServedFiles
      pub are : AreFilesOfAll folder.before.files names contents
      pub fault : Fault
      pub logs : List OpenLogModel
      pub orders : List OrderModel
      pub begun : FolderTold
      pub given : Result (Unit {0}) Fault
      pub gives : GivesAllBack 1 logs orders (Err fault) begun folder.after given
      pub answer_is : answer ≡ after_last (Err fault) given
      pub fails : AnswersUnlessOutside (λ (orders : List OrderModel). orders)
          (Rose folder.before.faults folder.after.faults) (Err fault) (orders_in 1 [] contents)
      pub changes : ChangesTails names folder.before.files folder.after.files
      pub net : new ≡ old
      pub unwritten : IsUnwritten out

    -- sessions were served from the orders in the files, so many times at the most, and the logs
    -- were saved each time. Then the tails are gone if all logs have all entries, and else they
    -- give them
    pub record AllServed (answer : Result (Unit {0}) Fault) : Type 0 where
      pub contents : List ServedFiles
      pub are : AreFilesOfAll folder.before.files names contents
      pub before : List OrderModel
      pub begins : orders_in 1 [] contents ≡ Ok before
      pub logs : List OpenLogModel
      pub have_logged : AllZip (λ content log. HasLogged content log.logged) contents logs
      pub named : AllZip
          (λ name log. log.name ≡ file_name (names_of_document name) files.Tail) names logs
      pub opened : Moment
      pub is_opened : AreOpened names folder out opened
      pub last : Round (List OrderModel)
      pub rounds : GoRounds IsRoundOfAll times
          (record { held = before; moment = opened; net = old }) last
      pub net : new ≡ last.after.net
      pub given : Result (Unit {0}) Fault
      pub gives :
          GivesAllBack 1 logs last.after.held last.saved last.after.moment.folder folder.after given
      pub alone : ChangesFolderAlone last.after.moment (at_end folder out)
      pub answer_is : answer ≡ after_last last.answer given

    -- `serve-all ADDRESS --sessions K --times T NAME ..`
    abbrev pub ServeAllOutcome : Result (Unit {0}) Fault → Type 0
    ServeAllOutcome answer = NoneServed answer ⊎ AllServed answer
