-- What `serve` did with the folder, the sink and the net, and how it saves a log.
use Rattle.std.specs.Prelude.{◌≡◌, ◌⊎◌, ◌≤◌, ℕ, List, ◌++◌, codes, length, option_map}
use Rattle.std.specs.Prelude.{Result, Ok, Err}
use Rattle.std.specs.Fmt.{decimal}
use Rattle.std.specs.Io.KnownBytes.{Appends}
use Rattle.sporc_outside.specs.Counts.{Rose}
use Rattle.sporc_outside.specs.Files.{ChangesFile, made_in, with_file}
use Rattle.sporc_outside.specs.Uses.{Use}
use Rattle.sporc_outside.specs.Writing.{AppendsPrefix}
use Rattle.sporc_outside.specs.Streams.{IsUnwritten, StreamTold}
use Rattle.sporc_outside.specs.Folders.{FolderTold}
use Rattle.sporc_outside.specs.Nets.{NetTold}
use Rattle.sporc_order.specs.OrderModel.{OrderModel}
use Rattle.sporc_serve.specs.Served.{IsServed}
use Rattle.sporc_files.specs.declared.fault.Fault.{Fault}
use Rattle.sporc_files.specs.declared.fault.Fault.TheVariants as faults
use Rattle.sporc_files.specs.declared.file.File.TheVariants as files
use Rattle.sporc_files.specs.Faults.{AnswersUnlessOutside}
use Rattle.sporc_files.specs.Names.{FileNames, file_name}
use Rattle.sporc_hosting.specs.Moments.{ChangesFolderAlone, Moment, at_end, folder_between}
use Rattle.sporc_hosting.specs.Moments.{sink_between}
use Rattle.sporc_hosting.specs.Rounds.{GoRounds, IsRoundOf, Round, Standing}
use Rattle.sporc_hosting.specs.Serving.{AreServedFiles, HasLogged, ServedFiles, order_in}
use Rattle.sporc_hosting.specs.Serving.{saved_log}
use Rattle.sporc_hosting.specs.Tails.{GivesBack, after_last}

-- the line that says how many entries were saved
abbrev pub log_line : ℕ → List ℕ
log_line len = codes "log " ++ (decimal len ++ codes "\n")

-- the file of an order's entries was written
pub record SavesLog (names : FileNames) (folder : Use FolderTold)
    (order : OrderModel) : Type 0 where
  pub log : List ℕ
  pub saved : saved_log order ≡ Ok log
  pub files : folder.after.files
      ≡ option_map (λ old. with_file old (file_name names files.Log) log) folder.before.files

-- how an order's entries were saved and this line was written, by the answer
module _ (names : FileNames) (folder : Use FolderTold) (out : Use StreamTold) (order : OrderModel)
    (line : List ℕ) where
  abbrev pub KeepsLog : {T : Type 0} → Result T Fault → Type 0
  KeepsLog (Ok done) =
      SavesLog names folder order × Appends out.before.written out.after.written line
  KeepsLog (Err faults.Memory) = (folder.after.files ≡ folder.before.files) × IsUnwritten out
  KeepsLog (Err faults.FullFile) = (saved_log order ≡ Err faults.FullFile)
      × (folder.after.files ≡ folder.before.files) × IsUnwritten out
  KeepsLog (Err faults.Outside) = (Rose folder.before.faults folder.after.faults
      × ChangesFile folder.before.files folder.after.files (file_name names files.Log)
      × IsUnwritten out)
      ⊎ (SavesLog names folder order × Rose out.before.faults out.after.faults
      × AppendsPrefix out.before.written out.after.written line)
  KeepsLog (Err fault) = ⊥

-- the files were read, of which the tail's was made if there was none, and nothing else was done
pub record IsOpened (names : FileNames) (folder : Use FolderTold) (out : Use StreamTold)
    (opened : Moment) : Type 0 where
  pub files : opened.folder.files
      ≡ option_map (λ told. made_in told (file_name names files.Tail)) folder.before.files
  pub since : folder.before.faults ≤ opened.folder.faults
  pub written : opened.out.written ≡ out.before.written
  pub sink_faults : opened.out.faults ≡ out.before.faults

-- the log of an order was saved between two moments, and the line of how many entries it has was
-- written
abbrev pub KeepsOne : FileNames → OrderModel → Moment → Moment → Result (Unit {0}) Fault → Type 0
KeepsOne names order a b saved = KeepsLog names (folder_between a b) (sink_between a b) order
    (log_line (length order.entries)) saved

module _ (names : FileNames) (sessions : ℕ) where
  -- one round: sessions were served from an order, and what came of it was saved
  abbrev pub IsRound : Standing OrderModel → Round OrderModel → Type 0
  IsRound = IsRoundOf IsServed (KeepsOne names) sessions

  module _ (times : ℕ) (folder : Use FolderTold) (out : Use StreamTold) (old new : NetTold) where
    -- nothing was served: a file failed, memory ran out, or the folder failed; no file but the
    -- tail's may have changed
    pub record NotServed (answer : Result (Unit {0}) Fault) : Type 0 where
      pub content : ServedFiles
      pub are : AreServedFiles folder.before.files names content
      pub fault : Fault
      pub answer_is : answer ≡ Err fault
      pub fails : AnswersUnlessOutside (λ (order : OrderModel). order)
          (Rose folder.before.faults folder.after.faults) (Err fault) (order_in content)
      pub changes : ChangesFile folder.before.files folder.after.files (file_name names files.Tail)
      pub net : new ≡ old
      pub unwritten : IsUnwritten out

    -- Sessions were served from the order in the files, so many times at the most, and what came of
    -- each time was saved. Then the tail is gone if the log has all entries, and else it gives them
    pub record ServedAndKept (answer : Result (Unit {0}) Fault) : Type 0 where
      pub content : ServedFiles
      pub are : AreServedFiles folder.before.files names content
      pub before : OrderModel
      pub begins : order_in content ≡ Ok before
      pub logged : ℕ
      pub has_logged : HasLogged content logged
      pub opened : Moment
      pub is_opened : IsOpened names folder out opened
      pub last : Round OrderModel
      pub rounds : GoRounds IsRound times
          (record { held = before; moment = opened; net = old }) last
      pub net : new ≡ last.after.net
      pub given : Result (Unit {0}) Fault
      pub gives : GivesBack (file_name names files.Tail)
          (folder_between last.after.moment (at_end folder out)) logged
          last.after.held.genesis.document last.after.held.entries last.saved given
      pub alone : ChangesFolderAlone last.after.moment (at_end folder out)
      pub answer_is : answer ≡ after_last last.answer given

    -- `serve NAME ADDRESS --sessions K --times T`
    abbrev pub ServeOutcome : Result (Unit {0}) Fault → Type 0
    ServeOutcome answer = NotServed answer ⊎ ServedAndKept answer
