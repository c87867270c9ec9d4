-- Which leaves sign in runs of the program, over the leaf file of a device, and what else is done
-- to that file.
use Rattle.std.specs.Prelude.{◌≡◌, ◌≢◌, ◌⊎◌, ◌<◌, ℕ, List, [], ◌∷◌, ◌++◌, false, Option, None, Some}
use Rattle.std.specs.Prelude.{IsSome, AllPairs, Result, Ok, Err, ⊤, bytes_eq, if◌then◌else◌}
use Rattle.sporc_outside.specs.Files.{HasNoFile, file_in}
use Rattle.sporc_outside.specs.declared.named_file.NamedFile.{NamedFile}
use Rattle.sporc_outside.specs.LeafDisk.{DiskTold, disk_images}
use Rattle.lms_leaf.specs.Lives.{LeafLife}
use Rattle.sporc_member.specs.declared.device.Device.{Device}
use Rattle.sporc_words.specs.declared.client.Client.{Client}
use Rattle.sporc_words.specs.declared.command.Command.{Command}
use Rattle.sporc_words.specs.declared.command.Command.TheVariants as commands
use Rattle.sporc_words.specs.declared.keygen.Keygen.{Keygen}
use Rattle.sporc_words.specs.Commands.{command_of}
use Rattle.sporc_files.specs.declared.fault.Fault.{Fault}
use Rattle.sporc_files.specs.declared.file.File.TheVariants.{Leaf}
use Rattle.sporc_files.specs.Names.{file_name, names_of_document}
use Rattle.sporc_clients.specs.Lives.{signed_in}
use Rattle.sporc_clients.specs.Outcome.{ClientOutcome, ClientUse, no_disk, no_member, over_disk}
use Rattle.sporc_clients.specs.Outcome.{with_folder}
use Rattle.sporc_top.specs.Needs.{needs_by}
use Rattle.sporc_top.specs.Outcome.{Ends, RunOutcome, command, done, no_command, stopped, unread}
use Rattle.sporc_top.specs.Performing.{Performs, names_of}
use Rattle.sporc_top.specs.Uses.{OutsideUse, client_use}

-- the name of the leaf file of a device of a document
abbrev pub leaf_name : List ℕ → Device → List ℕ
leaf_name document device = file_name (names_of_document document) (Leaf device)

-- what told files have at a name
abbrev pub file_at : List ℕ → Option (List NamedFile) → Option (List ℕ)
file_at name None = None
file_at name (Some files) = file_in files name

-- ---- runs of the program

module _ {D : Type 0} (disks : D → DiskTold) where
  -- what `run` promises of a run by its clauses `outcome` and `files`
  pub record ProgramRun : Type 0 where
    pub words : List (List ℕ)
    pub outside : OutsideUse
    pub status : ℕ
    pub outcome : RunOutcome disks words outside status
    pub files : (needs_by (command_of words)).files ≡ false
        → outside.folder.after.files ≡ outside.folder.before.files

  -- a leaf file whose disk a command had handed out, and what was signed over that disk
  pub record OverLeafFile : Type 0 where
    pub name : List ℕ
    pub life : LeafLife D

  -- that of `client`, if its leaf file's disk was handed out
  abbrev pub over_its_disk : (words : Client) (did : ClientUse) (answer : Result ⊤ Fault)
      → ClientOutcome disks words did answer → Option OverLeafFile
  over_its_disk words did answer (no_member why same untouched) = None
  over_its_disk words did answer (no_disk m say why same untouched) = None
  over_its_disk words did answer (over_disk m first last during say lends over) = Some (record {
    name = leaf_name words.name words.device;
    life = record {
      lent = first;
      last = last;
      given = signed_in disks words m (with_folder did during) over;
    };
  })

  -- a command that signs has a row here; no other one has a disk handed out
  abbrev pub by_command : (asked : Command) (outside : OutsideUse) (answer : Result ⊤ Fault)
      → Performs disks asked outside answer → Option OverLeafFile
  by_command (commands.Client words) outside answer did =
      over_its_disk words (client_use outside) answer did.outcome
  by_command asked outside answer did = None

  abbrev pub by_end : (asked : Command) (outside : OutsideUse) (status : ℕ)
      → Ends (λ out. Performs disks asked (record outside { out = out }))
      (names_of asked) outside.out status → Option OverLeafFile
  by_end asked outside status (done did) = by_command asked outside (Ok tt) did
  by_end asked outside status (stopped {fault} {between} did since line till) =
      by_command asked _ (Err fault) did

  abbrev pub by_outcome : (words : List (List ℕ)) (outside : OutsideUse) (status : ℕ)
      → RunOutcome disks words outside status → Option OverLeafFile
  by_outcome words outside status (no_command asks unused line) = None
  by_outcome words outside status (unread unused line) = None
  by_outcome words outside status (command {asked} asks ends) = by_end asked outside status ends

  -- those over the leaf file with this name
  abbrev pub if_over : List ℕ → Option OverLeafFile → Option (LeafLife D)
  if_over name None = None
  if_over name (Some over) = if bytes_eq over.name name then Some over.life else None

  -- the life of the leaf file with a name in a run of the program, if that had its disk handed out
  abbrev pub over_leaf_file : List ℕ → ProgramRun → Option (LeafLife D)
  over_leaf_file name run = if_over name (by_outcome run.words run.outside run.status run.outcome)

  -- the leaves that signed in that
  abbrev pub signed_over : Option (LeafLife D) → List ℕ
  signed_over None = []
  signed_over (Some life) = life.given

  -- and in several runs of the program, in their order
  abbrev pub all_signed_over : List ℕ → List ProgramRun → List ℕ
  all_signed_over name [] = []
  all_signed_over name (run ∷ runs) =
      signed_over (over_leaf_file name run) ++ all_signed_over name runs

  -- it is a `keygen` that makes this file
  pub record MakesLeafFile (name : List ℕ) (run : ProgramRun) : Type 0 where
    pub words : Keygen
    pub asks : command_of run.words ≡ Some (commands.Keygen words)
    pub named : leaf_name words.name words.device ≡ name

  -- What stands of a leaf file behind a run that did not have its disk handed out: what stood
  -- before. Or it is a `keygen` that makes this file, and there was none, or something outside
  -- failed, and then anything may stand there
  abbrev pub LeavesLeafFile : List ℕ → ProgramRun → Type 0
  LeavesLeafFile name run =
      (file_at name run.outside.folder.after.files ≡ file_at name run.outside.folder.before.files)
      ⊎ (MakesLeafFile name run
      × (HasNoFile run.outside.folder.before.files name ⊎ (run.status ≡ 6)))

  -- a folder that tells its files, and which disks are out
  pub record IsTold (run : ProgramRun) : Type 0 where
    pub files : IsSome run.outside.folder.before.files
    pub lent : IsSome run.outside.folder.before.lent

-- ---- one behind another, over disks that tell their bytes

module _ {D : Type 0} (disk_told : D → DiskTold) (name : List ℕ) where
  -- a run of the program
  abbrev pub Run : Type 0
  Run = ProgramRun disk_told

  -- the life of the leaf file in it
  abbrev pub life_of : Run → Option (LeafLife D)
  life_of run = over_leaf_file disk_told name run

  -- The leaf file as the next run finds it: the one before left it so, or a crash did, of the disk
  -- that was behind the file last. Before the first disk was handed out nothing is asked
  abbrev pub FindsLeafFile : Option D → Option (List NamedFile) → Option (List NamedFile) → Type 0
  FindsLeafFile None left found = ⊤
  FindsLeafFile (Some last) left found = (file_at name found ≡ file_at name left)
      ⊎ ((image : List ℕ) × disk_images (disk_told last) image × (file_at name found ≡ Some image))

  -- a disk that is handed out tells its bytes to its end, and no crash leaves of it what it could
  -- not leave of the one before it
  abbrev pub GoesOnOver : Option D → Option (LeafLife D) → Type 0
  GoesOnOver behind None = ⊤
  GoesOnOver None (Some life) = IsSome (disk_told life.last).stored
  GoesOnOver (Some last) (Some life) = IsSome (disk_told life.last).stored × ((image : List ℕ)
      → disk_images (disk_told life.lent) image → disk_images (disk_told last) image)

  -- the disk that was behind the file last
  abbrev pub behind_then : Option D → Option (LeafLife D) → Option D
  behind_then behind None = behind
  behind_then behind (Some life) = Some life.last

  -- Runs whatever their words and their ends. Once a disk was behind the file, none of them is a
  -- `keygen` that makes it at which something outside failed
  abbrev pub AreProgramRuns : Option D → Option (List NamedFile) → List Run → Type 0
  AreProgramRuns behind left [] = ⊤
  AreProgramRuns behind left (run ∷ runs) =
      IsTold disk_told run × FindsLeafFile behind left run.outside.folder.before.files
      × (IsSome behind → MakesLeafFile disk_told name run → run.status ≢ 6)
      × GoesOnOver behind (life_of run)
      × AreProgramRuns (behind_then behind (life_of run)) run.outside.folder.after.files runs

  -- no leaf signs twice over them
  abbrev pub SignOnceOverRuns : Type 0
  SignOnceOverRuns = (runs : List Run) → AreProgramRuns None None runs
      → AllPairs (λ leaf later. leaf < later) (all_signed_over disk_told name runs)
