-- What runs of the command sign, as lives of their leaf file.
use Rattle.std.specs.Prelude.{ℕ, ◌<◌, List, [], ◌∷◌, map, IsSome, AllPairs, Result, ⊤}
use Rattle.sporc_outside.specs.LeafDisk.{DiskTold}
use Rattle.lms_leaf.specs.Lives.{GoesOn, LeafLife, all_given}
use Rattle.sporc_client.specs.ClientModel.{leaves_of}
use Rattle.sporc_words.specs.declared.client.Client.{Client as Words}
use Rattle.sporc_files.specs.declared.fault.Fault.{Fault}
use Rattle.sporc_device.specs.declared.member_files.MemberFiles.{MemberFiles}
use Rattle.sporc_clients.specs.Outcome.{ClientUse, DiskOutcome, not_worked, worked}

module _ {D : Type 0} (disks : D → DiskTold) where
  -- the leaves that signed over a disk: those of the submissions of the session, if one began
  abbrev pub signed_in :
      (words : Words) (m : MemberFiles) (did : ClientUse) {first last : D} {answer : Result ⊤ Fault}
      → DiskOutcome disks words m did first last answer → List ℕ
  signed_in words m did (worked w) = leaves_of w.past.log
  signed_in words m did (not_worked why untouched same kept) = []

  -- a run of the command, of which its leaf file's disk was handed out
  pub record ClientRun : Type 0 where
    pub words : Words
    pub member : MemberFiles
    pub did : ClientUse
    pub first : D
    pub last : D
    pub answer : Result ⊤ Fault
    pub outcome : DiskOutcome disks words member did first last answer

  abbrev pub life_of : ClientRun → LeafLife D
  life_of run = record {
    lent = run.first;
    last = run.last;
    given = signed_in run.words run.member run.did run.outcome;
  }

  -- the leaves that signed in runs, in their order
  abbrev pub all_signed : List ClientRun → List ℕ
  all_signed runs = all_given (map life_of runs)

module _ {D : Type 0} (disk_told : D → DiskTold) where
  -- runs one behind another, over a disk that tells its bytes: each begins with what a read gives
  -- of the disk that the one before it left, or with what a crash leaves of that
  abbrev pub AreRuns : List (ClientRun disk_told) → Type 0
  AreRuns [] = ⊤
  AreRuns (run ∷ runs) =
      let life = life_of disk_told in
      IsSome (disk_told run.first).stored × GoesOn disk_told (life run) (map life runs)
      × AreRuns runs

  -- no leaf signs twice over them
  abbrev pub SignOnce : Type 0
  SignOnce = (runs : List (ClientRun disk_told)) → AreRuns runs
      → AllPairs (λ leaf later. leaf < later) (all_signed disk_told runs)
