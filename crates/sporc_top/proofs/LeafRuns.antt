-- Over runs of the program no leaf signs twice.
use Rattle.std.proofs.Common.{◌≡◌, ◌≢◌, ◌⊎◌, inl, inr, ℕ, ◌<◌, List, [], ◌∷◌, ◌++◌, false, Option, Some, None, IfSome, IsSome, AllPairs, Result, Ok, Err, refl, ap, sym, subst, ◌∙◌}
use Rattle.sporc_top.proofs.Common.{⊤, HasNoFile, DiskTold, IsDiskFound, disk_images, NamedFile, Device, Command, Keygen, command_of, Fault, status_of, AreProgramRuns, FindsLeafFile, GoesOnOver}
use Rattle.sporc_top.proofs.Common.{LeavesLeafFile, MakesLeafFile, ProgramRun, SignOnceOverRuns, all_signed_over, behind_then, by_end, by_outcome, file_at, if_over, leaf_name, life_of, over_leaf_file}
use Rattle.sporc_top.proofs.Common.{signed_over, Ends, RunOutcome, command, done, no_command, stopped, unread, Performs, names_of, OutsideUse, FolderTold, AreLives, GoesOn, LeafLife, all_given}
use Rattle.sporc_top.proofs.Common.{needs_by, needs_of}
use Rattle.sporc_words.specs.declared.command.Command.TheVariants as commands
use Rattle.sporc_files.specs.declared.fault.Fault.TheVariants as faults
use Rattle.lms_leaf.proofs.LifeLemmas.{leaves_rise}
use Rattle.sporc_top.proofs.LeafCommands.{CommandLeaves, HasBeenOver, command_has, command_leaves}

module _ (document : List ℕ) (device : Device) where
  abbrev name : List ℕ
  name = leaf_name document device

  -- ---- one run

  module _ {D : Type 0} (disks : D → DiskTold) where
    -- as `LeavesLeafFile`, of its parts
    abbrev Leaves : List (List ℕ) → OutsideUse → ℕ → Type 0
    Leaves words outside status =
        (file_at name outside.folder.after.files ≡ file_at name outside.folder.before.files)
        ⊎ ((asked : Keygen) × (command_of words ≡ Some (commands.Keygen asked)) × (leaf_name asked.name asked.device ≡ name)
        × (HasNoFile outside.folder.before.files name ⊎ (status ≡ 6)))

    by_answer : (words : List (List ℕ)) (outside : OutsideUse) (status : ℕ) (asked : Command) (answer : Result ⊤ Fault) → command_of words ≡ Some asked
        → (answer ≡ Err faults.Outside → status ≡ 6) → CommandLeaves document device disks asked outside.folder.before.files outside.folder.after.files answer
        → Leaves words outside status
    by_answer words outside status asked answer asks six (inl kept) = inl kept
    by_answer words outside status asked answer asks six (inr (key, is, called, inl none)) = inr (key, asks ∙ ap (λ (c : Command). Some c) is, called, inl none)
    by_answer words outside status asked answer asks six (inr (key, is, called, inr failed)) = inr (key, asks ∙ ap (λ (c : Command). Some c) is, called, inr (six failed))

    end_leaves : (words : List (List ℕ)) (outside : OutsideUse) (status : ℕ) (asked : Command) → command_of words ≡ Some asked
        → (ends : Ends (λ out. Performs disks asked (record outside { out = out })) (names_of asked) outside.out status)
        → ((needs_of asked).files ≡ false → outside.folder.after.files ≡ outside.folder.before.files)
        → IsSome outside.folder.before.files → IsSome outside.folder.before.lent → if_over disks name (by_end disks asked outside status ends) ≡ None
        → Leaves words outside status
    end_leaves words outside status asked asks (done did) unused told lent none =
        by_answer words outside status asked (Ok tt) asks (λ same. absurd cc) (command_leaves document device disks asked outside (Ok tt) did unused told lent none)
    end_leaves words outside status asked asks (stopped {fault} {between} did since line till) unused told lent none =
        by_answer words outside status asked (Err fault) asks (λ same. let is : fault ≡ faults.Outside = cc in ap status_of is)
        (command_leaves document device disks asked _ (Err fault) did unused told lent none)

    end_has : (outside : OutsideUse) (status : ℕ) (asked : Command) (life : LeafLife D)
        → (ends : Ends (λ out. Performs disks asked (record outside { out = out })) (names_of asked) outside.out status)
        → IsSome outside.folder.before.files → IsSome outside.folder.before.lent → if_over disks name (by_end disks asked outside status ends) ≡ Some life
        → HasBeenOver document device disks outside.folder.before.files outside.folder.after.files life
    end_has outside status asked life (done did) told lent some = command_has document device disks asked outside (Ok tt) did life told lent some
    end_has outside status asked life (stopped {fault} {between} did since line till) told lent some =
        command_has document device disks asked _ (Err fault) did life told lent some

    outcome_leaves : (words : List (List ℕ)) (outside : OutsideUse) (status : ℕ) (outcome : RunOutcome disks words outside status)
        → ((needs_by (command_of words)).files ≡ false → outside.folder.after.files ≡ outside.folder.before.files)
        → IsSome outside.folder.before.files → IsSome outside.folder.before.lent → if_over disks name (by_outcome disks words outside status outcome) ≡ None
        → Leaves words outside status
    outcome_leaves words outside status (no_command asks unused line) files told lent none = inl (ap (λ (t : FolderTold). file_at name t.files) unused.folder)
    outcome_leaves words outside status (unread unused line) files told lent none = inl (ap (λ (t : FolderTold). file_at name t.files) unused.folder)
    outcome_leaves words outside status (command {asked} asks ends) files told lent none =
        end_leaves words outside status asked asks ends
        (subst (λ (c : Option Command). (needs_by c).files ≡ false → outside.folder.after.files ≡ outside.folder.before.files) asks files) told lent none

    outcome_has : (words : List (List ℕ)) (outside : OutsideUse) (status : ℕ) (outcome : RunOutcome disks words outside status) (life : LeafLife D)
        → IsSome outside.folder.before.files → IsSome outside.folder.before.lent → if_over disks name (by_outcome disks words outside status outcome) ≡ Some life
        → HasBeenOver document device disks outside.folder.before.files outside.folder.after.files life
    outcome_has words outside status (command {asked} asks ends) life told lent some = end_has outside status asked life ends told lent some
    outcome_has words outside status outcome life told lent some = absurd cc

    pub leaves_leaf_file : (run : ProgramRun disks) → IsSome run.outside.folder.before.files → IsSome run.outside.folder.before.lent
        → over_leaf_file disks name run ≡ None → LeavesLeafFile disks name run
    leaves_leaf_file run told lent none = go (outcome_leaves run.words run.outside run.status run.outcome run.files told lent none)
      where
        go : Leaves run.words run.outside run.status → LeavesLeafFile disks name run
        go (inl kept) = inl kept
        go (inr (key, asks, called, new)) = inr (record { words = key; asks = asks; named = called }, new)

  -- ---- one behind another

  module _ {D : Type 0} (disk_told : D → DiskTold)
      (is_image : (disk : D) → IfSome (disk_told disk).stored (disk_images (disk_told disk))) where
    abbrev Run : Type 0
    Run = ProgramRun disk_told

    abbrev Life : Type 0
    Life = Option (LeafLife D)

    abbrev with_life : Life → List (LeafLife D) → List (LeafLife D)
    with_life None lives = lives
    with_life (Some life) lives = life ∷ lives

    -- the lives of the leaf file in them
    abbrev lives_of : List Run → List (LeafLife D)
    lives_of [] = []
    lives_of (run ∷ runs) = with_life (life_of disk_told name run) (lives_of runs)

    signed_with : (life : Life) (lives : List (LeafLife D)) → all_given (with_life life lives) ≡ signed_over disk_told life ++ all_given lives
    signed_with None lives = refl
    signed_with (Some life) lives = refl

    same_signed : (runs : List Run) → all_given (lives_of runs) ≡ all_signed_over disk_told name runs
    same_signed [] = refl
    same_signed (run ∷ runs) =
        signed_with (life_of disk_told name run) (lives_of runs)
        ∙ ap (λ (l : List ℕ). signed_over disk_told (life_of disk_told name run) ++ l) (same_signed runs)

    -- the file has bytes that a crash may leave of the disk that was behind it last
    abbrev IsLeft : Option D → Option (List ℕ) → Type 0
    IsLeft None at = ⊤
    IsLeft (Some last) at = (image : List ℕ) × disk_images (disk_told last) image × (at ≡ Some image)

    -- the next disk is found there
    abbrev IsNext : Option D → List (LeafLife D) → Type 0
    IsNext (Some last) (life ∷ lives) = IsDiskFound disk_told last (disk_told last).moment life.lent
    IsNext _ _ = ⊤

    goes_on : (life : LeafLife D) (lives : List (LeafLife D)) → IsNext (Some life.last) lives → GoesOn disk_told life lives
    goes_on life [] next = tt
    goes_on life (other ∷ lives) next = next

    record AreChained (behind : Option D) (lives : List (LeafLife D)) : Type 0 where
      pub are : AreLives disk_told lives
      pub next : IsNext behind lives

    left_is : (behind : Option D) (left found : Option (List NamedFile)) → IsLeft behind (file_at name left) → FindsLeafFile disk_told name behind left found
        → IsLeft behind (file_at name found)
    left_is None left found is finds = tt
    left_is (Some last) left found (image, among, is) (inl same) = (image, among, same ∙ is)
    left_is (Some last) left found is (inr crashed) = crashed

    own_image : (disk : D) (at : Option (List ℕ)) → (told : Option (List ℕ)) → (disk_told disk).stored ≡ told → IsSome told → at ≡ (disk_told disk).stored → IsLeft (Some disk) at
    own_image disk at None tells some is = absurd cc
    own_image disk at (Some bytes) tells some is =
        (bytes, rw tells at (is_image disk), is ∙ tells)

    not_missing : (files : Option (List NamedFile)) (image : List ℕ) → file_at name files ≡ Some image → HasNoFile files name → ⊥
    not_missing None image is none = absurd cc
    not_missing (Some fs) image is none =
        let both : Some image ≡ None = sym is ∙ none in
        absurd cc

    -- of a run that had no disk handed out
    still_left : (behind : Option D) (run : Run) → IsLeft behind (file_at name run.outside.folder.before.files)
        → (IsSome behind → MakesLeafFile disk_told name run → run.status ≢ 6) → LeavesLeafFile disk_told name run
        → IsLeft behind (file_at name run.outside.folder.after.files)
    still_left None run is made leaves = tt
    still_left (Some last) run (image, among, is) made (inl kept) = (image, among, kept ∙ is)
    still_left (Some last) run (image, among, is) made (inr (makes, inl none)) = absurd (not_missing run.outside.folder.before.files image is none)
    still_left (Some last) run (image, among, is) made (inr (makes, inr six)) = absurd (made refl makes six)

    tells_last : (behind : Option D) (life : LeafLife D) → GoesOnOver disk_told name behind (Some life) → IsSome (disk_told life.last).stored
    tells_last None life on = on
    tells_last (Some last) life on = on.0

    is_next : (behind : Option D) (life : LeafLife D) (lives : List (LeafLife D)) (at : Option (List ℕ)) → (disk_told life.lent).stored ≡ at → IsLeft behind at
        → GoesOnOver disk_told name behind (Some life) → IsNext behind (life ∷ lives)
    is_next None life lives at first is on = tt
    is_next (Some last) life lives at first (image, among, is) on = record { reads = (image, among, first ∙ is); among = on.1 }

    no_next : (behind : Option D) → IsNext behind []
    no_next None = tt
    no_next (Some last) = tt

    chain : (behind : Option D) (left : Option (List NamedFile)) (runs : List Run) → IsLeft behind (file_at name left)
        → AreProgramRuns disk_told name behind left runs → AreChained behind (lives_of runs)
    chain behind left [] is are = record { are = tt; next = no_next behind }
    chain behind left (run ∷ runs) is (told, finds, made, on, rest) =
        go (life_of disk_told name run) refl on rest (λ b l i a. chain b l runs i a)
      where
        found : IsLeft behind (file_at name run.outside.folder.before.files)
        found = left_is behind left run.outside.folder.before.files is finds

        go : (life : Life) → life_of disk_told name run ≡ life → GoesOnOver disk_told name behind life
            → AreProgramRuns disk_told name (behind_then disk_told name behind life) run.outside.folder.after.files runs
            → ((b : Option D) (l : Option (List NamedFile)) → IsLeft b (file_at name l) → AreProgramRuns disk_told name b l runs → AreChained b (lives_of runs))
            → AreChained behind (with_life life (lives_of runs))
        go None e on rest further =
            further behind run.outside.folder.after.files (still_left behind run found made (leaves_leaf_file disk_told run told.files told.lent e)) rest
        go (Some life) e on rest further =
            let has = outcome_has disk_told run.words run.outside run.status run.outcome life told.files told.lent e in
            let tells = tells_last behind life on in
            let more = further (Some life.last) run.outside.folder.after.files
            (own_image life.last (file_at name run.outside.folder.after.files) (disk_told life.last).stored refl tells (has.last tells)) rest in
            record {
              are = (has.is_life is_image, goes_on life (lives_of runs) more.next, more.are);
              next = is_next behind life (lives_of runs) (file_at name run.outside.folder.before.files) has.first found on;
            }

    pub sign_once_over_runs : SignOnceOverRuns disk_told name
    sign_once_over_runs runs are =
        subst (λ (l : List ℕ). AllPairs (λ leaf later. leaf < later) l) (same_signed runs)
        (leaves_rise disk_told (lives_of runs) (chain None None runs tt are).are)
