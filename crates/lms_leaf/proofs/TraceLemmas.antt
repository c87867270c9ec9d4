-- In a trace of a leaf file the numbers rise, and each is passed at its end.
use Rattle.std.proofs.Common.{◌≡◌, ℕ, ◌*◌, ◌/◌, ◌<◌, List, [], ◌∷◌, Option, Some, None, IsSome, IfSome, Ok, Err, All, AllPairs, refl, arith}
use Rattle.std.proofs.lemmas.List.Elements.{All-cons, All-nil, All-weaker}
use Rattle.std.proofs.lemmas.List.Kept.{AllPairs-cons}
use Rattle.sporc_outside.specs.LeafDisk.{DiskTold, IsStable, KeepsOutside, IsDiskFound, disk_images}
use Rattle.lms_leaf.specs.LeafFile.{IsPassed, taken_blocks}
use Rattle.lms_leaf.specs.Leaves.{KeepsStable}
use Rattle.lms_leaf.specs.declared.leaf_file.TheConstants.{LEAVES_PER_BLOCK}
use Rattle.lms_leaf.specs.Traces.{LeafMove, Open, OpenCut, Draw, DrawCut, Close, Crash, FileState, AtRest, InUse, disk_of, IsTrace, drawn, state_after}
use Rattle.lms_leaf.specs.Laws.{NoLeafTwice, TracesAreLives}
use Rattle.lms_leaf.proofs.TakenBlocks.{below-taken_blocks}

-- an opening goes on above each leaf whose byte is stable
pub above_stable : (stored : Option (List ℕ)) (images : List ℕ → Type 0) (next leaf : ℕ) → IsSome stored → IfSome stored images
    → IfSome stored (λ bytes. next ≡ LEAVES_PER_BLOCK * taken_blocks bytes) → IsStable images (leaf / LEAVES_PER_BLOCK) → leaf < next
above_stable None images next leaf told is from stable = absurd cc
above_stable (Some bytes) images next leaf told is from stable =
    let below = below-taken_blocks bytes (leaf / LEAVES_PER_BLOCK) (stable bytes is) in omega arith

-- a write keeps telling the bytes
told_after : (at n : ℕ) (old new : Option (List ℕ)) → KeepsOutside at n old new → IsSome old → IsSome new
told_after at n None new kept told = absurd cc
told_after at n (Some xs) None kept told = absurd kept
told_after at n (Some xs) (Some ys) kept told = refl

module _ {D : Type 0} (disk_told : D → DiskTold)
    (is_image : (disk : D) → IfSome (disk_told disk).stored (disk_images (disk_told disk))) where
  -- the leaf was given before: its byte is stable, and the next number is above it
  abbrev IsUsed : FileState D → ℕ → Type 0
  IsUsed (AtRest disk) leaf = IsStable (disk_images (disk_told disk)) (leaf / LEAVES_PER_BLOCK)
  IsUsed (InUse leaves) leaf = IsStable (disk_images (disk_told leaves.disk)) (leaf / LEAVES_PER_BLOCK) × (leaf < leaves.next)

  stable_of : (state : FileState D) (leaf : ℕ) → IsUsed state leaf → IsStable (disk_images (disk_told (disk_of state))) (leaf / LEAVES_PER_BLOCK)
  stable_of (AtRest disk) leaf used = used
  stable_of (InUse leaves) leaf used = used.0

  -- it stays stable in what is found after a crash
  stable_found : (disk found : D) (at leaf : ℕ) → IsDiskFound disk_told disk at found → IsStable ((disk_told disk).images at) (leaf / LEAVES_PER_BLOCK)
      → IsUsed (AtRest found) leaf
  stable_found disk found at leaf finds stable = λ image is. stable image (finds.among image is)

  told_found : (disk found : D) (at : ℕ) → IsDiskFound disk_told disk at found → IsSome (disk_told found).stored
  told_found disk found at finds = rw finds.reads.2 refl

  -- each number that is given is above one that was given before
  never_again : (state : FileState D) (moves : List (LeafMove D)) (leaf : ℕ) → IsSome (disk_told (disk_of state)).stored → IsTrace disk_told state moves
      → IsUsed state leaf → All (λ other. leaf < other) (drawn moves)
  never_again state [] leaf told trace used = All-nil (λ other. leaf < other)
  never_again state (Crash found ∷ moves) leaf told trace used =
      never_again (AtRest found) moves leaf (told_found _ found _ trace.0) trace.1 (stable_found _ found _ leaf trace.0 (stable_of state leaf used))
  never_again (AtRest disk) (Open (Ok leaves) ∷ moves) leaf told trace used =
      let stable = trace.0.stable.each (leaf / LEAVES_PER_BLOCK) used (disk_told leaves.disk).moment trace.0.stable.later (omega arith) in
      let above = above_stable (disk_told disk).stored (disk_images (disk_told disk)) leaves.next leaf told (is_image disk) trace.0.next used in
      never_again (InUse leaves) moves leaf (rw trace.0.unwritten told) trace.1 (stable, above)
  never_again (AtRest disk) (Open (Err fault) ∷ moves) leaf told trace used =
      never_again (AtRest fault.1) moves leaf (rw trace.0.unwritten told) trace.1
      (trace.0.stable.each (leaf / LEAVES_PER_BLOCK) used (disk_told fault.1).moment trace.0.stable.later (omega arith))
  never_again (AtRest disk) (OpenCut result at found ∷ moves) leaf told trace used =
      never_again (AtRest found) moves leaf (told_found _ found at trace.2) trace.3
      (stable_found _ found at leaf trace.2 (trace.0.stable.each (leaf / LEAVES_PER_BLOCK) used at trace.1.0 trace.1.1))
  never_again (InUse leaves) (Draw (Ok other) after ∷ moves) leaf told trace used =
      let stable = trace.0.stable.each (leaf / LEAVES_PER_BLOCK) used.0 (disk_told after.disk).moment trace.0.stable.later (omega arith) in
      All-cons (λ x. leaf < x) other (drawn moves) (omega (arith, trace.0.given, used.1))
      (never_again (InUse after) moves leaf (told_after _ 1 _ _ trace.0.others told) trace.1 (stable, omega (arith, trace.0.next, used.1)))
  never_again (InUse leaves) (Draw (Err fault) after ∷ moves) leaf told trace used =
      let stable = trace.0.stable.each (leaf / LEAVES_PER_BLOCK) used.0 (disk_told after.disk).moment trace.0.stable.later (omega arith) in
      never_again (InUse after) moves leaf (told_after _ 1 _ _ trace.0.others told) trace.1 (stable, omega (arith, trace.0.next, used.1))
  never_again (InUse leaves) (DrawCut result after at found ∷ moves) leaf told trace used =
      never_again (AtRest found) moves leaf (told_found _ found at trace.2) trace.3
      (stable_found _ found at leaf trace.2 (trace.0.stable.each (leaf / LEAVES_PER_BLOCK) used.0 at trace.1.0 trace.1.1))
  never_again (InUse leaves) (Close ∷ moves) leaf told trace used = never_again (AtRest leaves.disk) moves leaf told trace used.0
  never_again state moves leaf told trace used = absurd trace

  -- so the given numbers rise
  pub rising : (state : FileState D) (moves : List (LeafMove D)) → IsSome (disk_told (disk_of state)).stored → IsTrace disk_told state moves
      → AllPairs (λ leaf other. leaf < other) (drawn moves)
  rising state [] told trace = λ i j d below h. absurd (omega arith)
  rising state (Crash found ∷ moves) told trace = rising (AtRest found) moves (told_found _ found _ trace.0) trace.1
  rising (AtRest disk) (Open (Ok leaves) ∷ moves) told trace = rising (InUse leaves) moves (rw trace.0.unwritten told) trace.1
  rising (AtRest disk) (Open (Err fault) ∷ moves) told trace = rising (AtRest fault.1) moves (rw trace.0.unwritten told) trace.1
  rising (AtRest disk) (OpenCut result at found ∷ moves) told trace = rising (AtRest found) moves (told_found _ found at trace.2) trace.3
  rising (InUse leaves) (Draw (Ok leaf) after ∷ moves) told trace =
      let told' = told_after _ 1 _ _ trace.0.others told in
      AllPairs-cons (λ x y. x < y) leaf (drawn moves)
      (never_again (InUse after) moves leaf told' trace.1 (trace.0.taken, omega (arith, trace.0.given, trace.0.next)))
      (rising (InUse after) moves told' trace.1)
  rising (InUse leaves) (Draw (Err fault) after ∷ moves) told trace =
      rising (InUse after) moves (told_after _ 1 _ _ trace.0.others told) trace.1
  rising (InUse leaves) (DrawCut result after at found ∷ moves) told trace = rising (AtRest found) moves (told_found _ found at trace.2) trace.3
  rising (InUse leaves) (Close ∷ moves) told trace = rising (AtRest leaves.disk) moves told trace
  rising state moves told trace = absurd trace

  pub no_leaf_twice : NoLeafTwice disk_told
  no_leaf_twice disk moves told trace = λ i j d below within. let up = rising (AtRest disk) moves told trace i j d below within in λ same. absurd (omega (arith, up, same))

  -- ---- what is passed at the end

  -- the byte is stable
  abbrev IsKept : FileState D → ℕ → Type 0
  IsKept state byte = IsStable (disk_images (disk_told (disk_of state))) byte

  kept_found : (disk found : D) (at byte : ℕ) → IsDiskFound disk_told disk at found → IsStable ((disk_told disk).images at) byte → IsKept (AtRest found) byte
  kept_found disk found at byte finds stable = λ image is. stable image (finds.among image is)

  kept_over : (old new : D) (byte : ℕ) → KeepsStable disk_told old new → IsStable (disk_images (disk_told old)) byte → IsStable (disk_images (disk_told new)) byte
  kept_over old new byte keeps stable = keeps.each byte stable (disk_told new).moment keeps.later (omega arith)

  -- a byte that is stable stays so
  pub kept_along : (state : FileState D) (moves : List (LeafMove D)) (byte : ℕ) → IsTrace disk_told state moves → IsKept state byte
      → IsKept (state_after state moves) byte
  kept_along state [] byte trace kept = kept
  kept_along state (Crash found ∷ moves) byte trace kept = kept_along (AtRest found) moves byte trace.1 (kept_found _ found _ byte trace.0 kept)
  kept_along (AtRest disk) (Open (Ok leaves) ∷ moves) byte trace kept = kept_along (InUse leaves) moves byte trace.1 (kept_over disk leaves.disk byte trace.0.stable kept)
  kept_along (AtRest disk) (Open (Err fault) ∷ moves) byte trace kept = kept_along (AtRest fault.1) moves byte trace.1 (kept_over disk fault.1 byte trace.0.stable kept)
  kept_along (AtRest disk) (OpenCut result at found ∷ moves) byte trace kept =
      kept_along (AtRest found) moves byte trace.3 (kept_found _ found at byte trace.2 (trace.0.stable.each byte kept at trace.1.0 trace.1.1))
  kept_along (InUse leaves) (Draw result after ∷ moves) byte trace kept = kept_along (InUse after) moves byte trace.1 (kept_over leaves.disk after.disk byte trace.0.stable kept)
  kept_along (InUse leaves) (DrawCut result after at found ∷ moves) byte trace kept =
      kept_along (AtRest found) moves byte trace.3 (kept_found _ found at byte trace.2 (trace.0.stable.each byte kept at trace.1.0 trace.1.1))
  kept_along (InUse leaves) (Close ∷ moves) byte trace kept = kept_along (AtRest leaves.disk) moves byte trace kept
  kept_along state moves byte trace kept = absurd trace

  -- so each number that was given is passed at the end
  abbrev PassedAfter : FileState D → List (LeafMove D) → ℕ → Type 0
  PassedAfter state moves = IsPassed (disk_images (disk_told (disk_of (state_after state moves))))

  pub passed_after : (state : FileState D) (moves : List (LeafMove D)) → IsTrace disk_told state moves → All (PassedAfter state moves) (drawn moves)
  passed_after state [] trace = All-nil (PassedAfter state [])
  passed_after state (Crash found ∷ moves) trace = passed_after (AtRest found) moves trace.1
  passed_after (AtRest disk) (Open (Ok leaves) ∷ moves) trace = passed_after (InUse leaves) moves trace.1
  passed_after (AtRest disk) (Open (Err fault) ∷ moves) trace = passed_after (AtRest fault.1) moves trace.1
  passed_after (AtRest disk) (OpenCut result at found ∷ moves) trace = passed_after (AtRest found) moves trace.3
  passed_after (InUse leaves) (Draw (Ok leaf) after ∷ moves) trace =
      All-cons (PassedAfter (InUse after) moves) leaf (drawn moves) (leaf, omega arith, kept_along (InUse after) moves (leaf / LEAVES_PER_BLOCK) trace.1 trace.0.taken)
      (passed_after (InUse after) moves trace.1)
  passed_after (InUse leaves) (Draw (Err fault) after ∷ moves) trace = passed_after (InUse after) moves trace.1
  passed_after (InUse leaves) (DrawCut result after at found ∷ moves) trace = passed_after (AtRest found) moves trace.3
  passed_after (InUse leaves) (Close ∷ moves) trace = passed_after (AtRest leaves.disk) moves trace
  passed_after state moves trace = absurd trace

  -- a trace that begins with the disk at rest is a life of it
  pub trace_is_life : TracesAreLives disk_told
  trace_is_life disk moves told trace = record {
    rise = rising (AtRest disk) moves told trace;
    above = λ leaf passed.
        let below : (x : ℕ) → passed.0 < x → leaf < x = λ x lt. omega (arith, lt, passed.1) in
        All-weaker (λ x. passed.0 < x) (λ x. leaf < x) below (drawn moves) (never_again (AtRest disk) moves passed.0 told trace passed.2);
    passed = passed_after (AtRest disk) moves trace;
    kept = λ leaf passed. (passed.0, passed.1, kept_along (AtRest disk) moves (passed.0 / LEAVES_PER_BLOCK) trace passed.2);
  }
