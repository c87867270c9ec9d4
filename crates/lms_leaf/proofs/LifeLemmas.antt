-- Over lives of a leaf file the numbers rise.
use Rattle.std.proofs.Common.{◌≡◌, ℕ, zero, suc, ◌*◌, ◌<◌, ◌≤◌, List, [], ◌∷◌, ◌++◌, IfSome, IsSome, All, AllPairs, arith}
use Rattle.std.proofs.lemmas.List.Elements.{All-append, All-head, All-nil, All-tail, All-weaker}
use Rattle.std.proofs.lemmas.List.Kept.{AllPairs-cons}
use Rattle.sporc_outside.specs.LeafDisk.{DiskTold, IsDiskFound, disk_images}
use Rattle.lms_leaf.specs.LeafFile.{ArePassed, IsPassed, taken_blocks}
use Rattle.lms_leaf.specs.Laws.{LeavesRise}
use Rattle.lms_leaf.specs.Lives.{AreLives, IsLife, LeafLife, all_given}
use Rattle.lms_leaf.specs.declared.leaf_file.TheConstants.{LEAVES_PER_BLOCK}
use Rattle.lms_leaf.proofs.TraceLemmas.{above_stable}

-- two lists that rise, the second from above the first
rise_append : (xs ys : List ℕ) → AllPairs (λ a b. a < b) xs → AllPairs (λ a b. a < b) ys → All (λ x. All (λ y. x < y) ys) xs
    → AllPairs (λ a b. a < b) (xs ++ ys)
rise_append [] ys first second across = second
rise_append (x ∷ xs) ys first second across =
    let head : All (λ y. x < y) xs = λ k d within. first zero (suc k) d (omega arith) (omega arith) in
    let tail : AllPairs (λ a b. a < b) xs = λ i j d below within. first (suc i) (suc j) d (omega arith) (omega arith) in
    let far = All-head (λ x. All (λ y. x < y) ys) x xs across in
    AllPairs-cons (λ a b. a < b) x (xs ++ ys) (All-append (λ y. x < y) xs ys head far)
    (rise_append xs ys tail second (All-tail (λ x. All (λ y. x < y) ys) x xs across))

module _ {D : Type 0} (disk_told : D → DiskTold) where
  passed_found : (disk found : D) (at leaf : ℕ) → IsDiskFound disk_told disk at found → IsPassed ((disk_told disk).images at) leaf
      → IsPassed (disk_images (disk_told found)) leaf
  passed_found disk found at leaf finds passed = (passed.0, passed.1, λ image is. passed.2 image (finds.among image is))

  -- what was passed before is below all that is given
  above_passed : (lives : List (LeafLife D)) (life : LeafLife D) (leaf : ℕ) → AreLives disk_told (life ∷ lives)
      → IsPassed (disk_images (disk_told life.lent)) leaf → All (λ given. leaf < given) (all_given (life ∷ lives))
  above_passed [] life leaf are passed = All-append (λ given. leaf < given) life.given [] (are.0.above leaf passed) (All-nil (λ given. leaf < given))
  above_passed (next ∷ lives) life leaf are passed =
      let found = passed_found life.last next.lent (disk_told life.last).moment leaf are.1 (are.0.kept leaf passed) in
      All-append (λ given. leaf < given) life.given (all_given (next ∷ lives)) (are.0.above leaf passed) (above_passed lives next leaf are.2 found)

  -- and so is what was given in the life before
  across : (lives : List (LeafLife D)) (life : LeafLife D) → AreLives disk_told (life ∷ lives)
      → All (λ leaf. All (λ given. leaf < given) (all_given lives)) life.given
  across [] life are = λ k d within. All-nil (λ given. _ < given)
  across (next ∷ lives) life are =
      All-weaker (IsPassed (disk_images (disk_told life.last))) (λ leaf. All (λ given. leaf < given) (all_given (next ∷ lives)))
      (λ leaf passed. above_passed lives next leaf are.2 (passed_found life.last next.lent (disk_told life.last).moment leaf are.1 passed)) life.given are.0.passed

  pub leaves_rise : LeavesRise disk_told
  leaves_rise [] are = λ i j d below within. absurd (omega arith)
  leaves_rise (life ∷ lives) are = rise_append life.given (all_given lives) are.0.rise (leaves_rise lives are.2) (across lives life are)

  -- Leaves that rise, from the one that an opening went on at, are a life, if an opening of the last disk goes on above them
  pub session_is_life : (life : LeafLife D) (first next : ℕ) → IsSome (disk_told life.lent).stored → IfSome (disk_told life.lent).stored (disk_images (disk_told life.lent))
      → IfSome (disk_told life.lent).stored (λ bytes. first ≡ LEAVES_PER_BLOCK * taken_blocks bytes) → first ≤ next
      → AllPairs (λ leaf later. leaf < later) life.given → All (λ leaf. first ≤ leaf) life.given → All (λ leaf. leaf < next) life.given
      → ArePassed (disk_images (disk_told life.last)) next → IsLife disk_told life
  session_is_life life first next told is_image opened forward rise from below passed =
      let under : (leaf : ℕ) → IsPassed (disk_images (disk_told life.lent)) leaf → leaf < first = λ leaf was.
      let other = above_stable (disk_told life.lent).stored (disk_images (disk_told life.lent)) first was.0 told is_image opened was.2 in
      omega (arith, was.1, other) in
      record {
        rise = rise;
        above = λ leaf was. let low = under leaf was in All-weaker (λ given. first ≤ given) (λ given. leaf < given) (λ given le. omega (arith, low, le)) life.given from;
        passed = All-weaker (λ leaf. leaf < next) (IsPassed (disk_images (disk_told life.last))) (λ leaf lt. passed leaf lt) life.given below;
        kept = λ leaf was. passed leaf (let low = under leaf was in omega (arith, low, forward));
      }
