-- The laws of leaf numbers, over whole traces and over lives.
use Rattle.std.specs.Prelude.{◌≢◌, ◌<◌, List, IsSome, AllPairs}
use Rattle.sporc_outside.specs.LeafDisk.{DiskTold}
use Rattle.lms_leaf.specs.Lives.{AreLives, IsLife, LeafLife, all_given}
use Rattle.lms_leaf.specs.Traces.{LeafMove, AtRest, IsTrace, disk_of, drawn, state_after}

module _ {D : Type 0} (disk_told : D → DiskTold) where
  -- in no trace of a disk that tells its bytes is a number given twice
  abbrev pub NoLeafTwice : Type 0
  NoLeafTwice = (disk : D) (moves : List (LeafMove D)) → IsSome (disk_told disk).stored
      → IsTrace disk_told (AtRest disk) moves → AllPairs (λ leaf other. leaf ≢ other) (drawn moves)

  -- a trace of such a disk is a life of it
  abbrev pub TracesAreLives : Type 0
  TracesAreLives = (disk : D) (moves : List (LeafMove D)) → IsSome (disk_told disk).stored
      → IsTrace disk_told (AtRest disk) moves → IsLife disk_told (record {
        lent = disk;
        last = disk_of (state_after (AtRest disk) moves);
        given = drawn moves;
      })

  -- over lives one behind another the leaves rise, so none is given twice
  abbrev pub LeavesRise : Type 0
  LeavesRise = (lives : List (LeafLife D)) → AreLives disk_told lives
      → AllPairs (λ leaf later. leaf < later) (all_given lives)
