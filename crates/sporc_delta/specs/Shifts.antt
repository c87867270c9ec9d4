-- What a delta keeps before its first change and behind its last one, and a delta with another
-- count there.
use Rattle.std.specs.Prelude.{◌≡◌, ℕ, ◌-◌, ◌≤◌, ◌<◌, List, ◌++◌, drop, length, slice_get, take}
use Rattle.sporc_delta.specs.declared.limits.TheConstants.{MAX_TEXT_LEN}
use Rattle.sporc_delta.specs.declared.part.Part.{Part}
use Rattle.sporc_delta.specs.declared.shift.Shift.{Shift}
use Rattle.sporc_delta.specs.declared.shift.Shift.TheVariants.{First, Last}
use Rattle.sporc_delta.specs.Marks.{Mark, base_len, out_len, keep_marks}
use Rattle.sporc_delta.specs.Parts.{AreRuns, kept_at_end, kept_by, marks_of, runs}

-- how many characters a first part keeps
abbrev pub kept_at_start : List Part → ℕ
kept_at_start ps = kept_by (slice_get ps 0)

-- how many characters a delta keeps before its first change, and behind its last one
abbrev pub kept_first : List Mark → ℕ
kept_first ms = kept_at_start (runs ms)

abbrev pub kept_last : List Mark → ℕ
kept_last ms = kept_at_end (runs ms)

-- how many it is to keep, and how many it keeps there
abbrev pub count_of : Shift → ℕ
count_of (First n) = n
count_of (Last n) = n

abbrev pub kept_there : Shift → List Part → ℕ
kept_there (First n) ps = kept_at_start ps
kept_there (Last n) ps = kept_at_end ps

-- a delta with another count there
abbrev pub shifted : Shift → List Mark → List Mark
shifted (First n) ms = keep_marks n ++ drop (kept_first ms) ms
shifted (Last n) ms = take (length ms - kept_last ms) ms ++ keep_marks n

-- it keeps some characters there, before and after, and its texts stay short enough
pub record CanShift (shift : Shift) (ms : List Mark) : Type 0 where
  pub some : 0 < count_of shift
  pub kept : 0 < kept_there shift (runs ms)
  pub base : base_len (shifted shift ms) ≤ MAX_TEXT_LEN
  pub out : out_len (shifted shift ms) ≤ MAX_TEXT_LEN

-- the new parts are runs as the old ones are, with another count there
pub record Shifts (shift : Shift) (old new : List Part) : Type 0 where
  pub are_runs : AreRuns old → AreRuns new
  pub marks : AreRuns old → marks_of new ≡ shifted shift (marks_of old)
