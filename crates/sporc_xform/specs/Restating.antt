-- What a delta becomes behind another: itself with another count at one of its ends, or a new
-- delta.
use Rattle.std.specs.Prelude.{◌≡◌, ℕ, ◌+◌, ◌<◌, ◌≤◌, List, ⊤}
use Rattle.sporc_delta.specs.Marks.{Mark, base_len, out_len}
use Rattle.sporc_delta.specs.declared.shift.Shift.{Shift}
use Rattle.sporc_delta.specs.Shifts.{CanShift, kept_first, kept_last, shifted}
use Rattle.sporc_delta.specs.Transforms.{earlier, later}
use Rattle.sporc_xform.specs.declared.restating.Passed.{Passed}
use Rattle.sporc_xform.specs.declared.restating.Passed.TheVariants.{New, Shifted}

abbrev pub became : Passed → List Mark → List Mark
became (Shifted shift) ms = shifted shift ms
became (New delta) ms = delta

-- a delta can become so
abbrev pub CanBecome : Passed → List Mark → Type 0
CanBecome (Shifted shift) ms = CanShift shift ms
CanBecome (New delta) ms = ⊤

-- the changes of two deltas over one text meet: neither's all stand before the other's with a
-- character between that both keep
pub record Meet (p q : List Mark) : Type 0 where
  pub first : kept_last p + kept_first q ≤ base_len p
  pub second : kept_last q + kept_first p ≤ base_len q

-- a count that moves by what the other delta adds or removes
pub record IsMoved (kept n : ℕ) (other : List Mark) : Type 0 where
  pub some : 0 < n
  pub kept_some : 0 < kept
  pub moved : n + base_len other ≡ kept + out_len other

-- this shift of q, ordered later, restates it behind p
pub record ShiftsLater (shift : Shift) (q p : List Mark) : Type 0 where
  pub value : shifted shift q ≡ later q p
  pub fits : CanShift shift q

-- this shift of p, ordered earlier, restates it behind q
pub record ShiftsEarlier (shift : Shift) (p q : List Mark) : Type 0 where
  pub value : shifted shift p ≡ earlier p q
  pub fits : CanShift shift p
