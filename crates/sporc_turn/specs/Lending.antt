-- What a held value lends.
use Rattle.std.specs.Borrow.{Lends, MutBor, Fml}
use denote.RattleType.{RattleType}
use Rattle.sporc_turn.specs.declared.kept.Kept.{Ghosts}
use Rattle.sporc_turn.specs.declared.held.Held.{Held}
use Rattle.sporc_turn.specs.contracts.held.Held.{the_row}

-- a held turn with another value
abbrev pub with_value : {S E : Type 0} {g : Ghosts S E} → Held S E g → S → Held S E g
with_value h w = record h { value = w }

-- what is written through the result is the value that is held afterwards
abbrev pub LendsValue : (R T : RattleType) (g : Ghosts R.Denot T.Denot)
    → MutBor (Held R.Denot T.Denot g) → MutBor R.Denot → Fml
LendsValue R T g h r = Lends (the_row R T g) R h r (with_value h.now)
