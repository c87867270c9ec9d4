-- What the fields of a pass and of a holder say of their seat.
use Rattle.std.specs.Prelude.{◌≡◌, ◌==◌, ◌<◌, ℕ, Bool, true, false, List, [], ◌∷◌, length, Some}
use Rattle.std.specs.Prelude.{None}
use Rattle.std.specs.Prelude as std
use Rattle.atomic_table.specs.declared.badge.Badge.{Badge}
use Rattle.sporc_turn.specs.declared.limits.TheConstants.{MAX_TICKETS}
use Rattle.sporc_turn.specs.declared.known.View.{View}
use Rattle.sporc_turn.specs.declared.known.Known.{Known}
use Rattle.sporc_turn.specs.declared.numbers.Numbers.{Numbers}
use Rattle.sporc_turn.specs.Steps.{spent_view}

-- the view of a badge, which has one
abbrev pub first_view : {E : Type 0} → List (View E) → View E
first_view [] = spent_view
first_view (v ∷ vs) = v

abbrev pub view_of : {E : Type 0} → Badge (View E) → View E
view_of b = first_view b.views

-- it has no ticket
abbrev pub IsIdle : {E : Type 0} → View E → Type 0
IsIdle v = (v.waits ≡ false) × (v.turns ≡ false) × (v.known.spent ≡ false)

-- its turn has come, and the value is out with it
abbrev pub IsOut : {E : Type 0} → View E → Type 0
IsOut v = (v.waits ≡ false) × (v.turns ≡ true) × (v.known.spent ≡ false) × (v.ticket < MAX_TICKETS)

-- the numbers are those that the pass knows
abbrev pub Counts : {E : Type 0} → Numbers → Known E → Type 0
Counts n k = (n.number ≡ k.number) × (n.splits ≡ k.splits) × (n.joined ≡ length k.joined)

-- the seat has slot 0, which holds nothing
abbrev pub has_room : {S : Type 0} → List (ℕ × std.Option S) → Bool
has_room [] = false
has_room ((k, None) ∷ []) = k == 0
has_room ((k, Some x) ∷ []) = false
has_room (c ∷ d ∷ cs) = false
