-- Hands of passes, one for each of many locks, and how they are joined back.
use Rattle.std.specs.Prelude.{◌≡◌, ◌+◌, ◌^◌, ◌<◌, ◌∷◌, ℕ, zero, suc, max, List, [], map}
use Rattle.std.specs.Prelude.{Option, Some, None}
use Rattle.std.specs.List.{AllByRecursion, AllZip}
use Rattle.sporc_base.specs.Lists.{StartsWith}
use Rattle.sporc_turn.specs.declared.known.Known.{Known}
use Rattle.sporc_turn.specs.declared.pass.Pass.{Pass}
use Rattle.sporc_turn.specs.declared.turn.Turn.{Turn}
use Rattle.sporc_turn.specs.Knowing.{splitting, copied, joined_with}
use Rattle.sporc_turn.specs.Passes.{known_of, read_of, IsPassOf}
use Rattle.sporc_entry.specs.declared.genesis.Genesis.{Genesis}
use Rattle.sporc_order.specs.declared.tail.Tail.{Ghosts}
use Rattle.sporc_serve.specs.declared.desk.Desk.{Desk}
use Rattle.sporc_serve.specs.declared.item.Item.{Item}
use Rattle.sporc_serve.specs.Crowds.{IsOther}
use Rattle.sporc_serve.specs.Logs.{IsLogOf}
use Rattle.sporc_docs.specs.declared.hands.Hand.{Hand}

-- the pass of this lock with number 0
abbrev pub HasFirst : {T : Type 0} {tail : Ghosts T} → Turn (Desk T tail) Item
    → Option (Pass Item) → Type 0
HasFirst turn None = ⊥
HasFirst turn (Some p) = IsPassOf turn p × ((known_of p).number ≡ 0)

-- no pass of this lock
abbrev pub IsEmpty : {T : Type 0} {tail : Ghosts T} → Turn (Desk T tail) Item
    → Option (Pass Item) → Type 0
IsEmpty turn place = place ≡ None

-- a pass with another number of each of these locks, in their order
abbrev pub HavePasses : {T : Type 0} {tail : Ghosts T} → List (Turn (Desk T tail) Item)
    → List (Option (Pass Item)) → Type 0
HavePasses turns hand = AllZip IsOther turns hand

-- the pass of a hand at a place, if it has one
abbrev pub pass_at : ℕ → List (Option (Pass Item)) → Option (Pass Item)
pass_at i [] = None
pass_at zero (p ∷ ps) = p
pass_at (suc i) (p ∷ ps) = pass_at i ps

-- the passes of hands at a place
abbrev pub column : ℕ → List Hand → List (Option (Pass Item))
column i hands = map (λ h. pass_at i h.passes.items) hands

-- a pass was joined back to number 0
pub record JoinsPass (p q p' : Pass Item) : Type 0 where
  pub known_is : known_of p' ≡ joined_with (known_of p) (known_of q)
  pub read_is : read_of p' ≡ max (read_of p) (read_of q)
  pub first : StartsWith (known_of p').seen (known_of p).seen
  pub other : StartsWith (known_of p').seen (known_of q).seen

-- these were joined back to number 0, in their order
abbrev pub Joins : Pass Item → List (Option (Pass Item)) → Pass Item → Type 0
Joins p [] p' = p' ≡ p
Joins p (None ∷ qs) p' = ⊥
Joins p (Some q ∷ qs) p' = (mid : Pass Item) × JoinsPass p q mid × Joins mid qs p'

-- what became of number 0
abbrev pub JoinsAt : Option (Pass Item) → List (Option (Pass Item)) → Option (Pass Item) → Type 0
JoinsAt None qs new = Unit {0}
JoinsAt (Some p) qs None = ⊥
JoinsAt (Some p) qs (Some p') = Joins p qs p'

-- these were split from number 0, in their order, which knew this before and knows that after
abbrev pub Splits : Known Item → List (Option (Pass Item)) → Known Item → Type 0
Splits k [] k' = k' ≡ k
Splits k (None ∷ qs) k' = ⊥
Splits k (Some q ∷ qs) k' = (known_of q ≡ copied k) × Splits (splitting k) qs k'

-- what number 0 knows then
abbrev pub SplitsAt : Option (Pass Item) → List (Option (Pass Item)) → Option (Pass Item) → Type 0
SplitsAt None qs new = Unit {0}
SplitsAt (Some p) qs None = ⊥
SplitsAt (Some p) qs (Some p') = Splits (known_of p) qs (known_of p')

-- number 0 has room for so many splits
abbrev pub HasRoom : ℕ → Option (Pass Item) → Type 0
HasRoom n None = Unit {0}
HasRoom n (Some p) = (known_of p).splits + n < 2 ^ 32

abbrev pub HaveRoom : ℕ → List (Option (Pass Item)) → Type 0
HaveRoom n ps = AllByRecursion (HasRoom n) ps

-- what holds of each of these hands
abbrev pub AllHands : (List (Option (Pass Item)) → Type 0) → List Hand → Type 0
AllHands holds hs = AllByRecursion (λ (h : Hand). holds h.passes.items) hs

-- the log that each pass of a hand knows begins with a document
abbrev pub LogsBegin : List (Option (Pass Item)) → Type 0
LogsBegin ps = (i : ℕ) (p : Pass Item) → pass_at i ps ≡ Some p
    → (genesis : Genesis) × IsLogOf genesis (known_of p).seen
