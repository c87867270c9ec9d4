-- The rule of the lock: what holds of its words, its slot and all views between any two steps. Word
-- 0 is the next ticket, word 1 the ticket that is served, and word 2 the length of the log. The
-- slot has the value, or the value is out with the one view whose turn it is.
use Rattle.std.specs.Prelude.{◌≡◌, ◌≢◌, ◌⊎◌, ℕ, suc, ◌+◌, ◌<◌, ◌≤◌, Bool, true, false, List, []}
use Rattle.std.specs.Prelude.{◌∷◌, map, length, drop, Some, Contains}
use Rattle.std.specs.Prelude as std
use mathlib.Core.Option.{none, some}
use lib.ListN.{get_elem?}
use Rattle.atomic_table.specs.Table.{State}
use Rattle.sporc_base.specs.Lists.{StartsWith}
use Rattle.sporc_turn.specs.declared.limits.TheConstants.{MAX_TICKETS}
use Rattle.sporc_turn.specs.declared.known.View.{View}
use Rattle.sporc_turn.specs.declared.known.Known.{Known}
use Rattle.sporc_turn.specs.declared.known.Joined.{Joined}
use Rattle.sporc_turn.specs.Log.{own, HasNumber}

abbrev pub known : {E : Type 0} → View E → Known E
known v = v.known

abbrev pub one_if : Bool → ℕ
one_if true = 1
one_if false = 0

-- how many passes were joined to another
abbrev pub spent_of : {E : Type 0} → List (Known E) → ℕ
spent_of [] = 0
spent_of (k ∷ ks) = one_if k.spent + spent_of ks

-- what the rule says of one view's numbers. The view at `owner n` has the ticket n
pub record TicketInvariant {E : Type 0} (ticket serving watermark : ℕ) (busy : Bool) (owner : ℕ → ℕ)
    (place : ℕ) (v : View E) : Type 0 where
  pub read : v.read ≤ ticket
  pub within : v.watermark ≤ watermark
  pub waiting : v.waits ≡ true
      → (owner v.ticket ≡ place) × (serving ≤ v.ticket) × (v.ticket < ticket) × (v.turns ≡ false)
  pub turning : v.turns ≡ true
      → (owner v.ticket ≡ place) × (v.ticket ≡ serving) × (v.ticket < ticket) × (busy ≡ true)
  pub still : v.known.spent ≡ true → (v.waits ≡ false) × (v.turns ≡ false)

-- the view has this ticket
abbrev pub HasTicket : {E : Type 0} → ℕ → View E → Type 0
HasTicket n v = ((v.waits ≡ true) ⊎ (v.turns ≡ true)) × (v.ticket ≡ n)

-- the view has the value, and has seen the log and the watermark
abbrev pub HasTurn : {E : Type 0} → List E → ℕ → View E → Type 0
HasTurn log watermark v = (v.turns ≡ true) × (v.known.seen ≡ log) × (v.watermark ≡ watermark)

-- Q holds of the view at this place
abbrev pub HoldsAt : {E : Type 0} → (View E → Type 0) → List (View E) → ℕ → Type 0
HoldsAt {E} Q views place = (v : View E) × (get_elem? views place ≡ some v) × Q v

-- no pass has this number any more
abbrev pub NoLivePass : {E : Type 0} → List (Known E) → ℕ → Type 0
NoLivePass {E} ks number =
    (place : ℕ) (k : Known E) → get_elem? ks place ≡ some k → k.spent ≡ false → k.number ≢ number

module _ {E : Type 0} (by : E → ℕ) where
  module _ (start : ℕ) (log : List E) (seat : ℕ → ℕ) (splits : ℕ) where
    -- what the rule says of one pass that was not joined to another. The pass with number n is at
    -- `seat n`
    pub record KnowledgeInvariant (place : ℕ) (k : Known E) : Type 0 where
      pub starts : k.start ≡ start
      pub place_is : seat k.number ≡ place
      pub number : k.number ≤ splits
      pub sees : StartsWith log k.seen
      pub whole : start ≤ length k.seen
      pub unmatched : StartsWith log k.unmatched
      pub mine : own by k.number start log ≡ k.mine
      pub mine_seen : own by k.number start k.seen ≡ k.mine
      pub news : k.news ≤ length log

  -- what the rule says of the first pass: it counts the splits, and what it has seen has the items
  -- of each pass that it joined
  pub record IsFirst (start splits : ℕ) (joined : List (Joined E)) (k : Known E) : Type 0 where
    pub zero : k.number ≡ 0
    pub live : k.spent ≡ false
    pub splits_is : k.splits ≡ splits
    pub joined_is : k.joined ≡ joined
    pub stand : (j : Joined E) → Contains joined j → own by j.number start k.seen ≡ j.items

  -- The rule on the log, over what all passes know: each log's item after the start is of a pass
  -- that was split, each pass knows its own items, and those of a pass that was joined stay as they
  -- are
  pub record LogInvariant (start : ℕ) (log : List E) (ks : List (Known E)) : Type 0 where
    pub seat : ℕ → ℕ
    pub splits : ℕ
    pub joined : List (Joined E)
    pub first : (k : Known E) → get_elem? ks 0 ≡ some k → IsFirst start splits joined k
    pub each : (place : ℕ) (k : Known E) → get_elem? ks place ≡ some k → k.spent ≡ false
        → KnowledgeInvariant start log seat splits place k
    pub joins : (j : Joined E) → Contains joined j
        → (j.number ≤ splits) × (own by j.number start log ≡ j.items) × NoLivePass ks j.number
    pub numbered : (e : E) → Contains (drop start log) e → by e ≤ splits
    pub numbers : (n : ℕ) → n ≤ splits → ((place : ℕ) × (k : Known E)
        × (get_elem? ks place ≡ some k) × (k.spent ≡ false) × (k.number ≡ n)) ⊎ HasNumber joined n
    pub counted : length ks ≡ suc splits
    pub spents : spent_of ks ≡ length joined

  -- The rule on tickets, words and the slot, with that on the log
  pub record TurnInvariant {S : Type 0} (logs : S → List E) (watermarks : S → ℕ) (start : ℕ)
      (s : State (std.Option S) (View E)) : Type 0 where
    pub ticket : ℕ
    pub serving : ℕ
    pub busy : Bool
    pub owner : ℕ → ℕ
    pub log : List E
    pub watermark : ℕ
    pub words : s.words ≡ ticket ∷ serving ∷ length log ∷ []
    pub in_order : serving ≤ ticket
    pub bounded : ticket ≤ MAX_TICKETS
    pub each : (place : ℕ) (v : View E) → get_elem? s.views place ≡ some v
        → TicketInvariant ticket serving watermark busy owner place v
    pub drawn : (n : ℕ) → serving ≤ n → n < ticket → HoldsAt (HasTicket n) s.views (owner n)
    pub holder : busy ≡ true → HoldsAt (HasTurn log watermark) s.views (owner serving)
    pub out : busy ≡ true → s.homes ≡ none ∷ []
    pub home : busy ≡ false
        → (x : S) × (s.homes ≡ some (Some x) ∷ []) × (logs x ≡ log) × (watermarks x ≡ watermark)
    pub shared : LogInvariant start log (map known s.views)
