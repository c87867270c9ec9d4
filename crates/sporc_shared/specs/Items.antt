-- The log of a shared client: what it was opened with, and then its events.
use Rattle.std.specs.Prelude.{◌≡◌, ◌⊎◌, ℕ, List, ◌∷◌, ◌++◌, map, true, refl}
use Rattle.std.specs.Coded.{Coded, code_by, coded×, coded⊎, coded_ℕ}
use Rattle.std.proofs.Common.{inl, inr}
use Rattle.std.specs.declared.convert.Infallible.{Infallible}
use Rattle.sporc_outside.specs.LeafDisk.{DiskTold}
use Rattle.sporc_client.specs.Allowed.{is_allowed}
use Rattle.sporc_client.specs.ClientModel.{ClientModel, first_leaf_of}
use Rattle.sporc_client.specs.Codes.{logged_code, opening_code}
use Rattle.sporc_client.specs.Log.{Logged, by_of as maker_of}
use Rattle.sporc_client.specs.PlainClient.{Opening, PlainClient}
use Rattle.sporc_client.specs.Step.{replay}

pub data Item : Type 0 where
  -- what the client was opened with, and the first leaf number that it can draw
  Opened : Opening → (first_leaf : ℕ) → Item
  -- an event of its journal
  Happened : Logged → Item

-- the number of the pass that added an item
abbrev pub by_of : Item → ℕ
by_of (Opened opening first_leaf) = 0
by_of (Happened event) = maker_of event

-- a client so far: what it was opened with, the first leaf number that it could draw, and its
-- events
pub record Past : Type 0 where
  pub opening : Opening
  pub first_leaf : ℕ
  pub log : List Logged

abbrev pub past_of : {D : Type 0} → ClientModel D → Past
past_of c = record { opening = c.opening; first_leaf = first_leaf_of c; log = c.log }

-- how many faults the disk of its leaves counted
abbrev pub disk_faults : {D : Type 0} → (D → DiskTold) → ClientModel D → ℕ
disk_faults disk_told c = (disk_told c.leaves.disk).faults

-- its log
abbrev pub items_of : Past → List Item
items_of p = Opened p.opening p.first_leaf ∷ map Happened p.log

-- with these events more
abbrev pub with_events : Past → List Logged → Past
with_events p events = record p { log = p.log ++ events }

-- the client that it led to
abbrev pub client_of : Past → PlainClient
client_of p = replay p.opening p.log

-- each of its events is one that the client's own calls make there
abbrev pub IsAllowed : Past → Type 0
IsAllowed p = is_allowed p.opening p.log ≡ true

-- ---- items as values: none is ever made

abbrev pub item_of : Infallible → Item
item_of never = elim never [ ]

abbrev pub item_parts : Item → (Opening × ℕ) ⊎ Logged
item_parts (Opened opening first_leaf) = inl (opening, first_leaf)
item_parts (Happened event) = inr event

abbrev pub item_of_parts : (Opening × ℕ) ⊎ Logged → Item
item_of_parts (inl p) = Opened p.0 p.1
item_of_parts (inr event) = Happened event

pub item_again : (i : Item) → item_of_parts (item_parts i) ≡ i
item_again (Opened opening first_leaf) = refl
item_again (Happened event) = refl

-- the code by which proofs tell items apart
abbrev pub item_code : Coded Item
item_code = code_by ((Opening × ℕ) ⊎ Logged)
    (coded⊎ (coded× opening_code coded_ℕ) logged_code) item_parts item_of_parts item_again
