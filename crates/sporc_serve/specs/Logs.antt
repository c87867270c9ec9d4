-- The log that the sessions of a server share: the document, and its entries with the number of
-- each one's pass.
use Rattle.std.specs.Prelude.{◌≡◌, ◌+◌, ℕ, Bool, true, false, List, [], ◌∷◌, length, map, Option}
use Rattle.std.specs.Prelude.{Some, None, Result, Ok, Err}
use Rattle.sporc_entry.specs.declared.genesis.Genesis.{Genesis}
use Rattle.sporc_head.specs.declared.refusal.Refusal.{Refusal}
use Rattle.sporc_head.specs.HeadChecks.{head_fault}
use Rattle.sporc_wire.specs.declared.to_server.ToServer.{ToServer}
use Rattle.sporc_wire.specs.declared.to_server.ToServer.TheVariants.{Hello, Submit, Pull}
use Rattle.sporc_order.specs.OrderModel.{OrderModel}
use Rattle.sporc_serve.specs.declared.item.Item.{Item}
use Rattle.sporc_serve.specs.declared.item.Item.TheVariants.{Opened, Placed}

-- the number of an item's pass
abbrev pub by_of : Item → ℕ
by_of (Opened genesis) = 0
by_of (Placed by entry) = by

-- the entries of a log
abbrev pub entries_in : List Item → List (List ℕ)
entries_in [] = []
entries_in (Opened genesis ∷ items) = entries_in items
entries_in (Placed by entry ∷ items) = entry ∷ entries_in items

-- the order of a document with the entries of a log
abbrev pub order_at : Genesis → List Item → OrderModel
order_at genesis log = record { genesis = genesis; entries = entries_in log }

-- a log begins with this document
abbrev pub IsLogOf : Genesis → List Item → Type 0
IsLogOf genesis log = (items : List Item) × (log ≡ Opened genesis ∷ items)

-- what holds of the document that a log begins with
abbrev pub OfDocument : List Item → (Genesis → Type 0) → Type 0
OfDocument log holds = (genesis : Genesis) → IsLogOf genesis log → holds genesis

-- entries with their numbers
abbrev pub placed : List ℕ → List (List ℕ) → List Item
placed [] entries = []
placed (n ∷ ns) [] = []
placed (n ∷ ns) (e ∷ es) = Placed n e ∷ placed ns es

-- the log of an order whose entries have these numbers
abbrev pub log_of : OrderModel → List ℕ → List Item
log_of order numbers = Opened order.genesis ∷ placed numbers order.entries

-- entries that one pass adds
abbrev pub placed_by : ℕ → List (List ℕ) → List Item
placed_by number entries = map (λ (entry : List ℕ). Placed number entry) entries

-- an entry, unless a check fails
abbrev pub unless_refused : List ℕ → Option Refusal → List (List ℕ)
unless_refused entry (Some refusal) = []
unless_refused entry None = entry ∷ []

-- what a message adds to an order
abbrev pub added_of : OrderModel → Bool → ToServer → List (List ℕ)
added_of o true (Submit entry) =
    unless_refused entry (head_fault o.genesis None o.entries (length o.entries + 1) entry)
added_of o true (Hello document member) = []
added_of o true (Pull from) = []
added_of o false message = []

-- what was added, if there was an answer
abbrev pub if_answered : {A E : Type 0} → Result A E → List (List ℕ) → List (List ℕ)
if_answered (Ok answer) entries = entries
if_answered (Err fault) entries = []
