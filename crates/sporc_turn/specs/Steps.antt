-- What a view becomes at each kind of step, and what the step tells its caller. `m` is the view
-- with the slots that its seat has, before the step, `n` after it, and `r` the number that the step
-- found.
use Rattle.std.specs.Prelude.{◌≡◌, ◌≢◌, ℕ, ◌≤◌, max, true, false, List, [], ◌∷◌, length, Some}
use Rattle.std.specs.Prelude as std
use Rattle.atomic_table.specs.Table.{Me}
use Rattle.sporc_base.specs.Lists.{StartsWith}
use Rattle.sporc_turn.specs.declared.limits.TheConstants.{MAX_TICKETS}
use Rattle.sporc_turn.specs.declared.known.View.{View}
use Rattle.sporc_turn.specs.Log.{Agrees}
use Rattle.sporc_turn.specs.Knowing.{first_known, seeing, adding, hearing, splitting, copied}
use Rattle.sporc_turn.specs.Knowing.{joining, matched, nothing_known}

module _ {E : Type 0} where
  -- the first view
  abbrev pub newcomer : List E → ℕ → View E
  newcomer log watermark = record {
    waits = false;
    turns = false;
    ticket = 0;
    read = 0;
    watermark = watermark;
    known = first_known log;
  }

  -- the next ticket was read
  abbrev pub reading : View E → ℕ → View E
  reading v next = record v { read = next }

  -- a ticket was drawn
  abbrev pub drawing : View E → ℕ → View E
  drawing v ticket = record v { waits = true; turns = false; ticket = ticket }

  -- the turn came, with this log and this watermark
  abbrev pub serving : View E → List E → ℕ → View E
  serving v log watermark =
      record v { waits = false; turns = true; watermark = watermark; known = seeing v.known log }

  -- log and watermark grew to these
  abbrev pub raising : View E → List E → ℕ → View E
  raising v log watermark = record v { watermark = watermark; known = adding v.known log }

  -- the turn was passed on
  abbrev pub idling : View E → View E
  idling v = record v { waits = false; turns = false; ticket = 0 }

  -- a split: the view that stays, and the new one
  abbrev pub left_of_split : View E → View E
  left_of_split v = record v { known = splitting v.known }

  abbrev pub right_of_split : View E → View E
  right_of_split v = record {
    waits = false;
    turns = false;
    ticket = 0;
    read = v.read;
    watermark = v.watermark;
    known = copied v.known;
  }

  -- a join: the view of both, and the spent one
  abbrev pub of_both : View E → View E → View E
  of_both v w = record v {
    read = max v.read w.read;
    watermark = max v.watermark w.watermark;
    known = joining v.known w.known;
  }

  abbrev pub spent_view : View E
  spent_view = record {
    waits = false;
    turns = false;
    ticket = 0;
    read = 0;
    watermark = 0;
    known = nothing_known;
  }

module _ {S E : Type 0} (m : Me (std.Option S) (View E)) where
  -- the next ticket was read, which is none below the one that was read before
  abbrev pub ReadsTicket : ℕ → Me (std.Option S) (View E) → Type 0
  ReadsTicket r n = (n ≡ (reading m.0 r, m.1)) × (m.0.read ≤ r) × (r ≤ MAX_TICKETS)

  -- the ticket was drawn, if it was still the next
  abbrev pub DrawsTicket : ℕ → ℕ → Me (std.Option S) (View E) → Type 0
  DrawsTicket ticket r n = (r ≡ ticket → n ≡ (drawing m.0 ticket, m.1)) × (r ≢ ticket → n ≡ m)

  -- a value whose log agrees with what the pass knows, and is no shorter than its news, and whose
  -- watermark is none below the one that the pass saw last, is out with the seat
  abbrev pub TakesOut : (S → List E) → (S → ℕ) → (E → ℕ) → Me (std.Option S) (View E) → Type 0
  TakesOut logs watermarks by n = (x : S)
      × (n ≡ (serving m.0 (logs x) (watermarks x), (0, Some x) ∷ m.1))
      × Agrees by m.0.known (logs x) × (m.0.known.news ≤ length (logs x))
      × (m.0.watermark ≤ watermarks x)

  -- the value is taken out, if the ticket is served
  abbrev pub ReadsServing : (S → List E) → (S → ℕ) → (E → ℕ) → ℕ → Me (std.Option S) (View E)
      → Type 0
  ReadsServing logs watermarks by r n =
      (r ≡ m.0.ticket → TakesOut logs watermarks by n) × (r ≢ m.0.ticket → n ≡ m)

  -- log and watermark are those of the value which the seat has
  abbrev pub RaisesCount : (S → List E) → (S → ℕ) → (E → ℕ) → Me (std.Option S) (View E) → Type 0
  RaisesCount logs watermarks by n = (x : S) → m.1 ≡ (0, Some x) ∷ []
      → (n ≡ (raising m.0 (logs x) (watermarks x), m.1))
      × Agrees by (adding m.0.known (logs x)) (logs x)

  -- the value is home, and the turn was passed on
  abbrev pub PassesServing : Me (std.Option S) (View E) → Type 0
  PassesServing n = n ≡ (idling m.0, [])

  -- the length of the log was read
  abbrev pub ReadsCount : ℕ → Me (std.Option S) (View E) → Type 0
  ReadsCount r n = (n ≡ (record m.0 { known = hearing m.0.known r }, m.1))
      × (length m.0.known.seen ≤ r) × (m.0.known.news ≤ r)

  -- both lists that were seen are prefixes of one log, and the longer one agrees with what the pass
  -- knows
  abbrev pub Compares : (E → ℕ) → Me (std.Option S) (View E) → Type 0
  Compares by n = (n ≡ (record m.0 { known = matched m.0.known }, m.1))
      × (length m.0.known.unmatched ≤ length m.0.known.seen
      → StartsWith m.0.known.seen m.0.known.unmatched)
      × Agrees by (matched m.0.known) m.0.known.seen
      × (m.0.known.number ≡ 0 → length m.0.known.joined ≤ m.0.known.splits)
