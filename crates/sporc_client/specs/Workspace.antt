-- What contracts see of a client's own part: all but its history and its signer.
use Rattle.std.specs.Prelude.{◌≡◌, ℕ, ◌≤◌, List, length, Option}
use Rattle.sporc_delta.specs.Marks.{Mark}
use Rattle.sporc_client.specs.declared.event.Event.{Event}
use Rattle.sporc_client.specs.declared.limits.TheConstants.{MAX_EVENTS}
use Rattle.sporc_client.specs.declared.pending.Pending.{Pending}

-- the pending items, the entry on its way, the shown deltas, the journal, and how many more events
-- and items take no memory
pub record WorkspaceModel : Type 0 where
  pub pending : List Pending
  pub flight : Option (List ℕ)
  pub shown : List (List Mark)
  pub journal : List Event
  pub spare : ℕ

-- there is a shown delta for each event, and not too many
pub record WorkspaceInvariant (base : ℕ) (shown : List (List Mark))
    (journal : List Event) : Type 0 where
  pub base_is : base ≡ 0
  pub each : length shown ≡ length journal
  pub few : length journal ≤ MAX_EVENTS

-- they say the same, and may have room for other numbers of events and items
pub record SameOwn (own own' : WorkspaceModel) : Type 0 where
  pub pending : own'.pending ≡ own.pending
  pub flight : own'.flight ≡ own.flight
  pub shown : own'.shown ≡ own.shown
  pub journal : own'.journal ≡ own.journal
