-- The keys of epochs, as a member reads them off a history.
use Rattle.std.specs.Prelude.{ℕ, suc, zero, List, take, Option, None, Some, if◌then◌else◌}
use Rattle.std.specs.Prelude.{is_some, map, slice_get}
use Rattle.std.specs.FinMap.{get}
use Rattle.sporc_member.specs.Roster.{member_at, removes, roster_after}
use Rattle.sporc_entry.specs.declared.genesis.Genesis.{Genesis}
use Rattle.sporc_epoch.specs.Streams.{stream_of}
use Rattle.sporc_epoch.specs.Wraps.{wrap_opened}
use Rattle.sporc_head.specs.History.{CommittedChange, changes}
use Rattle.sporc_line.specs.Kit.{Kit}

-- the key of epoch e, which a change starts; `committed` are the changes up to that one
unfoldable pub key_started : Genesis → Kit → List CommittedChange → ℕ → Option CommittedChange
    → Option (List ℕ)
key_started genesis kit committed e None = None
key_started genesis kit committed e (Some c) =
    if removes kit.me c.body.change then None
    else if is_some
    (member_at (roster_after genesis.founders (map (λ c. c.body.change) committed)) kit.me.member)
    then wrap_opened c.body c.header.author (stream_of c.header) kit.me.member kit.pairs
    else get kit.ring e

-- the key of epoch e after changes: that of epoch 0 is given, each later one is read off the change
-- that starts it
unfoldable pub key_after : Genesis → Kit → List CommittedChange → ℕ → Option (List ℕ)
key_after genesis kit committed zero = get kit.ring 0
key_after genesis kit committed (suc e) =
    key_started genesis kit (take (suc e) committed) (suc e) (slice_get committed e)

-- the key of epoch e of a history
abbrev pub epoch_key : Genesis → Kit → List (List ℕ) → ℕ → Option (List ℕ)
epoch_key genesis kit entries e = key_after genesis kit (changes entries) e
