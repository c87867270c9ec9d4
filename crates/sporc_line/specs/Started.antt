-- The key of the epoch that a change starts, by the change's wraps.
use Rattle.std.specs.Prelude.{ℕ, ◌==◌, List, Option, None, if◌then◌else◌}
use Rattle.std.specs.FinMap.{get}
use Rattle.std.specs.List.{list_any}
use Rattle.sporc_member.specs.declared.device.Device.{Device}
use Rattle.sporc_member.specs.Roster.{removes}
use Rattle.sporc_entry.specs.declared.change.ChangeBody.{ChangeBody}
use Rattle.sporc_entry.specs.declared.header.Header.{Header}
use Rattle.sporc_epoch.specs.Keys.{Keys}
use Rattle.sporc_epoch.specs.Streams.{stream_of}
use Rattle.sporc_epoch.specs.Wraps.{wrap_opened}
use Rattle.sporc_line.specs.Kit.{Kit}

-- the key that a change starts, where its wraps name the members after it: a member finds its own
-- wrap with the keys that it shares, and a joiner to come finds none and has a hint
abbrev pub started_key : Device → Keys → Option (List ℕ) → Header → ChangeBody → Option (List ℕ)
started_key me pairs hint h c =
    if removes me c.change then None
    else if list_any (λ w. w.member == me.member) c.wraps
    then wrap_opened c h.author (stream_of h) me.member pairs
    else hint

-- the same of a kit, whose ring has the hint
abbrev pub key_by_wraps : Kit → ℕ → Header → ChangeBody → Option (List ℕ)
key_by_wraps kit e h c = started_key kit.me kit.pairs (get kit.ring e) h c
