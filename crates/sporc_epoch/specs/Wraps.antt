-- The sealed keys of a change, opened.
use Rattle.std.specs.Prelude.{ℕ, ◌==◌, List, Option, option_and_then, option_map, find}
use Rattle.std.specs.FinMap.{get}
use Rattle.sporc_cipher.specs.Mask.{mask_of}
use Rattle.sporc_entry.specs.declared.change.ChangeBody.{ChangeBody}
use Rattle.sporc_entry.specs.declared.wrap.Wrap.{Wrap}
use Rattle.sporc_epoch.specs.Keys.{Keys}
use Rattle.sporc_epoch.specs.Streams.{previous_stream}

-- the first wrap for a member
abbrev pub wrap_for : ℕ → List Wrap → Option Wrap
wrap_for member wraps = find (λ w. w.member == member) wraps

-- a wrap opened under a pairwise key, where there is one
abbrev pub opened_under : ℕ → Option (List ℕ) → Wrap → Option (List ℕ)
opened_under stream pair wrap = option_map (λ key. mask_of key stream wrap.sealed) pair

-- the new key of a change, by its author, its entry's stream and a member's pairwise keys, from the
-- first wrap for the member
unfoldable pub wrap_opened : ChangeBody → ℕ → ℕ → ℕ → Keys → Option (List ℕ)
wrap_opened body author stream me pairs =
    option_and_then (opened_under stream (get pairs author)) (wrap_for me body.wraps)

-- the key of the epoch before this one, which a change ends, under the key of the epoch that it
-- starts
unfoldable pub previous_opened : ChangeBody → ℕ → List ℕ → List ℕ
previous_opened body epoch key = mask_of key (previous_stream epoch) body.previous
