-- Entries that members sign by this program, and clients that can receive them.
use Rattle.std.specs.Prelude.{◌≡◌, ℕ, ◌+◌, ◌<◌, Bool, true, false, List, ◌++◌, length, is_some}
use Rattle.std.specs.Prelude.{None, Some, IfSome}
use Rattle.std.specs.FinMap.{get}
use Rattle.std.specs.List.{AllByRecursion}
use Rattle.sporc_base.specs.Bytes.{IsBytes}
use Rattle.lms_tree.specs.LmsPrivate.{lms_public_of}
use Rattle.lms_tree.specs.LmsPublic.{public_key_bytes}
use Rattle.sporc_member.specs.declared.device.Device.{Device}
use Rattle.sporc_member.specs.Roster.{after_change, key_of, member_at, removes}
use Rattle.sporc_epoch.specs.Streams.{stream_of}
use Rattle.sporc_head.specs.declared.limits.TheConstants.{MAX_ENTRIES}
use Rattle.sporc_head.specs.History.{CommittedChange, change_in, epoch_of, is_by, is_removed}
use Rattle.sporc_head.specs.History.{roster_of}
use Rattle.sporc_client.specs.Agree.{NoCollision}
use Rattle.sporc_client.specs.Allowed.{can_log, new_key_of}
use Rattle.sporc_client.specs.Answers.{refusal_of}
use Rattle.sporc_client.specs.Log.{Submit}
use Rattle.sporc_client.specs.PlainClient.{PlainClient, me_of}

-- a client's device is a live one of its history, under the public key of the client's private key
abbrev pub HasOwnKey : PlainClient → Type 0
HasOwnKey c = key_of (roster_of c.opening.genesis c.entries) (me_of c)
    ≡ Some (public_key_bytes (lms_public_of c.opening.key))

-- a client submits an entry under its own key
pub record SubmitsUnderOwnKey (c : PlainClient) (by : ℕ) (bytes : List ℕ) : Type 0 where
  pub allowed : can_log c (Submit by bytes) ≡ true
  pub typed : IsBytes bytes
  pub key : HasOwnKey c

-- an edit by another than this device
pub record IsOthersEdit (author : Device) (bytes : List ℕ) : Type 0 where
  pub edit : change_in bytes ≡ None
  pub others : is_by author bytes ≡ false

-- whether a member of a client's number is one after a change that another client makes
abbrev pub is_member_after : PlainClient → CommittedChange → PlainClient → Bool
is_member_after c change d = is_some (member_at
    (after_change (roster_of c.opening.genesis c.entries) change.body.change) (me_of d).member)

-- a client can come to know the key that a change of another starts: as a member by the pairwise
-- key that both hold, and as one that is no member by a hint
pub record CanLearnKey (c d : PlainClient) (change : CommittedChange) : Type 0 where
  pub paired : is_member_after c change d ≡ true
      → get d.opening.kit.pairs (me_of c).member ≡ get c.opening.kit.pairs (me_of d).member
  pub hinted : is_member_after c change d ≡ false → get d.opening.kit.ring (epoch_of c.entries + 1)
      ≡ Some (new_key_of c.opening.kit.pairs (stream_of change.header) (Some change.body))

-- the second client holds the history of the first, followed only by edits of others; it has room
-- and isn't removed, and it can learn the key of a change, unless that removes it or drops its
-- device
pub record CanReceive (c d : PlainClient) (bytes : List ℕ) : Type 0 where
  pub edits : List (List ℕ)
  pub history : d.entries ≡ c.entries ++ edits
  pub others : AllByRecursion (IsOthersEdit (me_of c)) edits
  pub room : length d.entries < MAX_ENTRIES
  pub not_removed : is_removed (me_of d) d.entries ≡ false
  pub key : IfSome (change_in bytes)
      (λ change. removes (me_of d) change.body.change ≡ false → CanLearnKey c d change)
  pub free : NoCollision c d

-- each entry that the first submits under its own key passes all checks of the second, if that can
-- receive it
abbrev pub EntriesPass : PlainClient → PlainClient → Type 0
EntriesPass c d = (by : ℕ) (bytes : List ℕ) → SubmitsUnderOwnKey c by bytes
    → CanReceive c d bytes → refusal_of d (length d.entries + 1) bytes ≡ None
