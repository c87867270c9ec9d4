-- A client at a glance, whose it is, and the key for an entry.
use Rattle.std.specs.Prelude.{◌≡◌, ◌≤◌, ℕ, List, Option, length}
use Rattle.sporc_delta.specs.declared.limits.TheConstants.{MAX_COUNT}
use Rattle.sporc_head.specs.declared.limits.TheConstants.{MAX_ENTRIES}
use Rattle.sporc_head.specs.Examined.{key_for}
use Rattle.sporc_head.specs.History.{hash_of, roster_of}
use Rattle.sporc_client.specs.Answers.{is_out}
use Rattle.sporc_client.specs.PlainClient.{shown_after, shown_of}
use Rattle.sporc_shared.specs.declared.look.Look.{Look}
use Rattle.sporc_shared.specs.declared.membership.Membership.{Membership}
use Rattle.sporc_shared.specs.Items.{Past, client_of}

-- what is seen of a client with this past
pub record IsLookAt (past : Past) (look : Look) : Type 0 where
  pub at : look.at ≡ length (client_of past).entries
  pub few : look.at ≤ MAX_ENTRIES
  pub pending : look.pending ≡ length (client_of past).pending
  pub len : look.len ≡ length (shown_of (client_of past))
  -- and so long is the text on which an edit is stated that names the front after all events
  pub front : look.len ≡ length (shown_after (length past.log) (client_of past))
  pub short : look.len ≤ MAX_COUNT
  pub hash : look.hash ≡ hash_of past.opening.genesis (client_of past).entries
  pub removed : look.removed ≡ is_out (client_of past)

-- whose a client with this past is
abbrev pub membership_of : Past → Membership
membership_of past =
    record { document = past.opening.genesis.document; member = past.opening.kit.me.member }

-- the key that the check of an entry's signature uses at a client with this past
abbrev pub key_at : Past → List ℕ → Option (List ℕ)
key_at past entry = key_for (roster_of past.opening.genesis (client_of past).entries) entry
