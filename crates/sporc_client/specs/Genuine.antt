-- When no one forges: what is accepted under a key of the run, a client with that key signed.
use Rattle.std.specs.Prelude.{◌≡◌, ℕ, suc, List, [], ◌∷◌, ◌++◌, Some, Contains, Ok}
use Rattle.sporc_member.specs.declared.device.Device.{Device}
use Rattle.sporc_member.specs.Roster.{key_of}
use Rattle.sporc_entry.specs.declared.entry.Entry.{Entry}
use Rattle.sporc_entry.specs.Entry.{author_device, entry_of}
use Rattle.sporc_head.specs.History.{roster_of}
use Rattle.sporc_client.specs.PlainClient.{PlainClient}
use Rattle.sporc_client.specs.Run.{Setup, Signing, World, Move, IsAt, key_of_device, world_at}

-- behind these entries the entry's author has the key of this device of the run
pub record IsUnderKeyOf (s : Setup) (owner : Device) (es : List (List ℕ)) (e : Entry) : Type 0 where
  pub of_run : Contains s.devices owner
  pub key : key_of (roster_of s.genesis es) (author_device e.header) ≡ Some (key_of_device s owner)

-- a client of the signer signed the entry, under the key of the owner
pub record HasSigned (s : Setup) (w : World) (owner signer : Device) (bytes : List ℕ) : Type 0 where
  pub signing : Signing
  pub signed : Contains w.signed signing
  pub by : signing.who ≡ signer
  pub entry : signing.entry ≡ bytes
  pub key : key_of_device s signer ≡ key_of_device s owner

-- each entry that a move adds to a client's history, under such a key, was signed under it
abbrev pub Genuine : Setup → List Move → Type 0
Genuine s moves = (n : ℕ) (who : Device) (c d : PlainClient) (bytes : List ℕ)
    → IsAt s moves n who c → IsAt s moves (suc n) who d → d.entries ≡ c.entries ++ bytes ∷ []
    → (owner : Device) (e : Entry) → entry_of bytes ≡ Ok e → IsUnderKeyOf s owner c.entries e
    → (signer : Device) × HasSigned s (world_at s moves n) owner signer bytes
