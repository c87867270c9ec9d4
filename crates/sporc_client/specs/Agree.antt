-- What all clients of a run agree on: the headline.
use Rattle.std.specs.Prelude.{◌≡◌, ◌↔◌, ℕ, ◌+◌, ◌≤◌, true, false, List, [], ◌++◌, take, Some}
use Rattle.std.specs.Prelude.{IsSome, IsSomeAnd, Contains, Ok, slice_get}
use Rattle.lms_tree.specs.LmsPublic.{public_key_in}
use Rattle.lms_tree.specs.Verification.{verifies}
use Rattle.sporc_hash.specs.Strings.{CollisionFree}
use Rattle.sporc_member.specs.declared.device.Device.{Device}
use Rattle.sporc_member.specs.Roster.{key_of as live_key_of, member_at}
use Rattle.sporc_entry.specs.declared.entry.Entry.{Entry}
use Rattle.sporc_entry.specs.declared.genesis.Genesis.{Genesis}
use Rattle.sporc_entry.specs.Entry.{author_device, entry_of, signed_string}
use Rattle.sporc_entry.specs.Version.{version_of}
use Rattle.sporc_head.specs.declared.refusal.Refusal.{Refusal}
use Rattle.sporc_head.specs.HeadChecks.{allows as role_allows}
use Rattle.sporc_head.specs.History.{changes, count_of, epoch_of, hash_of, roster_of}
use Rattle.sporc_line.specs.Commitments.{commitment_after as commitment}
use Rattle.sporc_line.specs.Keys.{epoch_key}
use Rattle.sporc_line.specs.Kit.{Kit}
use Rattle.sporc_line.specs.LineChecks.{first_fault}
use Rattle.sporc_line.specs.LineStrings.{line_strings}
use Rattle.sporc_line.specs.Operations.{operations}
use Rattle.sporc_client.specs.declared.fault.AcceptFault.TheVariants.{Refused}
use Rattle.sporc_client.specs.PlainClient.{PlainClient, committed_of, shown_of}
use Rattle.sporc_client.specs.Answers.{accept_fault, is_out}
use Rattle.sporc_client.specs.Run.{Setup, Signing, Move, Give, start, after, after_all, world_at}
use Rattle.sporc_client.specs.Run.{IsAt}
use Rattle.sporc_client.specs.Genuine.{Genuine, HasSigned, IsUnderKeyOf}

-- what a client reads off its history
abbrev pub reading : {A : Type 0} → PlainClient → (Genesis → Kit → List (List ℕ) → A) → A
reading c of = of c.opening.genesis c.opening.kit c.entries

-- no two different strings that are hashed for two clients' histories have one digest
abbrev pub NoCollision : PlainClient → PlainClient → Type 0
NoCollision c d = CollisionFree (reading c line_strings ++ reading d line_strings)

-- two clients hold one history, and what follows from it; with nothing pending they show one text
pub record SameHistoryAndText (c d : PlainClient) : Type 0 where
  pub entries : c.entries ≡ d.entries
  pub operations : reading c operations ≡ reading d operations
  pub members : roster_of c.opening.genesis c.entries ≡ roster_of d.opening.genesis d.entries
  pub text : committed_of c ≡ committed_of d
  pub shown : c.pending ≡ [] → d.pending ≡ [] → shown_of c ≡ shown_of d

-- behind the first x entries of a history stand these bytes, which are this entry
pub record StandsBehind (x : ℕ) (es : List (List ℕ)) (bytes : List ℕ) (e : Entry) : Type 0 where
  pub at : slice_get es x ≡ Some bytes
  pub reads : entry_of bytes ≡ Ok e

-- an entry behind these ones: its version, its author's right and key there, and its number
pub record IsRightful (s : Setup) (before : List (List ℕ)) (e : Entry) : Type 0 where
  pub version : e.header.version ≡ version_of (roster_of s.genesis before).upgraded
  pub role : IsSomeAnd (member_at (roster_of s.genesis before) e.header.author)
      (λ m. role_allows m.role e.header.kind ≡ true)
  pub signature : IsSomeAnd (live_key_of (roster_of s.genesis before) (author_device e.header))
      (λ k. IsSomeAnd (public_key_in k) (λ key. verifies key (signed_string e) e.signature ≡ true))
  pub number : e.header.number ≡ count_of (author_device e.header) before + 1

module _ (s : Setup) (moves : List Move) where
  -- a client that a device of the run had at some moment
  abbrev pub IsClient : PlainClient → Type 0
  IsClient c = (n : ℕ) × (who : Device) × IsAt s moves n who c

  pub record Agree : Type 0 where
    -- clients with one history hash hold the same
    pub one_history : (c d : PlainClient) → IsClient c → IsClient d → NoCollision c d
        → hash_of s.genesis c.entries ≡ hash_of s.genesis d.entries → SameHistoryAndText c d
    -- clients that no change removed hold one key of an epoch, if their histories commit to one
    pub one_key : (c d : PlainClient) (e : ℕ) → IsClient c → IsClient d → NoCollision c d
        → is_out c ≡ false → is_out d ≡ false → e ≤ epoch_of c.entries → e ≤ epoch_of d.entries
        → commitment s.genesis (changes c.entries) e ≡ commitment s.genesis (changes d.entries) e
        → IsSomeAnd (reading c epoch_key e) (λ key. reading d epoch_key e ≡ Some key)
    -- clients that accepted one entry agree up to its base
    pub one_base : (c d : PlainClient) (x y : ℕ) (b : List ℕ) (e : Entry) → IsClient c → IsClient d
        → NoCollision c d → StandsBehind x c.entries b e → StandsBehind y d.entries b e
        → take e.header.base c.entries ≡ take e.header.base d.entries
    -- and on all that its author had committed when it signed, if that was a client of the run
    pub authors_base : (c : PlainClient) (x : ℕ) (made : Signing) (e : Entry) → IsClient c
        → Contains (after_all s start moves).signed made → NoCollision c made.client
        → StandsBehind x c.entries made.entry e → made.client.entries ≡ take e.header.base c.entries
    -- every accepted entry verifies under its author's key there, in order, by a right held there
    pub in_order : (c : PlainClient) (x : ℕ) (bytes : List ℕ)
        → IsClient c → slice_get c.entries x ≡ Some bytes
        → (e : Entry) × StandsBehind x c.entries bytes e × IsRightful s (take x c.entries) e
    -- once per history
    pub once_each : (c : PlainClient) (x y : ℕ) (b b' : List ℕ) (e e' : Entry) → IsClient c
        → StandsBehind x c.entries b e → StandsBehind y c.entries b' e'
        → author_device e.header ≡ author_device e'.header
        → e.header.number ≡ e'.header.number → x ≡ y
    -- if no one forges, an entry under a key of the run was signed by then, by its author, with it
    pub by_signer : Genuine s moves → (n x : ℕ) (who owner : Device) (c : PlainClient)
        (bytes : List ℕ) (e : Entry) → IsAt s moves n who c → StandsBehind x c.entries bytes e
        → IsUnderKeyOf s owner (take x c.entries) e
        → HasSigned s (world_at s moves n) owner (author_device e.header) bytes
    -- what a client refuses by `accept` it refuses for the first check that fails
    pub refuses : (c : PlainClient) (position : ℕ) (bytes : List ℕ) (refusal : Refusal) → IsClient c
        → (accept_fault c position bytes ≡ Some (Refused refusal))
        ↔ (first_fault s.genesis c.opening.kit c.entries position bytes ≡ Some refusal)
    -- and bytes that it doesn't accept change no client
    pub unchanged : (n position : ℕ) (who : Device) (c : PlainClient) (bytes : List ℕ)
        → IsAt s moves n who c → IsSome (accept_fault c position bytes) → (other : Device)
        → (after s (world_at s moves n) (Give who position bytes)).clients other
        ≡ (world_at s moves n).clients other
