-- What a change seals: the key of the epoch that it ends and, for each member after it, the key of
-- the one that it starts.
use Rattle.std.specs.Prelude.{◌≡◌, ℕ, ◌+◌, ◌<◌, ◌≤◌, ◌^◌, min, true, List, length, Option, None}
use Rattle.std.specs.Prelude.{Some, Result, Ok, Err, is_none, option_map, filter, filter_map, fold}
use Rattle.std.specs.List.{All}
use Rattle.std.specs.FinMap.{get}
use Rattle.sporc_hash.specs.Chain.{commitment_of}
use Rattle.sporc_cipher.specs.Mask.{mask_of}
use Rattle.sporc_member.specs.declared.change.Change.{Change}
use Rattle.sporc_member.specs.declared.limits.TheConstants.{MAX_MEMBERS}
use Rattle.sporc_entry.specs.declared.change.ChangeBody.{ChangeBody}
use Rattle.sporc_entry.specs.declared.wrap.Wrap.{Wrap}
use Rattle.sporc_entry.specs.ChangeBody.{kind_of, IsChange}
use Rattle.sporc_entry.specs.Version.{has_kind}
use Rattle.sporc_epoch.specs.declared.fault.SealFault.{SealFault}
use Rattle.sporc_epoch.specs.declared.fault.SealFault.TheVariants.{NoPairKey}
use Rattle.sporc_epoch.specs.declared.sealing.Sealing as parts
use Rattle.sporc_epoch.specs.Keys.{Keys}
use Rattle.sporc_epoch.specs.Streams.{previous_stream}

-- a change and the numbers of the members after it; its document and its entry's stream; the epoch
-- that it ends, with its key, and the key of the next
pub record Sealing : Type 0 where
  pub change : Change
  pub members : List ℕ
  pub document : List ℕ
  pub stream : ℕ
  pub epoch : ℕ
  pub old : List ℕ
  pub new : List ℕ

-- that of these values
abbrev pub sealing_of : Change → List ℕ → List ℕ → ℕ → ℕ → List ℕ → List ℕ → Sealing
sealing_of change members document stream epoch old new = record {
  change = change;
  members = members;
  document = document;
  stream = stream;
  epoch = epoch;
  old = old;
  new = new;
}

-- what is said by references to its parts
abbrev pub sealing_in : parts.Sealing → Sealing
sealing_in s =
    sealing_of s.change.now s.members.now s.document.now s.stream s.epoch s.old.now s.new.now

-- its change has a spelling in a version, its keys have 32 bytes, and it is for at most as many
-- members as a document can have
pub record IsSealing (version : ℕ) (s : Sealing) : Type 0 where
  pub kind : has_kind version (kind_of s.change) ≡ true
  pub change : IsChange s.change
  pub old : length s.old ≡ 32
  pub new : length s.new ≡ 32
  pub members : All (λ m. m < 2 ^ 16) s.members
  pub count : length s.members ≤ MAX_MEMBERS

-- a key, sealed for a member under the pairwise key with it, where there is one
abbrev pub wrap_sealed : ℕ → List ℕ → Keys → ℕ → Option Wrap
wrap_sealed stream key pairs member = option_map
    (λ pair. record { member = member; sealed = mask_of pair stream key }) (get pairs member)

-- a key, sealed for each of some members
abbrev pub wraps_sealed : ℕ → List ℕ → Keys → List ℕ → List Wrap
wraps_sealed stream key pairs members = filter_map (wrap_sealed stream key pairs) members

-- the body of a change whose author has a pairwise key with each member
unfoldable pub body_sealed : Sealing → Keys → ChangeBody
body_sealed s pairs = record {
  change = s.change;
  commitment = commitment_of s.document (s.epoch + 1) s.new;
  previous = mask_of s.new (previous_stream (s.epoch + 1)) s.old;
  wraps = wraps_sealed s.stream s.new pairs s.members;
}

-- the lesser of two numbers, the first of which may be missing
abbrev pub lesser : Option ℕ → ℕ → Option ℕ
lesser None n = Some n
lesser (Some m) n = Some (min m n)

-- the least of some numbers
abbrev pub least_of : List ℕ → Option ℕ
least_of numbers = fold lesser None numbers

-- the least of some members without a pairwise key
abbrev pub least_unpaired : Keys → List ℕ → Option ℕ
least_unpaired pairs members = least_of (filter (λ m. is_none (get pairs m)) members)

-- a body, unless a member has no pairwise key
abbrev pub body_unless : ChangeBody → Option ℕ → Result ChangeBody SealFault
body_unless body None = Ok body
body_unless body (Some member) = Err (NoPairKey member)

-- a change's body, or why it can't be sealed
unfoldable pub change_sealed : Sealing → Keys → Result ChangeBody SealFault
change_sealed s pairs = body_unless (body_sealed s pairs) (least_unpaired pairs s.members)
