-- The entries that a script signs for rogues: as a client's history says, but for what the script
-- says otherwise.
use Rattle.std.specs.Prelude.{◌≡◌, ℕ, ◌≤◌, ⊤, ◌+◌, ◌==◌, nat_le, not, Bool, List, [], ◌∷◌, length}
use Rattle.std.specs.Prelude.{take, drop, filter, fold, map, min, bit_xor, replicate, unwrap_or}
use Rattle.std.specs.Prelude.{Option, None, Some, Result, Ok, Err, if◌then◌else◌}
use Rattle.std.specs.FinMap.{empty, insert}
use Rattle.std.specs.List.{AllByRecursion}
use Rattle.lms_leaf.specs.declared.faults.LeafFault.{LeafFault}
use Rattle.lms_tree.specs.Signatures.{lms_signature_of}
use Rattle.sporc_cipher.specs.Mask.{mask_of}
use Rattle.sporc_delta.specs.Format.{delta_bytes}
use Rattle.sporc_delta.specs.Marks.{insertion}
use Rattle.sporc_member.specs.declared.change.Change.{Change as MemberChange}
use Rattle.sporc_member.specs.declared.change.ChangeFault.{ChangeFault}
use Rattle.sporc_member.specs.declared.device.TheConstants.{FIRST_DEVICE}
use Rattle.sporc_member.specs.declared.limits.TheConstants.{MAX_MEMBERS}
use Rattle.sporc_member.specs.Device.{first_device}
use Rattle.sporc_member.specs.Roster.{Roster, after_change, change_fault_of, numbers_of}
use Rattle.sporc_entry.specs.declared.change.ChangeBody.{ChangeBody}
use Rattle.sporc_entry.specs.declared.entry.Entry.{Entry}
use Rattle.sporc_entry.specs.declared.header.Header.{Header}
use Rattle.sporc_entry.specs.declared.wrap.Wrap.{Wrap}
use Rattle.sporc_entry.specs.ChangeBody.{ChangeWith, IsKey, change_body_bytes}
use Rattle.sporc_entry.specs.Entry.{entry_bytes, signed_string}
use Rattle.sporc_entry.specs.Version.{names_device, version_of}
use Rattle.sporc_epoch.specs.Keys.{Keys}
use Rattle.sporc_epoch.specs.Sealing.{Sealing, body_sealed}
use Rattle.sporc_epoch.specs.Streams.{stream_of}
use Rattle.sporc_head.specs.History.{count_of, epoch_of, hash_of, roster_of}
use Rattle.sporc_line.specs.Keys.{epoch_key}
use Rattle.sporc_client.specs.PlainClient.{PlainClient, committed_of}
use Rattle.sporc_client.specs.Run.{Setup}
use Rattle.sporc_script.specs.declared.sign.Forgery.{Forgery}
use Rattle.sporc_script.specs.declared.sign.Suffix.{Suffix}
use Rattle.sporc_script.specs.declared.sign.Suffix.TheVariants as suffixes
use Rattle.sporc_script.specs.declared.sign.What.{What}
use Rattle.sporc_script.specs.declared.sign.What.TheVariants as whats
use Rattle.sporc_play.specs.Cast.{member_change}
use Rattle.sporc_play.specs.Derived.{pair_key, random_of}

-- ---- the header

-- the version that the script says, 1 or 2, or else that of the history
abbrev pub version_by : Option Suffix → Bool → ℕ
version_by (Some (suffixes.Version k)) upgraded = version_of (names_device k)
version_by suffix upgraded = version_of upgraded

-- the device that the script says, if the version names one
abbrev pub device_in : Option Suffix → ℕ → ℕ
device_in (Some (suffixes.Device d)) version = if names_device version then d else FIRST_DEVICE
device_in suffix version = FIRST_DEVICE

abbrev pub number_by : Option Suffix → ℕ → ℕ
number_by (Some (suffixes.Number k)) number = k
number_by suffix number = number

abbrev pub base_by : Option Suffix → ℕ → ℕ
base_by (Some (suffixes.Base k)) base = k
base_by suffix base = base

abbrev pub epoch_by : Option Suffix → ℕ → ℕ
epoch_by (Some (suffixes.Epoch k)) epoch = k
epoch_by suffix epoch = epoch

abbrev pub leaf_by : Option Suffix → ℕ → ℕ
leaf_by (Some (suffixes.Leaf k)) leaf = k
leaf_by suffix leaf = leaf

abbrev pub kind_of : What → ℕ
kind_of (whats.Change change) = 2
kind_of what = 1

-- the chain's value after so many entries, or zeros where there are not so many
abbrev pub value_at : PlainClient → ℕ → List ℕ
value_at c base =
    if nat_le base (length c.entries) then hash_of c.opening.genesis (take base c.entries)
    else replicate 32 0

abbrev pub forged_header : PlainClient → Forgery → ℕ → Header
forged_header c f leaf =
    let suffix = f.signed.suffix in
    let version = version_by suffix (roster_of c.opening.genesis c.entries).upgraded in
    let base = base_by suffix (length c.entries) in
    record {
      version = version;
      document = c.opening.genesis.document;
      author = f.member;
      device = device_in suffix version;
      number = number_by suffix (count_of (first_device f.member) c.entries + 1);
      base = base;
      base_hash = value_at c base;
      epoch = epoch_by suffix (epoch_of c.entries);
      leaf = leaf_by suffix leaf;
      kind = kind_of f.signed.what;
    }

-- ---- the body

-- the key of the history's epoch, or zeros if it removes the client's member
abbrev pub key_there : PlainClient → List ℕ
key_there c = unwrap_or (epoch_key c.opening.genesis c.opening.kit c.entries (epoch_of c.entries))
    (replicate 32 0)

-- the members after a change, or those before it if they refuse it
abbrev pub unless_refused : Option ChangeFault → Roster → Roster → Roster
unless_refused None before after = after
unless_refused (Some fault) before after = before

abbrev pub sealed_for : Roster → MemberChange → List ℕ
sealed_for roster change = numbers_of
    (unless_refused (change_fault_of roster change) roster (after_change roster change)).members

-- the derived keys that a rogue shares with members, also if a line took one away
abbrev pub with_derived : ℕ → Keys → ℕ → Keys
with_derived rogue keys member = insert keys member (pair_key rogue member)

abbrev pub derived_pairs : ℕ → List ℕ → Keys
derived_pairs rogue members = fold (with_derived rogue) empty members

abbrev pub forged_sealing : PlainClient → Header → MemberChange → List ℕ → Sealing
forged_sealing c h change new = record {
  change = change;
  members = sealed_for (roster_of c.opening.genesis c.entries) change;
  document = c.opening.genesis.document;
  stream = stream_of h;
  epoch = epoch_of c.entries;
  old = key_there c;
  new = new;
}

abbrev pub forged_change : PlainClient → Header → MemberChange → List ℕ → ChangeBody
forged_change c h change new = body_sealed (forged_sealing c h change new)
    (derived_pairs h.author (sealed_for (roster_of c.opening.genesis c.entries) change))

-- a key that it adds has 56 bytes
abbrev pub IsSmallChange : MemberChange → Type 0
IsSmallChange change = ChangeWith (λ member. ⊤) (λ device. ⊤) IsKey change

-- a body whose commitment, and each sealed key of which, is such
pub record BodyWith (Sealed : List ℕ → Type 0) (body : ChangeBody) : Type 0 where
  pub commitment : Sealed body.commitment
  pub previous : Sealed body.previous
  pub wraps : AllByRecursion (λ w. Sealed w.sealed) body.wraps

-- a body whose sealed keys have 32 bytes each, for at most 64 members
pub record IsSmallBody (body : ChangeBody) : Type 0 where
  pub change : IsSmallChange body.change
  pub parts : BodyWith (λ bytes. length bytes ≡ 32) body
  pub few : length body.wraps ≤ MAX_MEMBERS

-- bytes, the lowest bit of the first of them changed
abbrev pub first_flipped : List ℕ → List ℕ
first_flipped [] = []
first_flipped (b ∷ bytes) = bit_xor b 1 ∷ bytes

abbrev pub wrap_flipped : ℕ → Wrap → Wrap
wrap_flipped member w =
    if w.member == member then record { member = w.member; sealed = first_flipped w.sealed } else w

-- the body with what is wrong about it
abbrev pub spoiled : Option Suffix → ChangeBody → ChangeBody
spoiled (Some (suffixes.Wrap member)) body =
    record body { wraps = map (wrap_flipped member) body.wraps }
spoiled (Some (suffixes.Drop member)) body =
    record body { wraps = filter (λ w. not (w.member == member)) body.wraps }
spoiled (Some suffixes.Commit) body = record body { commitment = first_flipped body.commitment }
spoiled (Some suffixes.Previous) body = record body { previous = first_flipped body.previous }
spoiled suffix body = body

abbrev pub masked : PlainClient → Header → List ℕ → List ℕ
masked c h payload = mask_of (key_there c) (stream_of h) payload

-- an insertion stands at the text's end, if its place lies behind it; a change seals this new key
abbrev pub forged_body : Setup → PlainClient → Option Suffix → Header → List ℕ → What → List ℕ
forged_body s c suffix h new (whats.Insert e) =
    let len = length (committed_of c) in
    masked c h (delta_bytes (insertion len (min e.at len) e.text))
forged_body s c suffix h new (whats.Raw payload) = masked c h payload
forged_body s c suffix h new (whats.Change change) =
    change_body_bytes (spoiled suffix (forged_change c h (member_change s change) new))

-- ---- the entry

-- by 64 random bytes
abbrev pub unsigned_by : Setup → PlainClient → Forgery → List ℕ → ℕ → Entry
unsigned_by s c f random leaf =
    let h = forged_header c f leaf in
    record {
      header = h;
      body = forged_body s c f.signed.suffix h (drop 32 random) f.signed.what;
      signature = [];
    }

abbrev pub signature_by : Setup → PlainClient → Forgery → List ℕ → ℕ → List ℕ
signature_by s c f random leaf = lms_signature_of (s.private (first_device f.member)) leaf
    (take 32 random) (signed_string (unsigned_by s c f random leaf))

-- signed with the rogue's next leaf, whatever the header says
unfoldable pub signed_by : Setup → PlainClient → Forgery → List ℕ → ℕ → List ℕ
signed_by s c f random leaf = entry_bytes
    (record (unsigned_by s c f random leaf) { signature = signature_by s c f random leaf })

-- the bytes of the entry that a rogue signs for the t-th time, unless its leaves are used up
unfoldable pub forged_entry : Setup → PlainClient → Forgery → ℕ → Result ℕ LeafFault
    → Option (List ℕ)
forged_entry s c f t (Ok leaf) = Some (signed_by s c f (random_of (first_device f.member) t) leaf)
forged_entry s c f t (Err fault) = None
