-- The entries that clients make are strings of bytes.
use Rattle.std.proofs.Common.{ℕ, ◌+◌, ◌<◌, Bool, List, [], ◌∷◌, ◌++◌, length, arith, zero, suc, true, false, cond, ◌≡◌, take, Some, length-append}
use Rattle.sporc_play.proofs.Common.{flat_map, w16, to_be_bytes, AllByRecursion, delta_bytes, last_value, MemberChange, Add, SetRole, AddDevice, DropDevice, Upgrade, role_code_of, ChangeBody, Wrap}
use Rattle.sporc_play.proofs.Common.{change_bytes, wrap_bytes, signed_string, genesis_bytes, version_of, entry_stream, roster_of, Pending, Chosen, bytes_made, current_key, PlainClient, me_of, line_of}
use Rattle.sporc_play.proofs.Common.{w32, LmsPrivate, root_of, sibling_value, height_of, lms_code_of, Entry, Header, names_device, Device, Tree, private_of, public_of, derived, AreTypedItems}
use Rattle.sporc_play.proofs.Common.{HasScalars, ots_code_of, part_count_of, width_of, length-take-le, length-sha256, lms_public_of, public_key_in, BodyWith}
use Rattle.sporc_member.specs.declared.change.Change.TheVariants.{Remove}
use Rattle.sporc_entry.specs.Entry.{device_bytes, entry_bytes, header_bytes}
use Rattle.sporc_hash.specs.Chain.{genesis_value, next_value, value_after}
use Rattle.sporc_member.specs.declared.role.Role.{Role}
use Rattle.sporc_entry.specs.ChangeBody.{change_body_bytes}
use Rattle.sporc_epoch.specs.Sealing.{body_sealed}
use Rattle.sporc_client.specs.Entries.{body_of, entry_made, kind_of, sealing_of, unsigned_entry}
use Rattle.sporc_play.proofs.Forgeries.{sealed_parts}
use Rattle.sporc_play.proofs.ByteClients.{IsByteChange, IsByteItem, AreBytes, bytes_16, bytes_append, bytes_mask, bytes_sha, bytes_32, bytes_chain, bytes_concatenated, bytes_take, delta_are}
use Rattle.lms_ots.specs.Chains.{concatenated}
use Rattle.lms_ots.specs.Coefficients.{coef_of, with_checksum}
use Rattle.lms_ots.specs.Signatures.{message_digest, ots_signature_of, signed_part}
use Rattle.lms_ots.specs.declared.ots_type.OtsType.{OtsType}
use Rattle.lms_tree.specs.Nodes.{node_of}
use Rattle.lms_tree.specs.Signatures.{lms_signature_of}
use Rattle.lms_tree.proofs.PublicKeyLemmas.{public_key_read_back}
use Rattle.sporc_client.proofs.HonestSignatures.{root_len}
use Rattle.sporc_client.specs.declared.pending.Pending.TheVariants as items

-- ---- how long the keys are that a play derives

pub derived_len : (kind member number : ℕ) → length (derived kind member number) ≡ 32
derived_len kind member number = length-sha256 (240 ∷ kind ∷ to_be_bytes w16 member ++ to_be_bytes w32 number)

pub half_len : (kind member number : ℕ) → length (take 16 (derived kind member number)) ≡ 16
half_len kind member number = length-take-le 16 (derived kind member number) (omega (arith, derived_len kind member number))

-- a public key has 56 bytes, and is of a known type
pub own_key_len : (tree : Tree) (who : Device) → length (public_of tree who) ≡ 56
own_key_len tree who =
    let key = private_of tree who in
    let a = to_be_bytes w32 (lms_code_of key.lms) in
    let b = to_be_bytes w32 (ots_code_of key.ots) in
    omega (
      arith,
      length-append (a ++ b ++ key.id) (root_of key),
      length-append (a ++ b) key.id,
      length-append a b,
      half_len 2 who.member who.number,
      root_len key (height_of key.lms) 1,
    )

pub own_key_known : (tree : Tree) (who : Device) → public_key_in (public_of tree who) ≡ Some (lms_public_of (private_of tree who))
own_key_known tree who =
    let key = private_of tree who in
    public_key_read_back (lms_public_of key) (half_len 2 who.member who.number) (root_len key (height_of key.lms) 1)

-- ---- signatures and entries are strings of bytes

part_are : (t : OtsType) (id : List ℕ) (q : ℕ) (seed string : List ℕ) (i : ℕ) → AreBytes (signed_part t id q seed string i)
part_are t id q seed string i = bytes_chain id q i 0 (coef_of string i (width_of t)) _ (bytes_sha _)

node_are : (t : OtsType) (id seed : List ℕ) (height k r : ℕ) → AreBytes (node_of t id seed height k r)
unfolding node_of
node_are t id seed height zero r = bytes_sha _
node_are t id seed height (suc k) r = bytes_sha _

pub bytes_signature : (key : LmsPrivate) (q : ℕ) (c message : List ℕ) → AreBytes c → AreBytes (lms_signature_of key q c message)
unfolding lms_signature_of ots_signature_of
bytes_signature key q c message are =
    let string = with_checksum (message_digest key.id q c message) key.ots in
    let parts = concatenated (signed_part key.ots key.id q key.seed string) (part_count_of key.ots) in
    let code = to_be_bytes w32 (ots_code_of key.ots) in
    let ots = code ++ c ++ parts in
    let types = to_be_bytes w32 (lms_code_of key.lms) in
    let path = concatenated (sibling_value key q) (height_of key.lms) in
    bytes_append (to_be_bytes w32 q ++ ots ++ types) path
    (bytes_append (to_be_bytes w32 q ++ ots) types
    (bytes_append (to_be_bytes w32 q) ots (bytes_32 q)
    (bytes_append (code ++ c) parts (bytes_append code c (bytes_32 (ots_code_of key.ots)) are) (bytes_concatenated (signed_part key.ots key.id q key.seed string) (part_count_of key.ots) (part_are key.ots key.id q key.seed string))))
    (bytes_32 (lms_code_of key.lms)))
    (bytes_concatenated (sibling_value key q) (height_of key.lms) (λ n. node_are key.ots key.id key.seed (height_of key.lms) n _))

-- what a header's fields have to be
pub record IsByteHeader (h : Header) : Type 0 where
  pub version : h.version < 256
  pub document : AreBytes h.document
  pub device : h.device < 256
  pub base_hash : AreBytes h.base_hash
  pub kind : h.kind < 256

device_are : (version device : ℕ) → device < 256 → AreBytes (device_bytes version device)
device_are version device low = go (names_device version)
  where
    go : (named : Bool) → AreBytes (cond named (device ∷ []) [])
    go true = (low, tt)
    go false = tt

pub bytes_header : (h : Header) (rest : List ℕ) → IsByteHeader h → AreBytes rest → AreBytes (header_bytes h rest)
unfolding header_bytes
bytes_header h rest is are =
    let last = h.kind ∷ rest in
    let leaf = to_be_bytes w32 h.leaf ++ last in
    let epoch = to_be_bytes w32 h.epoch ++ leaf in
    let hash = h.base_hash ++ epoch in
    let base = to_be_bytes w32 h.base ++ hash in
    let number = to_be_bytes w32 h.number ++ base in
    let device = device_bytes h.version h.device ++ number in
    let author = to_be_bytes w16 h.author ++ device in
    let end : AreBytes last = (is.kind, are) in (
      is.version,
      bytes_append h.document author is.document
          (bytes_append (to_be_bytes w16 h.author) device (bytes_16 h.author)
          (bytes_append (device_bytes h.version h.device) number (device_are h.version h.device is.device)
          (bytes_append (to_be_bytes w32 h.number) base (bytes_32 h.number)
          (bytes_append (to_be_bytes w32 h.base) hash (bytes_32 h.base)
          (bytes_append h.base_hash epoch is.base_hash
          (bytes_append (to_be_bytes w32 h.epoch) leaf (bytes_32 h.epoch) (bytes_append (to_be_bytes w32 h.leaf) last (bytes_32 h.leaf) end))))))),
    )

counted_are : (bytes rest : List ℕ) → AreBytes bytes → AreBytes rest → AreBytes (to_be_bytes w32 (length bytes) ++ (bytes ++ rest))
counted_are bytes rest are more = bytes_append (to_be_bytes w32 (length bytes)) (bytes ++ rest) (bytes_32 (length bytes)) (bytes_append bytes rest are more)

pub bytes_entry : (e : Entry) → IsByteHeader e.header → AreBytes e.body → AreBytes e.signature → AreBytes (entry_bytes e)
unfolding entry_bytes
bytes_entry e is body signature =
    let last = to_be_bytes w32 (length e.signature) ++ (e.signature ++ []) in
    bytes_header e.header (to_be_bytes w32 (length e.body) ++ (e.body ++ last)) is (counted_are e.body last body (counted_are e.signature [] signature tt))

-- the key of a device
pub key_bytes : (tree : Tree) (who : Device) → AreBytes (public_of tree who)
key_bytes tree who =
    let key = private_of tree who in
    let lms = to_be_bytes w32 (lms_code_of key.lms) in
    let ots = to_be_bytes w32 (ots_code_of key.ots) in
    bytes_append (lms ++ ots ++ key.id) (root_of key)
    (bytes_append (lms ++ ots) key.id (bytes_append lms ots (bytes_32 (lms_code_of key.lms)) (bytes_32 (ots_code_of key.ots))) (bytes_take 16 (derived 2 who.member who.number) (bytes_sha _)))
    (node_are key.ots key.id key.seed (height_of key.lms) (height_of key.lms) 1)

-- ---- changes

role_fits : (role : Role) → role_code_of role < 256
role_fits role = grind arith

change_are : (change : MemberChange) (rest : List ℕ) → IsByteChange change → AreBytes rest → AreBytes (change_bytes change rest)
change_are (Add member role key) rest is are =
    let last : AreBytes ((role_code_of role ∷ key) ++ rest) = (role_fits role, bytes_append key rest is.1 are) in
    (omega arith, bytes_append (to_be_bytes w16 member) ((role_code_of role ∷ key) ++ rest) (bytes_16 member) last)
change_are (Remove member) rest is are = (omega arith, bytes_append (to_be_bytes w16 member) rest (bytes_16 member) are)
change_are (SetRole member role) rest is are =
    let last : AreBytes (role_code_of role ∷ rest) = (role_fits role, are) in
    (omega arith, bytes_append (to_be_bytes w16 member) (role_code_of role ∷ rest) (bytes_16 member) last)
change_are (AddDevice member device key) rest is are =
    let last : AreBytes ((device ∷ key) ++ rest) = (is.1, bytes_append key rest is.2 are) in
    (omega arith, bytes_append (to_be_bytes w16 member) ((device ∷ key) ++ rest) (bytes_16 member) last)
change_are (DropDevice member device) rest is are =
    let last : AreBytes (device ∷ rest) = (is.1, are) in
    (omega arith, bytes_append (to_be_bytes w16 member) (device ∷ rest) (bytes_16 member) last)
change_are Upgrade rest is are = (omega arith, are)

abbrev AreSealed : List Wrap → Type 0
AreSealed wraps = AllByRecursion (λ w. AreBytes w.sealed) wraps

wraps_are : (wraps : List Wrap) → AreSealed wraps → AreBytes (flat_map wrap_bytes wraps)
wraps_are [] all = tt
wraps_are (w ∷ ws) all = bytes_append (wrap_bytes w) (flat_map wrap_bytes ws) (bytes_append (to_be_bytes w16 w.member) w.sealed (bytes_16 w.member) all.0) (wraps_are ws all.1)

pub bytes_body : (body : ChangeBody) → IsByteChange body.change → BodyWith AreBytes body → AreBytes (change_body_bytes body)
unfolding change_body_bytes
bytes_body body change is =
    let wraps = flat_map wrap_bytes body.wraps in
    let counted = to_be_bytes w16 (length body.wraps) ++ wraps in
    let previous = body.previous ++ counted in
    change_are body.change (body.commitment ++ previous) change
    (bytes_append body.commitment previous is.commitment
    (bytes_append body.previous counted is.previous (bytes_append (to_be_bytes w16 (length body.wraps)) wraps (bytes_16 (length body.wraps)) (wraps_are body.wraps is.wraps))))

-- ---- hashes

value_are : (value : List ℕ) (entries : List (List ℕ)) → AreBytes value → AreBytes (value_after value entries)
unfolding value_after
value_are value [] are = are
value_are value (e ∷ es) are = value_are (next_value value e) es (bytes_sha _)

pub hash_are : (genesis : List ℕ) (entries : List (List ℕ)) → AreBytes (last_value genesis entries)
hash_are genesis entries = value_are (genesis_value genesis) entries (bytes_sha _)

-- ---- entries

kind_fits : (item : Pending) → kind_of item < 256
kind_fits item = grind arith

-- an item whose bytes are known
abbrev pub IsWritten : Pending → Type 0
IsWritten (items.Edit marks) = HasScalars marks
IsWritten (items.Change change) = IsByteChange change

body_are : (c : PlainClient) (chosen : Chosen) (item : Pending) → IsWritten item → AreBytes chosen.new_key → AreBytes (current_key (line_of c)) → AreBytes (body_of (line_of c) chosen.leaf chosen.new_key item)
unfolding body_sealed
body_are c chosen (items.Edit marks) is new old = bytes_mask (current_key (line_of c)) (entry_stream (me_of c) chosen.leaf) (delta_bytes marks) (delta_are marks is)
body_are c chosen (items.Change change) is new old =
    let sealing = sealing_of (line_of c) chosen.leaf chosen.new_key change in
    bytes_body (body_sealed sealing c.opening.kit.pairs) is (sealed_parts AreBytes bytes_mask bytes_sha sealing c.opening.kit.pairs old new)

version_fits : (upgraded : Bool) → version_of upgraded < 256
version_fits upgraded = grind arith

pub made_are : (c : PlainClient) (chosen : Chosen) (item : Pending) → IsWritten item → (me_of c).number < 256 → AreBytes c.opening.genesis.document → AreBytes chosen.randomizer → AreBytes chosen.new_key → AreBytes (current_key (line_of c)) → AreBytes (bytes_made c chosen item)
unfolding entry_made
made_are c chosen item is device document randomizer new old =
    bytes_entry (entry_made c chosen item)
    (record {
      version = version_fits (roster_of c.opening.genesis c.entries).upgraded;
      document = document;
      device = device;
      base_hash = hash_are (genesis_bytes c.opening.genesis) c.entries;
      kind = kind_fits item;
    })
    (body_are c chosen item is new old)
    (bytes_signature c.opening.key chosen.leaf chosen.randomizer (signed_string (unsigned_entry (line_of c) chosen.leaf chosen.new_key item)) randomizer)

-- the first of pending items is written by its bytes
pub first_written : (item : Pending) (items : List Pending) → AreTypedItems (item ∷ items) → AllByRecursion IsByteItem (item ∷ items) → IsWritten item
first_written (items.Edit marks) rest typed bytes = typed.0
first_written (items.Change change) rest typed bytes = bytes.0
