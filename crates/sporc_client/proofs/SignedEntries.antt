-- What each entry that a client of a run signed says: who signed it, and on which history.
use Rattle.std.proofs.Common.{◌≡◌, ℕ, ◌^◌, ◌<◌, ◌≤◌, true, List, [], ◌∷◌, length, take, refl, ap, sym, ◌∙◌, arith, Result, Ok}
use Rattle.sporc_client.proofs.Common.{Contains, is_some, count_by-le-length, height_of, Device, key_of, Entry, Genesis, Header, MAX_SIGNATURE, header_len, IsHeader, author_device, body_limit}
use Rattle.sporc_client.proofs.Common.{counted_bytes, header_bytes, IsGenesis, genesis_bytes, header_again, MAX_ENTRIES, hash_of, is_by, roster_of, epoch_le, Pending, Chosen, kind_of, next_header}
use Rattle.sporc_client.proofs.Common.{Submit, PlainClient, me_of, Setup, World, Signing, Move, Happen, start, after, after_all, May, IsRun, IsReached, IsWellFormed, line_of, length-sha256}
use Rattle.sporc_client.proofs.Common.{Reading, ◌>>=◌, counted_at, end_at, bind_ok, ok_is}
use Rattle.lms_tree.proofs.SignatureLemmas.{leaf_fits}
use Rattle.sporc_hash.specs.Chain.{genesis_string, genesis_value, link_string, next_value, value_after}
use Rattle.sporc_entry.specs.Entry.{body_read, entry_bytes, entry_of}
use Rattle.sporc_client.specs.declared.pending.Pending.TheVariants.{Edit}
use Rattle.sporc_client.specs.Entries.{entry_made}
use Rattle.sporc_client.proofs.Reached.{AllReached, AllSigned, KeepsSigned, none_signed, reached_after, reached_start, run_front, signed_after}
use Rattle.sporc_client.proofs.SubmitRosters.{few_members, live_fits}
use Rattle.sporc_client.proofs.Submitting.{IsMadeBy, chosen_in, made_by_submission}

-- ---- an entry is read with the header that it was made with

-- what is read behind the header
abbrev all_read : Header → List ℕ → List ℕ → Unit {0} → Result Entry ℕ
all_read h body signature end = Ok (record { header = h; body = body; signature = signature })

abbrev after_body : Header → List ℕ → List ℕ × Reading → Result Entry ℕ
after_body h body signature = end_at signature.1 >>= all_read h body signature.0

abbrev after_kind : Header → List ℕ × Reading → Unit {0} → Result Entry ℕ
after_kind h body read = counted_at MAX_SIGNATURE body.1 >>= after_body h body.0

abbrev after_header : Header → List ℕ × Reading → Result Entry ℕ
after_header h body = body_read h body.0 >>= after_kind h body

abbrev behind : Header × Reading → Result Entry ℕ
behind x = counted_at (body_limit x.0.kind) x.1 >>= after_header x.0

header_stays : (x : Header × Reading) (e : Entry) → behind x ≡ Ok e → e.header ≡ x.0
header_stays x e read =
    let b = bind_ok (counted_at (body_limit x.0.kind) x.1) (after_header x.0) e read in
    let u = bind_ok (body_read x.0 b.0.0) (after_kind x.0 b.0) e b.2 in
    let s = bind_ok (counted_at MAX_SIGNATURE b.0.1) (after_body x.0 b.0.0) e u.2 in
    let n = bind_ok (end_at s.0.1) (all_read x.0 b.0.0 s.0.0) e s.2 in
    let made : Entry = record { header = x.0; body = b.0.0; signature = s.0.0 } in
    sym (ap (λ (e : Entry). e.header) (ok_is made e n.2))

pub header_read : (h : Header) (rest : List ℕ) (e : Entry) → IsHeader h → entry_of (header_bytes h rest) ≡ Ok e → e.header ≡ h
unfolding entry_of
header_read h rest e is read =
    let header : Header × Reading = (h, record { rest = rest; at = header_len h.version }) in
    header_stays header e (ap (λ (r : Result (Header × Reading) ℕ). r >>= behind) (sym (header_again h rest is)) ∙ read)

-- ---- the header of a client's next entry has a spelling

length-value_after : (v : List ℕ) (entries : List (List ℕ)) → length v ≡ 32 → length (value_after v entries) ≡ 32
unfolding value_after
length-value_after v [] h = h
length-value_after v (b ∷ entries) h = length-value_after (next_value v b) entries (length-sha256 (link_string v b))

pub length-hash_of : (g : Genesis) (entries : List (List ℕ)) → length (hash_of g entries) ≡ 32
length-hash_of g entries = length-value_after (genesis_value (genesis_bytes g)) entries (length-sha256 (genesis_string (genesis_bytes g)))

kind_small : (item : Pending) → (1 ≤ kind_of item) × (kind_of item ≤ 2)
kind_small (Edit marks) = (omega arith, omega arith)
kind_small item = (omega arith, omega arith)

-- that of any item, by any leaf, while the history has room
pub next_is_header : (s : Setup) (who : Device) (c : PlainClient) (leaf : ℕ) (item : Pending) → IsWellFormed s → IsReached s who c → length c.entries < MAX_ENTRIES → leaf < 2 ^ height_of c.opening.key.lms
    → is_some (key_of (roster_of c.opening.genesis c.entries) (me_of c)) ≡ true → IsHeader (next_header (line_of c) leaf item)
next_is_header s who c leaf item well reached room within live =
    let count = count_by-le-length (is_by (me_of c)) c.entries in
    let epoch = epoch_le c.entries in
    let document : length c.opening.genesis.document ≡ 16 = rw (reached.opening) well.genesis.document in
    let genesis : IsGenesis c.opening.genesis = rw (reached.opening) well.genesis in
    let sizes : ((me_of c).member < 2 ^ 16) × ((me_of c).number < 2 ^ 8) = rw (reached.opening) (well.devices who reached.is_device) in
    let few = few_members c.opening.genesis c.opening.kit c.entries genesis reached.good in
    record {
      version = live_fits (roster_of c.opening.genesis c.entries) (me_of c) few live;
      device = sizes.1;
      document = document;
      author = sizes.0;
      number = omega (arith, count, room);
      base = omega (arith, room);
      base_hash = length-hash_of c.opening.genesis c.entries;
      epoch = omega (arith, epoch, room);
      leaf = leaf_fits c.opening.key.lms leaf within;
      kind = kind_small item;
    }

pub made_header : (s : Setup) (who : Device) (c : PlainClient) (bytes : List ℕ) → IsWellFormed s → IsReached s who c → (makes : IsMadeBy c bytes) → IsHeader (next_header (line_of c) makes.entry.header.leaf makes.item)
made_header s who c bytes well reached makes = next_is_header s who c makes.entry.header.leaf makes.item well reached makes.due.head.room makes.leaf makes.due.head.live

-- the bytes that are made begin with the header
made_bytes : (c : PlainClient) (chosen : Chosen) (item : Pending) → (rest : List ℕ) × (entry_bytes (entry_made c chosen item) ≡ header_bytes (next_header (line_of c) chosen.leaf item) rest)
unfolding entry_bytes entry_made
made_bytes c chosen item = (counted_bytes (entry_made c chosen item).body (counted_bytes (entry_made c chosen item).signature []), refl)

-- and so an entry that was made has the header that its client gave it
pub header_made : (s : Setup) (who : Device) (c : PlainClient) (bytes : List ℕ) → IsWellFormed s → IsReached s who c → (makes : IsMadeBy c bytes) → makes.entry.header ≡ next_header (line_of c) makes.entry.header.leaf makes.item
header_made s who c bytes well reached makes =
    let made = made_bytes c (chosen_in c makes.entry) makes.item in
    let spelled : bytes ≡ header_bytes (next_header (line_of c) makes.entry.header.leaf makes.item) made.0 = sym makes.made ∙ made.1 in
    header_read (next_header (line_of c) makes.entry.header.leaf makes.item) made.0 makes.entry (made_header s who c bytes well reached makes) (ap entry_of (sym spelled) ∙ makes.reads)

-- ---- all that was signed

-- the device that signed an entry of a client, and the history that it was signed on
pub record IsSigning (s : Setup) (x : Signing) : Type 0 where
  pub signer : IsReached s x.who x.client
  pub entry : Entry
  pub reads : entry_of x.entry ≡ Ok entry
  pub author : author_device entry.header ≡ x.who
  pub base : entry.header.base ≡ length x.client.entries
  pub history : entry.header.base_hash ≡ hash_of s.genesis x.client.entries

signing_made : (s : Setup) (who : Device) (c : PlainClient) (bytes : List ℕ) → IsWellFormed s → IsReached s who c → IsMadeBy c bytes → IsSigning s (record { who = who; entry = bytes; client = c })
signing_made s who c bytes well reached makes =
    let header = header_made s who c bytes well reached makes in
    let author : me_of c ≡ who = rw (reached.opening) refl in
    let history : hash_of c.opening.genesis c.entries ≡ hash_of s.genesis c.entries = rw (reached.opening) refl in
    record {
      signer = reached;
      entry = makes.entry;
      reads = makes.reads;
      author = ap author_device header ∙ author;
      base = ap (λ (h : Header). h.base) header;
      history = ap (λ (h : Header). h.base_hash) header ∙ history;
    }

abbrev pub AllSignings : Setup → World → Type 0
AllSignings s w = AllSigned (IsSigning s) w

pub signings_after : (s : Setup) (w : World) (move : Move) → IsWellFormed s → AllReached s w → AllSignings s w → May s w move → AllSignings s (after s w move)
signings_after s w move well reached all may = signed_after (IsSigning s) s w move all may (signs move)
  where
    signs : (move : Move) → KeepsSigned (IsSigning s) w move
    signs (Happen who (Submit by bytes)) = λ c is allowed. signing_made s who c bytes well (reached who c is) (made_by_submission c by bytes allowed)
    signs move = tt

signings_all : (s : Setup) (w : World) (moves : List Move) → IsWellFormed s → AllReached s w → AllSignings s w → IsRun s w moves → AllSignings s (after_all s w moves)
signings_all s w [] well reached all run = all
signings_all s w (move ∷ moves) well reached all run =
    signings_all s (after s w move) moves well (reached_after s w move reached run.0) (signings_after s w move well reached all run.0) run.1

-- what was signed when a run ends, and at each moment
pub signing_in : (s : Setup) (moves : List Move) (x : Signing) → IsWellFormed s → IsRun s start moves → Contains (after_all s start moves).signed x → IsSigning s x
signing_in s moves x well run at = signings_all s start moves well (reached_start s) (none_signed (IsSigning s)) run x at

pub signing_at : (s : Setup) (moves : List Move) (n : ℕ) (x : Signing) → IsWellFormed s → IsRun s start moves → Contains (after_all s start (take n moves)).signed x → IsSigning s x
signing_at s moves n x well run at = signing_in s (take n moves) x well (run_front s start moves n run) at
