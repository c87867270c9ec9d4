-- The entry that a submission makes: it is read back, its client's log allows it, and it is that of the first pending item.
use Rattle.std.proofs.Common.{◌≡◌, ℕ, ◌+◌, ◌^◌, ◌<◌, ◌≤◌, true, List, [], ◌∷◌, ◌++◌, length, take, drop, refl, ap, sym, ◌∙◌, subst, arith, Option, None, Some, Ok, length-append, Result, Err}
use Rattle.sporc_client.proofs.Common.{nat_lt, option_map, unwrap_or, IfOk, get, to_be_bytes, w32, cons_option, result_ok, and_from, lt-ltb, drop_at, length-take-le}
use Rattle.sporc_client.proofs.Common.{take_at, append-nil, bytes_eq-Decides, height_of, lms_signature_of, length-mask_from, mask_from-mask_from, delta_bytes, Mark, MemberChange}
use Rattle.sporc_client.proofs.Common.{member_at, ChangeBody, Entry, Header, MAX_CHANGE_BODY, MAX_EDIT_BODY, MAX_ENTRY, Wrap, IsChangeBody, IsWrap}
use Rattle.sporc_client.proofs.Common.{SpellsChange, IsEntry, IsHeader, body_limit, change_of, entry_of, counted_bytes, header_bytes, version_of, entry_again}
use Rattle.sporc_client.proofs.Common.{length-counted_bytes, length-header_bytes, Keys, Sealing, least_unpaired, wraps_sealed, entry_stream, stream_of, epoch_of, roster_of, Pending, first_sealed}
use Rattle.sporc_client.proofs.Common.{is_entry, is_made, new_key_in, new_key_of, randomizer_in, IsSpelled, IsSubmission, CanTake, Fits, Chosen, bytes_made, current_key, kind_of, next_header}
use Rattle.sporc_client.proofs.Common.{sealing_of, unsigned_entry, body_of, PlainClient, me_of, IsInFlight, IsOfFirst, IsSound, Sign, answered, due, draw_fault, is_signing, LeafFault, LmsPrivate}
use Rattle.sporc_client.proofs.Common.{LineModel, plain_of, WorkspaceModel, line_of, and_parts, length-drop, IsBytes, Device, Submit, Setup, Move, IsAt, IsTypedRun, mask_of, Made}
use Rattle.std.proofs.Common.{append_assoc}
use Rattle.sporc_member.specs.Device.{IsMember}
use Rattle.sporc_entry.specs.ChangeBody.{change_body_bytes}
use Rattle.sporc_entry.proofs.BodyLengths.{length-body}
use Rattle.sporc_entry.specs.Entry.{signed_string, entry_bytes}
use Rattle.sporc_epoch.specs.Sealing.{body_sealed}
use Rattle.sporc_client.specs.Entries.{entry_made}
use Rattle.sporc_client.specs.Submissions.{submission}
use Rattle.sporc_client.proofs.SoundRuns.{change_made_is, header_of_made, item_of, due_spelled, entry_read, shown_size, sound_and_typed_at}
use Rattle.sporc_client.proofs.SubmitRosters.{paired_first, some_member}
use Rattle.sporc_client.proofs.HonestSignatures.{shown_randomizer, signature_size}
use Rattle.sporc_client.proofs.Submitting.{IsDue, is_due, is_there, signing, answer_is, made_by_submission, signs}
use Rattle.sporc_entry.proofs.VersionLaws.{header_len-le}
use Rattle.sporc_client.specs.Drafts.{AreCopies, IsDraft, prefix_bytes}
use Rattle.sporc_entry.proofs.Written.{header_bytes-append}
use Rattle.sporc_client.specs.declared.client.submitting.draft.Draft.{Draft}
use Rattle.sporc_client.specs.Allowed.{can_log}
use Rattle.sporc_client.specs.Makings.{CanMake}
use Rattle.sporc_client.proofs.Reached.{reached_at}
use Rattle.sporc_client.proofs.SignedEntries.{next_is_header}
use Rattle.sporc_client.proofs.TypedHistories.{body_typed}
use Rattle.sporc_client.proofs.HonestChanges.{new_key_size}
use Rattle.sporc_client.specs.declared.pending.Pending.TheVariants as items
use Rattle.sporc_client.specs.declared.submitted.Submitted.TheVariants as submitted

-- a leaf and 64 random bytes
abbrev pub chosen_by : List ℕ → ℕ → Chosen
chosen_by random leaf = record { leaf = leaf; randomizer = take 32 random; new_key = drop 32 random }

-- what is known of an entry that is signed
pub record IsMaking (c : PlainClient) (random : List ℕ) (leaf : ℕ) (item : Pending) : Type 0 where
  pub is_due : due c ≡ Sign item
  pub sound : IsSound c
  pub size : length random ≡ 64
  pub within : leaf < 2 ^ height_of c.opening.key.lms
  pub header : IsHeader (next_header (line_of c) leaf item)
  pub spelled : IsSpelled (line_of c) leaf (drop 32 random) item

first_size : (random : List ℕ) → length random ≡ 64 → length (take 32 random) ≡ 32
first_size random size = length-take-le 32 random (omega (arith, size))

-- ---- it has a spelling

-- the body of a change isn't long
pub change_body_size : (version : ℕ) (b : ChangeBody) → IsChangeBody version b → length (change_body_bytes b) ≤ MAX_CHANGE_BODY
change_body_size version b is = omega (arith, length-body IsMember (λ device. device < 2 ^ 8) IsWrap b is.change is.commitment is.previous (λ w is. is.sealed) is.wraps is.count)

signature_is : (c : PlainClient) (chosen : Chosen) (item : Pending)
    → (entry_made c chosen item).signature ≡ lms_signature_of c.opening.key chosen.leaf chosen.randomizer (signed_string (unsigned_entry (line_of c) chosen.leaf chosen.new_key item))
unfolding entry_made
signature_is c chosen item = refl

body_fits : (c : PlainClient) (chosen : Chosen) (item : Pending) → Fits (line_of c) item → IsSpelled (line_of c) chosen.leaf chosen.new_key item
    → length (entry_made c chosen item).body ≤ body_limit (entry_made c chosen item).header.kind
unfolding entry_made
body_fits c chosen (items.Edit marks) fits spelled = omega (arith, fits, length-mask_from (current_key (line_of c)) (entry_stream (me_of c) chosen.leaf) 0 (delta_bytes marks))
body_fits c chosen (items.Change change) fits spelled = change_body_size (version_of (roster_of c.opening.genesis c.entries).upgraded) (body_sealed (sealing_of (line_of c) chosen.leaf chosen.new_key change) c.opening.kit.pairs) spelled

change_spelled : (c : PlainClient) (chosen : Chosen) (item : Pending) → IsSpelled (line_of c) chosen.leaf chosen.new_key item → (entry_made c chosen item).header.kind ≡ 2
    → SpellsChange (entry_made c chosen item).header.version (entry_made c chosen item).body
unfolding entry_made
change_spelled c chosen (items.Edit marks) spelled two = absurd (omega (arith, two))
change_spelled c chosen (items.Change change) spelled two = (body_sealed (sealing_of (line_of c) chosen.leaf chosen.new_key change) c.opening.kit.pairs, spelled, refl)

pub made_is_entry : (c : PlainClient) (random : List ℕ) (leaf : ℕ) (item : Pending) → IsMaking c random leaf item → IsEntry (entry_made c (chosen_by random leaf) item)
made_is_entry c random leaf item m =
    let chosen = chosen_by random leaf in
    let e = entry_made c chosen item in
    let string = signed_string (unsigned_entry (line_of c) chosen.leaf chosen.new_key item) in
    record {
      header = subst IsHeader (sym (header_of_made c chosen item)) m.header;
      body = body_fits c chosen item (is_due c item m.is_due).fits m.spelled;
      change = change_spelled c chosen item m.spelled;
      signature = omega (arith, ap length (signature_is c chosen item), signature_size c.opening.key leaf (take 32 random) string (first_size random m.size) m.within);
    }

-- ---- it shows how it was made

shown_first : (c : PlainClient) (random : List ℕ) (leaf : ℕ) (item : Pending) → length random ≡ 64 → randomizer_in (entry_made c (chosen_by random leaf) item) ≡ take 32 random
shown_first c random leaf item size =
    let chosen = chosen_by random leaf in
    ap (λ (signature : List ℕ). take 32 (drop 8 signature)) (signature_is c chosen item)
    ∙ shown_randomizer c.opening.key leaf (take 32 random) (signed_string (unsigned_entry (line_of c) chosen.leaf chosen.new_key item)) (first_size random size)

-- the first wrap opens under the author's key with that member
first_opens : (s : Sealing) (pairs : Keys) (m : ℕ) (ms pair : List ℕ) → s.members ≡ m ∷ ms → get pairs m ≡ Some pair → first_sealed pairs s.stream (body_sealed s pairs).wraps ≡ s.new
unfolding body_sealed
first_opens s pairs m ms pair are is =
    let stream = s.stream in
    let wrap : Wrap = record { member = m; sealed = mask_of pair stream s.new } in
    let front : wraps_sealed stream s.new pairs (m ∷ ms) ≡ wrap ∷ wraps_sealed stream s.new pairs ms =
    ap (λ (o : Option (List ℕ)). cons_option (option_map (λ (pair : List ℕ). let w : Wrap = record { member = m; sealed = mask_of pair stream s.new } in w) o) (wraps_sealed stream s.new pairs ms)) is in
    ap (λ (ns : List ℕ). first_sealed pairs stream (wraps_sealed stream s.new pairs ns)) are
    ∙ ap (first_sealed pairs stream) front
    ∙ ap (λ (o : Option (List ℕ)). mask_of (unwrap_or o []) stream (mask_of pair stream s.new)) is
    ∙ mask_from-mask_from pair stream 0 s.new

shown_key : (c : PlainClient) (chosen : Chosen) (change : MemberChange) → IsChangeBody (version_of (roster_of c.opening.genesis c.entries).upgraded) (body_sealed (sealing_of (line_of c) chosen.leaf chosen.new_key change) c.opening.kit.pairs) → IsDue c (items.Change change)
    → new_key_in c.opening.kit.pairs (entry_made c chosen (items.Change change)) ≡ chosen.new_key
shown_key c chosen change is is_due =
    let pairs = c.opening.kit.pairs in
    let s = sealing_of (line_of c) chosen.leaf chosen.new_key change in
    let e = entry_made c chosen (items.Change change) in
    let some = some_member (roster_of c.opening.genesis c.entries) change (me_of c).member (is_there (kind_of (items.Change change)) (member_at (roster_of c.opening.genesis c.entries) (me_of c).member) is_due.head.right) is_due.fits.0 in
    let pair = paired_first pairs some.first some.others (subst (λ (ns : List ℕ). least_unpaired pairs ns ≡ None) some.are is_due.fits.1) in
    ap (λ (h : Header). new_key_of pairs (stream_of h) (change_of e)) (header_of_made c chosen (items.Change change))
    ∙ ap (new_key_of pairs (entry_stream (me_of c) chosen.leaf)) (change_made_is c chosen change is)
    ∙ first_opens s pairs some.first some.others pair.0 some.are pair.1

-- the random bytes that it shows
abbrev pub shown_in : PlainClient → Entry → List ℕ
shown_in c e = randomizer_in e ++ new_key_in c.opening.kit.pairs e

-- so it is made again by what it shows
same_edit : (c : PlainClient) (leaf : ℕ) (r s k l : List ℕ) (marks : List Mark) → r ≡ s → bytes_made c (record { leaf = leaf; randomizer = r; new_key = k }) (items.Edit marks) ≡ bytes_made c (record { leaf = leaf; randomizer = s; new_key = l }) (items.Edit marks)
unfolding entry_made
same_edit c leaf r s k l marks same = ap (λ (r : List ℕ). bytes_made c (record { leaf = leaf; randomizer = r; new_key = l }) (items.Edit marks)) same

same_change : (c : PlainClient) (leaf : ℕ) (r s k l : List ℕ) (item : Pending) → r ≡ s → k ≡ l → bytes_made c (record { leaf = leaf; randomizer = r; new_key = k }) item ≡ bytes_made c (record { leaf = leaf; randomizer = s; new_key = l }) item
same_change c leaf r s k l item same same' =
    ap (λ (r : List ℕ). bytes_made c (record { leaf = leaf; randomizer = r; new_key = k }) item) same
    ∙ ap (λ (k : List ℕ). bytes_made c (record { leaf = leaf; randomizer = s; new_key = k }) item) same'

pub made_again : (c : PlainClient) (random : List ℕ) (leaf : ℕ) (item : Pending) → IsMaking c random leaf item
    → bytes_made c (chosen_by (shown_in c (entry_made c (chosen_by random leaf) item)) leaf) item ≡ bytes_made c (chosen_by random leaf) item
made_again c random leaf item m = go item m.is_due m.spelled
  where
    r : Pending → List ℕ
    r item = randomizer_in (entry_made c (chosen_by random leaf) item)

    k : Pending → List ℕ
    k item = new_key_in c.opening.kit.pairs (entry_made c (chosen_by random leaf) item)

    go : (item : Pending) → due c ≡ Sign item → IsSpelled (line_of c) leaf (drop 32 random) item
        → bytes_made c (chosen_by (shown_in c (entry_made c (chosen_by random leaf) item)) leaf) item ≡ bytes_made c (chosen_by random leaf) item
    go (items.Edit marks) is s =
        let item = items.Edit marks in
        let first = shown_first c random leaf item m.size in
        let size : length (r item) ≡ 32 = ap length first ∙ first_size random m.size in
        same_edit c leaf (take 32 (r item ++ k item)) (take 32 random) (drop 32 (r item ++ k item)) (drop 32 random) marks (take_at (r item) (k item) 32 size ∙ first)
    go (items.Change change) is s =
        let item = items.Change change in
        let first = shown_first c random leaf item m.size in
        let size : length (r item) ≡ 32 = ap length first ∙ first_size random m.size in
        let key = shown_key c (chosen_by random leaf) change s (is_due c item is) in
        same_change c leaf (take 32 (r item ++ k item)) (take 32 random) (drop 32 (r item ++ k item)) (drop 32 random) item (take_at (r item) (k item) 32 size ∙ first) (drop_at (r item) (k item) 32 size ∙ key)

-- ---- its client's log allows it

pub submission_is : (c : PlainClient) (random : List ℕ) (leaf : ℕ) (item : Pending) → due c ≡ Sign item → submission c random (Ok leaf) ≡ Ok (submitted.Entry (bytes_made c (chosen_by random leaf) item))
unfolding submission
submission_is c random leaf item is = ap (answered c random (Ok leaf)) is

read_again : (c : PlainClient) (random : List ℕ) (leaf : ℕ) (item : Pending) → IsMaking c random leaf item → entry_of (bytes_made c (chosen_by random leaf) item) ≡ Ok (entry_made c (chosen_by random leaf) item)
read_again c random leaf item m = entry_again (entry_made c (chosen_by random leaf) item) (made_is_entry c random leaf item m)

leaf_is : (c : PlainClient) (random : List ℕ) (leaf : ℕ) (item : Pending) → (entry_made c (chosen_by random leaf) item).header.leaf ≡ leaf
leaf_is c random leaf item = ap (λ (h : Header). h.leaf) (header_of_made c (chosen_by random leaf) item)

pub made_is_made : (c : PlainClient) (random : List ℕ) (leaf : ℕ) (item : Pending) → IsMaking c random leaf item
    → let bytes = bytes_made c (chosen_by random leaf) item in is_made c bytes (entry_of bytes) ≡ true
made_is_made c random leaf item m =
    let bytes = bytes_made c (chosen_by random leaf) item in
    let e = entry_made c (chosen_by random leaf) item in
    let shown = shown_in c e in
    let here = leaf_is c random leaf item in
    let few : nat_lt e.header.leaf (2 ^ height_of c.opening.key.lms) ≡ true = lt-ltb e.header.leaf (2 ^ height_of c.opening.key.lms) (omega (arith, here, m.within)) in
    let answer : submission c shown (Ok e.header.leaf) ≡ Ok (submitted.Entry bytes) =
    ap (λ (n : ℕ). submission c shown (Ok n)) here ∙ submission_is c shown leaf item m.is_due ∙ ap (λ (b : List ℕ). Ok (submitted.Entry b)) (made_again c random leaf item m) in
    let same : is_entry bytes (submission c shown (Ok e.header.leaf)) ≡ true = ap (is_entry bytes) answer ∙ (bytes_eq-Decides bytes bytes).1 refl in
    ap (is_made c bytes) (read_again c random leaf item m) ∙ and_from (nat_lt e.header.leaf (2 ^ height_of c.opening.key.lms)) (is_entry bytes (submission c shown (Ok e.header.leaf))) few same

-- ---- and it is that of the first pending item

in_flight : (c : PlainClient) (random : List ℕ) (leaf : ℕ) (item : Pending) → IsMaking c random leaf item → IsInFlight c (bytes_made c (chosen_by random leaf) item)
in_flight c random leaf item m =
    let e = entry_made c (chosen_by random leaf) item in
    let header = header_of_made c (chosen_by random leaf) item in
    let base : e.header.base ≡ length c.entries = ap (λ (h : Header). h.base) header in
    let epoch : e.header.epoch ≡ epoch_of c.entries = ap (λ (h : Header). h.epoch) header in
    let due = is_due c item m.is_due in
    record {
      entry = e;
      reads = read_again c random leaf item m;
      base = omega (arith, base);
      epoch = omega (arith, epoch);
      first = subst (IsOfFirst c e) (sym due.head.first) (item_of c (chosen_by random leaf) item m.sound m.spelled due);
    }

pub made_is_submission : (c : PlainClient) (random : List ℕ) (leaf : ℕ) (item : Pending) → IsMaking c random leaf item → IsSubmission c leaf (bytes_made c (chosen_by random leaf) item)
made_is_submission c random leaf item m = record {
  allowed = made_is_made c random leaf item m;
  leaf_is = ap (λ r. option_map (λ (e : Entry). e.header.leaf) (result_ok r)) (read_again c random leaf item m) ∙ ap Some (leaf_is c random leaf item);
  in_flight = in_flight c random leaf item m;
}

-- ---- from what is due to the entry that is signed

same_head : (a b : Pending) (items others : List Pending) → a ∷ items ≡ b ∷ others → a ≡ b
same_head a b items others h = cc

pub due_first : (c : PlainClient) (first : Pending) (rest : List Pending) → is_signing (due c) ≡ true → c.pending ≡ first ∷ rest → due c ≡ Sign first
due_first c first rest h are =
    let s = signing c h in
    let d = (is_due c s.0 s.1).head in
    s.1 ∙ ap Sign (same_head s.0 first d.others rest (sym d.first ∙ are))

-- no entry comes of it where no leaf is drawn
pub undrawn : (c : PlainClient) (random : List ℕ) (fault : LeafFault) → is_signing (due c) ≡ true → submission c random (Err fault) ≡ Err (draw_fault fault)
unfolding submission
undrawn c random fault h = let s = signing c h in ap (answered c random (Err fault)) s.1

-- some item is pending
pub due_some : (c : PlainClient) → is_signing (due c) ≡ true → 0 < length c.pending
due_some c h =
    let s = signing c h in
    let d = (is_due c s.0 s.1).head in
    omega (arith, ap length d.first)

-- and its history can take it
pub can_take : (key : LmsPrivate) (line : LineModel) (own : WorkspaceModel) (item : Pending) → due (plain_of key line own) ≡ Sign item → IsSound (plain_of key line own) → CanTake line item
can_take key line own item h sound =
    let d = is_due (plain_of key line own) item h in
    record { good = sound.good; room = omega (arith, d.head.room); not_removed = d.head.not_removed; live = d.head.live; fits = fits item d.fits }
  where
    fits : (item : Pending) → Fits (record line { spare = 0 }) item → Fits line item
    fits (items.Edit marks) f = f
    fits (items.Change change) f = f

-- ---- the unsigned entry

-- how much memory is left makes no difference to it
entry_by_line : (line : LineModel) (leaf : ℕ) (new_key : List ℕ) (item : Pending) → unsigned_entry line leaf new_key item ≡ unsigned_entry (record line { spare = 0 }) leaf new_key item
entry_by_line line leaf new_key (items.Edit marks) = refl
entry_by_line line leaf new_key (items.Change change) = refl

spelled_by_line : (line : LineModel) (leaf : ℕ) (new_key : List ℕ) (item : Pending) → IsSpelled line leaf new_key item → IsSpelled (record line { spare = 0 }) leaf new_key item
spelled_by_line line leaf new_key (items.Edit marks) h = h
spelled_by_line line leaf new_key (items.Change change) h = h

-- what is signed, and the bytes that come of it
bytes_signed : (c : PlainClient) (random : List ℕ) (leaf : ℕ) (item : Pending) (e : Entry) → e ≡ unsigned_entry (line_of c) leaf (drop 32 random) item
    → entry_bytes (record e { signature = lms_signature_of c.opening.key leaf (take 32 random) (signed_string e) }) ≡ bytes_made c (chosen_by random leaf) item
unfolding entry_made
bytes_signed c random leaf item e is = ap (λ (e : Entry). entry_bytes (record e { signature = lms_signature_of c.opening.key leaf (take 32 random) (signed_string e) })) is

-- an unsigned entry, by the leaf and the random bytes
pub record IsUnsigned (c : PlainClient) (random : List ℕ) (leaf : ℕ) (item : Pending) (e : Entry) : Type 0 where
  pub value : e ≡ unsigned_entry (line_of c) leaf (drop 32 random) item
  pub header : IsHeader e.header
  pub spelled : IsSpelled (line_of c) leaf (drop 32 random) item

pub unsigned_is : (key : LmsPrivate) (line : LineModel) (own : WorkspaceModel) (random : List ℕ) (leaf n : ℕ) (new_key : List ℕ) (item : Pending) (e : Entry) → n ≡ leaf → new_key ≡ drop 32 random
    → e ≡ unsigned_entry line n new_key item → IsHeader e.header → IsSpelled line n new_key item → IsUnsigned (plain_of key line own) random leaf item e
unsigned_is key line own random leaf n new_key item e same same' value header spelled = record {
  value = value ∙ entry_by_line line n new_key item ∙ rw (same, same') refl;
  header = header;
  spelled = rw (sym same, sym same') (spelled_by_line line n new_key item spelled);
}

pub making : (c : PlainClient) (random : List ℕ) (leaf : ℕ) (item : Pending) (e : Entry) → due c ≡ Sign item → IsSound c → length random ≡ 64 → leaf < 2 ^ height_of c.opening.key.lms
    → IsUnsigned c random leaf item e → IsMaking c random leaf item
making c random leaf item e due sound size within is = record {
  is_due = due;
  sound = sound;
  size = size;
  within = within;
  header = subst IsHeader (ap (λ (e : Entry). e.header) is.value) is.header;
  spelled = is.spelled;
}

-- what was signed answers the submission
pub record IsSigned {E : Type 0} (c : PlainClient) (random : List ℕ) (leaf : ℕ) (result : Result Made E) : Type 0 where
  pub answer : IfOk result (λ made. submission c random (Ok leaf) ≡ Ok (submitted.Entry made.answer))
  pub is_submission : IfOk result (λ made. IsSubmission c leaf made.answer)

pub signed_is : {E : Type 0} (c : PlainClient) (random randomizer : List ℕ) (leaf : ℕ) (item : Pending) (e : Entry) (result : Result Made E) → IsMaking c random leaf item → IsUnsigned c random leaf item e
    → randomizer ≡ take 32 random → IfOk result (AreCopies (entry_bytes (record e { signature = lms_signature_of c.opening.key leaf randomizer (signed_string e) }))) → IsSigned c random leaf result
signed_is c random randomizer leaf item e (Err back) m is first copies = record { answer = tt; is_submission = tt }
signed_is c random randomizer leaf item e (Ok made) m is first copies =
    let same : made.answer ≡ bytes_made c (chosen_by random leaf) item =
    copies.answer ∙ ap (λ (r : List ℕ). entry_bytes (record e { signature = lms_signature_of c.opening.key leaf r (signed_string e) })) first ∙ bytes_signed c random leaf item e is.value in
    record {
      answer = submission_is c random leaf item m.is_due ∙ ap (λ (bytes : List ℕ). Ok (submitted.Entry bytes)) (sym same);
      is_submission = subst (IsSubmission c leaf) (sym same) (made_is_submission c random leaf item m);
    }

-- ---- its size

body_small : (line : LineModel) (leaf : ℕ) (new_key : List ℕ) (item : Pending) → Fits line item → IsSpelled line leaf new_key item → length (body_of line leaf new_key item) ≤ MAX_EDIT_BODY
body_small line leaf new_key (items.Edit marks) fits spelled = omega (arith, fits, length-mask_from (current_key line) (entry_stream line.kit.me leaf) 0 (delta_bytes marks))
body_small line leaf new_key (items.Change change) fits spelled = omega (arith, change_body_size (version_of (roster_of line.genesis line.entries).upgraded) (body_sealed (sealing_of line leaf new_key change) line.kit.pairs) spelled)

pub record IsShortEntry (e : Entry) : Type 0 where
  pub body : length e.body < 2 ^ 32
  pub string : length (signed_string e) ≤ MAX_ENTRY

string_size : (e : Entry) → IsHeader e.header → length (signed_string e) ≤ 74 + length e.body
unfolding signed_string
string_size e header = omega (arith, length-header_bytes e.header (counted_bytes e.body []) header, header_len-le e.header.version, length-counted_bytes e.body [])

pub short_entry : (c : PlainClient) (random : List ℕ) (leaf : ℕ) (item : Pending) (e : Entry) → due c ≡ Sign item → IsUnsigned c random leaf item e → IsShortEntry e
short_entry c random leaf item e due is =
    let small = body_small (line_of c) leaf (drop 32 random) item (is_due c item due).fits is.spelled in
    let body : length e.body ≡ length (body_of (line_of c) leaf (drop 32 random) item) = ap (λ (e : Entry). length e.body) is.value in
    record { body = omega (arith, small, body); string = omega (arith, small, body, string_size e is.header) }

-- ---- the bytes of an entry: those up to its signature, and the signature behind them

pub signed_some : (e : Entry) → 1 ≤ length (signed_string e)
unfolding signed_string
signed_some e = omega arith

header_then : (h : Header) (xs ys : List ℕ) → header_bytes h xs ++ ys ≡ header_bytes h (xs ++ ys)
header_then h xs ys = ap (λ (bs : List ℕ). bs ++ ys) (sym (header_bytes-append h xs)) ∙ append_assoc (header_bytes h []) xs ys ∙ header_bytes-append h (xs ++ ys)

counted_then : (xs ys : List ℕ) → counted_bytes xs [] ++ ys ≡ counted_bytes xs ys
counted_then xs ys = append_assoc (to_be_bytes w32 (length xs)) (xs ++ []) ys ∙ ap (λ (bs : List ℕ). to_be_bytes w32 (length xs) ++ (bs ++ ys)) (append-nil xs)

pub finished : (e : Entry) (n : ℕ) (signature : List ℕ) → n ≡ length signature → prefix_bytes n (signed_string e) ++ signature ≡ entry_bytes (record e { signature = signature })
unfolding entry_bytes signed_string
finished e n signature is =
    let body = counted_bytes e.body [] in
    let count = to_be_bytes w32 n in
    let tail : count ++ signature ≡ counted_bytes signature [] =
    ap (λ (k : ℕ). to_be_bytes w32 k ++ signature) is ∙ ap (λ (bs : List ℕ). to_be_bytes w32 (length signature) ++ bs) (sym (append-nil signature)) in
    append_assoc (header_bytes e.header body) count signature
    ∙ header_then e.header body (count ++ signature)
    ∙ ap (header_bytes e.header) (counted_then e.body (count ++ signature) ∙ ap (counted_bytes e.body) tail)

-- the three fronts of a draft, with its signature behind each
pub are_copies : (e : Entry) (n : ℕ) (draft : Draft) (made : Made) (signature signed : List ℕ) → IsDraft n e draft → length signature ≡ n → signature ≡ signed
    → made.answer ≡ draft.answer.items ++ signature → made.flight ≡ draft.flight.items ++ signature → made.event ≡ draft.event.items ++ signature
    → AreCopies (entry_bytes (record e { signature = signed })) made
are_copies e n draft made signature signed is len same answer flight event =
    let whole : prefix_bytes n (signed_string e) ++ signature ≡ entry_bytes (record e { signature = signed }) =
    finished e n signature (sym len) ∙ ap (λ (s : List ℕ). entry_bytes (record e { signature = s })) same in
    record {
      answer = answer ∙ ap (λ (bs : List ℕ). bs ++ signature) is.answer ∙ whole;
      flight = flight ∙ ap (λ (bs : List ℕ). bs ++ signature) is.flight ∙ whole;
      event = event ∙ ap (λ (bs : List ℕ). bs ++ signature) is.event ∙ whole;
    }

-- ---- a submission is allowed exactly if a leaf and random bytes make its entry

-- ---- what is allowed can be made

pub can_make : (s : Setup) (moves : List Move) (n by : ℕ) (who : Device) (c : PlainClient) (entry : List ℕ) → IsTypedRun s moves → IsAt s moves n who c → IsBytes entry → can_log c (Submit by entry) ≡ true → CanMake c entry
unfolding can_log
can_make s moves n by who c entry run at typed may =
    let reached = reached_at s moves n who c run.run at in
    let makes = made_by_submission c by entry may in
    let read = entry_read s who c entry run.setup reached typed makes in
    let e = makes.entry in
    let shown = randomizer_in e ++ new_key_in c.opening.kit.pairs e in
    let made : is_made c entry (Ok e) ≡ true = ap (is_made c entry) (sym makes.reads) ∙ may in
    let parts = and_parts (nat_lt e.header.leaf (2 ^ height_of c.opening.key.lms)) (is_entry entry (submission c shown (Ok e.header.leaf))) made in
    let first = shown_size c entry makes read.1 in
    let second = new_key_size e.header.version c.opening.kit.pairs (stream_of e.header) (change_of e) (body_typed e read.0) in
    record {
      leaf = e.header.leaf;
      within = makes.leaf;
      random = shown;
      size = omega (arith, length-append (randomizer_in e) (new_key_in c.opening.kit.pairs e), first, second);
      answer = answer_is entry (submission c shown (Ok e.header.leaf)) parts.1;
    }

-- ---- and what can be made is allowed

pub made_allowed : (s : Setup) (moves : List Move) (n by : ℕ) (who : Device) (c : PlainClient) (entry : List ℕ) → IsTypedRun s moves → IsAt s moves n who c → CanMake c entry → can_log c (Submit by entry) ≡ true
unfolding can_log
made_allowed s moves n by who c entry run at can =
    let reached = reached_at s moves n who c run.run at in
    let known = sound_and_typed_at s moves n who c run at in
    let sign = signs c can.random can.leaf entry can.answer in
    let due = is_due c sign.item sign.is_due in
    let made = made_is_made c can.random can.leaf sign.item (record {
      is_due = sign.is_due;
      sound = known.sound;
      size = can.size;
      within = can.within;
      header = next_is_header s who c can.leaf sign.item run.setup reached due.head.room can.within due.head.live;
      spelled = due_spelled s who c (chosen_by can.random can.leaf) sign.item run.setup reached known (omega (arith, length-drop 32 can.random, can.size)) due;
    }) in
    subst (λ (bytes : List ℕ). is_made c bytes (entry_of bytes) ≡ true) sign.made made
