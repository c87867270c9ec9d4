-- Each event keeps the limits.
use Rattle.std.proofs.Common.{◌≡◌, ℕ, suc, ◌+◌, ◌*◌, ◌^◌, ◌<◌, ◌≤◌, List, [], ◌∷◌, ◌++◌, length, drop, fold, refl, ap, arith, length-append, None, Option, Some, Ok}
use Rattle.sporc_client.proofs.Common.{w64, to_be_bytes, encode_utf8_all, Part, delta_bytes, part_bytes, parts_bytes, Mark, apply, remove_marks, inserted_len, insert_marks, replacement, keep_marks}
use Rattle.sporc_client.proofs.Common.{marks_of, part_marks, runs, earlier, inserted_len-earlier, inserted_len-later, out_len-le, all_inserted, all_inserted-append, MAX_ENTRIES}
use Rattle.sporc_client.proofs.Common.{inserted_len-keep_marks, inserted_len-append, inserted_len-remove_marks, inserted_len-insert_marks, inserted_len-over, length-apply, MemberChange}
use Rattle.sporc_client.proofs.Common.{MAX_EDIT_BYTES, MAX_EVENTS, MAX_HEAD_BYTES, MAX_PENDING, MAX_SHOWN_LEN, Pending, Edit, Change, Discard, Dropped, PlainClient, after_pending, committed_of}
use Rattle.sporc_client.proofs.Common.{shown_of, AreStated, beyond, inserted_by, rebased, AreShort, IsSmall, restated, step, keeps, ChangeFault, length-drop, text_of, later_over, from_end, ChangeBody}
use Rattle.sporc_client.proofs.Common.{Entry, Genesis, MAX_EDIT_BODY, change_of, entry_of, Kit, epoch_key, edit_marks, stream_of, forms_of, next_form, Good, Passes, good_front, last_passes}
use Rattle.sporc_client.proofs.Common.{forms_push, change_form, edit_form, edit_over, forms_follow, length-text, reached-le, InsertText, marks_of-runs}
use Rattle.std.proofs.Math.Nat.{mul-le-mul_left}
use Rattle.std.proofs.lemmas.Str.{length-encode, len_utf8_bounds}
use Rattle.std.specs.Char.{encode_utf8}
use Rattle.sporc_delta.specs.declared.part.Part.TheVariants.{Keep, Remove}
use Rattle.sporc_line.specs.Document.{forms_from}
use Rattle.sporc_line.proofs.ReadLengths.{body_within, marks_within}
use Rattle.sporc_client.specs.declared.pending.Pending.TheVariants as items

-- ---- a delta inserts no more characters than it has bytes

length-encode_all : (text : List ℕ) → length text ≤ length (encode_utf8_all text)
length-encode_all [] = omega arith
length-encode_all (c ∷ text) = omega (arith, length-encode_all text, length-append (encode_utf8 c) (encode_utf8_all text), length-encode c, len_utf8_bounds c)

inserted_len-part : (p : Part) → inserted_len (part_marks p) ≤ length (part_bytes p)
inserted_len-part (Keep n) = omega (arith, inserted_len-keep_marks n)
inserted_len-part (InsertText text) = omega (arith, inserted_len-insert_marks text, length-encode_all text, length-append (to_be_bytes w64 (length (encode_utf8_all text))) (encode_utf8_all text))
inserted_len-part (Remove n) = omega (arith, inserted_len-remove_marks n)

inserted_len-parts : (ps : List Part) → inserted_len (marks_of ps) ≤ length (parts_bytes ps)
inserted_len-parts [] = omega arith
inserted_len-parts (p ∷ ps) =
    omega (arith, inserted_len-part p, inserted_len-parts ps, inserted_len-append (part_marks p) (marks_of ps), length-append (part_bytes p) (parts_bytes ps))

pub inserted_len-bytes : (ms : List Mark) → inserted_len ms ≤ length (delta_bytes ms)
inserted_len-bytes ms = omega (arith, inserted_len-parts (runs ms), ap inserted_len (marks_of-runs ms))

inserted_len-replacement : (n : ℕ) (text : List ℕ) → inserted_len (replacement n text) ≡ length text
inserted_len-replacement n text = omega (arith, inserted_len-append (remove_marks n) (insert_marks text), inserted_len-remove_marks n, inserted_len-insert_marks text)

-- ---- pending items

pub short_edit : (pending : List Pending) (marks : List Mark) → AreShort pending → inserted_len marks ≤ MAX_EDIT_BYTES → AreShort (pending ++ items.Edit marks ∷ [])
short_edit [] marks short few = (few, tt)
short_edit (items.Edit m ∷ ps) marks short few = (short.0, short_edit ps marks short.1 few)
short_edit (items.Change c ∷ ps) marks short few = short_edit ps marks short few

pub short_change : (pending : List Pending) (change : MemberChange) → AreShort pending → AreShort (pending ++ items.Change change ∷ [])
short_change [] change short = tt
short_change (items.Edit m ∷ ps) change short = (short.0, short_change ps change short.1)
short_change (items.Change c ∷ ps) change short = short_change ps change short

pub short_drop : (pending : List Pending) → AreShort pending → AreShort (drop 1 pending)
short_drop [] short = tt
short_drop (items.Edit m ∷ ps) short = short.1
short_drop (items.Change c ∷ ps) short = short

pub short_rebased : (form : List Mark) (pending : List Pending) → AreShort pending → AreShort (rebased form pending)
short_rebased form [] short = tt
short_rebased form (items.Change c ∷ ps) short = short_rebased form ps short
short_rebased form (items.Edit m ∷ ps) short = (omega (arith, short.0, inserted_len-later form m), short_rebased (earlier form m) ps short.1)

pub length-rebased : (form : List Mark) (pending : List Pending) → length (rebased form pending) ≡ length pending
length-rebased form [] = refl
length-rebased form (items.Change c ∷ ps) = ap suc (length-rebased form ps)
length-rebased form (items.Edit m ∷ ps) = ap suc (length-rebased (earlier form m) ps)

pub inserted_len-beyond : (form : List Mark) (pending : List Pending) → inserted_len (beyond form pending) ≤ inserted_len form
inserted_len-beyond form [] = omega arith
inserted_len-beyond form (items.Change c ∷ ps) = inserted_len-beyond form ps
inserted_len-beyond form (items.Edit m ∷ ps) = omega (arith, inserted_len-beyond (earlier form m) ps, inserted_len-earlier form m)

-- short edits insert few characters
pub inserted_by-short : (pending : List Pending) → AreShort pending → inserted_by pending ≤ MAX_EDIT_BYTES * length pending
inserted_by-short [] short = omega arith
inserted_by-short (items.Change c ∷ ps) short = omega (arith, inserted_by-short ps short)
inserted_by-short (items.Edit m ∷ ps) short = omega (arith, short.0, inserted_by-short ps short.1)

-- and make the shown text little longer than the committed one
pub length-shown : (text : List ℕ) (pending : List Pending) → AreStated text pending → length (fold after_pending text pending) ≤ length text + inserted_by pending
length-shown text [] stated = omega arith
length-shown text (items.Change c ∷ ps) stated = length-shown text ps stated
length-shown text (items.Edit m ∷ ps) stated = omega (arith, length-shown (apply m text) ps stated.1, length-apply m text stated.0, out_len-le m, stated.0)

-- the committed text and the pending edits are short
pub record Lengths (c : PlainClient) : Type 0 where
  pub committed : length (committed_of c) ≤ 2 ^ 34
  pub pending : inserted_by c.pending ≤ 2 ^ 26
  pub shown : all_inserted c.shown ≤ 2 ^ 55

pub lengths : (c : PlainClient) → IsSmall c → Lengths c
lengths c small =
    let a : MAX_HEAD_BYTES * length c.entries ≤ MAX_HEAD_BYTES * MAX_ENTRIES = mul-le-mul_left MAX_HEAD_BYTES small.entries in
    let b : MAX_EDIT_BYTES * length c.pending ≤ MAX_EDIT_BYTES * MAX_PENDING = mul-le-mul_left MAX_EDIT_BYTES small.pending in
    let d : MAX_SHOWN_LEN * length c.shown ≤ MAX_SHOWN_LEN * MAX_EVENTS = mul-le-mul_left MAX_SHOWN_LEN small.events in
    record {
      committed = omega (arith, a, small.committed);
      pending = omega (arith, b, inserted_by-short c.pending small.short);
      shown = omega (arith, d, small.shown);
    }

-- ---- a client with other entries and items, and one shown delta more

pub small_with : (c : PlainClient) (entries : List (List ℕ)) (pending : List Pending) (flight : Option (List ℕ)) (form : List Mark) → IsSmall c → length entries ≤ MAX_ENTRIES
    → length (text_of c.opening.genesis c.opening.kit entries) ≤ MAX_HEAD_BYTES * length entries → length pending ≤ MAX_PENDING → AreShort pending → length c.shown < MAX_EVENTS → inserted_len form ≤ MAX_SHOWN_LEN
    → IsSmall (record c { entries = entries; pending = pending; flight = flight; shown = c.shown ++ form ∷ [] })
small_with c entries pending flight form small few committed items short room inserted = record {
  entries = few;
  committed = committed;
  pending = items;
  short = short;
  events = omega (arith, room, length-append c.shown (form ∷ []));
  shown = omega (arith, small.shown, inserted, all_inserted-append c.shown (form ∷ []), length-append c.shown (form ∷ []));
}

-- a delta that keeps the shown text inserts nothing
pub keeps_few : (n : ℕ) → inserted_len (keep_marks n) ≤ MAX_SHOWN_LEN
keeps_few n = omega (arith, inserted_len-keep_marks n)

pub edit_small : (c : PlainClient) (by seen : ℕ) (marks : List Mark) → IsSmall c → length c.pending < MAX_PENDING → length c.shown < MAX_EVENTS → length (delta_bytes marks) ≤ MAX_EDIT_BYTES
    → IsSmall (step c (Edit by seen marks))
edit_small c by seen marks small pending events bytes =
    let item = items.Edit (restated c seen marks) in
    let few : inserted_len (restated c seen marks) ≤ MAX_EDIT_BYTES = omega (arith, bytes, inserted_len-bytes marks, inserted_len-over marks (drop seen c.shown)) in
    small_with c c.entries (c.pending ++ item ∷ []) c.flight (restated c seen marks) small small.entries small.committed (omega (arith, pending, length-append c.pending (item ∷ [])))
    (short_edit c.pending (restated c seen marks) small.short few) events (omega (arith, few))

pub change_small : (c : PlainClient) (by : ℕ) (change : MemberChange) → IsSmall c → length c.pending < MAX_PENDING → length c.shown < MAX_EVENTS → IsSmall (step c (Change by change))
change_small c by change small pending events =
    small_with c c.entries (c.pending ++ items.Change change ∷ []) c.flight (keeps c) small small.entries small.committed (omega (arith, pending, length-append c.pending (items.Change change ∷ [])))
    (short_change c.pending change small.short) events (keeps_few (length (shown_of c)))

pub drop_small : (c : PlainClient) (by : ℕ) (fault : ChangeFault) → IsSmall c → length c.shown < MAX_EVENTS → IsSmall (step c (Dropped by fault))
drop_small c by fault small events =
    small_with c c.entries (drop 1 c.pending) c.flight (keeps c) small small.entries small.committed (omega (arith, small.pending, length-drop 1 c.pending)) (short_drop c.pending small.short) events (keeps_few (length (shown_of c)))

pub discard_small : (c : PlainClient) (by : ℕ) → IsSmall c → length c.shown < MAX_EVENTS → IsSmall (step c (Discard by))
discard_small c by small events =
    let form = replacement (length (shown_of c)) (committed_of c) in
    small_with c c.entries [] None form small small.entries small.committed (omega arith) tt events (omega (arith, inserted_len-replacement (length (shown_of c)) (committed_of c), (lengths c small).committed))

-- ---- how long the text of a good history can be

-- the marks of an edit insert no more than the longest body has bytes
edit_within : (key : Option (List ℕ)) (bytes : List ℕ) (e : Entry) (marks : List Mark) → entry_of bytes ≡ Ok e → edit_marks key e ≡ Some marks → inserted_len marks ≤ MAX_EDIT_BODY
edit_within None bytes e marks is has = absurd cc
edit_within (Some key) bytes e marks is has = omega (arith, marks_within key (stream_of e.header) e.body marks has, body_within bytes e is)

-- the form of an entry that passes
pub next_within : (g : Genesis) (kit : Kit) (A : List (List ℕ)) (b : List ℕ) (e : Entry) → entry_of b ≡ Ok e → Passes g kit A (length A + 1) e → inserted_len (next_form g kit A b) ≤ MAX_EDIT_BODY
next_within g kit A b e is p = go (change_of e) refl
  where
    go : (o : Option ChangeBody) → change_of e ≡ o → inserted_len (next_form g kit A b) ≤ MAX_EDIT_BODY
    go None none =
        let marks = edit_over g kit A (length A + 1) e p none in
        let form : next_form g kit A b ≡ later_over marks.0 (drop e.header.base (forms_of g kit A)) = edit_form g kit A b e marks.0 is none marks.1 in
        let within = edit_within (epoch_key g kit A e.header.epoch) b e marks.0 is marks.1 in
        omega (arith, ap inserted_len form, inserted_len-over marks.0 (drop e.header.base (forms_of g kit A)), within)
    go (Some body) some = omega (arith, ap inserted_len (change_form g kit A b e body is some), inserted_len-keep_marks (length (text_of g kit A)))

abbrev FewInserted : Genesis → Kit → List (List ℕ) → Type 0
FewInserted g kit A = Good g kit A → all_inserted (forms_of g kit A) ≤ MAX_EDIT_BODY * length A

few_none : (g : Genesis) (kit : Kit) → FewInserted g kit []
unfolding forms_from
few_none g kit good = omega arith

few_push : (g : Genesis) (kit : Kit) (A : List (List ℕ)) (b : List ℕ) → FewInserted g kit A → FewInserted g kit (A ++ b ∷ [])
few_push g kit A b before good =
    let p = last_passes g kit A b good in
    let forms = forms_of g kit A in
    let form = next_form g kit A b in
    omega (
      arith,
      before (good_front g kit A b good),
      next_within g kit A b p.0 p.1 p.2,
      ap all_inserted (forms_push g kit A b good),
      all_inserted-append forms (form ∷ []),
      length-append A (b ∷ []),
    )

pub few_inserted : (g : Genesis) (kit : Kit) (A : List (List ℕ)) → Good g kit A → all_inserted (forms_of g kit A) ≤ MAX_EDIT_BODY * length A
few_inserted g kit = from_end (FewInserted g kit) (few_none g kit) (few_push g kit)

-- each entry adds no more characters to the text than the longest body has bytes
pub length-text_of : (g : Genesis) (kit : Kit) (A : List (List ℕ)) → Good g kit A → length (text_of g kit A) ≤ MAX_EDIT_BODY * length A
length-text_of g kit A good =
    let few = few_inserted g kit A good in
    let follow = forms_follow g kit A good in
    omega (arith, few, length-text (forms_of g kit A) follow, reached-le 0 (forms_of g kit A) follow)
