-- Each client of a run of typed moves is sound, at each moment: the entry that it makes of a pending item is read as it was made.
use Rattle.std.proofs.Common.{◌≡◌, ℕ, ◌≤◌, false, List, [], ◌∷◌, length, drop, refl, ap, sym, ◌∙◌, subst, arith, Option, None, Some, IfSome, ◌+◌, Bool, true, cond, take, ◌&&◌, length-append}
use Rattle.sporc_client.proofs.Common.{unwrap_or, is_some, AllByRecursion, result_ok, drop_all, drop_at, length-drop, length-take-le, length-map, Device, IsBytes, mask_from-mask_from}
use Rattle.sporc_client.proofs.Common.{Spells, delta_bytes, HaveSpellings, Mark, base_len, later_over, MemberChange, Entry, Header, IsChangeBody, IsEntry, entry_takes, Keys, Sealing}
use Rattle.sporc_client.proofs.Common.{entry_stream, stream_of, epoch_of, is_removed, changes, roster_of, change_in, epoch_key, Good, Meets, edit_marks, forms_of, length-forms, keys_meet}
use Rattle.sporc_client.proofs.Common.{Pending, due, new_key_in, randomizer_in, can_log, can_log_all, Chosen, current_key, next_header, sealing_of, Opening, PlainClient, committed_of, me_of}
use Rattle.sporc_client.proofs.Common.{opened, AreStated, Setup, World, Move, Open, Happen, Give, Restart, start, after, after_all, IsAt, IsRun, May, opening_of, IsReached, IsEditOf}
use Rattle.sporc_client.proofs.Common.{IsEntryOf, IsInFlight, IsOfFirst, IsSound, restated, accepted, change_comes, edit_comes, form_coming, is_flight, log_of_entries, own_comes}
use Rattle.sporc_client.proofs.Common.{replay_from, step, AreEpochKeys, IsTypedChange, IsTypedEvent, IsTypedMove, IsTypedRun, IsWellFormed, lms_signature_of, after_change, IsGenesis}
use Rattle.sporc_client.proofs.Common.{version_of, Part, runs, Member, IsSpelled, and_parts, good_take, refusal_of, Logged, line_of, mask_of, IsTypedPart, change_body_again, all_append}
use Rattle.sporc_client.proofs.Common.{flat_map, w64, to_be_bytes, all_scalars, encode_utf8_all, and_from, MAX_COUNT, HasSpelling, part_bytes, parts_bytes, marks_of, part_marks, earlier}
use Rattle.sporc_client.proofs.Common.{last_steps, later, later_step, base_len-append, base_len-remove_marks, base_len-keep_marks, rebased, KeepRun, InsertText, RemoveRun, IsTypedDelta}
use Rattle.sporc_client.proofs.Common.{marks_of-runs, Insert, Keep}
use Rattle.sporc_delta.specs.Reading.{read_delta}
use Rattle.sporc_delta.proofs.Grammar.{spelled_is_read}
use Rattle.sporc_entry.specs.Entry.{change_of, signed_string}
use Rattle.sporc_epoch.specs.Sealing.{body_sealed}
use Rattle.sporc_line.specs.Document.{forms_from}
use Rattle.sporc_client.specs.Allowed.{is_allowed}
use Rattle.sporc_client.specs.Entries.{entry_made}
use Rattle.sporc_client.specs.Step.{replay}
use Rattle.sporc_client.proofs.TypedHistories.{entry_same, changes_typed, key_size, small_change, small_roster, body_typed}
use Rattle.sporc_client.proofs.SignedEntries.{header_made}
use Rattle.sporc_client.proofs.Submitting.{IsDue, IsMadeBy, chosen_in, made_by_submission}
use Rattle.sporc_client.proofs.Small.{length-text_of}
use Rattle.sporc_client.proofs.HonestChanges.{new_key_size, numbers_small, sealed_change_of}
use Rattle.sporc_client.proofs.HonestSignatures.{signature_len}
use Rattle.sporc_delta.specs.Marks.{Remove}
use Rattle.sporc_epoch.proofs.SpelledBodies.{body_spelled}
use Rattle.sporc_client.proofs.SubmitRosters.{change_written, few_after, few_members, kind_written}
use Rattle.sporc_client.proofs.AllItems.{all_rest, all_take}
use Rattle.sporc_client.proofs.Reached.{restarted, AllClients, AllReached, Keeps, after_keeps, reached_after, reached_opened, reached_start, run_front}
use Rattle.sporc_client.proofs.AcceptedHistories.{accept_passes, accepts_all}
use Rattle.sporc_client.proofs.Events.{IsOfItem, accepted_as, event_sound}
use Rattle.sporc_client.proofs.Soundness.{accepted_sound}
use Rattle.sporc_delta.proofs.Typing.{inserted, inserted-append, inserted-remove_marks, inserted-insert_marks, inserted-keep_marks, scalars_append}
use Rattle.sporc_client.specs.declared.pending.Pending.TheVariants.{Edit, Change}
use Rattle.sporc_client.specs.declared.pending.Pending.TheVariants as items
use Rattle.sporc_client.specs.Log as events

-- ---- the characters that a delta inserts

abbrev pub HasScalars : List Mark → Type 0
HasScalars marks = all_scalars (inserted marks) ≡ true

scalars_of_parts : (ps : List Part) → AllByRecursion IsTypedPart ps → HasScalars (marks_of ps)
scalars_of_parts [] typed = refl
scalars_of_parts (p ∷ ps) typed =
    ap all_scalars (inserted-append (part_marks p) (marks_of ps)) ∙ scalars_append (inserted (part_marks p)) (inserted (marks_of ps))
    ∙ and_from (all_scalars (inserted (part_marks p))) (all_scalars (inserted (marks_of ps))) (of_part p typed.0) (scalars_of_parts ps typed.1)
  where
    of_part : (p : Part) → IsTypedPart p → all_scalars (inserted (part_marks p)) ≡ true
    of_part (KeepRun n) typed = ap all_scalars (inserted-keep_marks n)
    of_part (InsertText text) typed = ap all_scalars (inserted-insert_marks text) ∙ typed.1
    of_part (RemoveRun n) typed = ap all_scalars (inserted-remove_marks n)

pub scalars_of : (marks : List Mark) → IsTypedDelta marks → HasScalars marks
scalars_of marks typed = subst HasScalars (marks_of-runs marks) (scalars_of_parts (runs marks) typed)

-- ---- a delta that passes another inserts what it inserted

scalar_front : (c : ℕ) (text : List ℕ) (rest : List ℕ) → all_scalars (c ∷ text) ≡ true → (all_scalars text ≡ true → all_scalars rest ≡ true) → all_scalars (c ∷ rest) ≡ true
scalar_front c text rest all more =
    let split : (all_scalars (c ∷ []) && all_scalars text) ≡ true = sym (scalars_append (c ∷ []) text) ∙ all in
    let p = and_parts (all_scalars (c ∷ [])) (all_scalars text) split in
    scalars_append (c ∷ []) rest ∙ and_from (all_scalars (c ∷ [])) (all_scalars rest) p.0 (more p.1)

last_scalars : (q : List Mark) → HasScalars q → HasScalars (flat_map later_step (last_steps q))
last_scalars (Insert c ∷ q) h = scalar_front c (inserted q) (inserted (flat_map later_step (last_steps q))) h (last_scalars q)
last_scalars q h = refl

abbrev KeepsScalars : List Mark → Type 0
KeepsScalars p = (q : List Mark) → HasScalars q → HasScalars (later q p)

keep_scalars : (p : List Mark) → KeepsScalars p → KeepsScalars (Keep ∷ p)
keep_scalars p before [] h = refl
keep_scalars p before (Insert c ∷ q) h = scalar_front c (inserted q) (inserted (later q (Keep ∷ p))) h (keep_scalars p before q)
keep_scalars p before (Keep ∷ q) h = before q h
keep_scalars p before (Remove ∷ q) h = before q h

remove_scalars : (p : List Mark) → KeepsScalars p → KeepsScalars (Remove ∷ p)
remove_scalars p before [] h = refl
remove_scalars p before (Insert c ∷ q) h = scalar_front c (inserted q) (inserted (later q (Remove ∷ p))) h (remove_scalars p before q)
remove_scalars p before (Keep ∷ q) h = before q h
remove_scalars p before (Remove ∷ q) h = before q h

pub later_scalars : (p : List Mark) → KeepsScalars p
later_scalars [] q h = last_scalars q h
later_scalars (Insert c ∷ p) q h = later_scalars p q h
later_scalars (Keep ∷ p) q h = keep_scalars p (later_scalars p) q h
later_scalars (Remove ∷ p) q h = remove_scalars p (later_scalars p) q h

pub over_scalars : (q : List Mark) (forms : List (List Mark)) → HasScalars q → HasScalars (later_over q forms)
over_scalars q [] h = h
over_scalars q (form ∷ forms) h = over_scalars (later q form) forms (later_scalars form q h)

-- ---- pending items

-- each edit's characters are Unicode scalar values, and each change is typed
abbrev pub IsTypedItem : Pending → Type 0
IsTypedItem (Edit marks) = HasScalars marks
IsTypedItem (Change change) = IsTypedChange change

abbrev pub AreTypedItems : List Pending → Type 0
AreTypedItems items = AllByRecursion IsTypedItem items

pub typed_rebased : (form : List Mark) (pending : List Pending) → AreTypedItems pending → AreTypedItems (rebased form pending)
typed_rebased form [] all = tt
typed_rebased form (Edit m ∷ items) all = (later_scalars form m all.0, typed_rebased (earlier form m) items all.1)
typed_rebased form (Change c ∷ items) all = (all.0, typed_rebased form items all.1)

-- ---- spellings

-- a delta of a text that isn't too long, with few bytes
pub record IsShort (marks : List Mark) (bytes : List ℕ) : Type 0 where
  pub base : base_len marks ≤ MAX_COUNT
  pub size : length bytes ≤ MAX_COUNT
  pub scalars : HasScalars marks

part_spelled : (p : Part) → IsShort (part_marks p) (part_bytes p) → HasSpelling p
part_spelled (KeepRun n) short = omega (arith, short.base, base_len-keep_marks n)
part_spelled (RemoveRun n) short = omega (arith, short.base, base_len-remove_marks n)
part_spelled (InsertText text) short = (
  ap all_scalars (sym (inserted-insert_marks text)) ∙ short.scalars,
  omega (arith, short.size, length-append (to_be_bytes w64 (length (encode_utf8_all text))) (encode_utf8_all text)),
)

parts_spelled : (ps : List Part) → IsShort (marks_of ps) (parts_bytes ps) → HaveSpellings ps
parts_spelled [] short = tt
parts_spelled (p ∷ ps) short =
    let scalars = and_parts (all_scalars (inserted (part_marks p))) (all_scalars (inserted (marks_of ps)))
    (sym (scalars_append (inserted (part_marks p)) (inserted (marks_of ps))) ∙ ap all_scalars (sym (inserted-append (part_marks p) (marks_of ps))) ∙ short.scalars) in (
      part_spelled p (record {
        base = omega (arith, short.base, base_len-append (part_marks p) (marks_of ps));
        size = omega (arith, short.size, length-append (part_bytes p) (parts_bytes ps));
        scalars = scalars.0;
      }),
      parts_spelled ps (record {
        base = omega (arith, short.base, base_len-append (part_marks p) (marks_of ps));
        size = omega (arith, short.size, length-append (part_bytes p) (parts_bytes ps));
        scalars = scalars.1;
      }),
    )

pub spelled : (marks : List Mark) → IsShort marks (delta_bytes marks) → Spells marks (delta_bytes marks)
spelled marks short = record {
  in_range = parts_spelled (runs marks) (subst (λ (ms : List Mark). IsShort ms (delta_bytes marks)) (sym (marks_of-runs marks)) short);
  bytes_are = refl;
}

pub header_of_made : (c : PlainClient) (chosen : Chosen) (item : Pending) → (entry_made c chosen item).header ≡ next_header (line_of c) chosen.leaf item
unfolding entry_made
header_of_made c chosen item = refl

pub entry_read : (s : Setup) (who : Device) (c : PlainClient) (bytes : List ℕ) → IsWellFormed s → IsReached s who c → IsBytes bytes → (makes : IsMadeBy c bytes)
    → IsEntry makes.entry × (makes.entry ≡ entry_made c (chosen_in c makes.entry) makes.item)
entry_read s who c bytes well reached typed makes =
    let made = entry_made c (chosen_in c makes.entry) makes.item in
    let read = entry_takes bytes makes.entry typed makes.reads in
    let header : made.header ≡ makes.entry.header = header_of_made c (chosen_in c makes.entry) makes.item ∙ sym (header_made s who c bytes well reached makes) in
    (read.0, entry_same makes.entry made read.0 header (sym read.1 ∙ sym makes.made))

-- ---- the random bytes and the keys that it shows have their lengths

pub signature_of : (c : PlainClient) (chosen : Chosen) (item : Pending)
    → (entry_made c chosen item).signature ≡ lms_signature_of c.opening.key chosen.leaf chosen.randomizer (signed_string (entry_made c chosen item))
unfolding entry_made signed_string
signature_of c chosen item = refl

-- the randomizer that an entry shows has its length
pub shown_size : (c : PlainClient) (bytes : List ℕ) (makes : IsMadeBy c bytes) → makes.entry ≡ entry_made c (chosen_in c makes.entry) makes.item → length (randomizer_in makes.entry) ≡ 32
shown_size c bytes makes same =
    let e = makes.entry in
    let message = signed_string (entry_made c (chosen_in c e) makes.item) in
    let long = signature_len c.opening.key (chosen_in c e).leaf (chosen_in c e).randomizer message in
    let is : e.signature ≡ lms_signature_of c.opening.key (chosen_in c e).leaf (chosen_in c e).randomizer message =
    ap (λ (e : Entry). e.signature) same ∙ signature_of c (chosen_in c e) makes.item in
    let whole : 1096 ≤ length e.signature = omega (arith, long, ap length is) in
    length-take-le 32 (drop 8 e.signature) (omega (arith, whole, length-drop 8 e.signature))

pub new_size : (c : PlainClient) (bytes : List ℕ) (makes : IsMadeBy c bytes) → IsEntry makes.entry × (makes.entry ≡ entry_made c (chosen_in c makes.entry) makes.item)
    → length (chosen_in c makes.entry).new_key ≡ 32
new_size c bytes makes read =
    let e = makes.entry in
    let pairs = c.opening.kit.pairs in
    ap length (drop_at (randomizer_in e) (new_key_in pairs e) 32 (shown_size c bytes makes read.1))
    ∙ new_key_size e.header.version pairs (stream_of e.header) (change_of e) (body_typed e read.0)

-- ---- what is known of a client of a run of typed moves

-- sound, with keys, entries and pending items of their types
pub record IsSoundAndTyped (c : PlainClient) : Type 0 where
  pub sound : IsSound c
  pub typed : AreTypedItems c.pending
  pub ring : AreEpochKeys c.opening.kit.ring
  pub bytes : AllByRecursion IsBytes c.entries

pub record HasKey (c : PlainClient) : Type 0 where
  pub key : List ℕ
  pub is : epoch_key c.opening.genesis c.opening.kit c.entries (epoch_of c.entries) ≡ Some key

-- a client that isn't removed has it
pub key_there : (c : PlainClient) → Good c.opening.genesis c.opening.kit c.entries → is_removed (me_of c) c.entries ≡ false → HasKey c
key_there c good kept =
    let l : epoch_of c.entries ≤ epoch_of c.entries = omega arith in
    go _ (epoch_key c.opening.genesis c.opening.kit c.entries (epoch_of c.entries)) refl (keys_meet c.opening.genesis c.opening.kit c.entries good kept (epoch_of c.entries) l)
  where
    go : (commitment : List ℕ) (key : Option (List ℕ)) → epoch_key c.opening.genesis c.opening.kit c.entries (epoch_of c.entries) ≡ key → Meets c.opening.genesis (epoch_of c.entries) key commitment → HasKey c
    go commitment None is meets = absurd meets
    go commitment (Some key) is meets = record { key = key; is = is }

-- the key of the epoch has its length
pub current_size : (c : PlainClient) → IsSoundAndTyped c → HasKey c → length (current_key (line_of c)) ≡ 32
current_size c known has =
    let size = key_size c.opening.genesis c.opening.kit (changes c.entries) (epoch_of c.entries) known.ring (changes_typed c.entries known.bytes) in
    let current : current_key (line_of c) ≡ has.key = ap (λ (key : Option (List ℕ)). unwrap_or key []) has.is in
    ap length current ∙ subst (λ (o : Option (List ℕ)). IfSome o (λ key. length key ≡ 32)) has.is size

-- ---- an edit

-- an edit that is due has a spelling
pub spelled_due : (c : PlainClient) (marks : List Mark) → IsSound c → HasScalars marks → (due : IsDue c (items.Edit marks)) → Spells marks (delta_bytes marks)
spelled_due c marks sound scalars due =
    let S : List Pending → Type 0 = λ ps. AreStated (committed_of c) ps in
    let base : base_len marks ≡ length (committed_of c) = (subst S due.head.first sound.stated).0 in
    let long = length-text_of c.opening.genesis c.opening.kit c.entries sound.good in
    spelled marks (record { base = omega (arith, base, long, due.head.room); size = omega (arith, due.fits); scalars = scalars })

pub edit_spelled : (c : PlainClient) (marks : List Mark) → IsSound c → AreTypedItems c.pending → (due : IsDue c (items.Edit marks)) → Spells marks (delta_bytes marks)
edit_spelled c marks sound typed due = spelled_due c marks sound (subst AreTypedItems due.head.first typed).0 due

-- and is read again under the key of the epoch
pub reads_edit : (c : PlainClient) (chosen : Chosen) (marks : List Mark) → HasKey c → Spells marks (delta_bytes marks)
    → edit_marks (epoch_key c.opening.genesis c.opening.kit c.entries (epoch_of c.entries)) (entry_made c chosen (items.Edit marks)) ≡ Some marks
unfolding entry_made
reads_edit c chosen marks has spells =
    let stream = entry_stream (me_of c) chosen.leaf in
    let current : current_key (line_of c) ≡ has.key = ap (λ (key : Option (List ℕ)). unwrap_or key []) has.is in
    ap (λ (key : Option (List ℕ)). edit_marks key (entry_made c chosen (items.Edit marks))) has.is
    ∙ ap (λ (key : List ℕ). result_ok (read_delta (mask_of has.key stream (mask_of key stream (delta_bytes marks))))) current
    ∙ ap (λ (bytes : List ℕ). result_ok (read_delta bytes)) (mask_from-mask_from has.key stream 0 (delta_bytes marks))
    ∙ ap result_ok (spelled_is_read (delta_bytes marks) marks spells)

pub no_change : (c : PlainClient) (chosen : Chosen) (marks : List Mark) → change_of (entry_made c chosen (items.Edit marks)) ≡ None
unfolding entry_made change_of
no_change c chosen marks = refl

pub edit_made : (c : PlainClient) (chosen : Chosen) (marks : List Mark) → HasKey c → Spells marks (delta_bytes marks) → IsEditOf c (entry_made c chosen (items.Edit marks)) marks
edit_made c chosen marks has spells =
    let m = entry_made c chosen (items.Edit marks) in
    let forms = forms_of c.opening.genesis c.opening.kit c.entries in
    let header = header_of_made c chosen (items.Edit marks) in
    let epoch : m.header.epoch ≡ epoch_of c.entries = ap (λ (h : Header). h.epoch) header in
    let base : m.header.base ≡ length c.entries = ap (λ (h : Header). h.base) header in
    let past : length forms ≤ m.header.base = omega (arith, base, length-forms c.opening.genesis c.opening.kit c.entries) in
    record {
      no_change = no_change c chosen marks;
      held = marks;
      reads = ap (λ (e : ℕ). edit_marks (epoch_key c.opening.genesis c.opening.kit c.entries e) m) epoch ∙ reads_edit c chosen marks has spells;
      restated = ap (later_over marks) (drop_all m.header.base forms past);
    }

-- ---- a change

pub sealed_change : (sealing : Sealing) (pairs : Keys) → (body_sealed sealing pairs).change ≡ sealing.change
unfolding body_sealed
sealed_change sealing pairs = refl

-- a change that was made is read as it was sealed
pub change_made_is : (c : PlainClient) (chosen : Chosen) (change : MemberChange) → IsChangeBody (version_of (roster_of c.opening.genesis c.entries).upgraded) (body_sealed (sealing_of (line_of c) chosen.leaf chosen.new_key change) c.opening.kit.pairs)
    → change_of (entry_made c chosen (items.Change change)) ≡ Some (body_sealed (sealing_of (line_of c) chosen.leaf chosen.new_key change) c.opening.kit.pairs)
unfolding entry_made change_of
change_made_is c chosen change is = ap result_ok (change_body_again (version_of (roster_of c.opening.genesis c.entries).upgraded) 0 (body_sealed (sealing_of (line_of c) chosen.leaf chosen.new_key change) c.opening.kit.pairs) is)

-- ---- what the entry of a due item holds is spelled as its format has it

parts_typed : (ps : List Part) → HaveSpellings ps → AllByRecursion IsTypedPart ps
parts_typed [] all = tt
parts_typed (KeepRun n ∷ ps) all = (omega (arith, all.0), parts_typed ps all.1)
parts_typed (InsertText text ∷ ps) all = ((omega (arith, all.0.1), all.0.0), parts_typed ps all.1)
parts_typed (RemoveRun n ∷ ps) all = (omega (arith, all.0), parts_typed ps all.1)

pub due_spelled : (s : Setup) (who : Device) (c : PlainClient) (chosen : Chosen) (item : Pending) → IsWellFormed s → IsReached s who c → IsSoundAndTyped c → length chosen.new_key ≡ 32 → IsDue c item
    → IsSpelled (line_of c) chosen.leaf chosen.new_key item
due_spelled s who c chosen (items.Edit marks) well reached known size due = parts_typed (runs marks) (edit_spelled c marks known.sound known.typed due).in_range
due_spelled s who c chosen (items.Change change) well reached known size due =
    let g = c.opening.genesis in
    let is : IsGenesis g = subst (λ (o : Opening). IsGenesis o.genesis) (sym reached.opening) well.genesis in
    let roster = roster_of g c.entries in
    let few = few_members g c.opening.kit c.entries is reached.good in
    let typed : IsTypedChange change = (subst AreTypedItems due.head.first known.typed).0 in
    let written = change_written roster change few due.fits.0 typed in
    let sealing = sealing_of (line_of c) chosen.leaf chosen.new_key change in
    let members = (after_change roster change).members in
    let small = numbers_small members (small_change roster change written (small_roster g c.entries is.founders known.bytes)) in
    body_spelled (version_of roster.upgraded) sealing c.opening.kit.pairs (body_sealed sealing c.opening.kit.pairs) (sealed_change_of sealing c.opening.kit.pairs due.fits.1) (kind_written roster change due.fits.0) written
    (current_size c known (key_there c reached.good due.head.not_removed)) size small
    (omega (arith, length-map members (λ (m : Member). m.member), (few_after roster change few due.fits.0).few))

-- ---- so the entry is that of the item

pub item_of : (c : PlainClient) (chosen : Chosen) (item : Pending) → IsSound c → IsSpelled (line_of c) chosen.leaf chosen.new_key item → IsDue c item → IsEntryOf c (entry_made c chosen item) item
item_of c chosen (items.Edit marks) sound typed due = edit_made c chosen marks (key_there c sound.good due.head.not_removed) (spelled_due c marks sound (scalars_of marks typed) due)
item_of c chosen (items.Change change) sound is due = record {
  body = body_sealed (sealing_of (line_of c) chosen.leaf chosen.new_key change) c.opening.kit.pairs;
  reads = change_made_is c chosen change is;
  same = sealed_change (sealing_of (line_of c) chosen.leaf chosen.new_key change) c.opening.kit.pairs;
}

-- the entry on its way
pub made_in_flight : (s : Setup) (who : Device) (c : PlainClient) (bytes : List ℕ) → IsWellFormed s → IsReached s who c → IsSoundAndTyped c → IsBytes bytes → IsMadeBy c bytes → IsInFlight c bytes
made_in_flight s who c bytes well reached known typed makes =
    let read = entry_read s who c bytes well reached typed makes in
    let header = header_made s who c bytes well reached makes in
    let chosen = chosen_in c makes.entry in
    let spelled = due_spelled s who c chosen makes.item well reached known (new_size c bytes makes read) makes.due in
    let of = subst (λ (e : Entry). IsEntryOf c e makes.item) (sym read.1) (item_of c chosen makes.item known.sound spelled makes.due) in
    let base : makes.entry.header.base ≡ length c.entries = ap (λ (h : Header). h.base) header in
    let epoch : makes.entry.header.epoch ≡ epoch_of c.entries = ap (λ (h : Header). h.epoch) header in
    record { entry = makes.entry; reads = makes.reads; base = omega (arith, base); epoch = omega (arith, epoch); first = subst (IsOfFirst c makes.entry) (sym makes.due.head.first) of }

-- ---- each event keeps a client sound

typed_accepted : (c : PlainClient) (bytes : List ℕ) → AreTypedItems c.pending → AreTypedItems (accepted c bytes).pending
typed_accepted c bytes typed = go (is_flight c bytes) (is_some (change_in bytes))
  where
    go : (own change : Bool) → AreTypedItems (cond own (own_comes c bytes) (cond change (change_comes c bytes) (edit_comes c bytes))).pending
    go true change = all_rest IsTypedItem c.pending typed
    go false true = typed
    go false false = typed_rebased (form_coming c bytes) c.pending typed

pub accept_keeps : (c : PlainClient) (bytes : List ℕ) → IsBytes bytes → IsSoundAndTyped c → refusal_of c (length c.entries + 1) bytes ≡ None → IsSoundAndTyped (accepted c bytes)
accept_keeps c bytes are_bytes known none =
    let longer = accepted_as c bytes in
    record {
      sound = accepted_sound c bytes known.sound none;
      typed = typed_accepted c bytes known.typed;
      ring = subst (λ (o : Opening). AreEpochKeys o.kit.ring) (sym longer.opening) known.ring;
      bytes = subst (AllByRecursion IsBytes) (sym longer.entries) (all_append IsBytes c.entries (bytes ∷ []) known.bytes (are_bytes, tt));
    }

pub event_keeps : (s : Setup) (who : Device) (c : PlainClient) (event : Logged) → IsWellFormed s → IsReached s who c → IsTypedEvent event → can_log c event ≡ true → IsSoundAndTyped c → IsSoundAndTyped (step c event)
event_keeps s who c (events.Accept by bytes) well reached typed may known = accept_keeps c bytes typed known (accept_passes c by bytes may)
event_keeps s who c event well reached typed may known = record { sound = event_sound c event may (of event typed may) known.sound; typed = pending event typed; ring = known.ring; bytes = known.bytes }
  where
    of : (event : Logged) → IsTypedEvent event → can_log c event ≡ true → IsOfItem c event
    of (events.Submit by bytes) typed may = made_in_flight s who c bytes well reached known typed (made_by_submission c by bytes may)
    of event typed may = tt

    pending : (event : Logged) → IsTypedEvent event → AreTypedItems (step c event).pending
    pending (events.Edit by seen marks) typed =
        all_append IsTypedItem c.pending (items.Edit (restated c seen marks) ∷ []) known.typed (over_scalars marks (drop seen c.shown) (scalars_of marks typed), tt)
    pending (events.Change by change) typed = all_append IsTypedItem c.pending (items.Change change ∷ []) known.typed (typed, tt)
    pending (events.Submit by bytes) typed = known.typed
    pending (events.Dropped by fault) typed = all_rest IsTypedItem c.pending known.typed
    pending (events.Accept by bytes) typed = typed_accepted c bytes known.typed
    pending (events.Discard by) typed = tt

-- ---- a client that was just opened, and one that accepted all of a history

pub opened_keeps : (o : Opening) → AreEpochKeys o.kit.ring → Good o.genesis o.kit [] → IsSoundAndTyped (opened o)
unfolding forms_from
opened_keeps o ring good = record { sound = record { good = good; stated = tt; follow = tt; shown = refl; flight = tt }; typed = tt; ring = ring; bytes = tt }

accepts_keep : (c : PlainClient) (entries : List (List ℕ)) → AllByRecursion IsBytes entries → IsSoundAndTyped c → can_log_all c (log_of_entries entries) ≡ true → IsSoundAndTyped (replay_from c (log_of_entries entries))
accepts_keep c [] bytes known may = known
accepts_keep c (b ∷ entries) bytes known may =
    let p = and_parts (can_log c (events.Accept 0 b)) (can_log_all (accepted c b) (log_of_entries entries)) may in
    accepts_keep (accepted c b) entries bytes.1 (accept_keeps c b bytes.0 known (accept_passes c 0 b p.0)) p.1

pub restarted_keeps : (c : PlainClient) (k : ℕ) → IsSoundAndTyped c → IsSoundAndTyped (restarted c k)
unfolding replay is_allowed
restarted_keeps c k known =
    let o = c.opening in
    let good = good_take o.genesis o.kit c.entries k known.sound.good in
    let all = accepts_all o (take k c.entries) good in
    accepts_keep (opened o) (take k c.entries) (all_take IsBytes k c.entries known.bytes) (opened_keeps o known.ring (good_take o.genesis o.kit c.entries 0 known.sound.good)) all.allowed

-- ---- each move keeps all clients sound

abbrev pub AllSound : World → Type 0
AllSound w = AllClients (λ who c. IsSoundAndTyped c) w

pub sound_after : (s : Setup) (w : World) (move : Move) → IsWellFormed s → AllReached s w → AllSound w → IsTypedMove move → May s w move → AllSound (after s w move)
sound_after s w move well reached all typed may = after_keeps (λ who c. IsSoundAndTyped c) s w move all may (keeps move typed may)
  where
    keeps : (move : Move) → IsTypedMove move → May s w move → Keeps (λ who c. IsSoundAndTyped c) s w move
    keeps (Open who ring) typed may = opened_keeps (opening_of s who ring) typed (reached_opened s who ring may.0 may.1).good
    keeps (Happen who event) typed may = λ c is allowed there. event_keeps s who c event well (reached who c is) typed allowed (all who c is)
    keeps (Give who position bytes) typed may = λ c is allowed there. accept_keeps c bytes typed (all who c is) (accept_passes c 0 bytes allowed)
    keeps (Restart who k) typed may = λ c is. restarted_keeps c k (all who c is)

sound_all : (s : Setup) (w : World) (moves : List Move) → IsWellFormed s → AllReached s w → AllSound w → AllByRecursion IsTypedMove moves → IsRun s w moves → AllSound (after_all s w moves)
sound_all s w [] well reached all typed run = all
sound_all s w (move ∷ moves) well reached all typed run =
    sound_all s (after s w move) moves well (reached_after s w move reached run.0) (sound_after s w move well reached all typed.0 run.0) typed.1 run.1

pub sound_and_typed_at : (s : Setup) (moves : List Move) (n : ℕ) (who : Device) (c : PlainClient) → IsTypedRun s moves → IsAt s moves n who c → IsSoundAndTyped c
sound_and_typed_at s moves n who c run at =
    sound_all s start (take n moves) run.setup (reached_start s) (λ who c at. absurd cc) (all_take IsTypedMove n moves run.typed) (run_front s start moves n run.run) who c at

pub sound_at : (s : Setup) (moves : List Move) (n : ℕ) (who : Device) (c : PlainClient) → IsTypedRun s moves → IsAt s moves n who c → IsSound c
sound_at s moves n who c run at = (sound_and_typed_at s moves n who c run at).sound
