-- An entry that a client signs passes at each client with its history, followed by edits of others.
use Rattle.std.proofs.Common.{◌≡◌, ℕ, ◌+◌, ◌<◌, ◌≤◌, Bool, true, false, cond, List, [], ◌∷◌, ◌++◌, length, take, map, refl, ap, sym, ◌∙◌, subst, arith, Option, None, Some, IfSome, Ok, length-append}
use Rattle.sporc_client.proofs.Common.{Contains, is_some, unwrap_or, ◌==◌, get, AllByRecursion, list_any, drop_at, take_at, IsBytes, first_of, CollisionFree, key_string, lms_public_of}
use Rattle.sporc_client.proofs.Common.{public_key_bytes, lms_signature_of, Spells, delta_bytes, Mark, base_len, Device, MemberChange, Roster, after_change, key_of_device, member_at, removes}
use Rattle.sporc_client.proofs.Common.{roster_after, ChangeBody, Entry, Genesis, Header, Wrap, IsEntry, author_device, change_of, entry_of, signed_string, version_of, Keys, Sealing, body_sealed}
use Rattle.sporc_client.proofs.Common.{stream_of, wrap_opened, MAX_ENTRIES, allows_member, names_leaf, roster_checks, verifies_device, CommittedChange, change_in, changes, count_of, epoch_of, hash_of}
use Rattle.sporc_client.proofs.Common.{is_removed, roster_of, change_in_read, Kit, key_after, epoch_key, line_strings, first_fault, is_new_key, new_key_checks, Operation, edit_marks, forms_from}
use Rattle.sporc_client.proofs.Common.{text_after, text_of, Good, no_fault, good_take, has_left, Pending, new_key_in, new_key_of, randomizer_in, refusal_of, Chosen, current_key, entry_made, kind_of}
use Rattle.sporc_client.proofs.Common.{next_header, sealing_of, Opening, PlainClient, committed_of, me_of, IsReached, AreStated, IsAt, Move, Setup, IsTypedRun, IsWellFormed, line_of, started_by_wraps}
use Rattle.sporc_client.proofs.Common.{CanLearnKey, CanReceive, EntriesPass, HasOwnKey, IsOthersEdit}
use Rattle.lms_tree.proofs.SignatureLemmas.{leaf_fits}
use Rattle.sporc_line.specs.LineChecks.{key_checks, key_checks_of}
use Rattle.sporc_line.proofs.Effects.{edit_passes}
use Rattle.sporc_line.proofs.SameKeys.{HasKeys, committed, has_right, same_epoch_keys, same_operations}
use Rattle.sporc_client.specs.declared.pending.Pending.TheVariants as items
use Rattle.sporc_client.proofs.HonestChanges.{key_is_new, keys_fine, member_opens, roster_fine, sealed_for}
use Rattle.sporc_client.proofs.HonestSignatures.{names_own_leaf, verifies_own}
use Rattle.sporc_client.proofs.InHistories.{barrier_before, changes_stay, count_stays, last_before}
use Rattle.sporc_client.proofs.Reached.{reached_at}
use Rattle.sporc_client.proofs.SignedEntries.{header_made}
use Rattle.sporc_client.proofs.SoundRuns.{HasKey, IsSoundAndTyped, change_made_is, due_spelled, edit_spelled, entry_read, key_there, new_size, no_change, reads_edit, sealed_change, shown_size, signature_of, sound_and_typed_at}
use Rattle.sporc_client.proofs.Submitting.{IsDue, IsMadeBy, chosen_in, is_there, made_by_submission}

-- ---- the signature of an entry that a client made

-- the randomizer that it was made with has its length
randomizer_size : (c : PlainClient) (bytes : List ℕ) (makes : IsMadeBy c bytes) → makes.entry ≡ entry_made c (chosen_in c makes.entry) makes.item → length (chosen_in c makes.entry).randomizer ≡ 32
randomizer_size c bytes makes same =
    let shown = shown_size c bytes makes same in
    ap length (take_at (randomizer_in makes.entry) (new_key_in c.opening.kit.pairs makes.entry) 32 shown) ∙ shown

-- ---- what passes wherever the history is followed by edits of others

-- the facts of an entry that was made on a history
pub record IsMadeOn (g : Genesis) (entries : List (List ℕ)) (e : Entry) : Type 0 where
  pub document : e.header.document ≡ g.document
  pub base : e.header.base ≡ length entries
  pub history : e.header.base_hash ≡ hash_of g entries
  pub version : e.header.version ≡ version_of (roster_of g entries).upgraded
  pub number : e.header.number ≡ count_of (author_device e.header) entries + 1
  pub epoch : e.header.epoch ≡ epoch_of entries
  pub right : allows_member e.header.kind (member_at (roster_of g entries) e.header.author) ≡ true
  pub leaf : names_leaf e.header.leaf e.signature ≡ true
  pub key : List ℕ
  pub is_key : key_of_device (roster_of g entries) (author_device e.header) ≡ Some key
  pub signature : verifies_device (signed_string e) e.signature (Some key) ≡ true

pub honest_passes : (g : Genesis) (kit : Kit) (entries edits : List (List ℕ)) (bytes : List ℕ) (e : Entry) → entry_of bytes ≡ Ok e → IsMadeOn g entries e
    → AllByRecursion (IsOthersEdit (author_device e.header)) edits → is_removed kit.me (entries ++ edits) ≡ false → length (entries ++ edits) < MAX_ENTRIES
    → first_of (roster_checks (roster_of g (entries ++ edits)) (change_of e)) ≡ None → first_of (key_checks g kit (entries ++ edits) e) ≡ None
    → first_fault g kit (entries ++ edits) (length (entries ++ edits) + 1) bytes ≡ None
honest_passes g kit entries edits bytes e is m others kept room roster keys =
    let author = author_device e.header in
    let same : changes (entries ++ edits) ≡ changes entries = changes_stay author entries edits others in
    let members : roster_of g entries ≡ roster_of g (entries ++ edits) = ap (λ (cs : List CommittedChange). roster_after g.founders (map (λ c. c.body.change) cs)) (sym same) in
    let right : allows_member e.header.kind (member_at (roster_of g (entries ++ edits)) e.header.author) ≡ true = ap (λ r. allows_member e.header.kind (member_at r e.header.author)) (sym members) ∙ m.right in
    let front : take e.header.base (entries ++ edits) ≡ entries = take_at entries edits e.header.base (sym m.base) in
    no_fault g kit (entries ++ edits) (length (entries ++ edits) + 1) bytes e is (record {
      document = m.document;
      position = refl;
      not_removed = kept;
      room = room;
      version = m.version ∙ ap (λ r. version_of r.upgraded) members;
      member = is_there e.header.kind (member_at (roster_of g (entries ++ edits)) e.header.author) right;
      device = ap (λ r. is_some (key_of_device r author)) (sym members) ∙ ap is_some m.is_key;
      base = omega (arith, m.base, length-append entries edits);
      barrier = omega (arith, barrier_before author entries edits others, m.base);
      history = m.history ∙ sym (ap (hash_of g) front);
      number = m.number ∙ ap (λ n. n + 1) (sym (count_stays author entries edits others));
      own = omega (arith, last_before author entries edits others, m.base);
      epoch = m.epoch ∙ ap length (sym same);
      right = right;
      leaf = m.leaf;
      signature = ap (λ r. verifies_device (signed_string e) e.signature (key_of_device r author)) (sym members) ∙ ap (verifies_device (signed_string e) e.signature) m.is_key ∙ m.signature;
      roster = roster;
      keys = keys;
    })

-- what a client made
pub made_on : (s : Setup) (who : Device) (c : PlainClient) (bytes : List ℕ) → IsWellFormed s → IsReached s who c → IsBytes bytes → length c.opening.key.id ≡ 16 → HasOwnKey c → (makes : IsMadeBy c bytes)
    → IsMadeOn c.opening.genesis c.entries makes.entry
made_on s who c bytes well reached typed id own makes =
    let e = makes.entry in
    let chosen = chosen_in c e in
    let header = header_made s who c bytes well reached makes in
    let same = (entry_read s who c bytes well reached typed makes).1 in
    let author : author_device e.header ≡ me_of c = ap author_device header in
    let kind : e.header.kind ≡ kind_of makes.item = ap (λ (h : Header). h.kind) header in
    let message = signed_string (entry_made c chosen makes.item) in
    let signature : e.signature ≡ lms_signature_of c.opening.key e.header.leaf chosen.randomizer message = ap (λ (e : Entry). e.signature) same ∙ signature_of c chosen makes.item in
    let signed : signed_string e ≡ message = ap signed_string same in
    let size = randomizer_size c bytes makes same in
    let roster = roster_of c.opening.genesis c.entries in
    let key = public_key_bytes (lms_public_of c.opening.key) in
    record {
      document = ap (λ (h : Header). h.document) header;
      base = ap (λ (h : Header). h.base) header;
      history = ap (λ (h : Header). h.base_hash) header;
      version = ap (λ (h : Header). h.version) header;
      number = ap (λ (h : Header). h.number) header ∙ ap (λ (d : Device). count_of d c.entries + 1) (sym author);
      epoch = ap (λ (h : Header). h.epoch) header;
      right = ap (λ (k : ℕ). allows_member k (member_at roster e.header.author)) kind ∙ ap (λ (h : Header). allows_member (kind_of makes.item) (member_at roster h.author)) header ∙ makes.due.head.right;
      leaf = ap (names_leaf e.header.leaf) signature ∙ names_own_leaf c.opening.key e.header.leaf chosen.randomizer message (leaf_fits c.opening.key.lms e.header.leaf makes.leaf);
      key = key;
      is_key = ap (key_of_device roster) author ∙ own;
      signature =
          ap (λ (m : List ℕ). verifies_device m e.signature (Some key)) signed
          ∙ ap (λ (sig : List ℕ). verifies_device message sig (Some key)) signature
          ∙ verifies_own c.opening.key e.header.leaf chosen.randomizer message id size makes.leaf;
    }

-- ---- two members read one history alike

-- over the same genesis, where the second's history goes on with edits alone
module _ (g : Genesis) (mine yours : Kit) (entries edits : List (List ℕ)) (author : Device) (others : AllByRecursion (IsOthersEdit author) edits)
    (good : Good g mine entries) (good' : Good g yours (entries ++ edits)) (free : CollisionFree (line_strings g mine entries ++ line_strings g yours (entries ++ edits))) where
  abbrev all_strings : List (List ℕ)
  all_strings = line_strings g mine entries ++ line_strings g yours (entries ++ edits)

  front : take (length entries) (entries ++ edits) ≡ entries
  front = take_at entries edits (length entries) refl

  yours_good : Good g yours entries
  yours_good = subst (Good g yours) front (good_take g yours (entries ++ edits) (length entries) good')

  stay : changes (entries ++ edits) ≡ changes entries
  stay = changes_stay author entries edits others

  pub key_stays : (e : ℕ) → epoch_key g yours (entries ++ edits) e ≡ epoch_key g yours entries e
  key_stays e = ap (λ (cs : List CommittedChange). key_after g yours cs e) stay

  mine_in : HasKeys g mine entries all_strings
  mine_in = has_left g mine entries (line_strings g yours (entries ++ edits))

  yours_in : HasKeys g yours entries all_strings
  yours_in e x le h =
      let more : e ≤ epoch_of (entries ++ edits) = omega (arith, le, ap length stay) in
      has_right g yours (entries ++ edits) (line_strings g mine entries) e x more (subst (λ (k : Option (List ℕ)). Contains (key_string g.document e k) x) (sym (key_stays e)) h)

  -- both have the same keys
  pub one_key : (e : ℕ) → e ≤ epoch_of entries → is_removed mine.me entries ≡ false → is_removed yours.me (entries ++ edits) ≡ false → epoch_key g mine entries e ≡ epoch_key g yours (entries ++ edits) e
  one_key e le there there' =
      let there'' : is_removed yours.me entries ≡ false = ap (list_any (λ (c : CommittedChange). removes yours.me c.body.change)) (sym stay) ∙ there' in
      same_epoch_keys g mine yours entries all_strings e good yours_good free mine_in yours_in there there'' le ∙ sym (key_stays e)

  -- and the same text
  pub one_text : text_of g mine entries ≡ text_of g yours entries
  one_text = ap (λ (os : List Operation). text_after (forms_from [] os)) (same_operations g mine yours entries all_strings good yours_good free mine_in yours_in)

-- ---- an edit

edit_keys : (g : Genesis) (kit : Kit) (entries edits : List (List ℕ)) (e : Entry) (marks : List Mark) (text : List ℕ) → change_of e ≡ None → e.header.base ≡ length entries
    → edit_marks (epoch_key g kit (entries ++ edits) e.header.epoch) e ≡ Some marks → text_of g kit entries ≡ text → base_len marks ≡ length text
    → first_of (key_checks g kit (entries ++ edits) e) ≡ None
unfolding key_checks
edit_keys g kit entries edits e marks text none base reads same long =
    let front : take e.header.base (entries ++ edits) ≡ entries = take_at entries edits e.header.base (sym base) in
    ap (λ (o : Option ChangeBody). first_of (key_checks_of g kit (entries ++ edits) e o)) none
    ∙ edit_passes (length (text_of g kit (take e.header.base (entries ++ edits)))) (edit_marks (epoch_key g kit (entries ++ edits) e.header.epoch) e) marks reads
    (long ∙ ap length (sym same) ∙ ap (λ (es : List (List ℕ)). length (text_of g kit es)) (sym front))

no_roster_checks : (g : Genesis) (entries : List (List ℕ)) (e : Entry) → change_of e ≡ None → first_of (roster_checks (roster_of g entries) (change_of e)) ≡ None
no_roster_checks g entries e none = ap (λ (o : Option ChangeBody). first_of (roster_checks (roster_of g entries) o)) none

-- the marks of an edit that a client made, under the key of its epoch
edit_reads : (c : PlainClient) (chosen : Chosen) (marks : List Mark) (e : Entry) → e ≡ entry_made c chosen (items.Edit marks) → HasKey c → Spells marks (delta_bytes marks)
    → (change_of e ≡ None) × (edit_marks (epoch_key c.opening.genesis c.opening.kit c.entries (epoch_of c.entries)) e ≡ Some marks)
edit_reads c chosen marks e same has spells = (
  ap change_of same ∙ no_change c chosen marks,
  ap (edit_marks (epoch_key c.opening.genesis c.opening.kit c.entries (epoch_of c.entries))) same ∙ reads_edit c chosen marks has spells,
)

-- who sends and who receives, over one genesis
pub record IsSent (s : Setup) (i j : Device) (c d : PlainClient) (bytes : List ℕ) : Type 0 where
  pub well : IsWellFormed s
  pub sender : IsReached s i c
  pub receiver : IsReached s j d
  pub known : IsSoundAndTyped c
  pub typed : IsBytes bytes
  pub id : length c.opening.key.id ≡ 16
  pub own : HasOwnKey c
  pub makes : IsMadeBy c bytes
  pub can : CanReceive c d bytes

one_genesis : (s : Setup) (i j : Device) (c d : PlainClient) → IsReached s i c → IsReached s j d → d.opening.genesis ≡ c.opening.genesis
one_genesis s i j c d one two = ap (λ (o : Opening). o.genesis) two.opening ∙ sym (ap (λ (o : Opening). o.genesis) one.opening)

module _ (s : Setup) (i j : Device) (c d : PlainClient) (bytes : List ℕ) (sent : IsSent s i j c d bytes) where
  abbrev g : Genesis
  g = c.opening.genesis

  abbrev e : Entry
  e = sent.makes.entry

  abbrev edits : List (List ℕ)
  edits = sent.can.edits

  same_genesis : d.opening.genesis ≡ g
  same_genesis = one_genesis s i j c d sent.sender sent.receiver

  its_good : Good g d.opening.kit (c.entries ++ edits)
  its_good =
      let P : Genesis → Type 0 = λ g. Good g d.opening.kit d.entries in
      subst (Good g d.opening.kit) sent.can.history (subst P same_genesis sent.receiver.good)

  its_free : CollisionFree (line_strings g c.opening.kit c.entries ++ line_strings g d.opening.kit (c.entries ++ edits))
  its_free =
      let P : Genesis → Type 0 = λ h. CollisionFree (line_strings g c.opening.kit c.entries ++ line_strings h d.opening.kit d.entries) in
      let Q : List (List ℕ) → Type 0 = λ es. CollisionFree (line_strings g c.opening.kit c.entries ++ line_strings g d.opening.kit es) in
      subst Q sent.can.history (subst P same_genesis sent.can.free)

  its_place : is_removed (me_of d) (c.entries ++ edits) ≡ false
  its_place = ap (is_removed (me_of d)) (sym sent.can.history) ∙ sent.can.not_removed

  facts : IsMadeOn g c.entries e
  facts = made_on s i c bytes sent.well sent.sender sent.typed sent.id sent.own sent.makes

  author : author_device e.header ≡ me_of c
  author = ap author_device (header_made s i c bytes sent.well sent.sender sent.makes)

  its_others : AllByRecursion (IsOthersEdit (author_device e.header)) edits
  its_others = subst (λ (d : Device). AllByRecursion (IsOthersEdit d) edits) (sym author) sent.can.others

  -- both read the key of the epoch
  current_keys : epoch_key g c.opening.kit c.entries (epoch_of c.entries) ≡ epoch_key g d.opening.kit (c.entries ++ edits) (epoch_of c.entries)
  current_keys =
      let l : epoch_of c.entries ≤ epoch_of c.entries = omega arith in
      one_key g c.opening.kit d.opening.kit c.entries edits (author_device e.header) its_others sent.sender.good its_good its_free (epoch_of c.entries) l sent.makes.due.head.not_removed its_place

  -- the checks that are left
  passes_with : first_of (roster_checks (roster_of g (c.entries ++ edits)) (change_of e)) ≡ None → first_of (key_checks g d.opening.kit (c.entries ++ edits) e) ≡ None
      → refusal_of d (length d.entries + 1) bytes ≡ None
  passes_with roster keys =
      let room : length (c.entries ++ edits) < MAX_ENTRIES = omega (arith, sent.can.room, ap length sent.can.history) in
      ap (λ (g : Genesis). first_fault g d.opening.kit d.entries (length d.entries + 1) bytes) same_genesis
      ∙ ap (λ (es : List (List ℕ)). first_fault g d.opening.kit es (length es + 1) bytes) sent.can.history
      ∙ honest_passes g d.opening.kit c.entries edits bytes e sent.makes.reads facts its_others its_place room roster keys

  pub edit_passes_there : (marks : List Mark) → e ≡ entry_made c (chosen_in c e) (items.Edit marks) → IsDue c (items.Edit marks) → refusal_of d (length d.entries + 1) bytes ≡ None
  edit_passes_there marks same due =
      let has = key_there c sent.sender.good due.head.not_removed in
      let spells = edit_spelled c marks sent.known.sound sent.known.typed due in
      let read = edit_reads c (chosen_in c e) marks e same has spells in
      let S : List Pending → Type 0 = λ ps. AreStated (committed_of c) ps in
      let base : base_len marks ≡ length (committed_of c) = (subst S due.head.first sent.known.sound.stated).0 in
      let marks_there : edit_marks (epoch_key g d.opening.kit (c.entries ++ edits) e.header.epoch) e ≡ Some marks =
      ap (λ (n : ℕ). edit_marks (epoch_key g d.opening.kit (c.entries ++ edits) n) e) facts.epoch
      ∙ ap (λ (key : Option (List ℕ)). edit_marks key e) (sym current_keys) ∙ read.1 in
      let text : text_of g d.opening.kit c.entries ≡ committed_of c =
      sym (one_text g c.opening.kit d.opening.kit c.entries edits (author_device e.header) its_others sent.sender.good its_good its_free) in
      passes_with (no_roster_checks g (c.entries ++ edits) e read.0) (edit_keys g d.opening.kit c.entries edits e marks (committed_of c) read.0 facts.base marks_there text base)

-- ---- a change

keys_of_change : (g : Genesis) (kit : Kit) (entries : List (List ℕ)) (e : Entry) (body : ChangeBody) → change_of e ≡ Some body
    → first_of (new_key_checks g.document kit.me (epoch_of entries + 1) body (epoch_key g kit entries (epoch_of entries)) (key_after g kit (changes entries ++ committed e body ∷ []) (epoch_of entries + 1))) ≡ None
    → first_of (key_checks g kit entries e) ≡ None
unfolding key_checks
keys_of_change g kit entries e body is h = ap (λ (o : Option ChangeBody). first_of (key_checks_of g kit entries e o)) is ∙ h

module _ (s : Setup) (i j : Device) (c d : PlainClient) (bytes : List ℕ) (sent : IsSent s i j c d bytes) (change : MemberChange)
    (same : sent.makes.entry ≡ entry_made c (chosen_in c sent.makes.entry) (items.Change change)) (due : IsDue c (items.Change change)) where
  abbrev chosen : Chosen
  chosen = chosen_in c sent.makes.entry

  abbrev sealing : Sealing
  sealing = sealing_of (line_of c) chosen.leaf chosen.new_key change

  abbrev pairs : Keys
  pairs = c.opening.kit.pairs

  abbrev sealed : ChangeBody
  sealed = body_sealed sealing pairs

  abbrev roster : Roster
  roster = roster_of c.opening.genesis c.entries

  read : IsEntry sent.makes.entry × (sent.makes.entry ≡ entry_made c chosen sent.makes.item)
  read = entry_read s i c bytes sent.well sent.sender sent.typed sent.makes

  -- the key that the author chose
  abbrev new_key : List ℕ
  new_key = new_key_in pairs sent.makes.entry

  shown_new : chosen.new_key ≡ new_key
  shown_new = drop_at (randomizer_in sent.makes.entry) new_key 32 (shown_size c bytes sent.makes read.1)

  has : HasKey c
  has = key_there c sent.sender.good due.head.not_removed

  current : current_key (line_of c) ≡ has.key
  current = ap (λ (key : Option (List ℕ)). unwrap_or key []) has.is

  -- the change is read as it was sealed
  change_is : change_of sent.makes.entry ≡ Some sealed
  change_is = ap change_of same ∙ change_made_is c chosen change (due_spelled s i c chosen (items.Change change) sent.well sent.sender sent.known (new_size c bytes sent.makes read) due)

  fine : first_of (roster_checks roster (Some sealed)) ≡ None
  fine = roster_fine roster sealing pairs due.fits.0 refl due.fits.1

  its_stay : changes (c.entries ++ sent.can.edits) ≡ changes c.entries
  its_stay = changes_stay (me_of c) c.entries sent.can.edits sent.can.others

  same_roster : roster_of c.opening.genesis (c.entries ++ sent.can.edits) ≡ roster
  same_roster = ap (λ (cs : List CommittedChange). roster_after c.opening.genesis.founders (map (λ c. c.body.change) cs)) its_stay

  roster_there : first_of (roster_checks (roster_of c.opening.genesis (c.entries ++ sent.can.edits)) (change_of sent.makes.entry)) ≡ None
  roster_there = ap (λ (o : Option ChangeBody). first_of (roster_checks (roster_of c.opening.genesis (c.entries ++ sent.can.edits)) o)) change_is ∙ ap (λ (r : Roster). first_of (roster_checks r (Some sealed))) same_roster ∙ fine

  -- the entry's change, as the history will have it
  committed_is : change_in bytes ≡ Some (committed sent.makes.entry sealed)
  committed_is = change_in_read bytes sent.makes.entry (Some sealed) sent.makes.reads (sym change_is)

  can_learn : removes (me_of d) sealed.change ≡ false → CanLearnKey c d (committed sent.makes.entry sealed)
  can_learn =
      subst (λ (o : Option CommittedChange). IfSome o (λ (change : CommittedChange). removes (me_of d) change.body.change ≡ false → CanLearnKey c d change)) committed_is sent.can.key

  epoch_there : epoch_of (c.entries ++ sent.can.edits) ≡ epoch_of c.entries
  epoch_there = ap length its_stay

  -- the receiver's key of the new epoch
  found : removes (me_of d) sealed.change ≡ false → key_after c.opening.genesis d.opening.kit (changes (c.entries ++ sent.can.edits) ++ committed sent.makes.entry sealed ∷ []) (epoch_of (c.entries ++ sent.can.edits) + 1) ≡ Some sealing.new
  found stays =
      let e = sent.makes.entry in
      let header = header_made s i c bytes sent.well sent.sender sent.makes in
      let by_wraps = started_by_wraps c.opening.genesis d.opening.kit (c.entries ++ sent.can.edits) bytes e sealed sent.makes.reads change_is roster_there in
      rw (by_wraps, stays) (go e.header header (is_some (member_at (after_change roster change) (me_of d).member)) refl)
    where
      wrap_there : is_some (member_at (after_change roster change) (me_of d).member) ≡ list_any (λ (w : Wrap). w.member == (me_of d).member) sealed.wraps
      wrap_there = sealed_for roster sealing pairs (me_of d).member refl due.fits.1

      its_change : sealed.change ≡ change
      its_change = sealed_change sealing pairs

      go : (h : Header) → h ≡ next_header (line_of c) sent.makes.entry.header.leaf sent.makes.item → (there : Bool) → is_some (member_at (after_change roster change) (me_of d).member) ≡ there
          → cond (list_any (λ (w : Wrap). w.member == (me_of d).member) sealed.wraps) (wrap_opened sealed h.author (stream_of h) (me_of d).member d.opening.kit.pairs) (get d.opening.kit.ring (epoch_of (c.entries ++ sent.can.edits) + 1)) ≡ Some sealing.new
      go h by true is =
          let after : is_some (member_at (after_change roster sealed.change) (me_of d).member) ≡ true = ap (λ (x : MemberChange). is_some (member_at (after_change roster x) (me_of d).member)) its_change ∙ is in
          let wrap : list_any (λ (w : Wrap). w.member == (me_of d).member) sealed.wraps ≡ true = sym wrap_there ∙ is in
          rw (wrap, by) (member_opens roster sealing pairs d.opening.kit.pairs (me_of c).member (me_of d).member refl due.fits.1 is ((can_learn stays).paired after))
      go h by false is =
          let after : is_some (member_at (after_change roster sealed.change) (me_of d).member) ≡ false = ap (λ (x : MemberChange). is_some (member_at (after_change roster x) (me_of d).member)) its_change ∙ is in
          let wrap : list_any (λ (w : Wrap). w.member == (me_of d).member) sealed.wraps ≡ false = sym wrap_there ∙ is in
          rw (wrap, epoch_there) ((can_learn stays).hinted after ∙ ap Some (ap (new_key_of pairs (stream_of sent.makes.entry.header)) (sym change_is) ∙ sym shown_new))

  old_there : epoch_key c.opening.genesis d.opening.kit (c.entries ++ sent.can.edits) (epoch_of (c.entries ++ sent.can.edits)) ≡ Some sealing.old
  old_there =
      ap (epoch_key c.opening.genesis d.opening.kit (c.entries ++ sent.can.edits)) epoch_there ∙ sym (current_keys s i j c d bytes sent) ∙ has.is ∙ ap Some (sym current)

  new_there : removes (me_of d) sealed.change ≡ false
      → (is_some (key_after c.opening.genesis d.opening.kit (changes (c.entries ++ sent.can.edits) ++ committed sent.makes.entry sealed ∷ []) (epoch_of (c.entries ++ sent.can.edits) + 1)) ≡ true)
      × (is_new_key c.opening.genesis.document (epoch_of (c.entries ++ sent.can.edits) + 1) sealed (epoch_key c.opening.genesis d.opening.kit (c.entries ++ sent.can.edits) (epoch_of (c.entries ++ sent.can.edits)))
      (key_after c.opening.genesis d.opening.kit (changes (c.entries ++ sent.can.edits) ++ committed sent.makes.entry sealed ∷ []) (epoch_of (c.entries ++ sent.can.edits) + 1)) ≡ true)
  new_there stays = let key = found stays in (ap is_some key, rw (key, old_there, epoch_there) (key_is_new sealing pairs due.fits.1))

  pub change_passes_there : refusal_of d (length d.entries + 1) bytes ≡ None
  change_passes_there =
      passes_with s i j c d bytes sent roster_there
      (keys_of_change c.opening.genesis d.opening.kit (c.entries ++ sent.can.edits) sent.makes.entry sealed change_is
      (keys_fine c.opening.genesis.document (me_of d) (epoch_of (c.entries ++ sent.can.edits) + 1) sealed _ _ new_there))

-- ---- both

pub sent_passes : (s : Setup) (i j : Device) (c d : PlainClient) (bytes : List ℕ) → IsSent s i j c d bytes → refusal_of d (length d.entries + 1) bytes ≡ None
sent_passes s i j c d bytes sent = go sent.makes.item refl
  where
    made : sent.makes.entry ≡ entry_made c (chosen_in c sent.makes.entry) sent.makes.item
    made = (entry_read s i c bytes sent.well sent.sender sent.typed sent.makes).1

    go : (item : Pending) → sent.makes.item ≡ item → refusal_of d (length d.entries + 1) bytes ≡ None
    go (items.Edit marks) is = edit_passes_there s i j c d bytes sent marks (made ∙ ap (entry_made c (chosen_in c sent.makes.entry)) is) (subst (IsDue c) is sent.makes.due)
    go (items.Change change) is = change_passes_there s i j c d bytes sent change (made ∙ ap (entry_made c (chosen_in c sent.makes.entry)) is) (subst (IsDue c) is sent.makes.due)

-- in a run of typed moves
pub honest_entries_pass : (s : Setup) (moves : List Move) (m n : ℕ) (i j : Device) (c d : PlainClient) → IsTypedRun s moves → IsAt s moves m i c → IsAt s moves n j d → EntriesPass c d
honest_entries_pass s moves m n i j c d run at at' = λ by bytes submits can.
    let sender = reached_at s moves m i c run.run at in
    sent_passes s i j c d bytes (record {
      well = run.setup;
      sender = sender;
      receiver = reached_at s moves n j d run.run at';
      known = sound_and_typed_at s moves m i c run at;
      typed = submits.typed;
      id = ap (λ (o : Opening). length o.key.id) sender.opening ∙ run.setup.identifiers i sender.is_device;
      own = submits.key;
      makes = made_by_submission c by bytes submits.allowed;
      can = can;
    })
